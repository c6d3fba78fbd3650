pub mod Uses
