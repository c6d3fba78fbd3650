pub mod Blocks
pub mod Conversions
