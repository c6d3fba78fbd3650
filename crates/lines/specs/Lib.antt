pub mod Text
pub mod Input
pub mod Room
pub mod Line
