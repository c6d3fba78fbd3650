pub mod Hexadecimal
pub mod Input
pub mod Line
