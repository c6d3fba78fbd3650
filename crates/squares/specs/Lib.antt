pub mod Squares
pub mod inner
