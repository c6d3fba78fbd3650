pub mod Whole
pub mod Once
pub mod Alike
