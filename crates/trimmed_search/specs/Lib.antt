pub mod Answer
pub mod Alike
