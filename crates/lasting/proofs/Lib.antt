pub mod Ways
pub mod Shrinking
pub mod Restricting
pub mod Answering
pub mod Once
pub mod Examples
