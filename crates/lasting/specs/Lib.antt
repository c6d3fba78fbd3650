pub mod Endless
pub mod Alive
pub mod Stored
pub mod Answer
pub mod inner
