pub mod Meaning
pub mod Bytes
pub mod Refusals
pub mod Answer
pub mod inner
