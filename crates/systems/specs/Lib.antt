pub mod Kinds
pub mod Reading
pub mod Spelling
pub mod Refusals
pub mod Answer
pub mod Faults
pub mod inner
