pub mod Paths
pub mod Kept
pub mod Stands
pub mod Trimmed
pub mod Refusals
pub mod Answer
pub mod inner
