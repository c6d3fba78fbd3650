pub mod Parts
pub mod Refusals
pub mod Verdict
pub mod inner
