pub mod Beyond
pub mod Refusals
pub mod Answer
