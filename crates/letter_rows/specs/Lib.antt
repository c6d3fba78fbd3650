pub mod Layouts
pub mod Refusals
pub mod Answer
pub mod inner
