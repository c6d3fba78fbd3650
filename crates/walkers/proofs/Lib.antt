pub mod Walking
pub mod Answers
pub mod Once
pub mod Remembering
