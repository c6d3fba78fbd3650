pub mod Refusals
pub mod Steps
pub mod Walks
pub mod Remembers
