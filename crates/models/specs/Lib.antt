pub mod Model
pub mod Reading
pub mod Stored
pub mod Answer
pub mod Faults
