pub mod Weight
pub mod Named
pub mod Reading
pub mod Places
pub mod Walks
pub mod Answer
pub mod Faults
