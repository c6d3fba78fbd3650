pub mod Places
pub mod Walks
