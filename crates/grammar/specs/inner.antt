pub mod Reading
pub mod Values
pub mod Wide
pub mod Places
