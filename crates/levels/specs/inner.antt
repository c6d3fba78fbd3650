pub mod Passes
pub mod Waves
pub mod Through
