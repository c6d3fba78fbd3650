pub mod Digits
pub mod Mixing
pub mod Rounding
pub mod Turning
