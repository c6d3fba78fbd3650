pub mod Wrotes
pub mod Decimals
pub mod Values
pub mod Numbers
pub mod Shortness
