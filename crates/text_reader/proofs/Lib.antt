pub mod Squeezing
pub mod Filling
pub mod Taking
pub mod Operands
pub mod Arms
