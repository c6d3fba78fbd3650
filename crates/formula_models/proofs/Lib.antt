pub mod Filling
pub mod Pairing
pub mod Walking
pub mod Putting
pub mod Finish
pub mod Modelling
pub mod Once
