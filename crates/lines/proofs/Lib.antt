pub mod States
pub mod Inputs
pub mod Fitting
pub mod Uses
pub mod Cases
pub mod Whole
pub mod Once
pub mod Beginning
