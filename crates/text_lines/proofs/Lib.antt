pub mod Hexes
pub mod Inputs
pub mod Cases
pub mod Once
pub mod Beginning
