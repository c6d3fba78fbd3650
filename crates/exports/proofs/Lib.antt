-- What the proofs of several functions use, and that no second answer fits.
pub mod Given
pub mod Once
