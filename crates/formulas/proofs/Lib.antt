pub mod Evaluating
pub mod Labelling
