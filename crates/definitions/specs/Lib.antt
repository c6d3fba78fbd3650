pub mod Definition1
pub mod Definition2
pub mod Kinds
pub mod Refusals
pub mod Numbers
pub mod Encoding
pub mod Sequences
