pub mod Tries
pub mod Rows
pub mod Meaning
pub mod Occurrences
pub mod Operands
pub mod Strays
pub mod Answering
pub mod Once
