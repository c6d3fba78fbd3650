pub mod TableOnce
pub mod Choice
pub mod Picking
pub mod Finding
pub mod Keeping
pub mod Choosing
