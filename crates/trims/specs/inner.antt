pub mod Outside
pub mod Grown
pub mod Lists
pub mod Moves
