pub mod Wholes
pub mod Tabling
pub mod Beyonds
pub mod Once
