pub mod Maps
pub mod PartsInARow
pub mod Deciding
pub mod Held
