pub mod Right
pub mod Lent
pub mod inner
