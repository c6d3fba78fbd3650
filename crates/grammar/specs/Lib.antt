pub mod Text
pub mod inner
