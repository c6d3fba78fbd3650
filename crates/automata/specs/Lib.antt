pub mod Table
pub mod Promise
pub mod Auto
pub mod Build
pub mod IsTable
pub mod inner
