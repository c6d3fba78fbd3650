pub mod Blocking
pub mod Carrying
pub mod Making
pub mod Laying
pub mod Once
pub mod Inverse
pub mod Refusing
