pub mod Cut
pub mod Judging
