pub mod Word
pub mod Bytes
pub mod Says
pub mod Sets
pub mod Rising
pub mod Those
