pub mod Cells
pub mod Block
pub mod Sets
pub mod Shapes
