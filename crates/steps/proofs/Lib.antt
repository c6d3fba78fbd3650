pub mod Gathering
pub mod Walking
pub mod Adding
pub mod Rowing
pub mod Owing
