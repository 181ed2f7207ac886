pub mod Algorithms
pub mod Attributes
pub mod Counts
pub mod Free
