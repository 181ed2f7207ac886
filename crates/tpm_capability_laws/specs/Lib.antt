pub mod Algorithms
pub mod Listed
pub mod Attributes
pub mod Counts
pub mod Free
