pub mod Boxes
pub mod Comparing
pub mod Opening
pub mod Restoring
