pub mod Layers
pub mod Restoring
