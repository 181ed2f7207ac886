pub mod KeySizes
pub mod Masks
pub mod StartSizes
