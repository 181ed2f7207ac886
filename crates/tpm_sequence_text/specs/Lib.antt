pub mod Kind
pub mod HashState
pub mod Sizes
pub mod Slot
pub mod Meaning
