pub mod Padding
pub mod SlotLaws
pub mod NumberedLaws
pub mod FoundNumbers
pub mod SortedMapLaws
pub mod FoundKeys
pub mod KeyIndex
