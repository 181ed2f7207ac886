pub mod Slots
pub mod Numbered
pub mod SortedMap
pub mod IsSortedMap
