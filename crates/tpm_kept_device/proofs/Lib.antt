pub mod Telling
pub mod Fronts
pub mod Texts
