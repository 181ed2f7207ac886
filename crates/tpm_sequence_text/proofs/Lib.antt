pub mod Words
pub mod Spelling
pub mod KindLaws
pub mod StateLaws
pub mod SlotLaws
pub mod SizeLaws
