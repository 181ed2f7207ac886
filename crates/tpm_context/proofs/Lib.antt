pub mod HeadLaws
pub mod Sizes
pub mod Reading
pub mod ContextLaws
pub mod SequenceLaws
