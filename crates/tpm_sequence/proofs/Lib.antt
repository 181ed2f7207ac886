pub mod BeginningLaws
pub mod SequenceLaws
pub mod AuthorizationLaws
