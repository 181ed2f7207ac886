pub mod AttributeLaws
pub mod NvPublicLaws
