pub mod ObjectFields
pub mod PublicLaws
pub mod SensitiveLaws
pub mod CreationLaws
