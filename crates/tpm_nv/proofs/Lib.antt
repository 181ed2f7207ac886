pub mod ByteLaws
pub mod ClearLaws
pub mod DefinitionLaws
pub mod Cuts
pub mod KeptLaws
pub mod AreaLaws
pub mod StartupLaws
