-- Laws about what the rows of all commands have in common.
pub mod TargetLaws
