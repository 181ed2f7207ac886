pub mod Cutting
pub mod Executing
pub mod Filling
pub mod Folds
pub mod Living
pub mod Pieces
pub mod Histories
