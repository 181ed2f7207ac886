-- Definitions about the rows of all commands.
pub mod Footprint
pub mod IndexChanges
pub mod Shapes
pub mod Sessions
pub mod Refusals
pub mod Handles
pub mod Grants
pub mod Sizes
pub mod Acceptance
pub mod Draws
pub mod Order
pub mod OwnRefusals
pub mod RowLaws
