pub mod step
pub mod uses
