pub mod Words1
pub mod Words256
pub mod Absorbing
pub mod Pieces
pub mod HmacLaws
