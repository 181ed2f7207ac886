pub mod Guesses
pub mod Tells
pub mod SealedData
pub mod AnyDevice
