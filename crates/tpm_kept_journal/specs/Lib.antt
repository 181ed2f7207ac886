pub mod texts
pub mod State
pub mod Seed
pub mod Command
pub mod Effect
pub mod Opening
pub mod Salvage
pub mod DeviceJournal
