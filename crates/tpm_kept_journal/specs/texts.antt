-- What a journal contains, as functions of its bytes.
pub mod Parts
pub mod EntryAt
pub mod HeadAt
pub mod TornText
pub mod NextAt
pub mod EntriesAt
pub mod StartAt
