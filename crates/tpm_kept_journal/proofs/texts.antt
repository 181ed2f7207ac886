-- Proofs about the contents of a journal.
pub mod Parts
pub mod EntryAt
pub mod HeadAt
pub mod TornText
pub mod NextAt
pub mod Litter
pub mod EntriesAt
pub mod StartAt
