pub mod Tags
pub mod HeaderLaws
pub mod EntryLaws
pub mod EntriesLemmas
pub mod HandleLemmas
pub mod CommandLaws
