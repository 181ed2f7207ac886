pub mod Fault
pub mod Saving
pub mod Stopwatch
pub mod log
pub use Rattle.tpm_journal_text.specs.Sum
pub use Rattle.tpm_journal_text.specs.Entry
pub use Rattle.tpm_journal_text.specs.Head
pub use Rattle.tpm_journal_text.specs.Journal
