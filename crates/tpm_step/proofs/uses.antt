-- The laws about what authorizes the use of an entity, and about replays.
pub mod UseGrounds
pub mod EntryHmacs
pub mod EntryGrounds
pub mod RecordedUpdates
pub mod Replays
pub mod RunReplays
pub mod QuietValues
pub mod PolicyLaws
pub mod AuthorizeAlike
pub mod Alike
pub mod AcceptedAssertions
pub mod AcceptedSessions
pub mod AssertedBy
pub mod RecordedAssertions
pub mod Selections
pub mod PolicyUses
pub mod PolicyReviews
