-- Definitions of what authorizes the use of an entity, and of what repeats in a replay.
pub mod EntryHmacs
pub mod QuietPcrs
pub mod Grounds
pub mod AcceptedAssertions
pub mod AssertedBy
pub mod PolicyUses
pub mod Replays
pub mod RunReplays
pub mod PolicyLaws
pub mod PolicyReviews
pub mod Alike
