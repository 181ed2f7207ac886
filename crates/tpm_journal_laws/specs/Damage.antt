-- Which entries of a damaged journal a device executes.
use Rattle.std.specs.Prelude.{ℕ, Bool, List, take, Some, None}
use Rattle.tpm_record.specs.Record.{Record}
use Rattle.tpm_journal.specs.Replay.{Replays}
use Rattle.tpm_journal.specs.declared.journal.Journal.{Journal}
use Rattle.tpm_journal.specs.declared.following.FollowFault.TheVariants.{Damaged}

-- If a damaged journal is truncated at the damage, it can be executed to its end. The resulting
-- device is the same as after the execution of the damaged journal up to the damage, and all
-- answers match their entries.
abbrev pub FrontIsFollowed : Type 0
FrontIsFollowed =
    (can : Bool) (before : Journal) (old : Record) (text : List ℕ) (taken : ℕ) (after : Journal)
    (new : Record)
    → Replays can before old text (record { taken = taken; fault = Some Damaged }) after new
    → Replays can before old (take taken text) (record { taken = taken; fault = None }) after new
