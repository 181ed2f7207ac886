-- How a journal is opened: its head starts a device, which executes the entries again.
use Rattle.std.specs.Prelude.{ℕ, zero, suc, ◌+◌, ◌==◌, ◌&&◌, nat_le, Bool, cond, List, [], ◌∷◌, drop, is_some, length, take, Option, Some, None, Result, Ok, Err}
use Rattle.tpm_completion.specs.Completed.{completed_effect}
use Rattle.tpm_completion.specs.Execution.{Seen}
use Rattle.tpm_journal.specs.Command.{event_of}
use Rattle.tpm_journal.specs.Starting.{Start, start_by}
use Rattle.tpm_journal.specs.declared.opening.OpenFault.{OpenFault}
use Rattle.tpm_journal_text.specs.Entry.{PlainEntry, entry_text, sum_after}
use Rattle.tpm_journal_text.specs.Head.{content_limit, current_kind, head_sum, head_text}
use Rattle.tpm_journal_text.specs.Sum.{sum_of}
use Rattle.tpm_keeping.specs.Journal.{Spot}
use Rattle.tpm_kept_journal.specs.Effect.{left_by}
use Rattle.tpm_kept_journal.specs.State.{DeviceState, bytes_of, content_in, spot_of, state_of_bytes, time_in}
use Rattle.tpm_kept_journal.specs.texts.HeadAt.{PlainHead, head_at, text_of_head}
use Rattle.tpm_kept_journal.specs.texts.NextAt.{Damaged, PlainNext, Torn, Whole, next_at}
use Rattle.tpm_image_text.specs.Fields.{are_bytes}
use Rattle.tpm_kept_journal.specs.texts.Parts.{where_so}

-- ---- executing the entries again

-- the effect of executing an entry's command again
abbrev pub performance : DeviceState → PlainEntry → Seen
performance s e = completed_effect e.completes s.layer s.device (event_of e)

-- the position after an entry; None if the device's response does not match the entry
abbrev pub performed_on : (chain : ℕ) → PlainEntry → Option DeviceState → Option Spot
performed_on chain e (Some s) =
    where_so (sum_of (performance s e).step.response == e.answered) (record {
      state = bytes_of (left_by s e.elapsed (performance s e));
      chain = sum_after chain e;
    })
performed_on chain e None = None

-- The result of reading bytes at a position. `Goes`: an entry of this size, and the position after
-- it. `Ends`: no further whole entry. `Fails`: the bytes do not continue the journal.
pub data Found : Type 0 where
  Goes : Spot → (size : ℕ) → Found
  Ends : Found
  Fails : Found

abbrev pub found_by : (size : ℕ) → Option Spot → Found
found_by size (Some p) = Goes p size
found_by size None = Fails

abbrev pub found_next : Spot → PlainNext → Found
found_next p (Whole e) =
    found_by (length (entry_text p.chain e)) (performed_on p.chain e (state_of_bytes p.state))
found_next p Torn = Ends
found_next p Damaged = Fails

unfoldable pub found_at : Spot → List ℕ → Found
found_at p text = found_next p (next_at p.chain text)

-- the position after executing the entries at the start of the bytes, and `taken` plus the size of
-- these entries; None if the bytes do not continue the journal. `bound` must exceed the number of
-- entries
unfoldable pub walk : (bound : ℕ) → Spot → (taken : ℕ) → List ℕ → Option (Spot × ℕ)
walk zero p taken text = None
walk (suc bound) p taken text = elim (found_at p text) [
  | Goes q size ↦ walk bound q (taken + size) (drop size text)
  | Ends ↦ Some (p, taken)
  | Fails ↦ None
]

unfoldable pub spot_after_walk : Spot → (taken : ℕ) → List ℕ → Option (Spot × ℕ)
spot_after_walk p taken text = walk (suc (length text)) p taken text

-- ---- the heads of journals

-- whether the bytes encode a state whose state text fits in a head
unfoldable pub is_state_text : List ℕ → Bool
is_state_text text =
    are_bytes text
    && (is_some (state_of_bytes text) && nat_le (length (content_in text)) (content_limit current_kind))

-- the head for bytes that do not encode a state. It contains a number that is not a byte, so no
-- file begins with it. Because of this head, laws about heads hold for all lists of numbers.
abbrev pub no_head : List ℕ → List ℕ
no_head text = 256 ∷ length text ∷ text

-- the head for an encoded state, with the version of this library
unfoldable pub head_of : List ℕ → List ℕ
head_of text =
    cond (is_state_text text) (head_text current_kind (time_in text) (content_in text)) (no_head text)

-- the checksum after the head for an encoded state
unfoldable pub head_sum_of : List ℕ → ℕ
head_sum_of text = cond (is_state_text text) (head_sum (time_in text) (content_in text)) 0

-- the position after a head that starts a device, and the size of the head
abbrev pub spot_by : (size : ℕ) → Result Start OpenFault → Option (Spot × ℕ)
spot_by size (Ok start) = Some (spot_of start.journal start.device, size)
spot_by size (Err why) = None

abbrev pub started_by : Option PlainHead → Option (Spot × ℕ)
started_by (Some h) = spot_by (length (text_of_head h)) (start_by h.kind h.clock h.content)
started_by None = None

abbrev pub started_no_head : (count : ℕ) → List ℕ → Option (Spot × ℕ)
started_no_head count text =
    where_so (nat_le count (length text)) (record { state = take count text; chain = 0 }, 2 + count)

-- the position after the head at the start of the bytes, and the size of the head
abbrev pub started_at : List ℕ → Option (Spot × ℕ)
started_at [] = None
started_at (first ∷ []) = None
started_at (first ∷ second ∷ text) =
    cond (first == 256) (started_no_head second text) (started_by (head_at (first ∷ second ∷ text)))

-- the position after bytes that are exactly one head
abbrev pub whole_head : (size : ℕ) → Option (Spot × ℕ) → Option Spot
whole_head size (Some found) = where_so (found.1 == size) found.0
whole_head size None = None

unfoldable pub after_head_text : List ℕ → Option Spot
after_head_text text = whole_head (length text) (started_at text)

-- ---- opening whole journals

abbrev pub walked_after : List ℕ → Option (Spot × ℕ) → Option (Spot × ℕ)
walked_after text (Some found) = spot_after_walk found.0 found.1 (drop found.1 text)
walked_after text None = None

unfoldable pub opened_text : List ℕ → Option (Spot × ℕ)
opened_text text = walked_after text (started_at text)
