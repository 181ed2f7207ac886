-- When a damaged journal can be salvaged.
use Rattle.std.specs.Prelude.{◌≡◌, ℕ, List, drop, take, Some, None}
use Rattle.tpm_bytes.specs.Reading.{AreBytes}
use Rattle.tpm_keeping.specs.Journal.{Spot}
use Rattle.tpm_kept_journal.specs.Opening.{opened_text}
use Rattle.tpm_kept_journal.specs.Salvage.{salvaged_text}
use Rattle.tpm_kept_journal.specs.texts.EntryAt.{entry_at}

-- If the first `n` bytes open as a journal, and the bytes after them do not begin with another
-- entry, then salvaging all bytes succeeds, and results in the device that the first `n` bytes
-- contain.
abbrev pub SalvagesFront : Type 0
SalvagesFront = (text : List ℕ) (p : Spot) (n : ℕ) → AreBytes text
    → opened_text (take n text) ≡ Some (p, n) → entry_at p.chain (drop n text) ≡ None
    → salvaged_text text ≡ Some (p, n)
