-- Whether a list of bytes begins with an entry, is torn, or is damaged.
use Rattle.std.specs.Prelude.{◌≡◌, ℕ, ◌++◌, Bool, true, false, List, drop, length, Option, Some, None}
use Rattle.tpm_journal_text.specs.Entry.{IsEntry, PlainEntry, entry_text, plain_entry}
use Rattle.tpm_journal_text.specs.Journal.{IsDamaged, IsTorn}
use Rattle.tpm_journal_text.specs.declared.reading.Next.{Next}
use Rattle.tpm_journal_text.specs.declared.reading.Next.TheVariants as next
use Rattle.tpm_kept_journal.specs.texts.EntryAt.{entry_at}
use Rattle.tpm_kept_journal.specs.texts.TornText.{is_torn_text}

pub data PlainNext : Type 0 where
  Whole : PlainEntry → PlainNext
  Torn : PlainNext
  Damaged : PlainNext

-- a `Next` as a plain value, without the entry's size and the checksum
abbrev pub plain_next : Next → PlainNext
plain_next (next.Whole entry size sum) = Whole (plain_entry entry)
plain_next next.Torn = Torn
plain_next next.Damaged = Damaged

-- the entry, if one was found; otherwise, Torn or Damaged
abbrev pub next_by : Option PlainEntry → (is_torn : Bool) → PlainNext
next_by (Some e) is_torn = Whole e
next_by None true = Torn
next_by None false = Damaged

-- the entry at the start of the bytes, or the reason why the bytes do not begin with an entry;
-- `sum` is the checksum before them
unfoldable pub next_at : (sum : ℕ) → List ℕ → PlainNext
next_at sum text = next_by (entry_at sum text) (is_torn_text sum text)

-- The bytes consist of this entry and further bytes, or they are torn, or they are damaged.
abbrev pub IsNext : (sum : ℕ) → List ℕ → PlainNext → Type 0
IsNext sum text (Whole e) =
    IsEntry e × (text ≡ entry_text sum e ++ drop (length (entry_text sum e)) text)
IsNext sum text Torn = IsTorn sum text
IsNext sum text Damaged = IsDamaged sum text
