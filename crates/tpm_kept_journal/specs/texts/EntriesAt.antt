-- The entries at the start of a list of bytes, one after another.
use Rattle.std.specs.Prelude.{ℕ, zero, suc, List, [], ◌∷◌, drop, length, Option, Some, None}
use Rattle.tpm_journal_text.specs.Entry.{PlainEntry, entry_text, sum_after}
use Rattle.tpm_journal_text.specs.Journal.{entries_text}
use Rattle.tpm_kept_journal.specs.texts.EntryAt.{entry_at}

-- an entry and the entries after it; the empty list if there is no entry
abbrev pub with_next : Option PlainEntry → (PlainEntry → List PlainEntry) → List PlainEntry
with_next (Some e) following = e ∷ following e
with_next None following = []

-- the bytes after the entry at the start of `text`
abbrev pub after_entry : (sum : ℕ) → PlainEntry → List ℕ → List ℕ
after_entry sum e text = drop (length (entry_text sum e)) text

-- the entries at the start of the bytes, but at most `most` of them
unfoldable pub entries_up_to : (most sum : ℕ) → List ℕ → List PlainEntry
entries_up_to zero sum text = []
entries_up_to (suc most) sum text =
    with_next (entry_at sum text)
    (λ e. entries_up_to most (sum_after sum e) (after_entry sum e text))

-- the entries at the start of the bytes; `sum` is the checksum before them. There are no more
-- entries than bytes
unfoldable pub entries_at : (sum : ℕ) → List ℕ → List PlainEntry
entries_at sum text = entries_up_to (length text) sum text

-- the bytes after these entries at the start of `text`
abbrev pub after_entries : (sum : ℕ) → List PlainEntry → List ℕ → List ℕ
after_entries sum entries text = drop (length (entries_text sum entries)) text
