-- The entries of a journal, one after another, and how their encoding ends.
use Rattle.std.specs.Prelude.{◌≡◌, ℕ, ◌≤◌, ◌<◌, ◌⊎◌, List, [], ◌∷◌, ◌++◌, drop, get_or, length, replicate, take}
use Rattle.tpm_bytes.specs.Reading.{AreBytes}
use Rattle.tpm_journal_text.specs.Entry.{IsEntry, PlainEntry, drawn_line_end, drawn_size, entry_size, entry_text, mark_line}
use Rattle.tpm_journal_text.specs.declared.reading.Next.{Next}
use Rattle.tpm_journal_text.specs.declared.reading.Next.TheVariants.{Whole, Torn, Damaged}
use Rattle.tpm_journal_text.specs.Entry.{plain_entry, mark_line_size, mark_size, sum_after}

-- the encoding of entries; `sum` is the checksum of all marks before the first entry
abbrev pub entries_text : (sum : ℕ) → List PlainEntry → List ℕ
entries_text sum [] = []
entries_text sum (e ∷ entries) = entry_text sum e ++ entries_text (sum_after sum e) entries

-- the checksum extended by the marks of these entries
abbrev pub sum_after_all : (sum : ℕ) → List PlainEntry → ℕ
sum_after_all sum [] = sum
sum_after_all sum (e ∷ entries) = sum_after_all (sum_after sum e) entries

-- The bytes begin with the line for this mark; `sum` is the checksum of all earlier marks.
pub record BeginsWithMark (sum : ℕ) (mark text : List ℕ) : Type 0 where
  pub count : length mark ≡ mark_size
  pub bytes : AreBytes mark
  pub line : take mark_line_size text ≡ mark_line sum mark

-- A line of the entry with this mark ends at this offset after the mark's line. The end of the
-- last line does not count, since it is also the end of the entry.
abbrev pub EndsLine : (mark : List ℕ) → (place : ℕ) → Type 0
EndsLine mark place =
    (place ≡ 15) ⊎ ((place ≡ 21) ⊎ (place ≡ drawn_line_end (drawn_size mark)))

-- After the line for this mark, the lines of the input end only where the lines of the mark's entry
-- end.
abbrev pub LinesEnd : (mark text : List ℕ) → Type 0
LinesEnd mark text =
    (place : ℕ) → get_or (drop mark_line_size text) place 0 ≡ 10 → EndsLine mark place

-- The input is too short for an entry. Either its first line is truncated; or this line contains
-- the mark of a longer entry, and the following lines end where the lines of that entry end.
abbrev pub IsCutOff : (sum : ℕ) → List ℕ → Type 0
IsCutOff sum text =
    (length text < mark_line_size)
    ⊎ ((mark : List ℕ) × BeginsWithMark sum mark text × (length text < entry_size mark)
    × LinesEnd mark text)

-- Torn input is too short for an entry, not counting zeros at its end. A killed process leaves a
-- part of an entry; a crash of the host may leave zeros instead of the rest.
pub record IsTorn (sum : ℕ) (text : List ℕ) : Type 0 where
  pub front : List ℕ
  pub zeros : ℕ
  pub is : text ≡ front ++ replicate zeros 0
  pub cut_off : IsCutOff sum front

-- The input has fewer than `size` bytes, not counting the zeros at its end.
pub record HasFewer (size : ℕ) (text : List ℕ) : Type 0 where
  pub front : List ℕ
  pub zeros : ℕ
  pub is : text ≡ front ++ replicate zeros 0
  pub fewer : length front < size

-- The input is not torn, and does not begin with an entry.
pub record IsDamaged (sum : ℕ) (text : List ℕ) : Type 0 where
  pub not_torn : IsTorn sum text → ⊥
  pub no_entry : (e : PlainEntry) (rest : List ℕ) → IsEntry e → text ≡ entry_text sum e ++ rest → ⊥

-- `Next` describes the input correctly: the input begins with an entry of this size, and the
-- checksum after the entry is `after`; or the input is torn; or the input is damaged.
abbrev pub Finds : (sum : ℕ) → List ℕ → Next → Type 0
Finds sum text (Whole entry size after) =
    IsEntry (plain_entry entry) × (size ≤ length text)
    × (take size text ≡ entry_text sum (plain_entry entry))
    × (after ≡ sum_after sum (plain_entry entry))
Finds sum text Torn = IsTorn sum text
Finds sum text Damaged = IsDamaged sum text
