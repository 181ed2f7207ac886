-- What a crash leaves of an entry that was being written.
use Rattle.std.specs.Prelude.{ℕ, suc, ◌==◌, ◌&&◌, ◌||◌, nat_lt, not, Bool, true, bytes_eq, cond}
use Rattle.std.specs.Prelude.{List, [], ◌∷◌, drop, length, take}
use Rattle.std.specs.List.{list_all}
use Rattle.tpm_journal_text.specs.Entry.{drawn_line_end, drawn_size, entry_size, mark_line, mark_line_size}
use Rattle.tpm_kept_journal.specs.texts.EntryAt.{mark_in}

-- whether all bytes are zeros
abbrev pub are_zeros : List ℕ → Bool
are_zeros bytes = list_all (λ byte. byte == 0) bytes

-- the bytes without the zeros at their end
unfoldable pub without_zeros : List ℕ → List ℕ
without_zeros [] = []
without_zeros (byte ∷ text) = cond (are_zeros (byte ∷ text)) [] (byte ∷ without_zeros text)

-- whether the first line is exactly the line for the mark that it contains; `sum` is the checksum
-- before the bytes
abbrev pub begins_with_mark : (sum : ℕ) → List ℕ → Bool
begins_with_mark sum text = bytes_eq (take mark_line_size text) (mark_line sum (mark_in text))

-- whether a line of the entry with this mark ends at this offset, counted from the end of the
-- mark's line
abbrev pub ends_line : (mark : List ℕ) → (place : ℕ) → Bool
ends_line mark place = place == 15 || (place == 21 || place == drawn_line_end (drawn_size mark))

-- whether lines end only at offsets that pass the test; `place` is the offset of the first byte
abbrev pub lines_end : (test : ℕ → Bool) → (place : ℕ) → List ℕ → Bool
lines_end test place [] = true
lines_end test place (byte ∷ lines) =
    (not (byte == 10) || test place) && lines_end test (suc place) lines

-- whether the bytes are an incomplete entry. Either the first line is incomplete; or the first line
-- contains the mark of an entry that is longer than these bytes, and the later lines end only where
-- the lines of that entry end
unfoldable pub is_cut_off : (sum : ℕ) → List ℕ → Bool
is_cut_off sum text =
    nat_lt (length text) mark_line_size
    || (begins_with_mark sum text && (nat_lt (length text) (entry_size (mark_in text))
    && lines_end (ends_line (mark_in text)) 0 (drop mark_line_size text)))

-- whether the bytes are torn: without the zeros at their end, they are an incomplete entry
unfoldable pub is_torn_text : (sum : ℕ) → List ℕ → Bool
is_torn_text sum text = is_cut_off sum (without_zeros text)

-- whether these bytes can appear after the end of a file when the host crashes: they are all zeros
abbrev pub is_litter : List ℕ → Bool
is_litter bytes = are_zeros bytes
