-- The entry at the start of a list of bytes.
use Rattle.std.specs.Prelude.{ℕ, ◌+◌, ◌*◌, ◌^◌, ◌==◌, ◌&&◌, nat_le, nat_lt, Bool}
use Rattle.std.specs.Prelude.{List, drop, length, max, slice_index, take, Option}
use Rattle.std.specs.Int.{w32, w64, from_be_bytes}
use Rattle.tpm_journal_text.specs.Entry.{PlainEntry, buffer_size, drawn_size, entry_limit, entry_text, mark_size}
use Rattle.tpm_image_text.specs.Fields.{are_bytes}
use Rattle.tpm_kept_journal.specs.texts.Parts.{begins_with, hex_at, where_so}

-- whether the fields of an entry have allowed values
unfoldable pub is_entry : PlainEntry → Bool
is_entry e =
    (nat_lt e.elapsed (2 ^ 32) && (nat_le e.locality 4 && nat_lt e.answered (2 ^ 64)))
    && ((nat_le (length e.drawn) 256 && are_bytes e.drawn)
    && (nat_le (length e.buffer) entry_limit && are_bytes e.buffer))

-- the mark on the first line, after the line's first word, if the bytes begin with an entry
unfoldable pub mark_in : List ℕ → List ℕ
mark_in text = hex_at 2 mark_size text

-- the entry with the numbers in this mark; its drawn bytes and its buffer are read from `text`
unfoldable pub entry_by : (mark text : List ℕ) → PlainEntry
entry_by mark text = record {
  elapsed = from_be_bytes w32 (take 4 mark);
  locality = slice_index mark 4;
  completes = slice_index mark 5 == 1;
  drawn = hex_at 102 (drawn_size mark) text;
  buffer = hex_at (102 + 2 * max 1 (drawn_size mark) + 5) (buffer_size mark) text;
  answered = from_be_bytes w64 (take 8 (drop 18 mark));
}

-- whether the bytes begin with exactly the encoding of this entry; `sum` is the checksum before the
-- entry
abbrev pub begins_with_entry : (sum : ℕ) → List ℕ → PlainEntry → Bool
begins_with_entry sum text e = is_entry e && begins_with text (entry_text sum e)

-- the entry at the start of the bytes
unfoldable pub entry_at : (sum : ℕ) → List ℕ → Option PlainEntry
entry_at sum text =
    let e = entry_by (mark_in text) text in
    where_so (begins_with_entry sum text e) e
