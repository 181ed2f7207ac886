-- An answered command, and its encoding in a journal.
use Rattle.std.specs.Prelude.{ℕ, ◌+◌, ◌*◌, ◌/◌, ◌%◌, ◌<◌, ◌≤◌, ◌^◌, Bool, true, false}
use Rattle.std.specs.Prelude.{List, [], ◌∷◌, ◌++◌, codes, drop, length, map, max, take}
use Rattle.std.specs.Int.{w8, w16, w32, w64, from_be_bytes, to_be_bytes}
use Rattle.hex.specs.Hex.{encode_lower}
use Rattle.tpm_bytes.specs.Reading.{AreBytes}
use Rattle.tpm_journal_text.specs.declared.entry.Entry.{Entry}
use Rattle.tpm_journal_text.specs.Marked.{marked_line, marked_size}
use Rattle.tpm_journal_text.specs.Sum.{sum_from, sum_of}

-- an answered command: the milliseconds since the previous command, its locality, whether the
-- completing layer was on, the random bytes that the command drew, its command buffer, and the
-- checksum of its response
pub record PlainEntry : Type 0 where
  pub elapsed : ℕ
  pub locality : ℕ
  pub completes : Bool
  pub drawn : List ℕ
  pub buffer : List ℕ
  pub answered : ℕ

-- the largest size of an encoded entry
abbrev pub entry_room : ℕ
entry_room = 9216

-- the largest size of a buffer in an entry; a longer buffer is refused like a buffer of 4,097 bytes
abbrev pub entry_limit : ℕ
entry_limit = 4097

-- an `Entry` as plain values, without references to memory
abbrev pub plain_entry : Entry → PlainEntry
plain_entry e = record {
  elapsed = e.elapsed_ms;
  locality = e.locality;
  completes = e.completes;
  drawn = e.drawn.now;
  buffer = e.buffer.now;
  answered = e.answered;
}

-- The command can be written as an entry: all its fields have allowed values and sizes.
pub record IsEntry (e : PlainEntry) : Type 0 where
  pub elapsed : e.elapsed < 2 ^ 32
  pub locality : e.locality ≤ 4
  pub drawn : length e.drawn ≤ 256
  pub drawn_bytes : AreBytes e.drawn
  pub buffer : length e.buffer ≤ entry_limit
  pub buffer_bytes : AreBytes e.buffer
  pub answered : e.answered < 2 ^ 64

-- ---- the mark of an entry

-- the byte of a mark that says whether the completing layer was on
abbrev pub flag : Bool → ℕ
flag false = 0
flag true = 1

-- the mark of an entry, 26 bytes: the elapsed time, the locality, the flag, the number of random
-- bytes drawn, the size of the buffer, the checksum of these random bytes and the buffer, and the
-- checksum of the response
unfoldable pub mark_of : PlainEntry → List ℕ
mark_of e =
    to_be_bytes w32 e.elapsed ++ to_be_bytes w8 e.locality ++ to_be_bytes w8 (flag e.completes)
    ++ to_be_bytes w16 (length e.drawn) ++ to_be_bytes w16 (length e.buffer)
    ++ to_be_bytes w64 (sum_of (e.drawn ++ e.buffer)) ++ to_be_bytes w64 e.answered

abbrev pub mark_size : ℕ
mark_size = 26

-- the number of random bytes that the command drew, according to the mark of its entry
abbrev pub drawn_size : (mark : List ℕ) → ℕ
drawn_size mark = from_be_bytes w16 (take 2 (drop 6 mark))

-- the size of the command buffer, according to the mark of its entry
abbrev pub buffer_size : (mark : List ℕ) → ℕ
buffer_size mark = from_be_bytes w16 (take 2 (drop 8 mark))

-- ---- the encoding of an entry

abbrev pub entry_word : List ℕ
entry_word = codes "# "

-- the line for a mark; `sum` is the checksum of all earlier marks
abbrev pub mark_line : (sum : ℕ) → (mark : List ℕ) → List ℕ
mark_line sum mark = marked_line entry_word mark (sum_from sum mark)

abbrev pub mark_line_size : ℕ
mark_line_size = marked_size entry_word mark_size

-- the decimal digit of a number at a place (a power of ten)
abbrev pub digit_at : (number place : ℕ) → ℕ
digit_at number place = 48 + number / place % 10

-- a number below 10^10, as ten decimal digits
unfoldable pub ten_digits : ℕ → List ℕ
ten_digits number =
    map (digit_at number) (1000000000 ∷ 100000000 ∷ 10000000 ∷ 1000000 ∷ 100000 ∷ 10000 ∷ 1000 ∷ 100 ∷ 10 ∷ 1 ∷ [])

-- the random bytes in an entry's script line, which must contain at least one byte: the bytes that
-- the command drew, or a zero byte if it drew none
abbrev pub shown : List ℕ → List ℕ
shown [] = 0 ∷ []
shown (byte ∷ bytes) = byte ∷ bytes

-- the script lines that set the time and the locality of an entry's command
unfoldable pub setting_lines : PlainEntry → List ℕ
setting_lines e =
    codes "wait " ++ ten_digits e.elapsed ++ codes "\nloc " ++ (48 + e.locality) ∷ [] ++ 10 ∷ []

-- the script lines that set a command's random bytes and execute it
unfoldable pub executing_lines : PlainEntry → List ℕ
executing_lines e =
    codes "entropy " ++ encode_lower (shown e.drawn) ++ codes "\ncmd " ++ encode_lower e.buffer ++ 10 ∷ []

-- the offset at which the line for the random bytes ends, for an entry whose command drew this
-- number of bytes; it is counted from the end of the mark's line
abbrev pub drawn_line_end : (drawn : ℕ) → ℕ
drawn_line_end drawn = 30 + 2 * max 1 drawn

-- the total size of an entry's script lines
abbrev pub lines_size : (drawn buffer : ℕ) → ℕ
lines_size drawn buffer = 36 + (2 * max 1 drawn + 2 * buffer)

-- the encoding of an entry: the line for its mark, and the four script lines that execute its
-- command; `sum` is the checksum of all earlier marks
unfoldable pub entry_text : (sum : ℕ) → PlainEntry → List ℕ
entry_text sum e = mark_line sum (mark_of e) ++ setting_lines e ++ executing_lines e

-- the encoded size of an entry, according to its mark
abbrev pub entry_size : (mark : List ℕ) → ℕ
entry_size mark = mark_line_size + lines_size (drawn_size mark) (buffer_size mark)

-- the checksum extended by the mark of an entry
abbrev pub sum_after : (sum : ℕ) → PlainEntry → ℕ
sum_after sum e = sum_from sum (mark_of e)
