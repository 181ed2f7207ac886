-- The offsets of the parts of an entry and of a head, in their marks and encodings.
use Rattle.std.specs.Prelude.{◌≡◌, ℕ, ◌+◌, ◌*◌, ◌≤◌, List, drop, length, max, slice_index, take}
use Rattle.std.specs.Int.{w32, w64, from_be_bytes}
use Rattle.hex.specs.Hex.{encode_lower}
use Rattle.tpm_journal_text.specs.Head.{HasHead, head_size}
use Rattle.tpm_journal_text.specs.declared.head.HeadKind.{HeadKind}
use Rattle.tpm_journal_text.specs.Entry.{IsEntry, PlainEntry, buffer_size, drawn_size, flag}

-- The parts of an entry are at their offsets in a mark and in the input.
pub record Stands (e : PlainEntry) (mark text : List ℕ) : Type 0 where
  pub is : IsEntry e
  pub elapsed : from_be_bytes w32 (take 4 mark) ≡ e.elapsed
  pub locality : slice_index mark 4 ≡ e.locality
  pub completes : slice_index mark 5 ≡ flag e.completes
  pub drawn_size : drawn_size mark ≡ length e.drawn
  pub buffer_size : buffer_size mark ≡ length e.buffer
  pub answered : from_be_bytes w64 (take 8 (drop 18 mark)) ≡ e.answered
  pub drawn : take (2 * length e.drawn) (drop 102 text) ≡ encode_lower e.drawn
  pub buffer : take (2 * length e.buffer) (drop (102 + 2 * max 1 (length e.drawn) + 5) text)
      ≡ encode_lower e.buffer

-- The parts of a head are at their offsets in a mark and in the input.
pub record HeadStands (kind : HeadKind) (clock : ℕ) (content : List ℕ) (mark text : List ℕ) : Type 0 where
  pub has : HasHead kind clock content
  pub clock_told : from_be_bytes w64 (take 8 mark) ≡ clock
  pub count_told : from_be_bytes w32 (take 4 (drop 8 mark)) ≡ length content
  pub content_told : take (2 * length content) (drop 79 text) ≡ encode_lower content
  pub long : head_size (length content) ≤ length text
