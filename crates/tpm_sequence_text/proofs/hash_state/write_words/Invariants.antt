use Rattle.std.proofs.Common.{◌≡◌, ◌+◌, ◌*◌, ◌++◌, drop, length}
use Rattle.std.specs.Int.{to_be_bytes, w32}
use Rattle.std.specs.List.{flat_map}
use Rattle.tpm_sequence_text.proofs.hash_state.write_words.Given as goal

-- The words written so far, followed by the words still to be written, are the whole list.
abbrev pub invariant-loop-word : goal.invariant-loop-word
invariant-loop-word g l = record {
  written : l.text ++ flat_map (to_be_bytes w32) (drop l.word-index l.words)
      ≡ l.fn.text ++ flat_map (to_be_bytes w32) l.words;
  size : length l.text ≡ length l.fn.text + l.word-index * 4;
}
