use Rattle.std.proofs.Common.{◌≡◌, length}
use Rattle.std.specs.Int.{w32}
use Rattle.tpm_bytes.specs.Many.{many_at}
use Rattle.tpm_image_text.specs.Fields.{number_in}
use Rattle.tpm_sequence_text.proofs.Words.{left}
use Rattle.tpm_sequence_text.proofs.hash_state.read_words.Given as goal

-- The words read so far, followed by the words still to be read, are the whole list.
abbrev pub invariant-loop-place : goal.invariant-loop-place
invariant-loop-place g l = record {
  joined : left (number_in w32) g.row.N l.place l.words l.ahead
      ≡ many_at (number_in w32) g.row.N l.fn.text;
  size : length l.words ≡ g.row.N;
}
