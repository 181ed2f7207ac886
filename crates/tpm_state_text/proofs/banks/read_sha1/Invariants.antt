use Rattle.std.proofs.Common.{◌≡◌, length}
use Rattle.tpm_state_text.specs.Banks.{bank_in}
use Rattle.tpm_state_text.proofs.Loops.{bank_left}
use Rattle.tpm_state_text.proofs.banks.read_sha1.Given as goal

-- The values read so far, followed by the unread values, are the whole list.
abbrev pub invariant-loop-place : goal.invariant-loop-place
invariant-loop-place l = record {
  joined : bank_left 20 l.place l.banks.sha1 l.ahead ≡ bank_in 20 l.fn.text;
  other : l.banks.sha256 ≡ l.fn.banks.sha256;
  count : l.banks.update_count ≡ l.fn.banks.update_count;
  size : length l.banks.sha1 ≡ 24;
}
