use Rattle.std.proofs.Common.{◌≡◌, drop}
use Rattle.tpm_journal_text.specs.Sum.{sum_from}
use Rattle.tpm_journal_text.proofs.sum.sum_from.Given as goal

-- Adding the remaining bytes to the checksum so far yields the checksum of all bytes.
abbrev pub invariant-loop-byte : goal.invariant-loop-byte
invariant-loop-byte l = sum_from l.sum (drop l.byte-index l.bytes) ≡ sum_from l.fn.sum l.bytes
