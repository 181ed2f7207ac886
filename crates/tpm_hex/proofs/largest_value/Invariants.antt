use Rattle.tpm_hex.proofs.Reading.{PairsTellSoFar}
use Rattle.tpm_hex.proofs.largest_value.Given as goal

abbrev pub invariant-loop-place : goal.invariant-loop-place
invariant-loop-place l = PairsTellSoFar l.digits l.largest l.place l.bytes
