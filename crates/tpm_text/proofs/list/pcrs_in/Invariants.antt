use Rattle.std.proofs.Common.{◌≡◌, length}
use Rattle.tpm_text.specs.Parameter.{pcrs_in}
use Rattle.tpm_text.specs.Pieces.{comma, pieces_of}
use Rattle.tpm_text.proofs.Lists.{pcrs_left}
use Rattle.tpm_text.proofs.list.pcrs_in.Given as goal

-- The PCRs selected so far and the PCRs in the remaining text are together all PCRs of the list.
abbrev pub invariant-loop-text : goal.invariant-loop-text
invariant-loop-text l = pcrs_left l.select (pieces_of comma l.left) ≡ pcrs_in l.fn.numbers

abbrev pub decreases-loop-text : goal.decreases-loop-text
decreases-loop-text l = length l.left
