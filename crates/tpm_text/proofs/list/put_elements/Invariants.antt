use Rattle.std.proofs.Common.{◌≡◌, length}
use Rattle.tpm_text.specs.Draft.{drafted_bytes}
use Rattle.tpm_text.specs.Pieces.{pieces_of, plus}
use Rattle.tpm_text.proofs.Lists.{elements_left}
use Rattle.tpm_text.proofs.list.put_elements.Given as goal

-- Adding the remaining elements to the draft so far yields the draft with all elements.
abbrev pub invariant-loop-text : goal.invariant-loop-text
invariant-loop-text l = elements_left l.element (drafted_bytes l.draft) (pieces_of plus l.left)
    ≡ elements_left l.element (drafted_bytes l.fn.draft) (pieces_of plus l.token)

abbrev pub decreases-loop-text : goal.decreases-loop-text
decreases-loop-text l = length l.left
