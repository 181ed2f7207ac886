-- Setting the value at one handle of a map sets this value and no other.
use Rattle.std.proofs.Common.{◌≡◌, ◌≢◌, ap, refl}
use Rattle.std.proofs.lemmas.Bool.{eq-eqb, ne_eqb}
use Rattle.tpm_types_common.specs.Handle.{numbered_handle}
use Rattle.tpm_types_common.specs.declared.handle.Handle.{Handle}
use Rattle.tpm_step.specs.history.HandleMap.{with_at}

-- handles with equal numbers are equal
pub same_handle : (a b : Handle) → a.number ≡ b.number → a ≡ b
same_handle a b same = ap numbered_handle same

pub at_same : {X : Type 0} (handle other : Handle) (x : X) (all : Handle → X)
    → other.number ≡ handle.number → with_at handle x all other ≡ x
at_same handle other x all same = rw (eq-eqb other.number handle.number same) refl

pub at_other : {X : Type 0} (handle other : Handle) (x : X) (all : Handle → X)
    → other.number ≢ handle.number → with_at handle x all other ≡ all other
at_other handle other x all apart = rw (ne_eqb other.number handle.number apart) refl
