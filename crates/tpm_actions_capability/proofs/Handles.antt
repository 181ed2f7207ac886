-- The code's encoding of a list of handles matches the definition.
use Rattle.std.proofs.Common.{◌≡◌, ℕ, List, Result, Ok, Err, ap, ◌∙◌}
use Rattle.tpm_bytes.specs.Reading.{◌>>=◌}
use Rattle.tpm_types_common.specs.declared.refused.Refused.{Refused}
use Rattle.tpm_actions_capability.specs.GetCapability.{Tells}
use Rattle.tpm_actions_capability.specs.declared.element.Element.{Element}

pub told_listed : (wanted : Result (List Element) Refused) (f : List Element → List ℕ)
    (elements : List Element) (text : List ℕ) → Tells wanted (Ok tt) elements → text ≡ f elements
    → Tells (wanted >>= λ es. Ok (f es)) (Ok tt) text
told_listed (Ok es) f elements text is told = told ∙ ap f is
told_listed (Err e) f elements text never told = never
