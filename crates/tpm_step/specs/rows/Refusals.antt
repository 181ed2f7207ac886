-- Which checks refuse a command, and which do not.
use Rattle.std.specs.Prelude.{◌≡◌, ◌≢◌, ◌⊎◌, IfErr, Result}
use Rattle.tpm_types_common.specs.declared.check.Check.{Check}
use Rattle.tpm_types_common.specs.declared.check.Check.TheVariants as check
use Rattle.tpm_types_common.specs.declared.refused.Refused.{Refused}

-- The result is not a refusal by this check.
abbrev pub Passes : {X : Type 0} → Check → Result X Refused → Type 0
Passes check result = IfErr result (λ e. e.check ≢ check)

-- If the result is a refusal, the failed check is G9 (entries that authorize handles) or G10 (all
-- other entries).
abbrev pub RefusesAuthorization : {X : Type 0} → Result X Refused → Type 0
RefusesAuthorization result =
    IfErr result (λ e. (e.check ≡ check.Authorization) ⊎ (e.check ≡ check.Others))
