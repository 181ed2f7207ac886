-- A lookup by command code finds the command with that code, and each command is found by its own
-- code.
use Rattle.std.proofs.Common.{◌≡◌, ℕ, ◌<◌, ◌^◌, Bool, true, false, cond, List, [], ◌∷◌, Option, Some, None, refl, sym, subst, arith}
use Rattle.std.specs.Prelude.{◌==◌, IfSome}
use Rattle.std.specs.List.{find}
use Rattle.std.proofs.lemmas.Bool.{eqb-true}
use Rattle.tpm_commands.specs.declared.command_code.CommandCode.{CommandCode}
use Rattle.tpm_commands.specs.declared.command_code.CommandCode.TheVariants as code
use Rattle.tpm_commands.specs.CommandCode.{code_named, code_number}
use Rattle.tpm_commands.specs.CommandFacts.{all_codes}

-- If a search finds a value, the value passes the test.
pub found_passes : {X : Type 0} (test : X → Bool) (xs : List X)
    → IfSome (find test xs) (λ x. test x ≡ true)
found_passes test [] = tt
found_passes test (x ∷ xs) = chosen (test x) refl (found_passes test xs)
  where
    chosen : (b : Bool) → test x ≡ b → IfSome (find test xs) (λ y. test y ≡ true)
        → IfSome (cond b (Some x) (find test xs)) (λ y. test y ≡ true)
    chosen true is others = is
    chosen false is others = others

numbered : (number : ℕ) (found : Option CommandCode)
    → IfSome found (λ code. (code_number code == number) ≡ true)
    → IfSome found (λ code. code_number code ≡ number)
numbered number (Some code) is = eqb-true _ _ is
numbered number None is = tt

pub code_named-number : (number : ℕ)
    → IfSome (code_named number) (λ code. code_number code ≡ number)
unfolding code_named
code_named-number number =
    numbered number (code_named number)
    (found_passes (λ code. code_number code == number) all_codes)

pub code_named-is : (number : ℕ) (code : CommandCode) → code_named number ≡ Some code
    → number ≡ code_number code
code_named-is number code e =
    sym (subst (λ (found : Option CommandCode). IfSome found (λ code. code_number code ≡ number)) e
    (code_named-number number))

-- ---- proofs whose last clause covers every command that has no clause of its own

pub code_named-again : (code : CommandCode) → code_named (code_number code) ≡ Some code
unfolding code_named
code_named-again code.Startup = refl
code_named-again _ = refl

pub code_number-small : (code : CommandCode) → code_number code < 2 ^ 32
code_number-small code.Startup = omega arith
code_number-small _ = omega arith

pub ruleset codes = (code_named-again, code_named-number)
