-- Lemmas about results that stay the same if other random bytes are used.
use Rattle.std.proofs.Common.{◌≡◌, ◌∙◌, ℕ, List, take, Result, Ok, Err, ap, refl, sym}
use Rattle.tpm_bytes.specs.Reading.{◌>>=◌}
use Rattle.tpm_step.specs.step.General.{in_command}
use Rattle.tpm_types_common.specs.declared.refused.Refused.{Refused}
use Rattle.tpm_commands.specs.declared.command_code.CommandCode.{CommandCode}

-- Two results `x` and `y`, each with its own list of random bytes, are alike. If `x` is a success
-- and both lists agree on the bytes that it draws, `y` is the same success, changed by `moved`. If
-- `x` is a refusal, `y` is the same refusal.
abbrev pub Alike : {A E : Type 0} → (drawn : A → ℕ) → (moved : A → A) → (random other : List ℕ)
    → (x y : Result A E) → Type 0
Alike drawn moved random other (Ok a) y = take (drawn a) other ≡ take (drawn a) random
    → y ≡ Ok (moved a)
Alike drawn moved random other (Err e) y = y ≡ Err e

module _ {A B E : Type 0} (random other : List ℕ) where
  -- two results that are alike (`Alike`) remain alike if the same step, which reads no random
  -- bytes, runs before both
  pub alike_after : (drawn : B → ℕ) (moved : B → B) (x : Result A E) (f g : A → Result B E)
      → ((a : A) → Alike drawn moved random other (f a) (g a))
      → Alike drawn moved random other (x >>= f) (x >>= g)
  alike_after drawn moved (Ok a) f g alike = alike a
  alike_after drawn moved (Err e) f g alike = refl

  -- two results that are alike (`Alike`) remain alike if a step that draws no random bytes is added
  -- after both
  pub alike_before : (drawn : A → ℕ) (moved : A → A) (drawn' : B → ℕ) (moved' : B → B)
      (x y : Result A E) (f g : A → B)
      → ((a : A) → drawn' (f a) ≡ drawn a) → ((a : A) → g (moved a) ≡ moved' (f a))
      → Alike drawn moved random other x y
      → Alike drawn' moved' random other (x >>= λ a. Ok (f a)) (y >>= λ a. Ok (g a))
  alike_before drawn moved drawn' moved' (Ok a) y f g as_many made alike = λ same.
      ap (λ (z : Result A E). z >>= λ a. Ok (g a))
      (alike (ap (λ n. take n other) (sym (as_many a)) ∙ same
      ∙ ap (λ n. take n random) (as_many a)))
      ∙ ap Ok (made a)
  alike_before drawn moved drawn' moved' (Err e) y f g as_many made alike =
      ap (λ (z : Result A E). z >>= λ a. Ok (g a)) alike

-- two results that are alike (`Alike`) remain alike if the command code is added to their refusals
pub alike_in_command : {A : Type 0} (drawn : A → ℕ) (moved : A → A) (random other : List ℕ)
    (c : CommandCode) (x y : Result A Refused)
    → Alike drawn moved random other x y
    → Alike drawn moved random other (in_command c x) (in_command c y)
alike_in_command drawn moved random other c (Ok a) y alike = λ same. ap (in_command c) (alike same)
alike_in_command drawn moved random other c (Err e) y alike = ap (in_command c) alike
