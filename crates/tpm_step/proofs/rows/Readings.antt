-- A row reads parameters of the kinds that its command's shape lists.
use Rattle.std.proofs.Common.{◌≡◌, ℕ, List, [], ◌∷◌, Result, Ok, Err, refl, ap, ◌∙◌}
use Rattle.tpm_bytes.specs.Reading.{◌>>=◌}
use Rattle.tpm_types_common.specs.declared.rc.Rc.{Rc}
use Rattle.tpm_commands.specs.declared.shape.ParameterKind.{ParameterKind}
use Rattle.tpm_types_common.specs.AuthValue.{auth_value_at, trimmed}
use Rattle.tpm_types_common.specs.Buffer.{buffer_at}
use Rattle.tpm_types_common.specs.declared.refused.Refused.{Refused}
use Rattle.tpm_record.specs.rows.Rows.{all_read, only, parameter}
use Rattle.tpm_step.specs.rows.Shapes.{behind, behind_kind, parameters_check}

-- ---- the outcome of reading parameters

-- success if the parameters could be parsed, and otherwise the fault of the parameters
abbrev pub outcome : {P : Type 0} → Result P Refused → Result (Unit {0}) Refused
outcome (Ok p) = Ok tt
outcome (Err e) = Err e

pub all_read_outcome : (x : Result (Unit {0}) Refused) → outcome x ≡ x
all_read_outcome (Ok u) = refl
all_read_outcome (Err e) = refl

pub read_one : {X P : Type 0} (n : ℕ) (x : Result (X × List ℕ) Rc)
    (f : X × List ℕ → Result P Refused) (g : List ℕ → Result (Unit {0}) Refused)
    → ((a : X × List ℕ) → outcome (f a) ≡ g a.1)
    → outcome (parameter n x >>= f) ≡ (parameter n (behind x) >>= g)
read_one n (Ok a) f g h = h a
read_one n (Err rc) f g h = refl

pub read_all : {P : Type 0} (x : Result (Unit {0}) Refused) (p : P)
    → outcome (x >>= λ ended. Ok p) ≡ x
read_all (Ok u) p = refl
read_all (Err e) p = refl

pub only_read : {X : Type 0} (k : ParameterKind) (text : List ℕ) (x : Result (X × List ℕ) Rc)
    → behind x ≡ behind_kind k text → outcome (only x) ≡ parameters_check 1 (k ∷ []) text
only_read k text x is =
    read_one 1 x _ (λ rest. all_read rest) (λ a. read_all (all_read a.1) a.0)
    ∙ ap (λ (b : Result (List ℕ) Rc). parameter 1 b >>= λ rest. all_read rest) is

pub trimmed_read : (text : List ℕ) → behind (auth_value_at text) ≡ behind (buffer_at 32 text)
unfolding auth_value_at
trimmed_read text = same (buffer_at 32 text)
  where
    same : (x : Result (List ℕ × List ℕ) Rc) → behind (x >>= λ b. Ok (trimmed b.0, b.1)) ≡ behind x
    same (Ok b) = refl
    same (Err rc) = refl
