-- Lemmas about the steps of a row.
use Rattle.std.proofs.Common.{◌≡◌, Bool, true, false, Option, Some, None, Result, Ok, Err, IfOk, IfErr, ap, refl, subst}
use Rattle.std.specs.Prelude.{not, ok_or}
use Rattle.std.proofs.lemmas.Bool.{not-false}
use Rattle.tpm_bytes.proofs.Fields.{ok_is, passed}
use Rattle.tpm_bytes.specs.Reading.{◌>>=◌, or_fault, refused_if}
use Rattle.tpm_types_common.specs.Refused.{checked_result, refusal}
use Rattle.tpm_commands.specs.declared.command_code.CommandCode.{CommandCode}
use Rattle.tpm_step.specs.step.General.{in_command}
use Rattle.tpm_types_common.specs.declared.check.Check.{Check}
use Rattle.tpm_types_common.specs.declared.rc.Rc.{Rc}
use Rattle.tpm_types_common.specs.declared.refused.Refused.{Refused}

-- if `checked_result` succeeds with a value, the unchecked result is the same value
pub checked_ok : {X : Type 0} (check : Check) (x : Result X Rc) (y : X)
    → checked_result check x ≡ Ok y → x ≡ Ok y
checked_ok {X} check (Ok x) y e =
    ap (λ (z : X). let r : Result X Rc = Ok z in r) (ok_is {E = Refused} x y e)
checked_ok check (Err rc) y e = absurd cc

-- every success of `x >>= f` has a property, if every success of `f` has it
pub ok_bind : {A B E : Type 0} (Q : B → Type 0) (x : Result A E) (f : A → Result B E)
    → ((a : A) → IfOk (f a) Q) → IfOk (x >>= f) Q
ok_bind Q (Ok a) f h = h a
ok_bind Q (Err e) f h = tt

-- like `ok_bind`, but the property of `f` is needed only for the value that `x` returns
pub ok_bind_is : {A B E : Type 0} (Q : B → Type 0) (x : Result A E) (f : A → Result B E)
    → ((a : A) → x ≡ Ok a → IfOk (f a) Q) → IfOk (x >>= f) Q
ok_bind_is Q (Ok a) f h = h a refl
ok_bind_is Q (Err e) f h = tt

-- like `ok_bind`, but `f` may rely on a property that every success of `x` has
pub ok_then : {A B E : Type 0} (P : A → Type 0) (Q : B → Type 0) (x : Result A E)
    (f : A → Result B E) → IfOk x P → ((a : A) → P a → IfOk (f a) Q) → IfOk (x >>= f) Q
ok_then P Q (Ok a) f k h = h a k
ok_then P Q (Err e) f k h = tt

-- weakens a property of every success
pub ok_weaker : {A E : Type 0} (P Q : A → Type 0) (x : Result A E) → IfOk x P
    → ((a : A) → P a → Q a) → IfOk x Q
ok_weaker P Q (Ok a) k h = h a k
ok_weaker P Q (Err e) k h = tt

-- if a property holds for every success, it holds for this success
pub ok_at : {A E : Type 0} (P : A → Type 0) (x : Result A E) (a : A) → IfOk x P → x ≡ Ok a → P a
ok_at P (Ok b) a holds is = subst P (ok_is b a is) holds
ok_at P (Err e) a holds is = absurd cc

-- every refusal of `x >>= f` has a property, if every refusal of `x` and of `f` has it
pub err_bind : {A B E : Type 0} (Q : E → Type 0) (x : Result A E) (f : A → Result B E) → IfErr x Q
    → ((a : A) → IfErr (f a) Q) → IfErr (x >>= f) Q
err_bind Q (Ok a) f k h = h a
err_bind Q (Err e) f k h = k

-- like `err_bind`, but the property of `f` is needed only for the value that `x` returns
pub err_bind_is : {A B E : Type 0} (Q : E → Type 0) (x : Result A E) (f : A → Result B E)
    → IfErr x Q → ((a : A) → x ≡ Ok a → IfErr (f a) Q) → IfErr (x >>= f) Q
err_bind_is Q (Ok a) f k h = h a refl
err_bind_is Q (Err e) f k h = k

-- a refusal by `refused_if` has every property of its fault
pub err_if : {E : Type 0} (Q : E → Type 0) (b : Bool) (e : E) → Q e → IfErr (refused_if b e) Q
err_if Q true e h = h
err_if Q false e h = tt

pub err_or : {X E : Type 0} (Q : E → Type 0) (o : Option X) (e : E) → Q e → IfErr (ok_or o e) Q
err_or Q (Some x) e h = tt
err_or Q None e h = h

pub err_fault : {X E F : Type 0} (Q : F → Type 0) (x : Result X E) (e : F) → Q e
    → IfErr (or_fault x e) Q
err_fault Q (Ok x) e h = tt
err_fault Q (Err fault) e h = h

pub err_checked : {X : Type 0} (Q : Refused → Type 0) (check : Check) (x : Result X Rc)
    → ((rc : Rc) → Q (refusal check rc)) → IfErr (checked_result check x) Q
err_checked Q check (Ok x) h = tt
err_checked Q check (Err rc) h = h rc

-- if `ok_or` succeeds, the option contains the value
pub some_is : {X E : Type 0} (o : Option X) (e : E) (x : X) → ok_or o e ≡ Ok x → o ≡ Some x
some_is None e x is = absurd (let never : ⊥ = cc in never)
some_is (Some y) e x is = cc

-- `checked_result` changes no success
pub ok_checked : {X : Type 0} (P : X → Type 0) (check : Check) (x : Result X Rc) → IfOk x P
    → IfOk (checked_result check x) P
ok_checked P check (Ok x) h = h
ok_checked P check (Err rc) h = tt

pub ok_in_command : {X : Type 0} (P : X → Type 0) (c : CommandCode) (x : Result X Refused)
    → IfOk x P → IfOk (in_command c x) P
ok_in_command P c (Ok x) h = h
ok_in_command P c (Err e) h = tt

-- if `refused_if (not b)` does not refuse, b is true
pub asked : {E : Type 0} (b : Bool) (fault : E) (u : Unit {0}) → refused_if (not b) fault ≡ Ok u
    → b ≡ true
asked b fault u is = not-false b (passed (not b) fault u is)

-- `>>=` is associative
pub bind_assoc : {A B C E : Type 0} (x : Result A E) (f : A → Result B E) (g : B → Result C E)
    → ((x >>= f) >>= g) ≡ (x >>= λ a. f a >>= g)
bind_assoc (Ok a) f g = refl
bind_assoc (Err e) f g = refl
