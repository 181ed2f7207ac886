-- What an accepted authorization implies for each entry.
use Rattle.std.proofs.Common.{◌≡◌, ℕ, zero, suc, ◌+◌, arith, false, List, [], ◌∷◌, ◌++◌, length, length-append, append_assoc, append-nil, slice_get, Option, Some, Result, Ok, Err, IfOk, refl, sym, subst, ◌∙◌}
use Rattle.std.proofs.lemmas.Bool.{ltb-false, not-false}
use Rattle.std.proofs.lemmas.Result.{IfOk-at_ok, IfOk-weaker}
use Rattle.std.specs.List.{list_any}
use Rattle.std.specs.Prelude.{◌&&◌, not, nat_lt}
use Rattle.tpm_bytes.specs.Reading.{◌>>=◌, refused_if}
use Rattle.tpm_bytes.proofs.Fields.{passed}
use Rattle.tpm_session.specs.FirstBuffer.{has_first_buffer}
use Rattle.tpm_types_common.specs.Refused.{checked_result}
use Rattle.tpm_types_common.specs.declared.check.Check.{Check}
use Rattle.tpm_types_common.specs.declared.check.Check.TheVariants as check
use Rattle.tpm_types_common.specs.declared.rc.Rc.{Rc}
use Rattle.tpm_types_command.specs.AuthEntry.{Entry}
use Rattle.tpm_types_command.specs.Command.{Whole}
use Rattle.tpm_commands.specs.CommandCode.{authorized_handles}
use Rattle.tpm_record.specs.Record.{Record}
use Rattle.tpm_auth.specs.Entries.{decrypts, entries_pass}
use Rattle.tpm_auth.specs.Grant.{authorize, authorized, grant, grants_pass}
use Rattle.tpm_auth.specs.Granting.{IsGranted, IsGranting}
use Rattle.tpm_auth.specs.declared.session_grant.Grant.{Grant}

-- If `f`, applied to the value of a successful `x`, succeeds only with results that have a
-- property, the same is true of `x >>= f`.
ok_bind_is : {A B E : Type 0} (Q : B → Type 0) (x : Result A E) (f : A → Result B E)
    → ((a : A) → x ≡ Ok a → IfOk (f a) Q) → IfOk (x >>= f) Q
ok_bind_is Q (Ok a) f h = h a refl
ok_bind_is Q (Err e) f h = tt

-- `checked_result` turns faults into refusals and does not change a success.
checked_ok : {X : Type 0} (check : Check) (x : Result X Rc) (y : X) → checked_result check x ≡ Ok y
    → x ≡ Ok y
checked_ok check (Ok x) y is = cc
checked_ok check (Err rc) y is = absurd cc

-- ---- checking the entries in order

module _ (r : Record) (c : Whole) (locality : ℕ) where
  -- The list `given` contains the grants of the entries `es`, whose positions start at `first`.
  record AreOf (first : ℕ) (es : List Entry) (given : List (Option Grant)) : Type 0 where
    as_many : length given ≡ length es
    each : (place i : ℕ) (e : Entry) (granted : Option Grant) → place ≡ first + i
        → slice_get es i ≡ Some e → slice_get given i ≡ Some granted
        → IsGranted r c locality place e granted

  none : (first : ℕ) → AreOf first [] []
  none first = record { as_many = refl; each = λ place i e granted at entry there. absurd cc }

  one_more : (first : ℕ) (e : Entry) (this : Option Grant) (es : List Entry)
      (given : List (Option Grant)) → IsGranted r c locality first e this
      → AreOf (first + 1) es given → AreOf first (e ∷ es) (this ∷ given)
  one_more first e this es given is others =
      record { as_many = omega (arith, others.as_many); each = each_of }
    where
      each_of : (place i : ℕ) (x : Entry) (granted : Option Grant) → place ≡ first + i
          → slice_get (e ∷ es) i ≡ Some x → slice_get (this ∷ given) i ≡ Some granted
          → IsGranted r c locality place x granted
      each_of place zero x granted at entry there = let here : first ≡ place = omega arith in cc
      each_of place (suc i) x granted at entry there =
          others.each place i x granted (omega arith) entry there

  -- Checking the remaining entries appends their grants to the grants of the earlier entries.
  walk : (before : List (Option Grant)) (es : List Entry)
      → IfOk (grants_pass r c locality before es)
      (λ grants. (given : List (Option Grant)) × (before ++ given ≡ grants)
      × AreOf (length before) es given)
  walk before [] = ([], append-nil before, none (length before))
  walk before (e ∷ es) =
      ok_bind_is _
      (grant r c locality (length before + 1) (slice_get (authorized c) (length before)) e) _
      (λ this is.
      IfOk-weaker (grants_pass r c locality (before ++ this ∷ []) es) _ _ (λ grants rest.
      let next : length (before ++ this ∷ []) ≡ length before + 1 =
      omega (arith, length-append before (this ∷ [])) in (
        this ∷ rest.0,
        sym (append_assoc before (this ∷ []) rest.0) ∙ rest.1,
        one_more (length before) e this es rest.0 is (subst (λ n. AreOf n es rest.0) next rest.2),
      )) (walk (before ++ this ∷ []) es))

-- ---- the whole authorization

pub granting : (r : Record) (c : Whole) (locality : ℕ)
    → IfOk (authorize r c locality) (IsGranting r c locality)
unfolding authorize
granting r c locality =
    ok_bind_is _ (checked_result check.Entries (entries_pass r c.code [] c.entries)) _ (λ u own.
    ok_bind_is _ (refused_if (nat_lt (length c.entries) (authorized_handles c.code)) _) _
    (λ v enough.
    ok_bind_is _ (grants_pass r c locality [] c.entries) _ (λ grants is.
    ok_bind_is _ (refused_if (list_any decrypts c.entries && not (has_first_buffer c.parameters)) _)
    _ (λ w whole.
    let all = IfOk-at_ok _ is (walk r c locality [] c.entries) in
    let those : AreOf r c locality 0 c.entries grants =
    subst (AreOf r c locality 0 c.entries) all.1 all.2 in
    record {
      own = checked_ok check.Entries (entries_pass r c.code [] c.entries) u own;
      enough = ltb-false _ _ (passed _ _ v enough);
      as_many = those.as_many;
      each = λ place e granted entry there. those.each place place e granted (omega arith) entry
          there;
      whole = λ some. not-false (has_first_buffer c.parameters)
          (subst (λ b. (b && not (has_first_buffer c.parameters)) ≡ false) some
          (passed _ _ w whole));
    }))))
