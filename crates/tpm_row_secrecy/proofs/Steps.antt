-- A row looks the same on a device and on the device with its secrets erased, if each of its steps
-- looks the same on both.
use Rattle.std.proofs.Common.{ap, refl, subst, sym, ◌∙◌}
use Rattle.std.specs.Prelude.{Err, None, Ok, Option, Result, Some, ok_or, option_map, ◌≡◌}
use Rattle.tpm_actions_object.specs.Loaded.{loaded_at}
use Rattle.tpm_actions_policy.specs.Assertions.{policy_session}
use Rattle.tpm_bytes.specs.Reading.{◌>>=◌}
use Rattle.tpm_nv.specs.Index.{NvContents, NvIndex, index_at}
use Rattle.tpm_nvactions.specs.Access.{changed_nv}
use Rattle.tpm_object.specs.declared.object.Object.{Object}
use Rattle.tpm_record.specs.Entity.{object_of}
use Rattle.tpm_record.specs.Record.{Record}
use Rattle.tpm_record.specs.declared.rows.target.Target.{Target}
use Rattle.tpm_record.specs.rows.Answer.{AnswerParts, nothing}
use Rattle.tpm_record.specs.rows.Refusals.{handle_refusal, or_refusal}
use Rattle.tpm_record.specs.rows.Request.{Request, first_handle, second_handle}
use Rattle.tpm_record.specs.rows.Rows.{Success, unchanged_success}
use Rattle.tpm_record.specs.rows.Target.{attributes_of, index_or_refusal, target_of}
use Rattle.tpm_session.specs.Sessions.{session_at}
use Rattle.tpm_session.specs.declared.session.Session.{Session}
use Rattle.tpm_types_common.specs.declared.handle.Handle.{Handle}
use Rattle.tpm_types_common.specs.declared.refused.Refused.{Refused}
use Rattle.tpm_types_nv.specs.declared.nv_attributes.NvAttributes.{NvAttributes}
use Rattle.tpm_row_secrecy.proofs.Alike.{alike_after, alike_both, alike_end, alike_found, alike_refusal, alike_step, alike_step_is}
use Rattle.tpm_row_secrecy.proofs.Bare.{record_again, with_nv}
use Rattle.tpm_row_secrecy.proofs.Changes.{NvAlike}
use Rattle.tpm_row_secrecy.proofs.Each.{places}
use Rattle.tpm_row_secrecy.proofs.Entities.{index_at_bare, object_of_bare, session_at_bare}
use Rattle.tpm_row_secrecy.specs.Alike.{Same, bare_success}
use Rattle.tpm_row_secrecy.specs.Secrecy.{Secrecy, bare_index, bare_nv, bare_object, bare_session, without_secrets}

-- ---- the last steps of rows

pub same_end : (s : Secrecy) (answer : AnswerParts) (a b : Record)
    → without_secrets s a ≡ without_secrets s b
    → Same s (Ok (record { answer = answer; after = a }))
    (Ok (record { answer = answer; after = b }))
same_end s answer a b same =
    alike_end (bare_success s) _ _
    (ap (λ (r : Record). let x : Success = record { answer = answer; after = r } in x) same)

pub same_unchanged : (s : Secrecy) (r : Record) (answer : AnswerParts)
    → Same s (Ok (unchanged_success (without_secrets s r) answer)) (Ok (unchanged_success r answer))
same_unchanged s r answer = same_end s answer _ _ (record_again s r)

-- After a change, a device and the device with its secrets erased still look the same, provided
-- that erasing the secrets before the change has the same result as erasing them afterwards.
pub change_same : (s : Secrecy) (change : Record → Record)
    → ((r : Record) → without_secrets s (change r) ≡ change (without_secrets s r)) → (r : Record)
    → without_secrets s (change (without_secrets s r)) ≡ without_secrets s (change r)
change_same s change apart r = apart (without_secrets s r) ∙ ap change (record_again s r)
    ∙ sym (apart r)

pub same_change : (s : Secrecy) (r : Record) (answer : AnswerParts) (change : Record → Record)
    → ((r : Record) → without_secrets s (change r) ≡ change (without_secrets s r))
    → Same s (Ok (record { answer = answer; after = change (without_secrets s r) }))
    (Ok (record { answer = answer; after = change r }))
same_change s r answer change apart = same_end s answer _ _ (change_same s change apart r)

-- If two rows end with changes of NV indices that look the same, the rows look the same.
pub same_changed : {F : Type 0} (s : Secrecy) (r : Record) (refusal : F → Refused)
    (x y : Result NvContents F) → NvAlike s x y
    → Same s (or_refusal refusal x >>= λ nv. Ok (changed_nv (without_secrets s r) nv))
    (or_refusal refusal y >>= λ nv. Ok (changed_nv r nv))
same_changed s r refusal x y alike =
    alike_after (bare_nv s) (bare_success s) _ _ _ _ (alike_refusal (bare_nv s) refusal x y alike)
    (λ n m same. same_end s nothing _ _ (with_nv s r n m same))

-- ---- other steps of rows

pub same_step : {A : Type 0} (s : Secrecy) (x : Result A Refused) (f g : A → Result Success Refused)
    → ((a : A) → Same s (f a) (g a)) → Same s (x >>= f) (x >>= g)
same_step s x f g more = alike_step (bare_success s) x f g more

pub same_both : {A : Type 0} (s : Secrecy) (x y : Result A Refused)
    (f g : A → Result Success Refused) → x ≡ y → ((a : A) → Same s (f a) (g a))
    → Same s (x >>= f) (y >>= g)
same_both s x y f g same more = alike_both (bare_success s) x y f g same more

-- Suppose that two rows look up the object, the index or the session that a handle names. The rows
-- look the same if the remaining steps look the same for the value that is found.
pub same_object : (s : Secrecy) (r : Record) (handle : Handle)
    (f g : Object → Result Success Refused)
    → ((o : Object) → object_of r handle ≡ Some o → Same s (f (bare_object s o)) (g o))
    → Same s (loaded_at (without_secrets s r) handle >>= f) (loaded_at r handle >>= g)
same_object s r handle f g more =
    alike_found (bare_success s) (bare_object s) _ _ handle_refusal f g (object_of_bare s r handle)
    more

pub same_index : (s : Secrecy) (r : Record) (handle : Handle)
    (f g : NvIndex → Result Success Refused)
    → ((i : NvIndex) → index_at r.nv handle ≡ Some i → Same s (f (bare_index s i)) (g i))
    → Same s (index_or_refusal (without_secrets s r) handle >>= f) (index_or_refusal r handle >>= g)
same_index s r handle f g more =
    alike_found (bare_success s) (bare_index s) _ _ handle_refusal f g (index_at_bare s r.nv handle)
    more

pub same_session : (s : Secrecy) (r : Record) (handle : Handle)
    (f g : Session → Result Success Refused)
    → ((x : Session) → session_at r.sessions handle ≡ Some x → Same s (f (bare_session s x)) (g x))
    → Same s (policy_session (places (bare_session s) r.sessions) handle >>= f)
    (policy_session r.sessions handle >>= g)
same_session s r handle f g more =
    alike_found (bare_success s) (bare_session s) _ _ handle_refusal f g
    (session_at_bare s r.sessions handle) more

-- ---- the target of a command on an NV index

attributes_same : (s : Secrecy) (r : Record) (handle : Handle)
    → attributes_of (without_secrets s r) handle ≡ attributes_of r handle
attributes_same s r handle =
    ap (λ (found : Option NvIndex). ok_or found handle_refusal >>= λ i. Ok i.public.attributes)
    (index_at_bare s r.nv handle) ∙ by (index_at r.nv handle)
  where
    by : (found : Option NvIndex)
        → (ok_or (option_map (bare_index s) found) handle_refusal
        >>= λ i. let x : Result NvAttributes Refused = Ok i.public.attributes in x)
        ≡ (ok_or found handle_refusal >>= λ i. Ok i.public.attributes)
    by None = refl
    by (Some i) = refl

abbrev target_with : (one other : Result Handle Refused) → (Handle → Result NvAttributes Refused)
    → Result Target Refused
target_with one other attributes =
    one >>= λ a. other >>= λ b. attributes b >>= λ c.
    Ok (record { auth_handle = a; handle = b; attributes = c })

target_by : (one other : Result Handle Refused) (f g : Handle → Result NvAttributes Refused)
    → ((b : Handle) → f b ≡ g b) → target_with one other f ≡ target_with one other g
target_by (Err e) other f g same = refl
target_by (Ok a) (Err e) f g same = refl
target_by (Ok a) (Ok b) f g same =
    ap (λ (x : Result NvAttributes Refused). x >>= λ c. let t : Result Target Refused =
    Ok (record { auth_handle = a; handle = b; attributes = c }) in t) (same b)

pub target_bare : (s : Secrecy) (r : Record) (q : Request)
    → target_of (without_secrets s r) q ≡ target_of r q
target_bare s r q = target_by (first_handle q.handles) (second_handle q.handles) _ _
    (attributes_same s r)

pub same_target : (s : Secrecy) (r : Record) (q : Request) (f g : Target → Result Success Refused)
    → ((t : Target) → Same s (f t) (g t))
    → Same s (target_of (without_secrets s r) q >>= f) (target_of r q >>= g)
same_target s r q f g more = same_both s _ _ f g (target_bare s r q) more

-- The index of a command's target is the index that the second handle names.
handle_of_target : (b : Handle) (x : Result NvAttributes Refused) (a : Handle) (t : Target)
    → (x >>= λ c. let y : Result Target Refused =
    Ok (record { auth_handle = a; handle = b; attributes = c }) in y) ≡ Ok t → b ≡ t.handle
handle_of_target b (Err e) a t is = absurd cc
handle_of_target b (Ok c) a t is = ap (λ (x : Result Target Refused). target_handle x) is
  where
    target_handle : Result Target Refused → Handle
    target_handle (Ok u) = u.handle
    target_handle (Err e) = b

pub target_second : (r : Record) (q : Request) (t : Target) → target_of r q ≡ Ok t
    → second_handle q.handles ≡ Ok t.handle
target_second r q t is = by (first_handle q.handles) (second_handle q.handles) is
  where
    by : (one other : Result Handle Refused) → target_with one other (attributes_of r) ≡ Ok t
        → other ≡ Ok t.handle
    by (Err e) other is = absurd cc
    by (Ok a) (Err e) is = absurd cc
    by (Ok a) (Ok b) is = ap (λ (h : Handle). let x : Result Handle Refused = Ok h in x)
        (handle_of_target b (attributes_of r b) a t is)

pub same_target_is : (s : Secrecy) (r : Record) (q : Request)
    (f g : Target → Result Success Refused)
    → ((t : Target) → second_handle q.handles ≡ Ok t.handle → Same s (f t) (g t))
    → Same s (target_of (without_secrets s r) q >>= f) (target_of r q >>= g)
same_target_is s r q f g more =
    subst (λ (x : Result Target Refused). Same s (x >>= f) (target_of r q >>= g))
    (sym (target_bare s r q))
    (alike_step_is (bare_success s) (target_of r q) f g (λ t is. more t (target_second r q t is)))

-- the lemmas about steps that read no secret, and about the end of a row that changes nothing
pub ruleset same_steps = (same_step, same_unchanged)
