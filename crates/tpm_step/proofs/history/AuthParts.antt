-- Says which authorization values of a record change when one part of the record changes.
use Rattle.std.proofs.Common.{arith, ◌≡◌, ◌≢◌, ◌⊎◌, ℕ, Bool, true, false, cond, List, [], Option, Some, None, option_map, ◌==◌, refl, sym, ap, ◌∙◌, inl, inr}
use Rattle.std.specs.Option.{option_map_or}
use Rattle.std.proofs.lemmas.Bool.{cases_eq, cond-false, cond-true, eq-eqb, eqb-true, ne_eqb}
use Rattle.std.proofs.lemmas.Bool.Decides.{nat_tests}
use Rattle.std.proofs.lemmas.Option.{none-some, same_Some}
use Rattle.tpm_containers.specs.SortedMap.{Entries, at_key}
use Rattle.tpm_nv.specs.Index.{NvContents, NvIndex, index_at}
use Rattle.tpm_object.specs.Object.{transient_byte}
use Rattle.tpm_object.specs.declared.object.Object.{Object}
use Rattle.tpm_containers.specs.Numbered.{at_number}
use Rattle.tpm_types_common.specs.Handle.{endorsement_handle, handle_type, hierarchy_auth_of, is_nv_index, is_persistent, is_transient, lockout_handle, owner_handle, platform_handle}
use Rattle.tpm_types_common.specs.declared.handle.Handle.{Handle}
use Rattle.tpm_types_common.specs.declared.handle.HierarchyAuth.{HierarchyAuth}
use Rattle.tpm_types_common.specs.declared.handle.HierarchyAuth.TheVariants as auth
use Rattle.tpm_record.specs.Entity.{hierarchy_auth_value, permanent_auth_value, with_hierarchy_auth}
use Rattle.tpm_record.specs.Objects.{object_at}
use Rattle.tpm_record.specs.Persistent.{persistent_at}
use Rattle.tpm_record.specs.Record.{Record}
use Rattle.tpm_record.specs.declared.hierarchy.Hierarchies.{Hierarchies}
use Rattle.tpm_step.specs.history.AuthValues.{AuthValues}
use Rattle.tpm_step.specs.history.DeviceAuthValues.{HaveValues, auth_seen, index_auth, object_auth}
use Rattle.tpm_step.specs.history.HandleMap.{with_at}
use Rattle.tpm_step.proofs.history.HandleMap.{same_handle}

-- ---- values that do not change

-- If the new value exists, the old value exists and is the same.
abbrev pub Kept : (old new : Option (List ℕ)) → Type 0
Kept old new = (value : List ℕ) → new ≡ Some value → old ≡ Some value

pub same_kept : {old new : Option (List ℕ)} → new ≡ old → Kept old new
same_kept same value is = sym same ∙ is

found_kept : {X : Type 0} (shown : X → List ℕ) (old new : Option X) → (new ≡ old) ⊎ (new ≡ None)
    → Kept (option_map shown old) (option_map shown new)
found_kept shown old new (inl same) = same_kept (ap (option_map shown) same)
found_kept shown old new (inr gone) =
    λ value is. absurd (none-some value (sym (ap (option_map shown) gone) ∙ is))

pub index_kept : (old new : Option NvIndex) → (new ≡ old) ⊎ (new ≡ None)
    → Kept (index_auth old) (index_auth new)
index_kept old new found = found_kept (λ (index : NvIndex). index.auth_value) old new found

pub object_kept : (old new : Option Object) → (new ≡ old) ⊎ (new ≡ None)
    → Kept (object_auth old) (object_auth new)
object_kept old new found = found_kept (λ (object : Object). object.auth_value) old new found

-- If this handle has an authorization value in the new record, it had the same value in the old
-- record.
abbrev pub Keeps : (old new : Record) → Handle → Type 0
Keeps old new handle = Kept (auth_seen old handle) (auth_seen new handle)

abbrev pub KeepsAll : (old new : Record) → Type 0
KeepsAll old new = (handle : Handle) → Keeps old new handle

-- the authorization value of a handle is unchanged if it is unchanged in each part of the record
-- that could contain it
pub parts_keep : (old new : Record) (h : Handle)
    → Kept (index_auth (index_at old.nv h)) (index_auth (index_at new.nv h))
    → Kept (object_auth (persistent_at old.persistent h))
    (object_auth (persistent_at new.persistent h))
    → Kept (object_auth (object_at old.objects h)) (object_auth (object_at new.objects h))
    → permanent_auth_value new h ≡ permanent_auth_value old h → Keeps old new h
parts_keep old new h index persistent transient permanent =
    by (is_nv_index h) (is_persistent h) (is_transient h)
  where
    by : (a b c : Bool)
        → Kept (cond a (index_auth (index_at old.nv h))
        (cond b (object_auth (persistent_at old.persistent h))
        (cond c (object_auth (object_at old.objects h)) (Some (permanent_auth_value old h)))))
        (cond a (index_auth (index_at new.nv h))
        (cond b (object_auth (persistent_at new.persistent h))
        (cond c (object_auth (object_at new.objects h)) (Some (permanent_auth_value new h)))))
    by true b c = index
    by false true c = persistent
    by false false true = transient
    by false false false = same_kept (ap (λ (value : List ℕ). Some value) permanent)

pub kept_values : (old new : Record) (values : AuthValues) → KeepsAll old new
    → HaveValues old values → HaveValues new values
kept_values old new values keeps have h value is = have h value (keeps h value is)

-- ---- new values

-- This handle now has this authorization value. Every other handle that has a value had the same
-- value before.
pub record Sets (handle : Handle) (value : List ℕ) (old new : Record) : Type 0 where
  pub here : auth_seen new handle ≡ Some value
  pub others : (h : Handle) → h.number ≢ handle.number → Keeps old new h

pub set_values : (old new : Record) (values : AuthValues) (handle : Handle) (value : List ℕ)
    → Sets handle value old new → HaveValues old values
    → HaveValues new (with_at handle value values)
set_values old new values handle value sets have h v is =
    elim (cases_eq h.number handle.number) [
      | inl here ↦
          same_Some v value (sym is ∙ ap (auth_seen new) (same_handle h handle here) ∙ sets.here)
          ∙ sym (cond-true (h.number == handle.number) value (values h)
          (eq-eqb h.number handle.number here))
      | inr apart ↦
          have h v (sets.others h apart v is)
          ∙ sym (cond-false (h.number == handle.number) value (values h)
          (ne_eqb h.number handle.number apart))
    ]

-- ---- the value of a handle, by its type

other_type : (t u : ℕ) (h : Handle) → (handle_type h == t) ≡ true → (t == u) ≡ false
    → (handle_type h == u) ≡ false
other_type t u h is apart = ap (λ n. n == u) (eqb-true (handle_type h) t is) ∙ apart

pub index_seen : (r : Record) (h : Handle) → is_nv_index h ≡ true
    → auth_seen r h ≡ index_auth (index_at r.nv h)
index_seen r h is = cond-true (is_nv_index h) _ _ is

pub persistent_seen : (r : Record) (h : Handle) → is_persistent h ≡ true
    → auth_seen r h ≡ object_auth (persistent_at r.persistent h)
persistent_seen r h is = cond-false (is_nv_index h) _ _ (other_type 0x81 0x01 h is refl)
    ∙ cond-true (is_persistent h) _ _ is

pub transient_seen : (r : Record) (h : Handle) → is_transient h ≡ true
    → auth_seen r h ≡ object_auth (object_at r.objects h)
transient_seen r h is =
    cond-false (is_nv_index h) _ _ (other_type 0x80 0x01 h is refl)
    ∙ cond-false (is_persistent h) _ _ (other_type 0x80 0x81 h is refl)
    ∙ cond-true (is_transient h) _ _ is

-- ---- replacing the index or object at a handle

pub index_set : (r : Record) (nv : NvContents) (handle : Handle) (index : NvIndex)
    → is_nv_index handle ≡ true → index_at nv handle ≡ Some index
    → ((n : ℕ) → n ≢ handle.number → at_key nv.indices n ≡ at_key r.nv.indices n)
    → Sets handle index.auth_value r (record r { nv = nv })
index_set r nv handle index named found others = record {
  here = index_seen (record r { nv = nv }) handle named ∙ ap index_auth found;
  others = λ h apart. parts_keep r (record r { nv = nv }) h
      (same_kept (ap index_auth (others h.number apart))) (λ value is. is) (λ value is. is) refl;
}

pub persistent_set : (r : Record) (objects : Entries Object) (handle : Handle) (object : Object)
    → is_persistent handle ≡ true → persistent_at objects handle ≡ Some object
    → ((n : ℕ) → n ≢ handle.number → at_key objects n ≡ at_key r.persistent n)
    → Sets handle object.auth_value r (record r { persistent = objects })
persistent_set r objects handle object named found others = record {
  here = persistent_seen (record r { persistent = objects }) handle named ∙ ap object_auth found;
  others = λ h apart. parts_keep r (record r { persistent = objects }) h (λ value is. is)
      (same_kept (ap object_auth (others h.number apart))) (λ value is. is) refl;
}

pub object_set : (r : Record) (objects : List (Option Object)) (handle : Handle) (object : Object)
    → is_transient handle ≡ true → at_number transient_byte objects handle.number ≡ Some object
    → ((n : ℕ) → n ≢ handle.number → at_number transient_byte objects n
    ≡ at_number transient_byte r.objects n)
    → Sets handle object.auth_value r (record r { objects = objects })
unfolding object_at
object_set r objects handle object named found others = record {
  here = transient_seen (record r { objects = objects }) handle named ∙ ap object_auth found;
  others = λ h apart. parts_keep r (record r { objects = objects }) h (λ value is. is)
      (λ value is. is) (same_kept (ap object_auth (others h.number apart))) refl;
}

-- ---- hierarchies

-- the handle of a hierarchy or of lockout; each has its own handle
abbrev pub auth_handle : HierarchyAuth → Handle
auth_handle auth.Owner = owner_handle
auth_handle auth.Lockout = lockout_handle
auth_handle auth.Endorsement = endorsement_handle
auth_handle auth.Platform = platform_handle

pub named_is : (h : Handle) (a : HierarchyAuth) → hierarchy_auth_of h ≡ Some a → h ≡ auth_handle a
named_is h a is = let same : h.number ≡ (auth_handle a).number =
    grind (arith, nat_tests) in same_handle h (auth_handle a) same

-- the record with a new authorization value for a hierarchy or for lockout
abbrev pub with_auth : Record → HierarchyAuth → List ℕ → Record
with_auth r a value =
    record r {
      fixed =
          record r.fixed { hierarchies = with_hierarchy_auth r.fixed.hierarchies a value };
    }

set_here : (r : Record) (a : HierarchyAuth) (value : List ℕ)
    → auth_seen (with_auth r a value) (auth_handle a) ≡ Some value
unfolding with_hierarchy_auth
set_here r auth.Owner value = refl
set_here r auth.Lockout value = refl
set_here r auth.Endorsement value = refl
set_here r auth.Platform value = refl

set_other : (hs : Hierarchies) (a : HierarchyAuth) (value : List ℕ) (b : HierarchyAuth)
    → (auth_handle b).number ≢ (auth_handle a).number
    → hierarchy_auth_value (with_hierarchy_auth hs a value) b ≡ hierarchy_auth_value hs b
unfolding with_hierarchy_auth
set_other hs auth.Owner value auth.Owner apart = absurd (apart refl)
set_other hs auth.Lockout value auth.Lockout apart = absurd (apart refl)
set_other hs auth.Endorsement value auth.Endorsement apart = absurd (apart refl)
set_other hs auth.Platform value auth.Platform apart = absurd (apart refl)
set_other hs _ value _ apart = refl

pub hierarchy_set : (r : Record) (a : HierarchyAuth) (value : List ℕ)
    → Sets (auth_handle a) value r (with_auth r a value)
hierarchy_set r a value = record {
  here = set_here r a value;
  others = λ h apart. parts_keep r (with_auth r a value) h (λ v is. is) (λ v is. is) (λ v is. is)
      (by h apart (hierarchy_auth_of h) refl);
}
  where
    by : (h : Handle) → h.number ≢ (auth_handle a).number → (named : Option HierarchyAuth)
        → hierarchy_auth_of h ≡ named
        → option_map_or (hierarchy_auth_value (with_hierarchy_auth r.fixed.hierarchies a value))
        named [] ≡ option_map_or (hierarchy_auth_value r.fixed.hierarchies) named []
    by h apart None is = refl
    by h apart (Some b) is =
        set_other r.fixed.hierarchies a value b
        (λ same. apart (ap (λ (k : Handle). k.number) (named_is h b is) ∙ same))
