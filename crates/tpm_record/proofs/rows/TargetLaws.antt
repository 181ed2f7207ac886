-- If a command that reads an NV index has passed its checks, the read fails only if it extends past
-- the end of the index's data.
use Rattle.std.proofs.Common.{◌≡◌, ℕ, ◌+◌, Bool, true, false, Some, Result, Ok, Err, IfOk, IfErr, refl, sym, subst}
use Rattle.std.specs.Prelude.{not, nat_lt}
use Rattle.std.proofs.lemmas.Bool.{not-false}
use Rattle.tpm_bytes.proofs.Fields.{bind_ok, ok_is, ok_or_ok, passed}
use Rattle.tpm_bytes.specs.Reading.{◌>>=◌, refused_if}
use Rattle.tpm_types_common.specs.declared.handle.Handle.{Handle}
use Rattle.tpm_types_nv.specs.NvAttributes.{has}
use Rattle.tpm_types_nv.specs.declared.nv_attributes.NvAttribute.TheVariants as attribute
use Rattle.tpm_types_nv.specs.declared.nv_attributes.NvAttributes.{NvAttributes}
use Rattle.tpm_nv.specs.Access.{read_at}
use Rattle.tpm_nv.specs.Index.{NvContents, NvIndex, index_at}
use Rattle.tpm_nv.specs.declared.fault.ReadFault.TheVariants.{PastData}
use Rattle.tpm_record.specs.Record.{Record}
use Rattle.tpm_record.specs.rows.Refusals.{handle_refusal}
use Rattle.tpm_record.specs.rows.Request.{Request, first_handle, second_handle}
use Rattle.tpm_record.specs.rows.Target.{attributes_of, index_or_refusal, may_read, reading_passes, target_of}
use Rattle.tpm_record.specs.declared.rows.target.Target.{Target}

ok_where : {A B : Type 0} (P : A → Type 0) (x : Result A B) → ((a : A) → x ≡ Ok a → P a) → IfOk x P
ok_where P (Ok a) h = h a refl
ok_where P (Err e) h = tt

-- If nothing after a check can fail, the only possible fault is the fault of the check.
only_if : {A B : Type 0} (b : Bool) (e : B) (a : A)
    → IfErr (refused_if b e >>= λ u. Ok a) (λ fault. fault ≡ e)
only_if true e a = refl
only_if false e a = tt

-- The NV index of a command's target exists, and the target contains the attributes of the index.
target_is : (r : Record) (q : Request) (target : Target) → target_of r q ≡ Ok target
    → (index : NvIndex) × (index_at r.nv target.handle ≡ Some index)
    × (target.attributes ≡ index.public.attributes)
target_is r q target is =
    let auth_handle = bind_ok (first_handle q.handles) _ target is in
    let handle = bind_ok (second_handle q.handles) _ target auth_handle.2 in
    let attributes = bind_ok (attributes_of r handle.0) _ target handle.2 in
    let index = bind_ok (index_or_refusal r handle.0) _ attributes.0 attributes.1 in
    let same =
    subst (λ (t : Target). (index_at r.nv t.handle ≡ Some index.0)
    × (t.attributes ≡ index.0.public.attributes)) (ok_is _ _ attributes.2) (
      ok_or_ok (index_at r.nv handle.0) handle_refusal index.0 index.1,
      sym (ok_is _ _ index.2),
    ) in
    (index.0, same.0, same.1)

-- If an NV index has WRITTEN set and is not locked against reading, a read fails only if it extends
-- past the end of the data.
read_within : (nv : NvContents) (handle : Handle) (offset size : ℕ) (index : NvIndex)
    → index_at nv handle ≡ Some index → has index.public.attributes attribute.ReadLocked ≡ false
    → has index.public.attributes attribute.Written ≡ true
    → IfErr (read_at nv handle offset size) (λ fault. fault ≡ PastData)
unfolding read_at
read_within nv handle offset size index there unlocked written =
    rw (there, unlocked, written)
    (only_if (nat_lt index.public.data_size (offset + size)) PastData _)

pub reading_within : (r : Record) (q : Request) (offset size : ℕ)
    → IfOk (target_of r q) (λ target. reading_passes target ≡ Ok tt
    → IfErr (read_at r.nv target.handle offset size) (λ fault. fault ≡ PastData))
reading_within r q offset size = ok_where _ (target_of r q) (λ target is passes.
    let index = target_is r q target is in
    let a1 = bind_ok (refused_if (not (may_read target)) _) _ tt passes in
    let a2 = bind_ok (refused_if (has target.attributes attribute.ReadLocked) _) _ tt a1.2 in
    let unlocked : has target.attributes attribute.ReadLocked ≡ false = passed _ _ a2.0 a2.1 in
    let written : has target.attributes attribute.Written ≡ true =
    not-false _ (passed _ _ tt a2.2) in
    read_within r.nv target.handle offset size index.0 index.1
    (subst (λ (a : NvAttributes). has a attribute.ReadLocked ≡ false) index.2 unlocked)
    (subst (λ (a : NvAttributes). has a attribute.Written ≡ true) index.2 written))
