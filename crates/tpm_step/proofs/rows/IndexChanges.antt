-- Each command changes the NV indices only as `ChangesIndices` allows.
use Rattle.std.specs.Int.{from_be_bytes, to_be_bytes, w64}
use Rattle.std.specs.List.{list_any}
use Rattle.std.specs.Prelude.{◌&&◌, ◌==◌, ◌||◌, bit_or, is_some, nat_lt, not}
use Rattle.std.proofs.Common.{◌++◌, ◌+◌, ◌∙◌, ◌≡◌, ◌≢◌, Bool, Err, IfOk, List, None, Ok, Option}
use Rattle.std.proofs.Common.{Result, Some, ap, arith, cond, false, length, refl, rules, sym, true}
use Rattle.std.proofs.Common.{ℕ}
use Rattle.std.proofs.lemmas.Bool.{eqb-true, false≢true}
use Rattle.tpm_bytes.specs.Reading.{refused_if}
use Rattle.tpm_bytes.proofs.Fields.{passed}
use Rattle.tpm_mac.specs.Digest.{digest_size, hash_of}
use Rattle.tpm_types_common.specs.Algorithm.{is_policy_size}
use Rattle.tpm_types_common.specs.declared.handle.Handle.{Handle}
use Rattle.tpm_types_common.specs.declared.refused.Refused.{Refused}
use Rattle.tpm_types_nv.specs.NvAttributes.{attribute_bit, index_type}
use Rattle.tpm_types_nv.specs.declared.nv_attributes.NvAttribute.{NvAttribute}
use Rattle.tpm_types_nv.specs.declared.nv_attributes.NvAttribute.TheVariants as attribute
use Rattle.tpm_types_nv.specs.declared.nv_attributes.NvAttributes.{NvAttributes}
use Rattle.tpm_types_nv.specs.declared.nv_public.NvPublic.{NvPublic}
use Rattle.tpm_types_nv.specs.declared.nv_type.NvType.{NvType}
use Rattle.tpm_types_nv.specs.declared.nv_type.NvType.TheVariants as type
use Rattle.tpm_types_nv.proofs.AttributeLaws.{are_attributes}
use Rattle.tpm_containers.proofs.SortedMapLaws.{changed_length}
use Rattle.tpm_nv.specs.Access.{bits_set, contents_after_extend, contents_after_increment, data_or, index_has, index_or_fault}
use Rattle.tpm_nv.specs.Access.{marked_index, number_or, read_locked, with_auth_value, with_data}
use Rattle.tpm_nv.specs.Access.{contents_after_write, undefined_fault, writable, write_locked}
use Rattle.tpm_nv.specs.Bytes.{put_over}
use Rattle.tpm_nv.specs.Definition.{definition_passes, has_type_size, index_attribute_conflicts}
use Rattle.tpm_nv.specs.Index.{NvContents, NvIndex, changed_index}
use Rattle.tpm_nv.specs.declared.definition.DefinitionFault.{DefinitionFault}
use Rattle.tpm_nv.specs.declared.definition.DefinitionFault.TheVariants as fault
use Rattle.tpm_nv.specs.declared.fault.LockFault.TheVariants as lock_fault
use Rattle.tpm_nv.specs.declared.fault.WriteFault.{WriteFault}
use Rattle.tpm_nv.specs.declared.fault.WriteFault.TheVariants as write_fault
use Rattle.tpm_nv.proofs.KeptLaws.{type_of_writable}
use Rattle.tpm_record.specs.Record.{Record}
use Rattle.tpm_record.specs.rows.Refusals.{or_refusal}
use Rattle.tpm_record.specs.rows.Request.{Request, first_handle, second_handle}
use Rattle.tpm_record.specs.rows.Target.{attributes_of, target_of}
use Rattle.tpm_nvactions.specs.NvDefineSpace.{definition_refusal}
use Rattle.tpm_commands.specs.Part.{NvAuthValue, NvCounter, NvData, Part}
use Rattle.tpm_step.specs.rows.IndexChanges.{ChangesAuth, ChangesIndices, HasNoConflict}
use Rattle.tpm_step.specs.rows.IndexChanges.{Increments, Writes}
use Rattle.tpm_step.proofs.rows.Binding.{ok_at, ok_bind, ok_bind_is, some_is}
use Rattle.tpm_step.proofs.rows.Parts.{SameCount}

-- ---- writing or locking an index

-- an index that a command may write has the type that the command writes
pub writable_type : (t : NvType) (index : NvIndex) → writable t index ≡ Ok tt
    → index_type index.public.attributes ≡ Some t
writable_type type.Ordinary index may =
    rw (eqb-true _ 0 (type_of_writable type.Ordinary index may)) refl
writable_type type.Counter index may =
    rw (eqb-true _ 1 (type_of_writable type.Counter index may)) refl
writable_type type.Bits index may = rw (eqb-true _ 2 (type_of_writable type.Bits index may)) refl
writable_type type.Extend index may =
    rw (eqb-true _ 4 (type_of_writable type.Extend index may)) refl

-- writing data to an index that is not a counter satisfies `Writes`
writes_data : (contents : NvContents) (handle : Handle) (index : NvIndex) (t : NvType)
    (bytes : List ℕ) → index_or_fault contents handle write_fault.Undefined ≡ Ok index
    → writable t index ≡ Ok tt
    → (let some : Option NvType = Some t in some ≡ Some type.Counter → ⊥)
    → Writes contents (changed_index contents handle (with_data index bytes))
writes_data contents handle index t bytes is may other = record {
  handle = handle;
  before = index;
  after = with_data index bytes;
  found = some_is _ _ index is;
  count =
      λ counter. absurd
      (other (sym (writable_type t index may)
      ∙ sym (are_attributes.set_type index.public.attributes attribute.Written) ∙ counter));
  auth_value = refl;
  is = refl;
}

-- setting an attribute other than WRITTEN and CLEAR_STCLEAR satisfies `Writes`
marks : (contents : NvContents) (handle : Handle) (index : NvIndex) (one : NvAttribute)
    → index_or_fault contents handle lock_fault.Undefined ≡ Ok index
    → attribute_bit attribute.Written ≢ attribute_bit one
    → attribute_bit attribute.ClearStClear ≢ attribute_bit one
    → Writes contents (changed_index contents handle (marked_index index one))
marks contents handle index one is written clears = record {
  handle = handle;
  before = index;
  after = marked_index index one;
  found = some_is _ _ index is;
  count = λ counter. (
    sym (are_attributes.set_type a one) ∙ counter,
    ap (λ (b : Bool). cond b (Some (from_be_bytes w64 index.bytes)) None)
        (are_attributes.set_others a one attribute.Written written),
    are_attributes.set_others a one attribute.ClearStClear clears,
  );
  auth_value = refl;
  is = refl;
}
  where
    a : NvAttributes
    a = index.public.attributes

pub written_writes : (contents : NvContents) (handle : Handle) (offset : ℕ) (bytes : List ℕ)
    → IfOk (contents_after_write contents handle offset bytes) (Writes contents)
unfolding contents_after_write
written_writes contents handle offset bytes =
    ok_bind_is _ (index_or_fault contents handle write_fault.Undefined) _ (λ index is.
    ok_bind_is _ (writable type.Ordinary index) _ (λ ordinary may.
    ok_bind _ (refused_if (nat_lt index.public.data_size (offset + length bytes))
    write_fault.PastData) _ (λ inside.
    ok_bind _
    (refused_if (index_has index attribute.WriteAll
    && not (length bytes == index.public.data_size)) write_fault.Partial) _ (λ whole.
    writes_data contents handle index type.Ordinary (put_over offset bytes (data_or 0xff index)) is
    may (λ same. cc)))))

pub bits_write : (contents : NvContents) (handle : Handle) (bits : ℕ)
    → IfOk (bits_set contents handle bits) (Writes contents)
unfolding bits_set
bits_write contents handle bits =
    ok_bind_is _ (index_or_fault contents handle write_fault.Undefined) _ (λ index is.
    ok_bind_is _ (writable type.Bits index) _ (λ field may.
    writes_data contents handle index type.Bits (to_be_bytes w64 (bit_or (number_or 0 index) bits))
    is may (λ same. cc)))

pub extended_writes : (contents : NvContents) (handle : Handle) (bytes : List ℕ)
    → IfOk (contents_after_extend contents handle bytes) (Writes contents)
unfolding contents_after_extend
extended_writes contents handle bytes =
    ok_bind_is _ (index_or_fault contents handle write_fault.Undefined) _ (λ index is.
    ok_bind_is _ (writable type.Extend index) _ (λ extendable may.
    writes_data contents handle index type.Extend
    (hash_of index.public.name_alg (data_or 0 index ++ bytes)) is may (λ same. cc)))

pub write_locked_writes : (contents : NvContents) (handle : Handle)
    → IfOk (write_locked contents handle) (Writes contents)
unfolding write_locked
write_locked_writes contents handle =
    ok_bind_is _ (index_or_fault contents handle lock_fault.Undefined) _ (λ index is.
    ok_bind _
    (refused_if
    (not (index_has index attribute.WriteDefine || index_has index attribute.WriteStClear))
    lock_fault.Attributes) _ (λ lockable.
    marks contents handle index attribute.WriteLocked is (λ same. omega arith)
    (λ same. omega arith)))

pub read_locked_writes : (contents : NvContents) (handle : Handle)
    → IfOk (read_locked contents handle) (Writes contents)
unfolding read_locked
read_locked_writes contents handle =
    ok_bind_is _ (index_or_fault contents handle lock_fault.Undefined) _ (λ index is.
    ok_bind _ (refused_if (not (index_has index attribute.ReadStClear)) lock_fault.Attributes) _
    (λ lockable.
    marks contents handle index attribute.ReadLocked is (λ same. omega arith)
    (λ same. omega arith)))

-- ---- incrementing a counter, and changing the authorization value of an index

pub counts_so : (q : Request) (contents : NvContents) (handle : Handle)
    → second_handle q.handles ≡ Ok handle
    → IfOk (contents_after_increment contents handle) (Increments q contents)
counts_so q contents handle named = by (contents_after_increment contents handle) refl
  where
    by : (x : Result NvContents WriteFault) → contents_after_increment contents handle ≡ x
        → IfOk x (Increments q contents)
    by (Ok new) is = record { handle = handle; named = named; is = is }
    by (Err fault) is = tt

pub auth_changes : (contents : NvContents) (handle : Handle) (value : List ℕ)
    → IfOk (with_auth_value contents handle value) (ChangesAuth contents)
unfolding with_auth_value
auth_changes contents handle value =
    ok_bind_is _ (index_or_fault contents handle undefined_fault) _ (λ index is.
    record {
      handle = handle;
      index = index;
      value = value;
      found = some_is _ _ index is;
      is =
          refl;
    })

-- ---- the number of indices

-- whether a command that changes only this part of the state leaves the number of NV indices
-- unchanged
abbrev pub keeps_count : Part → Bool
keeps_count NvData = true
keeps_count NvCounter = true
keeps_count NvAuthValue = true
keeps_count _ = false

changed_count : (old new : NvContents) (handle : Handle) (index : NvIndex)
    → new ≡ changed_index old handle index → SameCount old new
changed_count old new handle index is =
    ap (λ (nv : NvContents). length nv.indices) is ∙ changed_length old.indices handle.number index

incremented_count : (nv : NvContents) (h : Handle)
    → IfOk (contents_after_increment nv h) (SameCount nv)
unfolding contents_after_increment
incremented_count nv h = search (rules, ok_bind, changed_length)

pub same_count : (p : Part) (q : Request) (old new : NvContents) → keeps_count p ≡ true
    → ChangesIndices p q old new → SameCount old new
same_count NvData q old new keeps changes =
    changed_count old new changes.handle changes.after changes.is
same_count NvCounter q old new keeps changes =
    ok_at (SameCount old) (contents_after_increment old changes.handle) new
    (incremented_count old changes.handle) changes.is
same_count NvAuthValue q old new keeps changes =
    changed_count old new changes.handle (record changes.index { auth_value = changes.value })
    changes.is
same_count _ q old new keeps changes = absurd (false≢true keeps)

-- ---- defining or removing an index

-- a row uses the index that the second handle names
pub target_names : (r : Record) (q : Request)
    → IfOk (target_of r q) (λ t. second_handle q.handles ≡ Ok t.handle)
target_names r q =
    ok_bind _ (first_handle q.handles) _ (λ authority.
    ok_bind_is _ (second_handle q.handles) _ (λ handle is.
    ok_bind _ (attributes_of r handle) _ (λ attributes. is)))

ok_or_refusal : {X F : Type 0} (P : X → Type 0) (refusal : F → Refused) (x : Result X F) → IfOk x P
    → IfOk (or_refusal refusal x) P
ok_or_refusal P refusal (Ok x) holds = holds
ok_or_refusal P refusal (Err fault) holds = tt

pub none_is : (o : Option NvIndex) → is_some o ≡ false → o ≡ None
none_is None is = refl
none_is (Some index) is = absurd (false≢true (sym is))

-- the attributes of an index that passes the checks of TPM2_NV_DefineSpace do not conflict
no_conflict : (by_platform : Bool) (p : NvPublic) (size : ℕ)
    → IfOk (definition_passes by_platform p size) (λ u. HasNoConflict by_platform p)
unfolding definition_passes
no_conflict by_platform p size =
    ok_bind _ (refused_if (nat_lt (digest_size p.name_alg) size) fault.AuthValueSize) _ (λ value.
    ok_bind _ (refused_if (not (is_policy_size p.name_alg (length p.auth_policy)))
    fault.AuthPolicySize) _ (λ policy.
    ok_bind_is _
    (refused_if (list_any (λ wrong. wrong) (index_attribute_conflicts by_platform p.attributes))
    fault.Attributes) _ (λ attributes is.
    whatever (refused_if (not (has_type_size p)) fault.DataSize) (passed _ _ attributes is))))
  where
    whatever : {X : Type 0} (x : Result (Unit {0}) DefinitionFault) → X → IfOk x (λ u. X)
    whatever (Ok u) holds = holds
    whatever (Err e) holds = tt

pub passes_so : (by_platform : Bool) (p : NvPublic) (size : ℕ)
    → IfOk (or_refusal definition_refusal (definition_passes by_platform p size))
    (λ u. HasNoConflict by_platform p)
passes_so by_platform p size =
    ok_or_refusal (λ u. HasNoConflict by_platform p) definition_refusal
    (definition_passes by_platform p size) (no_conflict by_platform p size)
