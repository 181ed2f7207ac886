-- TPM2_PolicyNV compares exactly as many bytes of the index's data as operandB has.
use Rattle.std.proofs.Common.{◌≡◌, ℕ, ◌+◌, ◌≤◌, Bool, true, false, List, [], ◌∷◌, length, take, drop, Option, Some, Result, Ok, Err, IfOk, ap, arith, refl, subst, ◌∙◌}
use Rattle.std.specs.Prelude.{◌==◌, nat_lt, not, if◌then◌else◌}
use Rattle.std.proofs.lemmas.Bool.{ltb-false}
use Rattle.std.proofs.lemmas.List.{length-drop, length-take}
use Rattle.tpm_bytes.proofs.Fields.{bind_ok, ok_is, ok_or_ok, or_fault_ok, passed}
use Rattle.tpm_bytes.specs.Reading.{refused_if}
use Rattle.tpm_containers.specs.SortedMap.{Entries, at_key}
use Rattle.tpm_types_common.specs.declared.handle.Handle.{Handle}
use Rattle.tpm_types_nv.specs.NvAttributes.{has}
use Rattle.tpm_types_nv.specs.declared.nv_attributes.NvAttribute.TheVariants as attribute
use Rattle.tpm_nv.specs.Access.{index_has, index_or_fault, read_at, readable}
use Rattle.tpm_nv.specs.Index.{NvContents, NvIndex, index_at}
use Rattle.tpm_nv.specs.IsContents.{AreIndices, IsContents, IsIndex}
use Rattle.tpm_nv.specs.declared.fault.ReadFault.TheVariants as fault
use Rattle.tpm_record.specs.Record.{Record}
use Rattle.tpm_record.specs.rows.Target.{reading_passes}
use Rattle.tpm_record.specs.declared.rows.target.Target.{Target}
use Rattle.tpm_actions_policy.specs.PolicyNv.{Parameters, compared}

-- the data of an index has the size stated in its public area, or is empty if the index is not
-- written
abbrev HasItsSize : NvIndex → Type 0
HasItsSize index =
    length index.bytes ≡ (if has index.public.attributes attribute.Written
    then index.public.data_size else 0)

sized_by : (e : ℕ × NvIndex) (others : Option NvIndex) (index : NvIndex) (is_first : Bool)
    → IsIndex e.0 e.1 → (others ≡ Some index → HasItsSize index)
    → (if is_first then Some e.1 else others) ≡ Some index → HasItsSize index
sized_by e others index true is rest found =
    let same : e.1 ≡ index = cc in
    subst HasItsSize same is.data_size
sized_by e others index false is rest found = rest found

found_sized : (es : Entries NvIndex) (key : ℕ) (index : NvIndex)
    → AreIndices es → at_key es key ≡ Some index → HasItsSize index
found_sized [] key index are found = absurd cc
found_sized (e ∷ es) key index are found =
    sized_by e (at_key es key) index (e.0 == key) are.0 (found_sized es key index are.1) found

written_of : (index : NvIndex) (done : Unit {0}) → readable index ≡ Ok done
    → has index.public.attributes attribute.Written ≡ true
written_of index done is =
    let unlocked = bind_ok (refused_if (index_has index attribute.ReadLocked) fault.Locked) _ done
    is in
    let unwritten : not (index_has index attribute.Written) ≡ false =
    passed _ fault.Uninitialized done unlocked.2 in
    not_false _ unwritten
  where
    not_false : (b : Bool) → not b ≡ false → b ≡ true
    not_false true e = refl
    not_false false e = absurd cc

piece_whole : (start size : ℕ) (bytes : List ℕ) → start + size ≤ length bytes
    → length (take size (drop start bytes)) ≡ size
piece_whole start size bytes inside =
    omega (arith, length-take size (drop start bytes), length-drop start bytes)

read_whole : (contents : NvContents) (handle : Handle) (offset size : ℕ) (bytes : List ℕ)
    → IsContents contents → read_at contents handle offset size ≡ Ok bytes → length bytes ≡ size
unfolding read_at
read_whole contents handle offset size bytes is read =
    let index = bind_ok (index_or_fault contents handle fault.Undefined) _ bytes read in
    let there = bind_ok (readable index.0) _ bytes index.2 in
    let inside =
    bind_ok (refused_if (nat_lt index.0.public.data_size (offset + size)) fault.PastData) _
    bytes there.2 in
    let fits : offset + size ≤ index.0.public.data_size =
    ltb-false _ _ (passed _ fault.PastData inside.0 inside.1) in
    let found : index_at contents handle ≡ Some index.0 =
    ok_or_ok (index_at contents handle) fault.Undefined index.0 index.1 in
    let sized : HasItsSize index.0 =
    found_sized contents.indices handle.number index.0 is.indices found in
    let written = written_of index.0 there.0 there.1 in
    let whole : length index.0.bytes ≡ index.0.public.data_size =
    sized ∙ ap (λ (w : Bool). if w then index.0.public.data_size else 0) written in
    subst (λ (l : List ℕ). length l ≡ size) (ok_is _ _ inside.2)
    (piece_whole offset size index.0.bytes (omega (arith, fits, whole)))

ok_where : {A E : Type 0} (P : A → Type 0) (x : Result A E) → ((a : A) → x ≡ Ok a → P a) → IfOk x P
ok_where P (Ok a) h = h a refl
ok_where P (Err e) h = tt

pub compared_whole : (r : Record) (target : Target) (p : Parameters) → IsContents r.nv
    → IfOk (compared r target p) (λ bytes. length bytes ≡ length p.operand)
compared_whole r target p is = ok_where _ (compared r target p) (λ bytes found.
    let checked = bind_ok (reading_passes target) _ bytes found in
    read_whole r.nv target.handle p.offset (length p.operand) bytes is
    (or_fault_ok (read_at r.nv target.handle p.offset (length p.operand)) _ bytes checked.2))
