-- A row has the same effect on the NV counters of a device as on those of the history.
use Rattle.std.proofs.Common.{arith, ◌≡◌, ℕ, zero, suc, ◌+◌, ◌<◌, ◌^◌, Bool, true, false, cond, List, [], ◌∷◌, get_or, Option, Some, None, IfOk, refl, sym, ap, subst, ◌∙◌, inl, inr}
use Rattle.std.specs.Prelude.{◌&&◌, max, ◌==◌}
use Rattle.std.specs.Int.{w64, from_be_bytes, to_be_bytes}
use Rattle.std.specs.List.{list_any}
use Rattle.std.proofs.lemmas.Bool.{false≢true, cond_both, cond-false, cond-true, or_parts}
use Rattle.std.proofs.lemmas.Bool.Decides.{nat_tests}
use Rattle.std.proofs.lemmas.Nat.{from_be_bytes-to_be_bytes_8}
use Rattle.tpm_containers.specs.SortedMap.{Ascends}
use Rattle.tpm_types_common.specs.declared.handle.Handle.{Handle}
use Rattle.tpm_commands.specs.declared.command_code.CommandCode.{CommandCode}
use Rattle.tpm_commands.specs.declared.command_code.CommandCode.TheVariants as command
use Rattle.tpm_types_nv.proofs.AttributeLaws.{are_attributes}
use Rattle.tpm_types_nv.specs.NvAttributes.{attribute_bit, has, index_type, is_of, type_number, without_attribute}
use Rattle.tpm_types_nv.specs.NvType.{nv_type_named}
use Rattle.tpm_types_nv.specs.declared.nv_attributes.NvAttribute.{NvAttribute}
use Rattle.tpm_types_nv.specs.declared.nv_attributes.NvAttribute.TheVariants as attribute
use Rattle.tpm_types_nv.specs.declared.nv_attributes.NvAttributes.{NvAttributes}
use Rattle.tpm_types_nv.specs.declared.nv_type.NvType.TheVariants as type
use Rattle.tpm_nv.proofs.DefinitionLaws.{unwritten_is}
use Rattle.tpm_nv.specs.Access.{contents_after_count, contents_after_increment, index_has, number_or, with_data}
use Rattle.tpm_nv.specs.Clear.{contents_after_clear}
use Rattle.tpm_nv.specs.Definition.{defined_index, index_attribute_conflicts}
use Rattle.tpm_nv.specs.Index.{NvContents, NvIndex, changed_index, index_at, with_index, without_index}
use Rattle.tpm_nv.specs.Startup.{contents_after_startup, kept_written, started_attributes, started_index, unlocked}
use Rattle.tpm_record.specs.Record.{Record}
use Rattle.tpm_record.specs.rows.Request.{Request, second_handle}
use Rattle.tpm_step.specs.step.Table.{row_of}
use Rattle.tpm_step.proofs.rows.Binding.{ok_at, ok_weaker}
use Rattle.tpm_step.proofs.rows.Table.{row_changes}
use Rattle.tpm_step.specs.rows.Footprint.{StartsNv}
use Rattle.tpm_commands.specs.Part.{Part, NvData, NvCounter, NvAuthValue, NvDefined, NvUndefined, Beginning}
use Rattle.tpm_commands.specs.Part.{Cleared}
use Rattle.tpm_commands.specs.CommandCode.{part_of}
use Rattle.tpm_step.specs.rows.IndexChanges.{ChangesAuth, ChangesIndices, Defines, Increments, IsCounter, KeepsCount}
use Rattle.tpm_step.specs.rows.IndexChanges.{Undefines, Writes, stored_count}
use Rattle.tpm_step.specs.history.Counters.{Counters, begun_at, counted_at, counters_by, defined_handle, largest_of, next_count}
use Rattle.tpm_step.specs.history.DeviceCounters.{AreCounted, IsCounted}
use Rattle.tpm_step.specs.history.HandleMap.{by_handle, with_at}
use Rattle.tpm_step.proofs.history.HandleMap.{at_other, at_same}
use Rattle.tpm_step.proofs.history.IndexChanges.{CountsUp, incremented_counts}
use Rattle.tpm_step.proofs.history.Indices.{OthersStay, changed_each, cleared_each, defined_each, removed_each, started_each}

-- If the index at this handle is a counter, its value is the value that `at` has for the handle,
-- and no startup clears the index.
abbrev Counts : (Handle → Option ℕ) → Handle → NvIndex → Type 0
Counts at handle index = IsCounter index → IsCounted index (at handle)

others_count : (handle : Handle) (count : Option ℕ) (at : Handle → Option ℕ)
    → OthersStay (Counts at) (Counts (with_at handle count at)) handle
others_count handle count at other index apart counts counter =
    let was = counts counter in
    record { stays = was.stays; value = was.value ∙ sym (at_other handle other count at apart) }

same_counted : (old new : NvContents) (c : Counters) → new ≡ old → AreCounted old c
    → AreCounted new c
same_counted old new c same are = subst (λ (nv : NvContents). AreCounted nv c) (sym same) are

-- ---- changing an index

changed_counted : (contents : NvContents) (handle : Handle) (old new : NvIndex) (c : Counters)
    → index_at contents handle ≡ Some old → KeepsCount old new → AreCounted contents c
    → AreCounted (changed_index contents handle new) c
changed_counted contents handle old new c found keeps are = record {
  most = are.most;
  each = changed_each (Counts c.at) (Counts c.at) contents handle old new found here
      (λ other index apart was. was) are.each;
}
  where
    here : Counts c.at handle new
    here counter =
        let kept = keeps counter in
        let was = are.each handle old found kept.0 in
        record { stays = kept.2 ∙ was.stays; value = kept.1 ∙ was.value }

writes_counted : (old new : NvContents) (c : Counters) → Writes old new → AreCounted old c
    → AreCounted new c
writes_counted old new c made are =
    same_counted (changed_index old made.handle made.after) new c made.is
    (changed_counted old made.handle made.before made.after c made.found made.count are)

auth_counted : (old new : NvContents) (c : Counters) → ChangesAuth old new → AreCounted old c
    → AreCounted new c
auth_counted old new c made are =
    same_counted (changed_index old made.handle (record made.index { auth_value = made.value })) new
    c made.is
    (changed_counted old made.handle made.index (record made.index { auth_value = made.value }) c
    made.found (λ counter. (counter, refl, refl)) are)

-- ---- incrementing a counter

-- The next value of a counter is one more than the counter's value. If the counter has no value,
-- its next value is one more than `most`, the largest value.
next_by : (b : Bool) (most n : ℕ) → next_count most (cond b (Some n) None) ≡ cond b n most + 1
next_by true most n = refl
next_by false most n = refl

counter_counted : (contents : NvContents) (handle : Handle) (old : NvIndex) (n : ℕ) (c : Counters)
    → index_at contents handle ≡ Some old → IsCounter old → n ≡ number_or contents.max_count old + 1
    → n < 2 ^ 64 → AreCounted contents c
    → AreCounted
    (contents_after_count (changed_index contents handle (with_data old (to_be_bytes w64 n))) n)
    (counted_at handle c)
counter_counted contents handle old n c found counter is small are = record {
  most = ap (λ m. max m n) are.most ∙ ap (λ m. max (largest_of c.all) m) next;
  each = changed_each (Counts c.at) (Counts (with_at handle count c.at)) contents handle old new
      found here (others_count handle count c.at) are.each;
}
  where
    new : NvIndex
    new = with_data old (to_be_bytes w64 n)

    count : Option ℕ
    count = Some (next_count (largest_of c.all) (c.at handle))

    was : IsCounted old (c.at handle)
    was = are.each handle old found counter

    next : n ≡ next_count (largest_of c.all) (c.at handle)
    next =
        is
        ∙ sym (next_by (index_has old attribute.Written) contents.max_count
        (from_be_bytes w64 old.bytes))
        ∙ ap (λ o. next_count contents.max_count o) was.value
        ∙ ap (λ m. next_count m (c.at handle)) are.most

    here : Counts (with_at handle count c.at) handle new
    here _ = record {
      stays = are_attributes.set_others old.public.attributes attribute.Written
          attribute.ClearStClear (λ same. omega arith) ∙ was.stays;
      value =
          cond-true _ _ _ (are_attributes.set_there old.public.attributes attribute.Written)
          ∙ ap (λ m. let o : Option ℕ = Some m in o) (from_be_bytes-to_be_bytes_8 n small ∙ next)
          ∙ sym (at_same handle handle count c.at refl);
    }

increment_counted : (q : Request) (old new : NvContents) (c : Counters) → Increments q old new
    → AreCounted old c → AreCounted new (by_handle (second_handle q.handles) counted_at c)
increment_counted q old new c made are =
    let up = ok_at (CountsUp made.handle old) (contents_after_increment old made.handle) new
    (incremented_counts old made.handle) made.is in
    let n : ℕ = number_or old.max_count up.index + 1 in
    rw made.named
    (same_counted
    (contents_after_count
    (changed_index old made.handle (with_data up.index (to_be_bytes w64 n))) n) new
    (counted_at made.handle c) up.is
    (counter_counted old made.handle up.index n c up.found up.counter refl up.small are))

-- ---- defining or removing an index

counter_number : (n : ℕ) → nv_type_named n ≡ Some type.Counter → (n == 1) ≡ true
counter_number n is = grind (arith, nat_tests)

none_in : (tests : List Bool) (n : ℕ) → list_any (λ wrong. wrong) tests ≡ false
    → get_or tests n false ≡ false
none_in [] n none = refl
none_in (test ∷ tests) zero none = (or_parts test (list_any (λ wrong. wrong) tests) none).0
none_in (test ∷ tests) (suc n) none =
    none_in tests n (or_parts test (list_any (λ wrong. wrong) tests) none).1

-- TPM2_NV_DefineSpace refuses counters with TPMA_NV_CLEAR_STCLEAR.
stays_is : (by_platform : Bool) (a : NvAttributes)
    → list_any (λ wrong. wrong) (index_attribute_conflicts by_platform a) ≡ false
    → index_type a ≡ Some type.Counter → has a attribute.ClearStClear ≡ false
stays_is by_platform a passes counter =
    let fifth : (is_of a type.Counter && has a attribute.ClearStClear) ≡ false =
    none_in (index_attribute_conflicts by_platform a) 4 passes in
    rw (counter_number (type_number a) counter) at fifth

definition_counted : (q : Request) (old new : NvContents) (c : Counters) → Defines q old new
    → AreCounted old c → AreCounted new (by_handle (defined_handle q.parameters) begun_at c)
definition_counted q old new c made are =
    rw made.read
    (same_counted (with_index old handle index) new (begun_at handle c) made.is (record {
      most = are.most;
      each = defined_each (Counts c.at) (Counts (with_at handle None c.at)) old handle index
          made.free here (others_count handle None c.at) are.each;
    }))
  where
    handle : Handle
    handle = made.parameters.public.nv_index

    index : NvIndex
    index = defined_index made.parameters.public made.parameters.auth_value

    here : Counts (with_at handle None c.at) handle index
    here counter = record {
      stays = stays_is made.by_platform made.parameters.public.attributes made.passes counter;
      value =
          cond-false _ _ _
          (unwritten_is made.by_platform made.parameters.public.attributes made.passes)
          ∙ sym (at_same handle handle None c.at refl);
    }

removal_counted : (q : Request) (old new : NvContents) (c : Counters) → Ascends old.indices
    → Undefines q old new → AreCounted old c → AreCounted new c
removal_counted q old new c up made are =
    same_counted (without_index old made.handle) new c made.is
    (record { most = are.most; each = removed_each (Counts c.at) old made.handle up are.each })

clear_counted : (contents : NvContents) (c : Counters) → Ascends contents.indices
    → AreCounted contents c → AreCounted (contents_after_clear contents) c
unfolding contents_after_clear
clear_counted contents c up are =
    record { most = are.most; each = cleared_each (Counts c.at) contents up are.each }

-- ---- the effect of a startup

-- Two sets of attributes agree on WRITTEN, CLEAR_STCLEAR and the index type.
abbrev Alike : NvAttributes → NvAttributes → Type 0
Alike a b = (index_type b ≡ index_type a) × (has b attribute.Written ≡ has a attribute.Written)
    × (has b attribute.ClearStClear ≡ has a attribute.ClearStClear)

without_alike : (a b : NvAttributes) (one : NvAttribute)
    → (attribute_bit attribute.Written ≡ attribute_bit one → ⊥)
    → (attribute_bit attribute.ClearStClear ≡ attribute_bit one → ⊥) → Alike a b
    → Alike a (without_attribute b one)
without_alike a b one written clears alike = (
  are_attributes.cleared_type b one ∙ alike.0,
  are_attributes.cleared_others b one attribute.Written written ∙ alike.1,
  are_attributes.cleared_others b one attribute.ClearStClear clears ∙ alike.2,
)

unlocked_alike : (a : NvAttributes) → Alike a (unlocked a)
unlocked_alike a =
    let to_read = without_attribute a attribute.ReadLocked in
    let first = without_alike a a attribute.ReadLocked (λ same. omega arith) (λ same. omega arith)
    (refl, refl, refl) in
    cond_both (has a attribute.WriteDefine && has a attribute.Written) to_read
    (without_attribute to_read attribute.WriteLocked) (Alike a)
    (λ _. first)
    (λ _. without_alike a to_read attribute.WriteLocked (λ same. omega arith) (λ same. omega arith)
    first)

started_type : (a : NvAttributes) → index_type (started_attributes a) ≡ index_type a
started_type a =
    (unlocked_alike (kept_written a)).0
    ∙ cond_both (has a attribute.ClearStClear) (without_attribute a attribute.Written) a
    (λ b. index_type b ≡ index_type a) (λ _. are_attributes.cleared_type a attribute.Written)
    (λ _. refl)

-- a startup keeps the value of a counter without CLEAR_STCLEAR
startup_keeps : (index : NvIndex) → index_has index attribute.ClearStClear ≡ false
    → (stored_count (started_index index) ≡ stored_count index)
    × (index_has (started_index index) attribute.ClearStClear ≡ false)
startup_keeps index stays =
    let a = index.public.attributes in
    let alike = unlocked_alike a in
    (rw (stays, alike.1) (twice (has a attribute.Written) index.bytes), rw stays (alike.2 ∙ stays))
  where
    twice : (b : Bool) (bytes : List ℕ)
        → cond b (let o : Option ℕ = Some (from_be_bytes w64 (cond b bytes [])) in o) None
        ≡ cond b (Some (from_be_bytes w64 bytes)) None
    twice true bytes = refl
    twice false bytes = refl

startup_counted : (contents : NvContents) (c : Counters) → AreCounted contents c
    → AreCounted (contents_after_startup contents) c
unfolding contents_after_startup
startup_counted contents c are =
    record {
      most = are.most;
      each =
          started_each (Counts c.at) (Counts c.at) starts contents are.each;
    }
  where
    starts : (handle : Handle) (index : NvIndex) → Counts c.at handle index
        → Counts c.at handle (started_index index)
    starts handle index counts counter =
        let was = counts (sym (started_type index.public.attributes) ∙ counter) in
        let kept = startup_keeps index was.stays in
        record { stays = kept.1; value = kept.0 ∙ was.value }

starts_counted : (old new : NvContents) (c : Counters) → StartsNv old new → AreCounted old c
    → AreCounted new c
starts_counted old new c (inl same) are = same_counted old new c same are
starts_counted old new c (inr starts) are =
    same_counted (contents_after_startup old) new c starts (startup_counted old c are)

-- ---- the rows of all commands

-- whether a command that changes only this part of the state leaves all counters unchanged
abbrev keeps_counters : Part → Bool
keeps_counters NvCounter = false
keeps_counters NvDefined = false
keeps_counters _ = true

part_counted : (p : Part) (q : Request) (old new : NvContents) (c : Counters)
    → keeps_counters p ≡ true → Ascends old.indices → ChangesIndices p q old new → AreCounted old c
    → AreCounted new c
part_counted NvCounter q old new c keeps up changes are = absurd (false≢true keeps)
part_counted NvDefined q old new c keeps up changes are = absurd (false≢true keeps)
part_counted NvData q old new c keeps up changes are = writes_counted old new c changes are
part_counted NvAuthValue q old new c keeps up changes are = auth_counted old new c changes are
part_counted NvUndefined q old new c keeps up changes are =
    removal_counted q old new c up changes are
part_counted Beginning q old new c keeps up changes are = starts_counted old new c changes are
part_counted Cleared q old new c keeps up changes are =
    same_counted (contents_after_clear old) new c changes (clear_counted old c up are)
part_counted _ q old new c keeps up changes are = same_counted old new c changes are

keeping_row : (r : Record) (code : CommandCode) (q : Request) (c : Counters)
    → keeps_counters (part_of code) ≡ true → Ascends r.nv.indices → AreCounted r.nv c
    → IfOk (row_of r code q) (λ s. AreCounted s.after.nv c)
keeping_row r code q c keeps up are =
    ok_weaker _ _ (row_of r code q) (row_changes r code q)
    (λ s changes. part_counted (part_of code) q r.nv s.after.nv c keeps up changes are)

pub row_counts : (r : Record) (code : CommandCode) (q : Request) (c : Counters)
    → Ascends r.nv.indices → AreCounted r.nv c
    → IfOk (row_of r code q) (λ s. AreCounted s.after.nv (counters_by code q c))
row_counts r command.NvIncrement q c up are =
    ok_weaker _ _ (row_of r command.NvIncrement q) (row_changes r command.NvIncrement q)
    (λ s made. increment_counted q r.nv s.after.nv c made are)
row_counts r command.NvDefineSpace q c up are =
    ok_weaker _ _ (row_of r command.NvDefineSpace q) (row_changes r command.NvDefineSpace q)
    (λ s made. definition_counted q r.nv s.after.nv c made are)
row_counts r _ q c up are = keeping_row r _ q c refl up are
