-- Decoding returns the head of a context exactly when the bytes begin with the head's encoding.
use Rattle.std.proofs.Common.{◌≡◌, ℕ, ◌^◌, ◌<◌, Bool, true, false, cond, Some, None, refl, sym, ap, ◌∙◌, arith}
use Rattle.std.specs.Prelude.{◌==◌, ◌&&◌}
use Rattle.std.specs.Int.{w32, w64, to_be_bytes}
use Rattle.std.proofs.lemmas.Bool.{eqb-true}
use Rattle.std.proofs.lemmas.Bool.Decides.{Decides-eqb}
use Rattle.tpm_bytes.specs.Reading.{number_at, or_fault}
use Rattle.tpm_bytes.proofs.Fields.{number_or_again, number_or_takes, wide32}
use Rattle.tpm_image_text.proofs.FieldSpelling.{names_spelled, three_texts, wide64}
use Rattle.tpm_object.specs.declared.object.Object.{Object}
use Rattle.tpm_types_common.proofs.Named.{link, none}
use Rattle.tpm_types_common.proofs.Spelled.{Spelled, all_read, first, respelled, then}
use Rattle.tpm_types_common.specs.Handle.{hierarchy_handle, hierarchy_of, numbered_handle}
use Rattle.tpm_types_common.specs.declared.handle.HierarchyHandle.{HierarchyHandle}
use Rattle.tpm_types_common.specs.declared.handle.HierarchyHandle.TheVariants as hierarchy
use Rattle.tpm_context.specs.Head.{head_at, head_of, head_text, hierarchy_at, is_null, is_of, is_of_sequence, is_sequence_head, saved_at, saved_named, saved_number, saved_of, sequence_head}
use Rattle.tpm_context.specs.declared.fault.ContextFault.TheVariants as fault
use Rattle.tpm_context.specs.declared.head.ContextHead.{ContextHead}
use Rattle.tpm_context.specs.declared.head.SavedHandle.{SavedHandle}
use Rattle.tpm_context.specs.declared.head.SavedHandle.TheVariants as saved

-- ---- the fields

sequence_spelled : Spelled (to_be_bytes w64) (λ n. n < 2 ^ 64)
    (λ text. or_fault (number_at w64 text) fault.Truncated)
sequence_spelled = record {
  taken = λ bytes x fits e. number_or_takes w64 (2 ^ 64) wide64 fault.Truncated bytes x fits e;
  again = λ x rest is. number_or_again w64 (2 ^ 64) wide64 fault.Truncated x rest is;
}

saved_is : (number : ℕ) (one : SavedHandle) → saved_named number ≡ Some one
    → number ≡ saved_number one
saved_is number one =
    link saved_number number saved.Ordinary _ one
    λ a. link saved_number number saved.Sequence _ a
    λ b. link saved_number number saved.StClear None b (none saved_number number)

saved_again : (one : SavedHandle) → saved_named (saved_number one) ≡ Some one
saved_again saved.Ordinary = refl
saved_again saved.Sequence = refl
saved_again saved.StClear = refl

pub saved_small : (one : SavedHandle) → saved_number one < 2 ^ 32
saved_small saved.Ordinary = omega arith
saved_small saved.Sequence = omega arith
saved_small saved.StClear = omega arith

saved_spelled : Spelled (λ one. to_be_bytes w32 (saved_number one)) (λ one. Unit {0}) saved_at
unfolding saved_at
saved_spelled = names_spelled w32 (2 ^ 32) wide32 saved_number saved_named fault.Truncated
    fault.SavedHandle saved_is saved_again saved_small

abbrev owner_number : HierarchyHandle → ℕ
owner_number owner = (hierarchy_handle owner).number

owner_is : (number : ℕ) (owner : HierarchyHandle)
    → hierarchy_of (numbered_handle number) ≡ Some owner → number ≡ owner_number owner
owner_is number owner =
    link owner_number number hierarchy.Owner _ owner
    λ a. link owner_number number hierarchy.Endorsement _ a
    λ b. link owner_number number hierarchy.Platform _ b
    λ c. link owner_number number hierarchy.Null None c (none owner_number number)

owner_again : (owner : HierarchyHandle) → hierarchy_of (numbered_handle (owner_number owner))
    ≡ Some owner
owner_again hierarchy.Owner = refl
owner_again hierarchy.Endorsement = refl
owner_again hierarchy.Platform = refl
owner_again hierarchy.Null = refl

owner_small : (owner : HierarchyHandle) → owner_number owner < 2 ^ 32
owner_small hierarchy.Owner = omega arith
owner_small hierarchy.Endorsement = omega arith
owner_small hierarchy.Platform = omega arith
owner_small hierarchy.Null = omega arith

hierarchy_spelled : Spelled (λ owner. to_be_bytes w32 (owner_number owner)) (λ owner. Unit {0})
    hierarchy_at
unfolding hierarchy_at
hierarchy_spelled = names_spelled w32 (2 ^ 32) wide32 owner_number
    (λ n. hierarchy_of (numbered_handle n)) fault.Truncated fault.Hierarchy owner_is owner_again
    owner_small

-- ---- the head

abbrev fields_of : ContextHead → (ℕ × SavedHandle) × HierarchyHandle
fields_of h = ((h.sequence, h.saved), h.hierarchy)

abbrev made_of : (ℕ × SavedHandle) × HierarchyHandle → ContextHead
made_of f = record { sequence = f.0.0; saved = f.0.1; hierarchy = f.1 }

pub head_spelled : Spelled head_text (λ h. h.sequence < 2 ^ 64) head_at
unfolding head_at
head_spelled =
    respelled
    (first sequence_spelled
    (then saved_spelled
    (then hierarchy_spelled (all_read fields_of made_of (λ _. refl) (λ _. refl)))))
    (λ h. three_texts (to_be_bytes w64 h.sequence) (to_be_bytes w32 (saved_number h.saved))
    (to_be_bytes w32 (owner_number h.hierarchy)))
    (λ h is. is.0)
    (λ h is. (is, (tt, (tt, tt))))

-- ---- objects that match a head

pub same_saved : (a b : SavedHandle) → saved_number a ≡ saved_number b → a ≡ b
same_saved a b same =
    let some : Some a ≡ Some b = sym (saved_again a) ∙ ap saved_named same ∙ saved_again b in
    cc

same_owner : (a b : HierarchyHandle) → owner_number a ≡ owner_number b → a ≡ b
same_owner a b same =
    let some : Some a ≡ Some b = sym (owner_again a)
    ∙ ap (λ (n : ℕ). hierarchy_of (numbered_handle n)) same ∙ owner_again b in
    cc

pub is_of_own : (sequence : ℕ) (o : Object) → is_of (head_of sequence o) o ≡ true
is_of_own sequence o =
    let owner = owner_number o.hierarchy in
    let number = saved_number (saved_of o.public) in
    rw ((Decides-eqb owner owner).1 refl, (Decides-eqb number number).1 refl) refl

-- if an object matches a head, the object's context has this head
pub is_of_head : (h : ContextHead) (o : Object) → is_of h o ≡ true → head_of h.sequence o ≡ h
is_of_head h o is = by (owner_number o.hierarchy == owner_number h.hierarchy) refl is
  where
    by : (b : Bool) → (owner_number o.hierarchy == owner_number h.hierarchy) ≡ b
        → cond b (saved_number (saved_of o.public) == saved_number h.saved) false ≡ true
        → head_of h.sequence o ≡ h
    by true same kind =
        let owner = same_owner o.hierarchy h.hierarchy (eqb-true _ _ same) in
        let one = same_saved (saved_of o.public) h.saved (eqb-true _ _ kind) in
        ap (λ (s : SavedHandle). record {
          sequence = h.sequence;
          saved = s;
          hierarchy =
              o.hierarchy;
        }) one
        ∙ ap (λ (w : HierarchyHandle). record {
          sequence = h.sequence;
          saved = h.saved;
          hierarchy =
              w;
        }) owner
    by false other kind = absurd cc

-- a head of a sequence object's context is determined by its sequence number
pub sequence_head_is : (h : ContextHead) → is_sequence_head h ≡ true → sequence_head h.sequence ≡ h
sequence_head_is h is = by h.saved refl h.hierarchy refl is
  where
    by : (one : SavedHandle) → h.saved ≡ one → (owner : HierarchyHandle) → h.hierarchy ≡ owner
        → (is_of_sequence one && is_null owner) ≡ true → sequence_head h.sequence ≡ h
    by saved.Sequence first hierarchy.Null second is =
        ap (λ (s : SavedHandle). record {
          sequence = h.sequence;
          saved = s;
          hierarchy =
              hierarchy.Null;
        }) (sym first)
        ∙ ap (λ (w : HierarchyHandle). record {
          sequence = h.sequence;
          saved = h.saved;
          hierarchy =
              w;
        }) (sym second)
    by saved.Sequence first hierarchy.Owner second is = absurd cc
    by saved.Sequence first hierarchy.Endorsement second is = absurd cc
    by saved.Sequence first hierarchy.Platform second is = absurd cc
    by saved.Ordinary first _ second is = absurd cc
    by saved.StClear first _ second is = absurd cc
