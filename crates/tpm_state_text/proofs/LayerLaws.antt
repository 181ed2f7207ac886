-- Decoding returns the state of the completing layer exactly when the bytes begin with its
-- encoding.
use Rattle.std.proofs.Common.{◌≡◌, ℕ, ◌^◌, ◌<◌, Bool, true, false, List, [], ◌∷◌, ◌++◌, length, replicate, Option, Some, None, IfSome, is_some, Result, refl, sym, ap, subst, ◌∙◌, arith}
use Rattle.std.specs.Int.{w8, w64, to_be_bytes}
use Rattle.std.specs.List.{All, flat_map}
use Rattle.std.proofs.lemmas.List.Elements.{All-from_recursion, recursion_from_All}
use Rattle.tpm_bytes.specs.Many.{many_at}
use Rattle.tpm_bytes.proofs.Fields.{Takes, wide8}
use Rattle.tpm_sequence.specs.declared.object.SequenceObject.{SequenceObject}
use Rattle.tpm_sequence_text.specs.Slot.{IsSlot}
use Rattle.tpm_sequence_text.proofs.SlotLaws.{slot_spelled}
use Rattle.tpm_types_common.proofs.Named.{link, none}
use Rattle.tpm_types_common.proofs.Spelled.{Spelled, all_read, first, for_each, four_texts, respelled, then}
use Rattle.tpm_types_common.specs.Limits.{session_limit}
use Rattle.tpm_image_text.specs.declared.fault.Malformed.{Malformed}
use Rattle.tpm_image_text.specs.Fields.{malformed_fault, number_in}
use Rattle.tpm_image_text.proofs.FieldSpelling.{many_spelled, names_spelled, number_in_spelled, only, passing_spelled, wide64}
use Rattle.tpm_state_text.specs.Layer.{IsLayer, kind_in, kind_named, kind_number, kind_of, layer_after, layer_behind, layer_in, layer_part_in, layer_part_text, layer_text, used_kind}
use Rattle.tpm_state_text.specs.Places.{optional_after}
use Rattle.tpm_state_text.specs.Sequences.{free_sequences, has_sequence, sequence_slots, slots_in, slots_text}
use Rattle.tpm_state_text.specs.declared.layer.Layer.{Layer}
use Rattle.tpm_state_text.specs.declared.layer.LayerKind.{LayerKind}
use Rattle.tpm_state_text.specs.declared.layer.LayerKind.TheVariants as kind
use Rattle.tpm_state_text.proofs.PlaceLaws.{after, after_spelled}

-- if a decoder of one element is exact (`Spelled`), decoding `count` elements one after another is
-- exact too
pub all_spelled : {A : Type 0} {text : A → List ℕ} {Is : A → Type 0}
    {at : List ℕ → Result (A × List ℕ) Malformed} (count : ℕ) → Spelled text Is at
    → Spelled (flat_map text) (λ xs. (length xs ≡ count) × All Is xs) (many_at at count)
all_spelled {A} {text} {Is} {at} count law =
    respelled (many_spelled count law) (λ xs. refl)
    (λ xs is. (is.0, All-from_recursion Is xs is.1))
    (λ xs is. (is.0, recursion_from_All Is xs is.1))

pub n64 : Spelled (to_be_bytes w64) (λ n. n < 2 ^ 64) (number_in w64)
n64 = number_in_spelled w64 (2 ^ 64) wide64

-- a decoder that is exact (`Spelled`) for one encoding is also exact for another encoding that
-- agrees with it on all valid values
respelled_valid : {A E : Type 0} {text other : A → List ℕ} {Is : A → Type 0}
    {at : List ℕ → Result (A × List ℕ) E} → Spelled text Is at → ((x : A) → Is x → other x ≡ text x)
    → Spelled other Is at
respelled_valid {A} {E} {text} {other} {Is} {at} law same = record {
  taken = λ bytes x fits e. let t =
      law.taken bytes x fits e in
      (subst (λ (l : List ℕ). Takes bytes l x.1) (sym (same x.0 t.1)) t.0, t.1);
  again = λ x rest is. ap (λ (l : List ℕ). at (l ++ rest)) (same x is) ∙ law.again x rest is;
}

-- ---- sequence objects

-- There are three slots. Each is free, or contains a sequence object that a layer can have.
abbrev AreSlots : List (Option SequenceObject) → Type 0
AreSlots slots = (length slots ≡ sequence_slots) × All IsSlot slots

pub free_are : AreSlots free_sequences
free_are = (refl, All-from_recursion IsSlot free_sequences (tt, (tt, (tt, tt))))

-- slots without a sequence object are all free
none_used : (slots : List (Option SequenceObject)) → has_sequence slots ≡ false
    → slots ≡ replicate (length slots) None
none_used [] e = refl
none_used (None ∷ slots) e = ap (λ (l : List (Option SequenceObject)). None ∷ l) (none_used slots e)
none_used (Some object ∷ slots) e = absurd cc

slots_spelled : (is_used : Bool)
    → Spelled slots_text (λ slots. AreSlots slots × (has_sequence slots ≡ is_used))
    (slots_in is_used)
unfolding slots_in slots_text
slots_spelled false = only free_sequences refl (free_are, refl) λ slots is. none_used slots is.1
    ∙ ap (λ (n : ℕ). replicate n None) is.0.0
slots_spelled true =
    respelled_valid (passing_spelled has_sequence (all_spelled sequence_slots slot_spelled))
    λ slots is. rw is.1 refl

-- ---- the layer

abbrev LayerFields : Type 0
LayerFields = ((ℕ × ℕ) × List ℕ) × List (Option SequenceObject)

abbrev layer_fields : Layer → LayerFields
layer_fields l = (((l.start, l.count), l.sessions), l.sequences)

abbrev layer_of : LayerFields → Layer
layer_of f = record { start = f.0.0.0; count = f.0.0.1; sessions = f.0.1; sequences = f.1 }

layer_spelled : (is_used : Bool)
    → Spelled layer_text (λ l. IsLayer l × (has_sequence l.sequences ≡ is_used)) (layer_in is_used)
unfolding layer_in layer_text
layer_spelled is_used =
    respelled
    (first n64
    (then n64
    (then (all_spelled session_limit n64)
    (then (slots_spelled is_used)
    (all_read layer_fields layer_of (λ _. refl) (λ _. refl))))))
    (λ l. four_texts (to_be_bytes w64 l.start) (to_be_bytes w64 l.count)
    (flat_map (to_be_bytes w64) l.sessions) (slots_text l.sequences))
    (λ l is.
    let slots = is.1.1.1.0 in (
      record {
        start = is.0;
        count = is.1.0;
        sessions = is.1.1.0.0;
        each_session =
            is.1.1.0.1;
        sequences = slots.0.0;
        each_sequence = slots.0.1;
      },
      slots.1,
    ))
    (λ l is. (
      is.0.start,
      (
        is.0.count,
        (
          (is.0.sessions, is.0.each_session),
          (((is.0.sequences, is.0.each_sequence), is.1), tt),
        ),
      ),
    ))

-- ---- whether the device has a layer

kind_spelled : Spelled (λ one. to_be_bytes w8 (kind_number one)) (λ one. Unit {0}) kind_in
unfolding kind_in
kind_spelled = names_spelled w8 (2 ^ 8) wide8 kind_number kind_named malformed_fault malformed_fault
    is again small
  where
    is : (number : ℕ) (one : LayerKind) → kind_named number ≡ Some one → number ≡ kind_number one
    is number one =
        link kind_number number kind.Absent _ one
        λ a. link kind_number number kind.Plain _ a
        λ b. link kind_number number kind.WithSequences None b (none kind_number number)

    again : (one : LayerKind) → kind_named (kind_number one) ≡ Some one
    again kind.Absent = refl
    again kind.Plain = refl
    again kind.WithSequences = refl

    small : (one : LayerKind) → kind_number one < 2 ^ 8
    small kind.Absent = omega arith
    small kind.Plain = omega arith
    small kind.WithSequences = omega arith

not_absent : (is_used : Bool) → used_kind is_used ≡ kind.Absent → ⊥
not_absent true e = absurd cc
not_absent false e = absurd cc

used_same : (one other : Bool) → used_kind one ≡ used_kind other → one ≡ other
used_same true true e = refl
used_same true false e = absurd cc
used_same false true e = absurd cc
used_same false false e = refl

-- If the state has a layer, a device can have this layer. `one` is the kind of the layer, or Absent
-- if the state has no layer.
abbrev IsPart : LayerKind → Option Layer → Type 0
IsPart one layer = IfSome layer IsLayer × (kind_of layer ≡ one)

some_spelled : (is_used : Bool)
    → Spelled layer_behind (IsPart (used_kind is_used)) (optional_after (layer_in is_used) true)
some_spelled is_used = respelled (after_spelled (layer_spelled is_used) true) same to from
  where
    same : (layer : Option Layer) → layer_behind layer ≡ after (layer_spelled is_used) layer
    same None = refl
    same (Some layer) = refl

    to : (layer : Option Layer)
        → IfSome layer (λ l. IsLayer l × (has_sequence l.sequences ≡ is_used))
        × (is_some layer ≡ true) → IsPart (used_kind is_used) layer
    to None is = absurd cc
    to (Some layer) is = (is.0.0, ap used_kind is.0.1)

    from : (layer : Option Layer) → IsPart (used_kind is_used) layer
        → IfSome layer (λ l. IsLayer l × (has_sequence l.sequences ≡ is_used))
        × (is_some layer ≡ true)
    from None is = absurd (not_absent is_used (sym is.1))
    from (Some layer) is = ((is.0, used_same (has_sequence layer.sequences) is_used is.1), refl)

pub layer_part_spelled : Spelled layer_part_text (λ layer. IfSome layer IsLayer) layer_part_in
unfolding layer_part_in layer_part_text
layer_part_spelled =
    respelled
    (first kind_spelled
    (for_each kind_of layer_behind (λ layer. IfSome layer IsLayer) layer_after each))
    (λ layer. refl) (λ layer is. is.1) (λ layer is. (tt, is))
  where
    absent : (layer : Option Layer) → IsPart kind.Absent layer → layer ≡ None
    absent None is = refl
    absent (Some layer) is = absurd (not_absent (has_sequence layer.sequences) is.1)

    each : (one : LayerKind) → Spelled layer_behind (IsPart one) (layer_after one)
    each kind.Absent = only None refl (tt, refl) absent
    each kind.Plain = some_spelled false
    each kind.WithSequences = some_spelled true
