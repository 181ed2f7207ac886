-- Valid layers: layers that a state text can encode.
use Rattle.std.proofs.Common.{◌≡◌, ◌<◌, ◌^◌, ℕ, zero, suc, Bool, true, false, cond, List, length, replicate, Option, Some, None, refl, subst, sym, ◌∙◌, arith, inl, inr, length-set}
use Rattle.std.specs.List.{All}
use Rattle.std.proofs.lemmas.Bool.{cases_lt}
use Rattle.std.proofs.lemmas.List.{get_or_past}
use Rattle.std.proofs.lemmas.List.Elements.{All-set}
use Rattle.tpm_sequence.specs.declared.object.SequenceObject.{SequenceObject}
use Rattle.tpm_sequence_text.specs.Slot.{IsSequenceObject, IsSlot}
use Rattle.tpm_snapshot.specs.Layer.{layer_of}
use Rattle.tpm_state_text.specs.Layer.{IsLayer}
use Rattle.tpm_types_common.specs.Limits.{session_limit}
use Rattle.tpm_completion.specs.Completion.{new_completion}
use Rattle.tpm_completion.specs.Saving.{Reply}
use Rattle.tpm_completion.specs.Sequences.{in_slot, no_sequences, sequence_limit, with_sequence, without_sequence}
use Rattle.tpm_completion.specs.declared.completion.Completion.{Completion}

-- A layer is valid if a state text can encode it (`IsLayer`): it has the right number of slots, and
-- its numbers fit their integer types.
abbrev pub IsFine : Completion → Type 0
IsFine c = IsLayer (layer_of c)

-- The layer after a reply is valid.
abbrev pub LeavesFine : Reply → Type 0
LeavesFine x = IsFine x.after

pub choice : {X : Type 0} (P : X → Type 0) (b : Bool) (x y : X) → P x → P y → P (cond b x y)
choice P true x y p q = p
choice P false x y p q = q

-- ---- new layers

zeros_all : {X : Type 0} (P : X → Type 0) (n : ℕ) (x : X) → P x → All P (replicate n x)
zeros_all P zero x p k d lt = absurd (omega (arith, lt))
zeros_all P (suc n) x p zero d lt = p
zeros_all P (suc n) x p (suc k) d lt = zeros_all P n x p k d (omega (arith, lt))

-- There are three slots for sequence objects, and each is free or contains a valid sequence object.
abbrev pub AreSlots : List (Option SequenceObject) → Type 0
AreSlots slots = (length slots ≡ sequence_limit) × All IsSlot slots

pub free_are : AreSlots no_sequences
free_are = (refl, zeros_all IsSlot sequence_limit None tt)

pub new_fine : (start : ℕ) → start < 2 ^ 64 → IsFine (new_completion start)
new_fine start small = record {
  start = small;
  count = omega arith;
  sessions = refl;
  each_session = zeros_all (λ (context : ℕ). context < 2 ^ 64) session_limit 0 (omega arith);
  sequences = free_are.0;
  each_sequence = free_are.1;
}

-- ---- sequence objects

-- the content of a slot is valid
pub in_slot_is : (c : Completion) (slot : ℕ) → IsFine c → IsSlot (in_slot c slot)
in_slot_is c slot is =
    elim (cases_lt slot (length c.sequences)) [
      | inl lt ↦ is.each_sequence slot None lt
      | inr le ↦ subst IsSlot (sym (get_or_past c.sequences slot None le)) tt
    ]

pub with_sequence_fine : (c : Completion) (slot : ℕ) (object : SequenceObject) → IsFine c
    → IsSequenceObject object → IsFine (with_sequence c slot object)
with_sequence_fine c slot object is one = record {
  start = is.start;
  count = is.count;
  sessions = is.sessions;
  each_session = is.each_session;
  sequences = length-set c.sequences slot (Some object) ∙ is.sequences;
  each_sequence = All-set IsSlot c.sequences slot (Some object) one is.each_sequence;
}

pub without_sequence_fine : (c : Completion) (slot : ℕ) → IsFine c
    → IsFine (without_sequence c slot)
without_sequence_fine c slot is = record {
  start = is.start;
  count = is.count;
  sessions = is.sessions;
  each_session = is.each_session;
  sequences = length-set c.sequences slot None ∙ is.sequences;
  each_sequence = All-set IsSlot c.sequences slot None tt is.each_sequence;
}
