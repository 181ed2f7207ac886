-- The largest sizes of the parts of a state text.
use Rattle.std.proofs.Common.{◌≡◌, ℕ, ◌+◌, ◌*◌, ◌^◌, ◌<◌, ◌≤◌, Bool, true, false, cond, List, [], ◌∷◌, length, Option, Some, None, IfSome, arith, length-append}
use Rattle.std.specs.Int.{w32, w64, to_be_bytes}
use Rattle.std.specs.List.{All, AllByRecursion, flat_map}
use Rattle.std.proofs.lemmas.List.Elements.{recursion_from_All}
use Rattle.tpm_bytes.specs.Writing.{sized_text}
use Rattle.tpm_containers.specs.Slots.{AreAll}
use Rattle.tpm_object.specs.Object.{IsObject}
use Rattle.tpm_pcr.specs.Values.{BankValues, IsBank, IsBanks}
use Rattle.tpm_policy.specs.State.{IsPolicy, Policy}
use Rattle.tpm_record.specs.IsRecord.{IsRecord}
use Rattle.tpm_record.specs.Record.{Record}
use Rattle.tpm_sequence.specs.declared.object.SequenceObject.{SequenceObject}
use Rattle.tpm_sequence_text.specs.Sizes.{slot_size}
use Rattle.tpm_sequence_text.specs.Slot.{IsSlot, slot_text}
use Rattle.tpm_sequence_text.proofs.SizeLaws.{stays_small}
use Rattle.tpm_session.specs.Session.{IsBinding, IsSession}
use Rattle.tpm_session.specs.declared.session.Binding.{Binding}
use Rattle.tpm_session.specs.declared.session.Session.{Session}
use Rattle.tpm_types_common.specs.Symmetric.{symmetric_text}
use Rattle.tpm_types_common.specs.declared.symmetric.SymmetricDefinition.{SymmetricDefinition}
use Rattle.tpm_types_common.specs.declared.symmetric.SymmetricDefinition.TheVariants.{Null, Aes128Cfb, Xor}
use Rattle.tpm_image_text.specs.Sizes.{body_size, object_fields_size}
use Rattle.tpm_image_text.specs.Body.{object_fields_text}
use Rattle.tpm_image_text.proofs.ObjectLaws.{object_fields_small}
use Rattle.tpm_image_text.specs.Fields.{yes_no_text}
use Rattle.tpm_image_text.specs.NonVolatile.{kept_of}
use Rattle.tpm_commands.specs.declared.profile.Profile.{Profile}
use Rattle.tpm_image_text.specs.Version.{version_of}
use Rattle.tpm_image_text.proofs.BodyLaws.{body_small}
use Rattle.tpm_image_text.proofs.ImageLaws.{kept_is}
use Rattle.tpm_state_text.specs.Banks.{bank_text, banks_text}
use Rattle.tpm_state_text.specs.Body.{IsWholeState, WholeState, body_text, device_text, volatile_text}
use Rattle.tpm_state_text.specs.Layer.{IsLayer, layer_part_text, layer_text}
use Rattle.tpm_state_text.specs.declared.layer.Layer.{Layer}
use Rattle.tpm_state_text.specs.Objects.{transients_text}
use Rattle.tpm_state_text.specs.Places.{optional_text, places_text}
use Rattle.tpm_state_text.specs.Policies.{policy_text}
use Rattle.tpm_state_text.specs.Sequences.{has_sequence, sequence_slots, slots_text}
use Rattle.tpm_state_text.specs.Sessions.{binding_text, session_text, sessions_text}
use Rattle.tpm_state_text.specs.Sizes.{banks_size, layer_size, policy_size, session_size, sessions_size, slots_size, state_text_size, transients_size, volatile_size}
use Rattle.tpm_state_text.proofs.PlaceLaws.{each_of_all}

-- ---- optional values, and lists

pub optional_small : {A : Type 0} (text : A → List ℕ) (Is : A → Type 0) (most : ℕ)
    → ((x : A) → Is x → length (text x) ≤ most) → (value : Option A) → IfSome value Is
    → length (optional_text text value) ≤ 1 + most
optional_small text Is most each None is = omega arith
optional_small text Is most each (Some x) is = omega (arith, each x is)

-- the encoding of a list is at most as long as the list's number of elements times the largest size
-- of an encoded element
pub each_small : {A : Type 0} (text : A → List ℕ) (Is : A → Type 0) (most : ℕ)
    → ((x : A) → Is x → length (text x) ≤ most) → (xs : List A) → AllByRecursion Is xs
    → length (flat_map text xs) ≤ most * length xs
each_small text Is most each [] all = omega arith
each_small text Is most each (x ∷ xs) all =
    let one = each x all.0 in
    let others = each_small text Is most each xs all.1 in
    rw (length-append (text x) (flat_map text xs)) (grind (arith, one, others))

places_small : {A : Type 0} (text : A → List ℕ) (Is : A → Type 0) (most : ℕ)
    → ((x : A) → Is x → length (text x) ≤ most) → (places : List (Option A)) → AreAll Is places
    → length (places_text text places) ≤ (1 + most) * length places
places_small text Is most each places all =
    each_small (optional_text text) (λ value. IfSome value Is) (1 + most)
    (optional_small text Is most each) places (each_of_all Is places all)

-- ---- sessions

policy_small : (p : Policy) → IsPolicy p → length (policy_text p) ≤ policy_size
unfolding policy_text
policy_small p is =
    let count = optional_small (to_be_bytes w64) _ 8 (λ n _. omega arith) p.update_count
    is.update_count in
    let command = optional_small (to_be_bytes w32) _ 4 (λ n _. omega arith) p.command is.command in
    let hash = optional_small sized_text _ 34 (λ hash is. omega (arith, is)) p.cp_hash is.cp_hash in
    simp length-append (omega (arith, is.digest, count, command, hash, written p.nv_written))
  where
    written : (value : Option Bool) → length (optional_text yes_no_text value) ≤ 2
    written None = omega arith
    written (Some is_yes) = omega arith

binding_small : (b : Binding) → IsBinding b → length (binding_text b) ≤ 71
unfolding binding_text
binding_small b is = simp length-append (omega (arith, is.name, is.auth_value.0))

symmetric_small : (s : SymmetricDefinition) → length (symmetric_text s) ≤ 6
unfolding symmetric_text
symmetric_small Null = omega arith
symmetric_small Aes128Cfb = omega arith
symmetric_small (Xor hash) = omega arith

session_small : (s : Session) → IsSession s → length (session_text s) ≤ session_size
unfolding session_text
session_small s is =
    let binding = optional_small binding_text IsBinding 71 binding_small s.binding is.binding in
    simp length-append
    (omega (
      arith,
      is.nonce_tpm,
      is.key,
      symmetric_small s.symmetric,
      binding,
      policy_small s.policy is.policy,
    ))

-- ---- banks

bank_small : (size : ℕ) (values : List (List ℕ)) → IsBank size values
    → length (bank_text values) ≤ size * length values
bank_small size values is = each_small (λ value. value) (λ value. length value ≡ size) size
    (λ value same. omega (arith, same)) values
    (recursion_from_All (λ value. length value ≡ size) values is.1)

banks_small : (b : BankValues) → IsBanks b → length (banks_text b) ≤ banks_size
unfolding banks_text
banks_small b is =
    simp length-append
    (omega (
      arith,
      is.sha1.0,
      is.sha256.0,
      bank_small 20 b.sha1 is.sha1,
      bank_small 32 b.sha256 is.sha256,
    ))

-- ---- the layer

-- the context numbers of sessions take at most eight bytes each
pub contexts_small : (sessions : List ℕ) → All (λ context. context < 2 ^ 64) sessions
    → length (flat_map (to_be_bytes w64) sessions) ≤ 8 * length sessions
contexts_small sessions all =
    let IsContext : ℕ → Type 0 = λ n. n < 2 ^ 64 in
    each_small (to_be_bytes w64) IsContext 8 (λ n _. omega arith) sessions
    (recursion_from_All IsContext sessions all)

slots_small : (slots : List (Option SequenceObject)) → length slots ≡ sequence_slots
    → All IsSlot slots → length (slots_text slots) ≤ slots_size
unfolding slots_text
slots_small slots size all = by (has_sequence slots)
  where
    each : length (flat_map slot_text slots) ≤ slot_size * length slots
    each = each_small slot_text IsSlot slot_size stays_small slots
        (recursion_from_All IsSlot slots all)

    by : (is_used : Bool) → length (cond is_used (flat_map slot_text slots) []) ≤ slots_size
    by true = omega (arith, each, size)
    by false = omega arith

layer_small : (l : Layer) → IsLayer l → length (layer_text l) ≤ layer_size
unfolding layer_text
layer_small l is =
    simp length-append
    (omega (
      arith,
      is.sessions,
      contexts_small l.sessions is.each_session,
      slots_small l.sequences is.sequences is.each_sequence,
    ))

layer_part_small : (layer : Option Layer) → IfSome layer IsLayer
    → length (layer_part_text layer) ≤ 1 + layer_size
unfolding layer_part_text
layer_part_small None is = omega arith
layer_part_small (Some layer) is = omega (arith, layer_small layer is)

-- ---- the whole body

sessions_small : (r : Record) → IsRecord r → length (sessions_text r.sessions) ≤ sessions_size
unfolding sessions_text
sessions_small r is =
    omega (
      arith,
      is.sessions,
      places_small session_text IsSession session_size session_small
          r.sessions is.each_session,
    )

transients_small : (r : Record) → IsRecord r → length (transients_text r.objects) ≤ transients_size
unfolding transients_text
transients_small r is =
    omega (
      arith,
      is.objects,
      places_small object_fields_text IsObject object_fields_size
          object_fields_small r.objects is.each_object,
    )

volatile_small : (r : Record) → IsRecord r → length (volatile_text r) ≤ volatile_size
unfolding volatile_text
volatile_small r is =
    simp length-append
    (omega (arith, banks_small r.fixed.banks is.banks, sessions_small r is, transients_small r is))

pub device_small : (profile : Profile) (r : Record) → IsRecord r
    → length (device_text profile r) ≤ body_size + volatile_size
unfolding device_text
device_small profile r is =
    simp length-append
    (omega (
      arith,
      body_small (version_of profile) (kept_of r) (kept_is r is),
      volatile_small r is,
    ))

pub whole_small : (profile : Profile) (state : WholeState) → IsWholeState state
    → length (body_text profile state) + 42 ≤ state_text_size
unfolding body_text
whole_small profile s is =
    let layer = layer_part_small s.layer is.layer in
    simp length-append (omega (arith, device_small profile s.device is.device, layer))
