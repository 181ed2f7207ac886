-- Proves, by computation, the example of a wrong guess.
use Rattle.std.proofs.Common.{◌≡◌, ◌≢◌, ◌+◌, ℕ, zero, suc, false, true, [], ◌∷◌, List, Option, Some, None, Ok, get_or, refl, subst, sym, ap, arith}
use Rattle.std.specs.Prelude.{IfSome, is_ok, option_and_then, slice_get}
use Rattle.tpm_auth.specs.Entries.{entry_passes}
use Rattle.tpm_auth.specs.Grant.{authorize, authorized, grant, password_grant}
use Rattle.tpm_commands.specs.CommandCode.{code_named, shape_of}
use Rattle.tpm_commands.specs.HandleArea.{allowed_handle_at}
use Rattle.tpm_containers.specs.Numbered.{at_number, if_of_kind, place_of}
use Rattle.tpm_containers.proofs.Padding.{at_place-padded}
use Rattle.tpm_lockout.specs.Recovery.{opened_after}
use Rattle.tpm_lockout.specs.Tries.{forgiven_after}
use Rattle.tpm_nv.specs.Index.{NvIndex}
use Rattle.tpm_record.specs.Entity.{auth_value_of, entity_at, is_available, is_present, protection_of}
use Rattle.tpm_record.specs.Record.{Record}
use Rattle.tpm_record.specs.Tick.{after_tick}
use Rattle.tpm_secrecy.specs.Guesses.{BindingHolds, BindingsHold, GuessesFail, is_guess}
use Rattle.tpm_session.specs.Sessions.{session_at, session_byte}
use Rattle.tpm_session.specs.declared.session.Session.{Session}
use Rattle.tpm_step.specs.step.General.{body_of, general, present_handle_at, sessions_pass}
use Rattle.tpm_types_command.specs.AuthArea.{area_at}
use Rattle.tpm_types_command.specs.AuthEntry.{Entry, entry_at}
use Rattle.tpm_types_command.specs.Header.{header_at}
use Rattle.tpm_types_common.specs.AuthValue.{trimmed}
use Rattle.tpm_types_common.specs.Limits.{session_limit}
use Rattle.tpm_premises.specs.Guesses.{HasWrongGuess, guarded_device, value_secrecy, wrong_command, wrong_entry}

first_byte : List (ℕ × NvIndex) → ℕ
first_byte [] = 0
first_byte (one ∷ others) = get_or one.1.auth_value 0 0

values_differ : guarded_device 0x61 ≢ guarded_device 0x63
unfolding first_byte
values_differ e =
    let byte : 0x61 ≡ 0x63 = ap (λ (r : Record). first_byte r.nv.indices) e in
    omega (arith, byte)

one_entry : (Holds : Entry → Type 0) (place : ℕ) (e : Entry)
    → slice_get (wrong_entry ∷ []) place ≡ Some e → Holds wrong_entry → (place ≡ 0) × Holds e
one_entry Holds zero e is holds = (refl, subst Holds (same e is) holds)
  where
    same : (e : Entry) → Some wrong_entry ≡ Some e → wrong_entry ≡ e
    same e is = cc is
one_entry Holds (suc place) e is holds = absurd (cc is)

fails_on : (r : Record)
    → is_ok (grant r wrong_command 0 1 (slice_get (authorized wrong_command) 0) wrong_entry) ≡ false
    → GuessesFail value_secrecy r wrong_command 0
fails_on r fails place e is guess =
    let found = one_entry (λ (e : Entry).
    is_ok (grant r wrong_command 0 1 (slice_get (authorized wrong_command) 0) e) ≡ false)
    place e is fails in
    subst (λ (n : ℕ).
    is_ok (grant r wrong_command 0 (n + 1) (slice_get (authorized wrong_command) n) e) ≡ false)
    (sym found.0) found.1

-- No session exists, so none is bound to an entity.
no_bindings : (byte : ℕ) → BindingsHold value_secrecy (after_tick (guarded_device byte) 0)
unfolding session_at at_number
no_bindings byte session =
    subst (λ (o : Option Session). IfSome o
    (BindingHolds value_secrecy (after_tick (guarded_device byte) 0)))
    (sym (ap (option_and_then (if_of_kind session_byte session.number))
    (at_place-padded session_limit [] (place_of session.number))))
    tt

pub has_wrong_guess : HasWrongGuess
unfolding general body_of sessions_pass present_handle_at entry_passes authorize grant
    password_grant trimmed area_at entry_at allowed_handle_at header_at code_named shape_of
    opened_after forgiven_after auth_value_of entity_at is_available is_present protection_of
has_wrong_guess = record {
  covers = record {
    indices = λ public is. refl;
    objects = λ public is. refl;
    hierarchies = λ handle is. refl;
  };
  secrets = refl;
  differ = values_differ;
  decoded = refl;
  guess = refl;
  first = record {
    reads = refl;
    guesses = fails_on (after_tick (guarded_device 0x61) 0) refl;
    bindings = no_bindings 0x61;
  };
  second = record {
    reads = refl;
    guesses = fails_on (after_tick (guarded_device 0x63) 0) refl;
    bindings = no_bindings 0x63;
  };
  refused = refl;
}
