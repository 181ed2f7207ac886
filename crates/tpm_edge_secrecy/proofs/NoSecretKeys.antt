-- If only data are secret, and not authorization values, the layer checks no HMAC with a key that
-- contains a secret.
use Rattle.std.proofs.Common.{refl}
use Rattle.std.specs.Prelude.{Bool, Err, List, None, Ok, Option, Result, Some, false, if◌then◌else◌, true, ℕ, ◌&&◌, ◌==◌, ◌||◌, ◌≡◌}
use Rattle.std.specs.Option.{option_map_or}
use Rattle.tpm_auth.specs.Entries.{session_of}
use Rattle.tpm_bytes.specs.declared.cursor.Short.{Short}
use Rattle.tpm_completion.specs.Answer.{is_refusal}
use Rattle.tpm_completion.specs.Command.{Command, authorized_command}
use Rattle.tpm_completion.specs.Sending.{EventComplete, HmacStart, event_complete_in, hmac_start_in}
use Rattle.tpm_completion.specs.SequenceRows.{Named, named_in}
use Rattle.tpm_completion.specs.declared.completion.Completion.{Completion}
use Rattle.tpm_edge_secrecy.specs.Layer.{command_is_secret, entry_is_secret, event_is_secret, hmac_is_secret, key_is_secret, named_is_secret, start_is_secret}
use Rattle.tpm_record.specs.Entity.{AnIndex, AnObject, Entity, Permanent, entity_at}
use Rattle.tpm_record.specs.Record.{Record}
use Rattle.tpm_row_secrecy.specs.Secrecy.{Secrecy, entity_has_secret_value, has_secret_key, has_secret_value, of_data}
use Rattle.tpm_session.specs.declared.session.Binding.{Binding}
use Rattle.tpm_session.specs.declared.session.Session.{Session}
use Rattle.tpm_types_common.specs.Handle.{hierarchy_auth_of}
use Rattle.tpm_types_common.specs.declared.handle.Handle.{Handle}
use Rattle.tpm_types_common.specs.declared.handle.HierarchyAuth.{HierarchyAuth}
use Rattle.tpm_types_common.specs.declared.refused.Refused.{Refused}
use Rattle.tpm_types_command.specs.AuthEntry.{Entry}
use Rattle.tpm_types_object.specs.declared.public.Public.{Public}

neither : (a b : Bool) → a ≡ false → b ≡ false → (a || b) ≡ false
neither false b none also = also
neither true b none also = absurd cc

choice : (b x y : Bool) → x ≡ false → y ≡ false → (if b then x else y) ≡ false
choice true x y none also = none
choice false x y none also = also

both : (a b c : Bool) → c ≡ false → (a && (b && c)) ≡ false
both true true c none = none
both true false c none = refl
both false b c none = refl

module _ (indices : ℕ → Bool) (objects : Public → Bool) (r : Record) where
  abbrev s : Secrecy
  s = of_data indices objects

  no_key : (b : Option Binding) → has_secret_key s b ≡ false
  no_key None = refl
  no_key (Some b) = refl

  no_value_by : (handle : Handle) (entity : Entity) (auth : Option HierarchyAuth)
      → hierarchy_auth_of handle ≡ auth → entity_has_secret_value s handle entity ≡ false
  no_value_by handle (AnObject o) auth is = refl
  no_value_by handle (AnIndex i) auth is = refl
  no_value_by handle Permanent auth is = by (hierarchy_auth_of handle)
    where
      by : (found : Option HierarchyAuth) → option_map_or s.hierarchy_values found false ≡ false
      by None = refl
      by (Some auth) = refl

  no_value : (handle : Handle) → has_secret_value s r handle ≡ false
  no_value handle = no_value_by handle (entity_at r handle) (hierarchy_auth_of handle) refl

  no_secret : (handle : Option Handle) (x : Session) → key_is_secret s r handle x ≡ false
  no_secret (Some handle) x =
      neither (has_secret_key s x.binding) (has_secret_value s r handle) (no_key x.binding)
      (no_value handle)
  no_secret None x = no_key x.binding

  no_entry : (handle : Option Handle) (e : Entry) → entry_is_secret s r handle e ≡ false
  no_entry handle e = by (session_of r e)
    where
      by : (found : Option Session) → option_map_or (key_is_secret s r handle) found false ≡ false
      by None = refl
      by (Some x) = no_secret handle x

  no_start : (x : Result HmacStart Refused) → start_is_secret s r x ≡ false
  no_start (Ok start) = no_entry (Some start.handle) start.entry
  no_start (Err e) = refl

  no_event : (x : Result EventComplete Refused) → event_is_secret s r x ≡ false
  no_event (Ok event) = no_entry (Some event.pcr) event.entry
  no_event (Err e) = refl

  no_named : (x : Result Named Refused) → named_is_secret s r x ≡ false
  no_named (Ok named) = no_entry None named.entry
  no_named (Err e) = refl

  no_command : (c : Completion) (x : Result Command Short) → command_is_secret s r c x ≡ false
  no_command c (Ok command) =
      choice (command.code == 0x15b) _ _ (no_start (hmac_start_in c command.parameters))
      (choice (command.code == 0x185) _ _ (no_event (event_complete_in c command.parameters))
      (choice (command.code == 0x15c) _ _ (no_named (named_in c command.parameters))
      (choice (command.code == 0x13e) _ _ (no_named (named_in c command.parameters)) refl)))
  no_command c (Err e) = refl

  pub hmac_is_not_secret : (c : Completion) (buffer response : List ℕ)
      → hmac_is_secret s r c buffer response ≡ false
  hmac_is_not_secret c buffer response =
      both r.fixed.started (is_refusal 0x143 response)
      (command_is_secret s r c (authorized_command buffer))
      (no_command c (authorized_command buffer))
