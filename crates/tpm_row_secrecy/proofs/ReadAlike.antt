-- Whether a command reads secrets on a device does not depend on the values of the secrets.
use Rattle.std.proofs.Common.{ap, refl, ◌∙◌}
use Rattle.std.specs.Option.{option_map_or}
use Rattle.std.specs.Prelude.{Bool, Err, None, Ok, Option, Result, Some, false, not, option_map, ◌&&◌, ◌≡◌}
use Rattle.tpm_commands.specs.declared.command_code.CommandCode.{CommandCode}
use Rattle.tpm_containers.specs.Slots.{free}
use Rattle.tpm_nv.specs.Index.{NvIndex, index_at}
use Rattle.tpm_object.specs.declared.object.Object.{Object}
use Rattle.tpm_record.specs.Entity.{object_of}
use Rattle.tpm_record.specs.Record.{Record}
use Rattle.tpm_record.specs.rows.Request.{Request, first_handle, second_handle, third_handle}
use Rattle.tpm_session.specs.Sessions.{session_at}
use Rattle.tpm_session.specs.declared.session.Session.{Session}
use Rattle.tpm_types_common.specs.SessionType.{is_trial}
use Rattle.tpm_types_common.specs.declared.handle.Handle.{Handle}
use Rattle.tpm_types_common.specs.declared.refused.Refused.{Refused}
use Rattle.tpm_row_secrecy.proofs.Alike.{both_succeed}
use Rattle.tpm_row_secrecy.proofs.Entities.{index_at_bare, object_of_bare, session_at_bare}
use Rattle.tpm_row_secrecy.specs.Reads.{handle_passes, is_secret_counter, is_secret_index, names_index, names_policy_session, names_secret_object, reads_secret}
use Rattle.tpm_row_secrecy.specs.Secrecy.{Secrecy, bare_index, bare_object, bare_session, has_secret_data, without_secrets}
use Rattle.tpm_commands.specs.declared.command_code.CommandCode.TheVariants as command
use Rattle.tpm_row_secrecy.proofs.IndexRows as index
use Rattle.tpm_row_secrecy.proofs.ObjectRows as object

module _ (s : Secrecy) (r : Record) (q : Request) where
  passes_same : (test other : Handle → Bool) → ((handle : Handle) → test handle ≡ other handle)
      → (x : Result Handle Refused) → handle_passes test x ≡ handle_passes other x
  passes_same test other same (Ok handle) = same handle
  passes_same test other same (Err e) = refl

  found_same : {X : Type 0} (change : X → X) (test : X → Bool)
      → ((x : X) → test (change x) ≡ test x) → (found : Option X)
      → option_map_or test (option_map change found) false ≡ option_map_or test found false
  found_same change test same None = refl
  found_same change test same (Some x) = same x

  object_same : (handle : Handle) → names_secret_object s (without_secrets s r) handle
      ≡ names_secret_object s r handle
  object_same handle =
      ap (λ (found : Option Object). option_map_or (has_secret_data s) found false)
      (object_of_bare s r handle)
      ∙ found_same (bare_object s) (has_secret_data s) (λ o. refl) (object_of r handle)

  index_same : (test : NvIndex → Bool) → ((i : NvIndex) → test (bare_index s i) ≡ test i)
      → (handle : Handle) → names_index test (without_secrets s r) handle
      ≡ names_index test r handle
  index_same test same handle =
      ap (λ (found : Option NvIndex). option_map_or test found false) (index_at_bare s r.nv handle)
      ∙ found_same (bare_index s) test same (index_at r.nv handle)

  policy_same : (handle : Handle) → names_policy_session (without_secrets s r) handle
      ≡ names_policy_session r handle
  policy_same handle =
      ap (λ (found : Option Session). option_map_or (λ (x : Session). not (is_trial x.kind)) found
      false) (session_at_bare s r.sessions handle)
      ∙ found_same (bare_session s) (λ x. not (is_trial x.kind)) (λ x. refl)
      (session_at r.sessions handle)

  both_same : (a b c d : Bool) → a ≡ c → b ≡ d → (a && b) ≡ (c && d)
  both_same a b c d one other = ap (λ (x : Bool). x && b) one ∙ ap (λ (x : Bool). c && x) other

  pub reads_same : (c : CommandCode) → reads_secret s (without_secrets s r) c q
      ≡ reads_secret s r c q
  reads_same command.Unseal =
      both_same _ _ _ _ (passes_same _ _ object_same (first_handle q.handles))
      (both_succeed _ _ (object.unseal_refused_alike s r q))
  reads_same command.Hmac =
      both_same _ _ _ _ (passes_same _ _ object_same (first_handle q.handles))
      (both_succeed _ _ (object.hmac_refused_alike s r q))
  reads_same command.NvRead =
      both_same _ _ _ _
      (passes_same _ _ (index_same (is_secret_index s) (λ i. refl)) (second_handle q.handles))
      (both_succeed _ _ (index.nv_read_refused_alike s r q))
  reads_same command.PolicyNv =
      both_same _ _ _ _
      (passes_same _ _ (index_same (is_secret_index s) (λ i. refl)) (second_handle q.handles))
      (passes_same _ _ policy_same (third_handle q.handles))
  reads_same command.NvIncrement =
      passes_same _ _ (index_same (is_secret_counter s) (λ i. refl)) (second_handle q.handles)
  reads_same _ = refl
