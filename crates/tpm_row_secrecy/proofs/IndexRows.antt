-- The rows for NV indices reveal nothing about secrets, except the row of an accepted TPM2_NV_Read,
-- and the row of TPM2_NV_Increment on a counter.
use Rattle.std.proofs.Common.{ap, refl, sym, ◌∙◌}
use Rattle.std.specs.Int.{w64}
use Rattle.std.specs.Prelude.{Bool, List, Ok, Result, false, is_ok, is_some, length, nat_lt, not, ℕ, ◌==◌, ◌≡◌}
use Rattle.tpm_bytes.specs.Reading.{number_at, or_fault, refused_if, ◌>>=◌}
use Rattle.tpm_containers.specs.Slots.{free}
use Rattle.tpm_mac.specs.Digest.{digest_size}
use Rattle.tpm_nv.specs.Access.{read_at}
use Rattle.tpm_nv.specs.Definition.{defined_index, definition_passes}
use Rattle.tpm_nv.specs.Index.{NvContents, has_room, index_at}
use Rattle.tpm_nv.specs.declared.fault.ReadFault.{ReadFault}
use Rattle.tpm_nv.specs.declared.fault.WriteFault.{WriteFault}
use Rattle.tpm_nvactions.specs.Access.{lock_refusal, reader_passes, write_row, writer_passes, writing_refusal}
use Rattle.tpm_nvactions.specs.NvChangeAuth.{nv_change_auth_row}
use Rattle.tpm_nvactions.specs.NvDefineSpace.{nv_define_space_row}
use Rattle.tpm_nvactions.specs.NvExtend.{nv_extend_row}
use Rattle.tpm_nvactions.specs.NvIncrement.{nv_increment_row}
use Rattle.tpm_nvactions.specs.NvRead.{nv_read_row}
use Rattle.tpm_nvactions.specs.NvReadLock.{nv_read_lock_row}
use Rattle.tpm_nvactions.specs.NvReadPublic.{nv_read_public_row}
use Rattle.tpm_nvactions.specs.NvSetBits.{nv_set_bits_row}
use Rattle.tpm_nvactions.specs.NvUndefineSpace.{is_kept_from, nv_undefine_space_row}
use Rattle.tpm_nvactions.specs.NvWrite.{nv_write_row}
use Rattle.tpm_nvactions.specs.NvWriteLock.{nv_write_lock_row}
use Rattle.tpm_record.specs.Record.{Record}
use Rattle.tpm_record.specs.declared.rows.target.Target.{Target}
use Rattle.tpm_record.specs.rows.Answer.{Sized, answer_of, nothing}
use Rattle.tpm_record.specs.rows.Refusals.{action_refusal, fault_refusal, handle_refusal, or_refusal, parameter_refusal}
use Rattle.tpm_record.specs.rows.Request.{Request, first_handle, second_handle}
use Rattle.tpm_record.specs.rows.Rows.{Success, all_read, only, unchanged_success}
use Rattle.tpm_record.specs.rows.Target.{reading_passes, target_of}
use Rattle.tpm_types_common.specs.AuthValue.{auth_value_at}
use Rattle.tpm_types_common.specs.Buffer.{buffer_at}
use Rattle.tpm_types_common.specs.Handle.{platform_handle}
use Rattle.tpm_types_common.specs.Limits.{data_limit}
use Rattle.tpm_types_common.specs.Rc.{plain}
use Rattle.tpm_types_common.specs.declared.handle.Handle.{Handle}
use Rattle.tpm_types_common.specs.declared.refused.Refused.{Refused}
use Rattle.tpm_row_secrecy.proofs.Alike.{alike_after, alike_both, alike_end, alike_fault, alike_step, either_free, refused_alike, success}
use Rattle.tpm_row_secrecy.proofs.Bare.{with_nv}
use Rattle.tpm_row_secrecy.proofs.Changes.{NvAlike, auth_alike, bits_alike, extended_alike, incremented_alike, is_there_bare, read_locked_alike, read_refused_alike, read_shown, room_bare, with_index_same, without_index_same, write_locked_alike, written_alike}
use Rattle.tpm_row_secrecy.proofs.Steps.{same_both, same_changed, same_end, same_index, same_step, same_target, same_target_is, same_unchanged, target_bare}
use Rattle.tpm_row_secrecy.specs.Alike.{Alike, Same, bare_success}
use Rattle.tpm_row_secrecy.specs.Reads.{handle_passes, is_secret_counter, is_secret_index, names_index, reads_secret}
use Rattle.tpm_row_secrecy.specs.Secrecy.{Secrecy, bare_nv, without_secrets}
use Rattle.tpm_commands.specs.declared.command_code.CommandCode.TheVariants as command
use Rattle.tpm_types_common.specs.declared.action_check.ActionCheck.TheVariants as action
use Rattle.tpm_types_common.specs.declared.rc.ResponseCode.TheVariants as code
use Rattle.tpm_nvactions.specs.NvDefineSpace as definition
use Rattle.tpm_nvactions.specs.NvRead as reading
use Rattle.tpm_nvactions.specs.NvWrite as writing

module _ (s : Secrecy) (r : Record) (q : Request) where
  pub nv_read_public_tells : Same s (nv_read_public_row (without_secrets s r) q)
      (nv_read_public_row r q)
  unfolding nv_read_public_row
  nv_read_public_tells =
      same_step s (first_handle q.handles) _ _ (λ handle.
      same_index s r handle _ _ (λ i is.
      same_step s (all_read q.parameters) _ _ (λ ended.
      same_unchanged s r _)))

  -- ---- defining or removing an index

  pub nv_define_space_tells : Same s (nv_define_space_row (without_secrets s r) q)
      (nv_define_space_row r q)
  unfolding nv_define_space_row
  nv_define_space_tells =
      same_step s (first_handle q.handles) _ _ (λ auth_handle.
      same_step s (definition.parameters_in q.parameters) _ _ (λ p.
      same_step s
      (or_refusal definition.definition_refusal
      (definition_passes (auth_handle.number == platform_handle.number) p.public
      (length p.auth_value))) _ _ (λ passed.
      same_both s (refused_if (is_some (index_at (bare_nv s r.nv) p.public.nv_index))
      (action_refusal action.Fifth (plain code.NvDefined)))
      (refused_if (is_some (index_at r.nv p.public.nv_index))
      (action_refusal action.Fifth (plain code.NvDefined))) _ _
      (ap (λ (b : Bool). refused_if b (action_refusal action.Fifth (plain code.NvDefined)))
      (is_there_bare s r.nv p.public.nv_index)) (λ a5.
      same_both s (refused_if (not (has_room (bare_nv s r.nv) p.public.data_size))
      (action_refusal action.Sixth (plain code.NvSpace)))
      (refused_if (not (has_room r.nv p.public.data_size))
      (action_refusal action.Sixth (plain code.NvSpace))) _ _
      (ap (λ (b : Bool). refused_if (not b) (action_refusal action.Sixth (plain code.NvSpace)))
      (room_bare s r.nv p.public.data_size)) (λ a6.
      same_end s nothing _ _
      (with_nv s r _ _
      (with_index_same s r.nv p.public.nv_index (defined_index p.public p.auth_value))))))))

  pub nv_undefine_space_tells : Same s (nv_undefine_space_row (without_secrets s r) q)
      (nv_undefine_space_row r q)
  unfolding nv_undefine_space_row
  nv_undefine_space_tells =
      same_target s r q _ _ (λ target.
      same_step s (all_read q.parameters) _ _ (λ ended.
      same_step s
      (refused_if (is_kept_from target)
      (action_refusal action.First (plain code.NvAuthorization))) _ _ (λ a1.
      same_end s nothing _ _ (with_nv s r _ _ (without_index_same s r.nv target.handle)))))

  -- ---- changing an index

  written_row : {P : Type 0} (read : Result P Refused)
      (change other : P → Handle → Result NvContents WriteFault)
      → ((p : P) (handle : Handle) → second_handle q.handles ≡ Ok handle
      → NvAlike s (change p handle) (other p handle))
      → Same s (write_row (without_secrets s r) q read change) (write_row r q read other)
  written_row read change other same =
      same_target_is s r q _ _ (λ target named.
      same_step s read _ _ (λ p.
      same_step s (writer_passes target) _ _ (λ a1.
      same_changed s r writing_refusal (change p target.handle) (other p target.handle)
      (same p target.handle named))))

  pub nv_write_tells : Same s (nv_write_row (without_secrets s r) q) (nv_write_row r q)
  unfolding nv_write_row
  nv_write_tells = written_row (writing.parameters_in q.parameters) _ _
      (λ p handle named. written_alike s r.nv handle p.offset p.bytes)

  pub nv_set_bits_tells : Same s (nv_set_bits_row (without_secrets s r) q) (nv_set_bits_row r q)
  unfolding nv_set_bits_row
  nv_set_bits_tells =
      written_row (only (or_fault (number_at w64 q.parameters) (plain code.Insufficient))) _ _
      (λ bits handle named. bits_alike s r.nv handle bits)

  pub nv_extend_tells : Same s (nv_extend_row (without_secrets s r) q) (nv_extend_row r q)
  unfolding nv_extend_row
  nv_extend_tells = written_row (only (buffer_at data_limit q.parameters)) _ _
      (λ bytes handle named. extended_alike s r.nv handle bytes)

  pub nv_increment_tells : reads_secret s r command.NvIncrement q ≡ false
      → Same s (nv_increment_row (without_secrets s r) q) (nv_increment_row r q)
  unfolding nv_increment_row
  nv_increment_tells free =
      written_row (all_read q.parameters) _ _ (λ ended handle named.
      incremented_alike s r.nv handle
      (sym (ap (handle_passes (names_index (is_secret_counter s) r)) named) ∙ free))

  pub nv_write_lock_tells : Same s (nv_write_lock_row (without_secrets s r) q)
      (nv_write_lock_row r q)
  unfolding nv_write_lock_row
  nv_write_lock_tells =
      same_target s r q _ _ (λ target.
      same_step s (all_read q.parameters) _ _ (λ ended.
      same_step s (writer_passes target) _ _ (λ a1.
      same_changed s r lock_refusal _ _ (write_locked_alike s r.nv target.handle))))

  pub nv_read_lock_tells : Same s (nv_read_lock_row (without_secrets s r) q) (nv_read_lock_row r q)
  unfolding nv_read_lock_row
  nv_read_lock_tells =
      same_target s r q _ _ (λ target.
      same_step s (all_read q.parameters) _ _ (λ ended.
      same_step s (reader_passes target) _ _ (λ a1.
      same_changed s r lock_refusal _ _ (read_locked_alike s r.nv target.handle))))

  pub nv_change_auth_tells : Same s (nv_change_auth_row (without_secrets s r) q)
      (nv_change_auth_row r q)
  unfolding nv_change_auth_row
  nv_change_auth_tells =
      same_step s (first_handle q.handles) _ _ (λ handle.
      same_index s r handle _ _ (λ i is.
      same_step s (only (auth_value_at q.parameters)) _ _ (λ value.
      same_step s (refused_if (nat_lt (digest_size i.public.name_alg) (length value))
      (parameter_refusal action.First 1 code.Size)) _ _ (λ a1.
      same_changed s r (λ absence. handle_refusal) _ _ (auth_alike s r.nv handle value)))))

  -- ---- reading an index

  abbrev reads_target : Record → Target → Result Success Refused
  reads_target t target =
      reading.parameters_in q.parameters >>= λ p.
      or_refusal fault_refusal (reading_passes target) >>= λ readable.
      refused_if (nat_lt data_limit p.size) (parameter_refusal action.Fourth 1 code.Value) >>= λ a4.
      or_fault (read_at t.nv target.handle p.offset p.size)
      (action_refusal action.Fifth (plain code.NvRange)) >>= λ bytes.
      Ok (unchanged_success t (answer_of (Sized bytes)))

  pub nv_read_refused_alike : Alike success (nv_read_row (without_secrets s r) q) (nv_read_row r q)
  unfolding nv_read_row
  nv_read_refused_alike =
      alike_both success (target_of (without_secrets s r) q) (target_of r q)
      (reads_target (without_secrets s r)) (reads_target r) (target_bare s r q) (λ target.
      alike_step success (reading.parameters_in q.parameters) _ _ (λ p.
      alike_step success (or_refusal fault_refusal (reading_passes target)) _ _ (λ readable.
      alike_step success
      (refused_if (nat_lt data_limit p.size) (parameter_refusal action.Fourth 1 code.Value)) _ _
      (λ a4.
      alike_after success success _ _ _ _
      (alike_fault success (action_refusal action.Fifth (plain code.NvRange)) _ _
      (read_refused_alike s r.nv target.handle p.offset p.size))
      (λ one other same. alike_end success _ _ refl)))))

  nv_read_shown : handle_passes (names_index (is_secret_index s) r) (second_handle q.handles)
      ≡ false → Same s (nv_read_row (without_secrets s r) q) (nv_read_row r q)
  unfolding nv_read_row
  nv_read_shown shown =
      same_target_is s r q (reads_target (without_secrets s r)) (reads_target r) (λ target named.
      same_step s (reading.parameters_in q.parameters) _ _ (λ p.
      same_step s (or_refusal fault_refusal (reading_passes target)) _ _ (λ readable.
      same_step s
      (refused_if (nat_lt data_limit p.size) (parameter_refusal action.Fourth 1 code.Value)) _ _
      (λ a4.
      same_both s (or_fault (read_at (bare_nv s r.nv) target.handle p.offset p.size)
      (action_refusal action.Fifth (plain code.NvRange)))
      (or_fault (read_at r.nv target.handle p.offset p.size)
      (action_refusal action.Fifth (plain code.NvRange))) _ _
      (ap (λ (x : Result (List ℕ) ReadFault). or_fault x
      (action_refusal action.Fifth (plain code.NvRange)))
      (read_shown s r.nv target.handle p.offset p.size
      (sym (ap (handle_passes (names_index (is_secret_index s) r)) named) ∙ shown)))
      (λ bytes.
      same_unchanged s r _)))))

  pub nv_read_tells : reads_secret s r command.NvRead q ≡ false
      → Same s (nv_read_row (without_secrets s r) q) (nv_read_row r q)
  nv_read_tells free =
      either_free (handle_passes (names_index (is_secret_index s) r) (second_handle q.handles))
      (is_ok (nv_read_row r q)) free
      nv_read_shown
      (refused_alike (bare_success s) (nv_read_row (without_secrets s r) q) (nv_read_row r q)
      nv_read_refused_alike)
