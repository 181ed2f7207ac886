-- The rows of the commands for NV indices refuse by their own checks only as `own_refusals` lists.
use Rattle.std.proofs.Common.{Err, IfErr, List, Ok, Result, inl, inr, refl, ℕ}
use Rattle.tpm_types_common.specs.declared.handle.Handle.{Handle}
use Rattle.tpm_types_common.specs.declared.refused.Refused.{Refused}
use Rattle.tpm_commands.specs.declared.command_code.CommandCode.TheVariants as command
use Rattle.tpm_nv.specs.Access.{bits_set, contents_after_extend}
use Rattle.tpm_nv.specs.Index.{NvContents}
use Rattle.tpm_nv.specs.declared.definition.DefinitionFault.{DefinitionFault}
use Rattle.tpm_nv.specs.declared.definition.DefinitionFault.TheVariants as fault
use Rattle.tpm_nv.specs.declared.fault.LockFault.{LockFault}
use Rattle.tpm_nv.specs.declared.fault.LockFault.TheVariants as lock_fault
use Rattle.tpm_nv.specs.declared.fault.Undefined.{Undefined}
use Rattle.tpm_nv.specs.declared.fault.WriteFault.{WriteFault}
use Rattle.tpm_nv.specs.declared.fault.WriteFault.TheVariants as write_fault
use Rattle.tpm_record.specs.Record.{Record}
use Rattle.tpm_record.specs.declared.rows.target.Target.{Target}
use Rattle.tpm_record.specs.rows.Refusals.{fault_refusal, handle_refusal, or_refusal}
use Rattle.tpm_record.specs.rows.Request.{Request}
use Rattle.tpm_record.specs.rows.Target.{reading_passes, target_of}
use Rattle.tpm_nvactions.specs.Access.{lock_refusal, writing_refusal}
use Rattle.tpm_nvactions.specs.NvChangeAuth.{nv_change_auth_row}
use Rattle.tpm_nvactions.specs.NvDefineSpace.{definition_refusal, nv_define_space_row}
use Rattle.tpm_nvactions.specs.NvDefineSpace.{parameters_in as definition_parameters}
use Rattle.tpm_nvactions.specs.NvExtend.{nv_extend_row}
use Rattle.tpm_nvactions.specs.NvIncrement.{nv_increment_row}
use Rattle.tpm_nvactions.specs.NvRead.{nv_read_row, parameters_in as read_parameters}
use Rattle.tpm_nvactions.specs.NvReadLock.{nv_read_lock_row}
use Rattle.tpm_nvactions.specs.NvReadPublic.{nv_read_public_row}
use Rattle.tpm_nvactions.specs.NvSetBits.{nv_set_bits_row}
use Rattle.tpm_nvactions.specs.NvUndefineSpace.{nv_undefine_space_row}
use Rattle.tpm_nvactions.specs.NvWrite.{nv_write_row, parameters_in as write_parameters}
use Rattle.tpm_nvactions.specs.NvWriteLock.{nv_write_lock_row}
use Rattle.tpm_step.specs.rows.OwnRefusals.{IsListed, RefusesAsListed, lock_refusals, own_refusals}
use Rattle.tpm_step.specs.rows.OwnRefusals.{range_refusals, write_refusals}
use Rattle.tpm_step.proofs.rows.Binding.{err_bind}
use Rattle.tpm_step.proofs.refusals.Steps.{own_steps}

-- ---- steps that only these rows have

own_range : {X : Type 0} (x : Result X WriteFault)
    → IfErr (or_refusal writing_refusal x) (IsListed range_refusals)
own_range (Ok x) = tt
own_range (Err write_fault.Locked) = inr (inl refl)
own_range (Err write_fault.Attributes) = inr (inr (inl refl))
own_range (Err write_fault.PastData) = inr (inr (inr (inl refl)))
own_range (Err write_fault.Partial) = inr (inr (inr (inl refl)))
own_range (Err write_fault.Exhausted) = inr (inr (inr (inl refl)))
own_range (Err write_fault.Undefined) = tt

own_bits : (nv : NvContents) (h : Handle) (bits : ℕ)
    → IfErr (bits_set nv h bits) (λ fault. IsListed write_refusals (writing_refusal fault))
unfolding bits_set
own_bits nv h bits = search own_steps depth 16

own_extended : (nv : NvContents) (h : Handle) (bytes : List ℕ)
    → IfErr (contents_after_extend nv h bytes)
    (λ fault. IsListed write_refusals (writing_refusal fault))
unfolding contents_after_extend
own_extended nv h bytes = search own_steps depth 16

own_lock : {X : Type 0} (x : Result X LockFault)
    → IfErr (or_refusal lock_refusal x) (IsListed lock_refusals)
own_lock (Ok x) = tt
own_lock (Err lock_fault.Attributes) = inr (inl refl)
own_lock (Err lock_fault.Undefined) = tt

own_absence : {X : Type 0} (refusals : List Refused) (x : Result X Undefined)
    → IfErr (or_refusal (λ absence. handle_refusal) x) (IsListed refusals)
own_absence refusals (Ok x) = tt
own_absence refusals (Err absence) = tt

own_definition : (x : Result (Unit {0}) DefinitionFault)
    → IfErr (or_refusal definition_refusal x) (IsListed (own_refusals command.NvDefineSpace))
unfolding own_refusals
own_definition (Ok u) = tt
own_definition (Err fault.AuthValueSize) = inl refl
own_definition (Err fault.AuthPolicySize) = inr (inl refl)
own_definition (Err fault.Attributes) = inr (inr (inl refl))
own_definition (Err fault.DataSize) = inr (inr (inr (inl refl)))

-- ---- the rows

pub nv_define_space_own : (r : Record) (q : Request)
    → RefusesAsListed command.NvDefineSpace (nv_define_space_row r q)
unfolding nv_define_space_row definition_parameters own_refusals
nv_define_space_own r q = search (own_definition, own_steps) depth 16

pub nv_undefine_space_own : (r : Record) (q : Request)
    → RefusesAsListed command.NvUndefineSpace (nv_undefine_space_row r q)
unfolding nv_undefine_space_row own_refusals
nv_undefine_space_own r q = search own_steps depth 16

pub nv_read_public_own : (r : Record) (q : Request)
    → RefusesAsListed command.NvReadPublic (nv_read_public_row r q)
unfolding nv_read_public_row
nv_read_public_own r q = search own_steps depth 16

pub nv_change_auth_own : (r : Record) (q : Request)
    → RefusesAsListed command.NvChangeAuth (nv_change_auth_row r q)
unfolding nv_change_auth_row own_refusals
nv_change_auth_own r q = search (own_absence, own_steps) depth 16

pub nv_write_own : (r : Record) (q : Request)
    → RefusesAsListed command.NvWrite (nv_write_row r q)
unfolding nv_write_row write_parameters own_refusals
nv_write_own r q = search (own_range, own_steps) depth 16

pub nv_increment_own : (r : Record) (q : Request)
    → RefusesAsListed command.NvIncrement (nv_increment_row r q)
unfolding nv_increment_row own_refusals
nv_increment_own r q = search (own_range, own_steps) depth 16

pub nv_set_bits_own : (r : Record) (q : Request)
    → RefusesAsListed command.NvSetBits (nv_set_bits_row r q)
unfolding nv_set_bits_row own_refusals
nv_set_bits_own r q = search (own_bits, own_steps) depth 16

pub nv_extend_own : (r : Record) (q : Request)
    → RefusesAsListed command.NvExtend (nv_extend_row r q)
unfolding nv_extend_row own_refusals
nv_extend_own r q = search (own_extended, own_steps) depth 16

own_target : (refusals : List Refused) (r : Record) (q : Request)
    → IfErr (target_of r q) (IsListed refusals)
own_target refusals r q = search own_steps depth 16

reading_read : (refusals : List Refused) (text : List ℕ)
    → IfErr (read_parameters text) (IsListed refusals)
unfolding read_parameters
reading_read refusals text = search own_steps depth 16

own_readable : (target : Target)
    → IfErr (or_refusal fault_refusal (reading_passes target))
    (IsListed (own_refusals command.NvRead))
unfolding own_refusals
own_readable target = search own_steps depth 16

pub nv_read_own : (r : Record) (q : Request) → RefusesAsListed command.NvRead (nv_read_row r q)
unfolding nv_read_row own_refusals
nv_read_own r q =
    err_bind _ (target_of r q) _ (own_target _ r q) (λ target.
    err_bind _ (read_parameters q.parameters) _ (reading_read _ q.parameters) (λ p.
    err_bind _ (or_refusal fault_refusal (reading_passes target)) _ (own_readable target)
    (λ readable. search own_steps depth 16)))

pub nv_write_lock_own : (r : Record) (q : Request)
    → RefusesAsListed command.NvWriteLock (nv_write_lock_row r q)
unfolding nv_write_lock_row own_refusals
nv_write_lock_own r q = search (own_lock, own_steps) depth 16

pub nv_read_lock_own : (r : Record) (q : Request)
    → RefusesAsListed command.NvReadLock (nv_read_lock_row r q)
unfolding nv_read_lock_row own_refusals
nv_read_lock_own r q = search (own_lock, own_steps) depth 16
