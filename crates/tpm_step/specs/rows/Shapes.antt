-- What a command's shape determines: the answer of a success, whether the success fills another
-- slot, and the kinds of the command's parameters.
use Rattle.std.specs.Prelude.{◌≡◌, ◌≤◌, ◌⊎◌, ℕ, ◌+◌, Bool, true, false, List, [], ◌∷◌, length, is_some, Result, Ok, Err}
use Rattle.std.specs.Int.{w8, w16, w32, w64}
use Rattle.tpm_bytes.specs.Reading.{◌>>=◌, number_at, or_fault}
use Rattle.tpm_containers.specs.Slots.{taken_count}
use Rattle.tpm_commands.specs.declared.command_code.CommandCode.{CommandCode}
use Rattle.tpm_commands.specs.declared.command_code.CommandCode.TheVariants as command
use Rattle.tpm_types_common.specs.declared.rc.Rc.{Rc}
use Rattle.tpm_types_common.specs.declared.rc.ResponseCode.TheVariants as code
use Rattle.tpm_commands.specs.declared.shape.ParameterKind.{ParameterKind}
use Rattle.tpm_commands.specs.declared.shape.ParameterKind.TheVariants as kind
use Rattle.tpm_types_common.specs.Algorithm.{hash_at, hash_or_null_at}
use Rattle.tpm_types_common.specs.Buffer.{buffer_at}
use Rattle.tpm_commands.specs.CommandCode.{shape_of}
use Rattle.tpm_types_common.specs.DigestList.{digest_list_at}
use Rattle.tpm_types_common.specs.DigestValues.{digest_values_at}
use Rattle.tpm_types_common.specs.Filled.{filled_by}
use Rattle.tpm_types_common.specs.PcrSelection.{selection_at}
use Rattle.tpm_types_common.specs.PersistentHandle.{persistent_handle_at}
use Rattle.tpm_types_object.specs.Public.{public_at}
use Rattle.tpm_types_nv.specs.NvPublic.{nv_public_at}
use Rattle.tpm_types_common.specs.Operation.{operation_at}
use Rattle.tpm_types_common.specs.Rc.{plain}
use Rattle.tpm_types_object.specs.SensitiveCreate.{sensitive_create_at}
use Rattle.tpm_types_common.specs.SessionType.{session_type_at}
use Rattle.tpm_types_common.specs.StartupType.{startup_type_at}
use Rattle.tpm_types_common.specs.Symmetric.{symmetric_at}
use Rattle.tpm_types_common.specs.YesNo.{yes_no_at}
use Rattle.tpm_record.specs.Record.{Record}
use Rattle.tpm_types_common.specs.declared.check.Check.TheVariants as check
use Rattle.tpm_types_common.specs.declared.refused.Refused.{Refused}
use Rattle.tpm_record.specs.rows.Answer.{begins_sized}
use Rattle.tpm_record.specs.rows.Rows.{Success, all_read, parameter}
use Rattle.tpm_actions_device.specs.Hash.{hierarchy_at}
use Rattle.tpm_actions_device.specs.IncrementalSelfTest.{algorithms_at}
use Rattle.tpm_actions_device.specs.TestParms.{typed_parameters_at}
use Rattle.tpm_step.specs.rows.Refusals.{Passes}

-- A success returns a handle if and only if the command's shape says so. The first parameter of its
-- answer is a sized buffer if and only if the shape says so.
abbrev pub AnswersItsShape : CommandCode → Success → Type 0
AnswersItsShape c s =
    (is_some s.answer.handle ≡ (shape_of c).answers_handle)
    × (begins_sized s.answer.body ≡ (shape_of c).sized_answer)

-- the number of slots and list entries that a record uses for sessions, transient and persistent
-- objects, and NV indices
abbrev pub taken_in : Record → ℕ
taken_in r =
    taken_count r.sessions + taken_count r.objects + length r.persistent + length r.nv.indices

-- If the command adds an entity or a session, one more slot is filled. Otherwise, no more slots are
-- filled than before.
abbrev pub Grows : Bool → Record → Record → Type 0
Grows true old new = taken_in new ≡ taken_in old + 1
Grows false old new = taken_in new ≤ taken_in old

-- A success of TPM2_EvictControl fills or frees one slot. A success of any other command fills one
-- more slot if and only if its shape says so.
abbrev pub GrowsAsShaped : CommandCode → Record → Record → Type 0
GrowsAsShaped command.EvictControl old new = Grows true old new ⊎ Grows true new old
GrowsAsShaped c old new = Grows (shape_of c).grows old new

-- the bytes after a parsed parameter, or the parameter's fault
abbrev pub behind : {X : Type 0} → Result (X × List ℕ) Rc → Result (List ℕ) Rc
behind (Ok p) = Ok p.1
behind (Err rc) = Err rc

-- the bytes after a parameter of this kind, or the parameter's fault
abbrev pub behind_kind : ParameterKind → List ℕ → Result (List ℕ) Rc
behind_kind kind.StartupType text = behind (startup_type_at text)
behind_kind kind.SessionType text = behind (session_type_at text)
behind_kind kind.U8 text = behind (or_fault (number_at w8 text) (plain code.Insufficient))
behind_kind kind.U16 text = behind (or_fault (number_at w16 text) (plain code.Insufficient))
behind_kind kind.U32 text = behind (or_fault (number_at w32 text) (plain code.Insufficient))
behind_kind kind.U64 text = behind (or_fault (number_at w64 text) (plain code.Insufficient))
behind_kind kind.Hash text = behind (hash_at text)
behind_kind kind.HashOrNull text = behind (hash_or_null_at text)
behind_kind kind.Symmetric text = behind (symmetric_at text)
behind_kind kind.Selection text = behind (selection_at text)
behind_kind kind.Digests text = behind (digest_values_at text)
behind_kind kind.DigestList text = behind (digest_list_at text)
behind_kind (kind.Buffer most) text = behind (buffer_at most text)
behind_kind kind.SensitiveCreate text = behind (filled_by sensitive_create_at text)
behind_kind kind.Public text = behind (filled_by public_at text)
behind_kind kind.NvPublic text = behind (filled_by nv_public_at text)
behind_kind kind.Operation text = behind (operation_at text)
behind_kind kind.YesNo text = behind (yes_no_at text)
behind_kind kind.PersistentHandle text = behind (persistent_handle_at text)
behind_kind kind.Hierarchy text = behind (hierarchy_at text)
behind_kind kind.AlgorithmList text = behind (algorithms_at text)
behind_kind kind.PublicParameters text = behind (typed_parameters_at text)

-- parses parameters of these kinds up to the end of the bytes; the first parameter has number n.
-- The result is the first fault, if any
abbrev pub parameters_check : ℕ → List ParameterKind → List ℕ → Result (Unit {0}) Refused
parameters_check n [] text = all_read text
parameters_check n (kind ∷ kinds) text = do
  rest ← parameter n (behind_kind kind text)
  parameters_check (n + 1) kinds rest

-- The row refuses the parameters with this fault, unless it refuses a handle first.
abbrev pub ParametersFail : {X : Type 0} → Refused → Result X Refused → Type 0
ParametersFail fault (Ok s) = ⊥
ParametersFail fault (Err e) = (e ≡ fault) ⊎ (e.check ≡ check.Handles)

-- The row does not refuse parameters of these kinds. It refuses other parameters with their first
-- fault, unless it refuses a handle first.
abbrev pub ReadsParameters : {X : Type 0} → Result (Unit {0}) Refused → Result X Refused → Type 0
ReadsParameters (Ok done) row = Passes check.Parameters row
ReadsParameters (Err fault) row = ParametersFail fault row
