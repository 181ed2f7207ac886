-- The step of one event. Time passes first. Then come the general checks, the authorization, the
-- command's row and the answer. TPM 2.0 Library, Part 1, section 18 (command and response
-- structures), and Part 3, sections 5 and 6.
use Rattle.std.specs.Prelude.{◌≡◌, ℕ, Bool, true, false, List, [], Option, Result, Ok, Err, if◌then◌else◌}
use Rattle.tpm_bytes.specs.Reading.{◌>>=◌}
use Rattle.tpm_types_command.specs.Command.{Whole}
use Rattle.tpm_commands.specs.CommandCode.{code_number}
use Rattle.tpm_commands.specs.CommandCode.{shape_of}
use Rattle.tpm_record.specs.Cycle.{after_cycle}
use Rattle.tpm_record.specs.Record.{Record, with_lockout, with_saved}
use Rattle.tpm_record.specs.Tick.{after_tick}
use Rattle.tpm_types_common.specs.Check.{check_number}
use Rattle.tpm_auth.specs.Grant.{authorize}
use Rattle.tpm_auth.specs.declared.session_grant.Grant.{Grant}
use Rattle.tpm_lockout.specs.Lockout.{LockoutState}
use Rattle.tpm_lockout.specs.Recovery.{closed_by_failure}
use Rattle.tpm_lockout.specs.Tries.{after_failure}
use Rattle.tpm_types_common.specs.declared.refused.Counted.{Counted}
use Rattle.tpm_types_common.specs.declared.refused.Counted.TheVariants as counted
use Rattle.tpm_types_common.specs.declared.refused.Refused.{Refused}
use Rattle.tpm_record.specs.rows.Answer.{IsAnswer}
use Rattle.tpm_record.specs.rows.Request.{Request}
use Rattle.tpm_record.specs.declared.rows.answer.Answer.{Answer}
use Rattle.tpm_record.specs.rows.Refusals.{memory_refusal}
use Rattle.tpm_record.specs.rows.Rows.{Success}
use Rattle.tpm_record.specs.Saved.{Nothing}
use Rattle.tpm_commands.specs.declared.command_code.CommandCode.{CommandCode}
use Rattle.tpm_step.specs.step.Answer.{Answered, answer_to, refusal_text, written_of}
use Rattle.tpm_step.specs.step.Events.{PlainEvent, Given, Cycled, Placed}
use Rattle.tpm_step.specs.step.General.{general, in_command}
use Rattle.tpm_step.specs.step.Granted.{granted_entries}
use Rattle.tpm_step.specs.step.Parameters.{plain_parameters}
use Rattle.tpm_step.specs.step.Placing.{record_with_object}
use Rattle.tpm_step.specs.step.Table.{row_of}
use Rattle.tpm_step.specs.declared.event.Outcome.{Outcome}
use Rattle.tpm_step.specs.declared.event.Row.{Row}
use Rattle.tpm_step.specs.declared.refused_command.RefusedCommand.{RefusedCommand}

-- the outcome of an event: the response, the reported row, and the record after it
pub record Stepped : Type 0 where
  pub response : List ℕ
  pub row : Row
  pub after : Record

-- an accepted command: the command as it was sent, what each entry authorizes, the request, and
-- the success of its row
pub record Accepted : Type 0 where
  pub command : Whole
  pub grants : List (Option Grant)
  pub request : Request
  pub success : Success

-- the request of a command, with its parameters decrypted by its sessions
abbrev pub request_in : Record → Whole → List (Option Grant) → ℕ → List ℕ → Request
request_in device command grants locality random = record {
  handles = command.handles;
  locality = locality;
  parameters = plain_parameters device (granted_entries command grants) command.parameters;
  random = random;
}

-- accepts or refuses a command: first by its authorization, then by its row
unfoldable pub acceptance : Record → Whole → ℕ → List ℕ → Result Accepted Refused
acceptance r c locality random = do
  grants ← authorize r c locality
  let q : Request = request_in r c grants locality random
  success ← row_of r c.code q
  Ok (record { command = c; grants = grants; request = q; success = success })

-- The command is refused as the definition says. If an allocation can fail, a command that may
-- allocate can be refused with MEMORY instead of succeeding.
abbrev pub RefusesOrWantsMemory : Bool → Whole → Result Accepted Refused → Refused → Type 0
RefusesOrWantsMemory can c (Err refused) e = e ≡ refused
RefusesOrWantsMemory can c (Ok a) e =
    (can ≡ true) × (a.command ≡ c) × ((shape_of c.code).grows ≡ true) × (e ≡ memory_refusal)

-- The command succeeds with these grants and this answer, and leaves this record.
abbrev pub Succeeds : Result Accepted Refused → Whole → List (Option Grant)
    → Answer → Record → Type 0
Succeeds (Ok a) c grants answer new =
    (a.command ≡ c) × (a.grants ≡ grants) × IsAnswer a.success.answer answer
    × (new ≡ a.success.after)
Succeeds (Err refused) c grants answer new = ⊥

-- The code accepts or refuses the command as the definition says. If it accepts, it returns the
-- definition's grants. A refusal leaves the record unchanged.
abbrev pub Accepts : Bool → Result Accepted Refused → Whole → List (Option Grant)
    → Record → Result (Unit {0}) Refused → Answer → Record → Type 0
Accepts can a c grants old (Ok done) answer new = Succeeds a c grants answer new
Accepts can a c grants old (Err e) answer new = (new ≡ old) × RefusesOrWantsMemory can c a e

-- the accepted command that a buffer encodes, or the first refusal. The command's elapsed time has
-- already been added to the record
unfoldable pub acceptance_in : Record → List ℕ → ℕ → List ℕ → Result Accepted RefusedCommand
acceptance_in r buffer locality random = do
  command ← general r buffer
  in_command command.code (acceptance r command locality random)

-- the lockout state after a refusal: unchanged, or changed by a failed try, either on a protected
-- entity or on lockoutAuth. A failed try on lockoutAuth disables lockoutAuth
abbrev pub lockout_counted : Counted → LockoutState → LockoutState
lockout_counted counted.None s = s
lockout_counted counted.Try s = after_failure s
lockout_counted counted.Lockout s = closed_by_failure s

abbrev pub counted_in : Counted → Record → Record
counted_in counted r = with_lockout r (lockout_counted counted r.fixed.lockout)

-- the step of a refused command, which changes nothing in the record except the lockout state
abbrev pub refusal_step : Record → RefusedCommand → Stepped
refusal_step r e = record {
  response = refusal_text e.refused;
  row = record { code = e.code; check = check_number e.refused.check };
  after = counted_in e.refused.counted r;
}

-- the record after a success, which discards the state that a TPM2_Shutdown saved unless the
-- command preserves it (Part 3, section 9.4)
abbrev pub settled_record : CommandCode → Record → Record
settled_record code r = if (shape_of code).keeps_shutdown then r else with_saved r Nothing

abbrev pub success_step : Accepted → List ℕ → Stepped
success_step a random =
    let x : Answered =
    answer_to a.command a.grants (written_of a.success.answer) a.success.after random in
    record {
      response = x.response;
      row = record { code = code_number a.command.code; check = 0 };
      after = settled_record a.command.code x.after;
    }

abbrev pub stepped_of : Record → List ℕ → Result Accepted RefusedCommand → Stepped
stepped_of r random (Ok a) = success_step a random
stepped_of r random (Err e) = refusal_step r e

-- the step with the response and the row of this outcome, and with r as the new record
abbrev pub outcome_step : Record → Outcome → Stepped
outcome_step r o = record { response = o.response.items; row = o.row; after = r }

-- the step of a command whose allocation fails: the response is MEMORY, the check is M, and the
-- record is unchanged
abbrev pub refusal_without_memory : Record → Whole → Stepped
refusal_without_memory r c =
    refusal_step r (record { code = code_number c.code; refused = memory_refusal })

-- the step of an accepted command when allocations fail: it returns MEMORY if it may allocate, and
-- otherwise it succeeds
abbrev pub success_without_memory : Record → List ℕ → Accepted → Stepped
success_without_memory r random a =
    if (shape_of a.command.code).grows then refusal_without_memory r a.command
    else success_step a random

-- the step of a command, when allocations fail (true) or succeed (false). A refused command
-- allocates nothing
abbrev pub answer_where : Bool → Record → List ℕ → Result Accepted RefusedCommand → Stepped
answer_where false r random a = stepped_of r random a
answer_where true r random (Ok a) = success_without_memory r random a
answer_where true r random (Err e) = refusal_step r e

-- the step of an event, when allocations fail (true) or succeed (false). The elapsed time of a
-- command is added first. A placed object has no response, and it changes nothing if all slots are
-- taken
abbrev pub step_where : Bool → Record → PlainEvent → Stepped
step_where refused r (Given buffer locality elapsed random) =
    let t = after_tick r elapsed in
    answer_where refused t random (acceptance_in t buffer locality random)
step_where refused r Cycled =
    record { response = []; row = record { code = 0; check = 0 }; after = after_cycle r }
step_where refused r (Placed object) =
    record {
      response = [];
      row = record { code = 0; check = 0 };
      after = record_with_object r object;
    }

-- the step of an event when all allocations succeed
abbrev pub step : Record → PlainEvent → Stepped
step r event = step_where false r event

-- x is the step of the command. Either all its allocations succeed, or `can` is true and they fail.
abbrev pub Answers : Bool → Record → List ℕ → Result Accepted RefusedCommand → Stepped → Type 0
Answers can r random a x =
    (refused : Bool) × (refused ≡ true → can ≡ true) × (x ≡ answer_where refused r random a)

-- x is the step of the event. Either all its allocations succeed, or `can` is true and they fail.
abbrev pub Steps : Bool → Record → PlainEvent → Stepped → Type 0
Steps can r event x =
    (refused : Bool) × (refused ≡ true → can ≡ true) × (x ≡ step_where refused r event)
