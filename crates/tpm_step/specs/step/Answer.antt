-- The responses of a device. TPM 2.0 Library, Part 1, section 18 (command and response structures).
use Rattle.std.specs.Prelude.{ℕ, ◌+◌, List, [], ◌∷◌, ◌++◌, length, drop, Option, Some, None}
use Rattle.std.specs.Int.{w16, w32, to_be_bytes}
use Rattle.tpm_types_common.specs.declared.handle.Handle.{Handle}
use Rattle.tpm_types_command.specs.AuthEntry.{Entry}
use Rattle.tpm_types_command.specs.Command.{Whole, handle_text}
use Rattle.tpm_commands.specs.CommandCode.{code_number}
use Rattle.tpm_types_common.specs.Rc.{rc_number}
use Rattle.tpm_session.specs.ParameterHash.{OfResponse}
use Rattle.tpm_record.specs.Record.{Record}
use Rattle.tpm_record.specs.rows.Answer.{AnswerParts, answer_body_text}
use Rattle.tpm_record.specs.declared.rows.answer.Answer.{Answer}
use Rattle.tpm_step.specs.step.Entries.{Drawn, entries_answer, entries_ended, entries_rolled}
use Rattle.tpm_step.specs.step.Granted.{Granted, granted_entries}
use Rattle.tpm_step.specs.step.Parameters.{encrypted_answer}
use Rattle.tpm_auth.specs.declared.session_grant.Grant.{Grant}
use Rattle.tpm_types_common.specs.declared.check.Check.{Check}
use Rattle.tpm_types_common.specs.declared.check.Check.TheVariants as check
use Rattle.tpm_types_common.specs.declared.refused.Refused.{Refused}

-- a response or a command: its tag, its size, its code, and the body after this header
abbrev pub framed_message : (tag code : ℕ) → List ℕ → List ℕ
framed_message tag code body =
    to_be_bytes w16 tag ++ to_be_bytes w32 (10 + length body) ++ to_be_bytes w32 code ++ body

-- the tag of a refusal: TPM_ST_NO_SESSIONS, or TPM_ST_RSP_COMMAND (00C4) if the command's tag was
-- bad
abbrev pub refusal_tag : Check → ℕ
refusal_tag check.Tag = 0xc4
refusal_tag _ = 0x8001

-- the ten bytes of the response to a refused command
abbrev pub refusal_text : Refused → List ℕ
refusal_text e = framed_message (refusal_tag e.check) (rc_number e.rc) []

abbrev pub handle_answer : Option Handle → List ℕ
handle_answer None = []
handle_answer (Some handle) = handle_text handle

-- the response to a successful command: the handle that it returns, if any, and the parameters. If
-- the command has sessions, the size of the parameters comes before the parameters, and the answer
-- to each entry comes after them
unfoldable pub success_text : List Entry → Option Handle → (answer area : List ℕ) → List ℕ
success_text [] handle answer area = framed_message 0x8001 0 (handle_answer handle ++ answer)
success_text (entry ∷ entries) handle answer area =
    framed_message 0x8002 0
    (handle_answer handle ++ to_be_bytes w32 (length answer) ++ answer ++ area)

-- a response, and the record after it
pub record Answered : Type 0 where
  pub response : List ℕ
  pub after : Record

-- an answer with its parameters encoded as bytes
pub record Written : Type 0 where
  pub handle : Option Handle
  pub parameters : List ℕ
  pub drawn : ℕ

abbrev pub written_of : AnswerParts → Written
written_of a = record { handle = a.handle; parameters = answer_body_text a.body; drawn = a.drawn }

-- the code's `Answer`, with its parameters as encoded bytes
abbrev pub text_of : Answer → Written
text_of a = record { handle = a.handle; parameters = a.parameters; drawn = a.drawn }

-- the answer to a command after its effect, given the grant of each entry. First, new nonces are
-- drawn from the random bytes that the command left. Then the first parameter is encrypted if an
-- entry asks for it, and the response to each entry is computed. Last, the policy sessions that
-- authorized a handle are reset, and sessions without continueSession end
unfoldable pub answer_to : Whole → List (Option Grant) → Written → Record → List ℕ → Answered
answer_to command grants answer effect random =
    let granted : List Granted = granted_entries command grants in
    let drawn : Drawn = entries_rolled effect command.entries (drop answer.drawn random) in
    let parameters : List ℕ = encrypted_answer drawn.after granted answer.parameters in
    record {
      response = success_text command.entries answer.handle parameters
          (entries_answer drawn.after (OfResponse (code_number command.code) parameters) granted);
      after = entries_ended drawn.after granted;
    }
