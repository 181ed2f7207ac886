-- TPM2_GetRandom returns all random bytes that it draws. Therefore, its result depends on each of
-- them.
use Rattle.std.proofs.Common.{◌≡◌, List, [], ℕ, Result, Ok, Err, IfOk, ap, take}
use Rattle.std.specs.Prelude.{min}
use Rattle.std.specs.Int.{w16}
use Rattle.tpm_bytes.specs.Reading.{◌>>=◌, number_at, or_fault}
use Rattle.tpm_types_common.specs.Rc.{plain}
use Rattle.tpm_types_common.specs.declared.rc.ResponseCode.TheVariants as code
use Rattle.tpm_types_common.specs.declared.refused.Refused.{Refused}
use Rattle.tpm_commands.specs.declared.command_code.CommandCode.TheVariants as command
use Rattle.tpm_record.specs.Record.{Record}
use Rattle.tpm_record.specs.rows.Answer.{Body, Plain, Sized, SizedFirst}
use Rattle.tpm_record.specs.rows.Request.{Request}
use Rattle.tpm_record.specs.rows.Rows.{Success, only, unchanged_success}
use Rattle.tpm_actions_device.specs.GetRandom.{get_random_row, random_answer}
use Rattle.tpm_step.specs.step.Table.{row_of}
use Rattle.tpm_journal.specs.draw_laws.Bytes.{with_random}

-- the bytes of a sized buffer in an answer
abbrev sized_bytes : Body → List ℕ
sized_bytes (Sized bytes) = bytes
sized_bytes (SizedFirst bytes rest) = bytes
sized_bytes (Plain text) = []

abbrev answered : Result Success Refused → List ℕ
answered (Ok s) = sized_bytes s.answer.body
answered (Err e) = []

answers_needed : (r : Record) (random other : List ℕ) (requested : Result ℕ Refused)
    → IfOk (requested >>= λ n. Ok (unchanged_success r (random_answer (min n 32) random)))
    (λ s. (requested >>= λ n. Ok (unchanged_success r (random_answer (min n 32) other))) ≡ Ok s
    → take s.answer.drawn other ≡ take s.answer.drawn random)
answers_needed r random other (Ok n) = λ same. ap answered same
answers_needed r random other (Err e) = tt

pub bytes_needed : (r : Record) (q : Request) (other : List ℕ)
    → IfOk (row_of r command.GetRandom q)
    (λ s. row_of r command.GetRandom (with_random q other) ≡ Ok s
    → take s.answer.drawn other ≡ take s.answer.drawn q.random)
unfolding row_of get_random_row
bytes_needed r q other =
    answers_needed r q.random other
    (only (or_fault (number_at w16 q.parameters) (plain code.Insufficient)))
