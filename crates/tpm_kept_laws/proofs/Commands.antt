-- A command to a kept device has the effect that it encodes, and its answer reports this effect.
use Rattle.std.proofs.Common.{◌≡◌, ◌+◌, ◌-◌, ◌<◌, ◌≤◌, ◌^◌, ℕ, Bool, List, [], ◌∷◌, ◌++◌, length, min, take, Option, Some, Result, Ok, refl, subst, sym, ap, ◌∙◌, append_assoc, arith}
use Rattle.std.proofs.lemmas.List.{take_all}
use Rattle.std.proofs.lemmas.Bool.{le-ltb}
use Rattle.std.specs.Int.{w8, w16, w32, to_be_bytes}
use Rattle.tpm_bytes.proofs.Fields.{number_or_again, wide16, wide32, wide8}
use Rattle.tpm_completion.specs.Completed.{completed_effect, device_effect}
use Rattle.tpm_completion.specs.Completion.{forgotten}
use Rattle.tpm_completion.specs.Execution.{Seen}
use Rattle.tpm_image_text.specs.Fields.{malformed_fault, number_in}
use Rattle.tpm_image_text.specs.declared.fault.Malformed.{Malformed}
use Rattle.tpm_journal.specs.Command.{elapsed_of}
use Rattle.tpm_journal.specs.State.{time_after}
use Rattle.tpm_journal_text.specs.Entry.{entry_limit}
use Rattle.tpm_step.specs.step.Events.{Given}
use Rattle.tpm_types_common.specs.Limits.{buffer_limit}
use Rattle.tpm_kept_device.specs.Answer.{answer_of}
use Rattle.tpm_kept_journal.specs.Command.{After, At, Cycles, Executes, KeptCommand, Moment, command_of}
use Rattle.tpm_kept_journal.specs.Effect.{answer, clock_at, command_on, effect, left_by, report_and_response, state_after_command, with_both}
use Rattle.tpm_kept_journal.specs.State.{DeviceState, IsDeviceState, bytes_of, state_of_bytes}
use Rattle.tpm_kept_journal.proofs.States.{state_told}
use Rattle.tpm_kept_laws.specs.Commands.{ClockStands, ExecutesAsTold, IsReportable, ReportsTheRow, told_effect, waited}

-- ---- a command

module _ (s : DeviceState) (is : IsDeviceState s) (text : List ℕ) (c : KeptCommand)
    (read : command_of text ≡ Ok c) where
  -- `with_both` returns `f` applied to this state and this command, because both can be decoded.
  said : {X : Type 0} (other : X) (f : DeviceState → KeptCommand → X)
      → with_both (state_of_bytes (bytes_of s)) (command_of text) other f ≡ f s c
  said other f =
      ap (λ (o : Option DeviceState). with_both o (command_of text) other f) (state_told s is)
      ∙ ap (λ (x : Result KeptCommand Malformed). with_both (Some s) x other f) read

-- The device gets the milliseconds that the command waited.
elapsed_is : (moment : Moment) (time : ℕ) → waited moment time < 2 ^ 32
    → time + waited moment time < 2 ^ 64
    → elapsed_of (clock_at moment time) time ≡ waited moment time
elapsed_is (At now) time few small = refl
elapsed_is (After elapsed) time few small = omega (arith, few, small)

time_is : (time elapsed : ℕ) → time + elapsed < 2 ^ 64 → time_after time elapsed ≡ time + elapsed
time_is time elapsed small = omega (arith, small)

pub executes_as_told : ExecutesAsTold
executes_as_told s moment locality completes random buffer text is read fits few small =
    let c : KeptCommand = Executes moment locality completes random buffer in
    let wait : ℕ = waited moment s.time in
    let whole : take entry_limit buffer ≡ buffer = take_all entry_limit buffer (omega (arith, fits)) in
    let elapsed : elapsed_of (clock_at moment s.time) s.time ≡ wait =
    elapsed_is moment s.time few small in
    let mine : effect s (command_on s moment locality completes random buffer)
    ≡ told_effect s moment locality completes random buffer =
    ap (λ (l : List ℕ). completed_effect completes s.layer s.device
    (Given l locality (elapsed_of (clock_at moment s.time) s.time) random)) whole
    ∙ ap (λ (n : ℕ). completed_effect completes s.layer s.device (Given buffer locality n random))
    elapsed in
    let seen : Seen = told_effect s moment locality completes random buffer in (
      said s is text c read (bytes_of s) (λ s c. bytes_of (state_after_command s c))
          ∙ ap (λ (n : ℕ). bytes_of (left_by s n (effect s (command_on s moment locality completes random buffer)))) elapsed
          ∙ ap (λ (x : Seen). bytes_of (left_by s wait x)) mine
          ∙ ap (λ (n : ℕ). bytes_of (record { time = n; layer = seen.layer; device = seen.step.after }))
          (time_is s.time wait small),
      said s is text c read [] answer ∙ ap report_and_response mine,
    )

pub clock_stands : ClockStands
unfolding device_effect forgotten
clock_stands s now start text is read = (
  (state_after_command s (Cycles now start)).layer,
  refl,
  said s is text (Cycles now start) read (bytes_of s) (λ s c. bytes_of (state_after_command s c)),
  said s is text (Cycles now start) read [] answer,
)

-- ---- an answer

byte_read : (byte : ℕ) (rest : List ℕ) → byte < 2 ^ 8 → number_in w8 (byte ∷ rest) ≡ Ok (byte, rest)
byte_read byte rest small =
    subst (λ (first : ℕ). number_in w8 (first ∷ rest) ≡ Ok (byte, rest)) (omega (arith, small))
    (number_or_again w8 (2 ^ 8) wide8 malformed_fault byte rest small)

read_back : (code check drawn : ℕ) (response : List ℕ) → code < 2 ^ 32 → check < 2 ^ 8
    → drawn < 2 ^ 16 → length response ≤ buffer_limit
    → answer_of (to_be_bytes w32 code ++ (check ∷ (to_be_bytes w16 drawn ++ response)))
    ≡ Ok (record { code = code; check = check; drawn = drawn; response = response })
unfolding answer_of
read_back code check drawn response code_fits check_fits drawn_fits few =
    rw (
      number_or_again w32 (2 ^ 32) wide32 malformed_fault code
          (check ∷ (to_be_bytes w16 drawn ++ response)) code_fits,
      byte_read check (to_be_bytes w16 drawn ++ response) check_fits,
      number_or_again w16 (2 ^ 16) wide16 malformed_fault drawn response drawn_fits,
      le-ltb buffer_limit (length response) few,
    ) refl

pub reports_the_row : ReportsTheRow
reports_the_row seen is =
    ap answer_of (append_assoc (to_be_bytes w32 seen.step.row.code)
    (seen.step.row.check ∷ to_be_bytes w16 seen.drawn) seen.step.response)
    ∙ read_back seen.step.row.code seen.step.row.check seen.drawn seen.step.response is.code
    is.check is.drawn is.response
