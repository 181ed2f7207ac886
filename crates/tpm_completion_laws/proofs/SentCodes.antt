-- The commands that the layer sends to the device are TPM2_HMAC, TPM2_PCR_Extend and
-- TPM2_GetRandom.
use Rattle.std.proofs.Common.{arith, ◌≡◌, ℕ, Bool, true, false, List, ◌++◌, length, Option, Some, None, Result, Ok, Err, IfOk, IfSome, refl, sym, ap, subst}
use Rattle.std.specs.Int.{w32, to_be_bytes}
use Rattle.std.specs.Prelude.{◌==◌, ◌&&◌, ◌||◌, nat_lt, not, ok_or, if◌then◌else◌}
use Rattle.std.proofs.lemmas.Nat.{from_be_bytes-to_be_bytes_4}
use Rattle.tpm_bytes.specs.Reading.{◌>>=◌, refused_if}
use Rattle.tpm_bytes.specs.declared.cursor.Short.{Short}
use Rattle.tpm_commands.specs.CommandCode.{code_named, serves}
use Rattle.tpm_commands.specs.declared.profile.Profile.{Profile}
use Rattle.tpm_commands.specs.declared.command_code.CommandCode.{CommandCode}
use Rattle.tpm_commands.specs.declared.command_code.CommandCode.TheVariants as command
use Rattle.tpm_mac.specs.declared.algorithm.HashAlg.{HashAlg}
use Rattle.tpm_auth.specs.Entries.{is_password}
use Rattle.tpm_auth.specs.Grant.{authorize}
use Rattle.tpm_record.specs.Record.{Record}
use Rattle.tpm_types_common.specs.Limits.{buffer_limit}
use Rattle.tpm_types_common.specs.Refused.{checked_result}
use Rattle.tpm_types_common.specs.declared.check.Check.TheVariants as check
use Rattle.tpm_types_common.specs.declared.handle.Handle.{Handle}
use Rattle.tpm_types_common.specs.declared.refused.Refused.{Refused}
use Rattle.tpm_types_command.specs.AuthEntry.{Entry}
use Rattle.tpm_types_command.specs.Command.{Whole, sessions_at}
use Rattle.tpm_types_command.specs.Header.{code_field, header_at, if_served, size_field, tag_field}
use Rattle.tpm_types_command.specs.Tag.{tag_named}
use Rattle.tpm_types_command.specs.declared.header.Header.{Header}
use Rattle.tpm_types_command.specs.declared.header.HeaderFault.{HeaderFault}
use Rattle.tpm_types_command.specs.declared.header.HeaderFault.TheVariants as fault
use Rattle.tpm_step.specs.step.Answer.{framed_message}
use Rattle.tpm_step.specs.step.General.{body_of, general, in_command, in_header, present_handles_at, served_header, sessions_pass}
use Rattle.tpm_step.specs.step.Step.{acceptance, acceptance_in, request_in}
use Rattle.tpm_step.specs.step.Table.{row_of}
use Rattle.tpm_completion.specs.Answer.{is_refusal}
use Rattle.tpm_completion.specs.Command.{Command, authorized_command}
use Rattle.tpm_completion.specs.Sending.{accepted_only, area_of, complete_sent, event_complete_in, event_complete_sent, event_entry, extend_command, hmac_command, hmac_parameters, hmac_start_in, hmac_start_sent, random_command, random_covered, random_parameters, sent_by, sent_for, sent_in, sequence_asked, start_entry, unless_password, update_sent}
use Rattle.tpm_completion.specs.SequenceRows.{Named, completed_in, named_in, updated_in}
use Rattle.tpm_completion.specs.SessionEntry.{entry_sent}
use Rattle.tpm_completion.specs.declared.completion.Completion.{Completion}
use Rattle.tpm_completion.specs.declared.sending.Sent.{Sent}

-- ---- results of several steps

-- if every success of the second step satisfies a property, so does the success of both steps
pub then_ok : {A B E : Type 0} (Is : B → Type 0) (x : Result A E) (f : A → Result B E)
    → ((a : A) → IfOk (f a) Is) → IfOk (x >>= f) Is
then_ok Is (Ok a) f each = each a
then_ok Is (Err e) f each = tt

-- if the success of the first step satisfies `Was`, and the success of the second step therefore
-- satisfies `Is`, so does the success of both steps
ok_then : {A B E : Type 0} (Was : A → Type 0) (Is : B → Type 0) (x : Result A E)
    (f : A → Result B E) → IfOk x Was → ((a : A) → Was a → IfOk (f a) Is) → IfOk (x >>= f) Is
ok_then Was Is (Ok a) f was each = each a was
ok_then Was Is (Err e) f was each = tt

-- ---- the command code of a buffer

-- The command in a buffer, if there is one, has a code with this property.
abbrev pub HasCode : (CommandCode → Type 0) → List ℕ → Type 0
HasCode Is buffer = IfOk (header_at buffer) (λ h. Is h.0.code)

named_is : (Is : CommandCode → Type 0) (named : Option CommandCode) (c : CommandCode)
    → named ≡ Some c → Is c
    → IfOk (let z : Result CommandCode HeaderFault = ok_or named fault.Code in z) Is
named_is Is named c same is =
    subst (λ (x : Option CommandCode). IfOk (let z : Result CommandCode HeaderFault =
    ok_or x fault.Code in z) Is) (sym same) is

pub framed_code : (Is : CommandCode → Type 0) (tag code : ℕ) (body : List ℕ) (c : CommandCode)
    → code_named (code_field (framed_message tag code body)) ≡ Some c → Is c
    → HasCode Is (framed_message tag code body)
unfolding header_at
framed_code Is tag code body c named is =
    let bytes : List ℕ = framed_message tag code body in
    then_ok (λ h. Is h.0.code)
    (refused_if (nat_lt (length bytes) 10 || nat_lt buffer_limit (length bytes)) fault.Length) _
    (λ length_fits.
    then_ok (λ h. Is h.0.code) (ok_or (tag_named (tag_field bytes)) fault.Tag) _ (λ one.
    then_ok (λ h. Is h.0.code) (refused_if (not (size_field bytes == length bytes)) fault.Size) _
    (λ same.
    ok_then Is (λ h. Is h.0.code) (ok_or (code_named (code_field bytes)) fault.Code) _
    (named_is Is (code_named (code_field bytes)) c named is) (λ found has. has))))

-- ---- the command that the device decodes and accepts

body_code : (r : Record) (header : Header) (text : List ℕ)
    → IfOk (body_of r header text) (λ c. c.code ≡ header.code)
unfolding body_of
body_code r header text =
    then_ok (λ c. c.code ≡ header.code) _ _ (λ g5.
    then_ok (λ c. c.code ≡ header.code)
    (checked_result check.Handles (present_handles_at r header.code text)) _ (λ handles.
    then_ok (λ c. c.code ≡ header.code) (sessions_pass header.code header.tag) _ (λ g7.
    then_ok (λ c. c.code ≡ header.code)
    (checked_result check.Entries (sessions_at header.tag handles.1)) _ (λ entries. refl))))

in_command_is : {X : Type 0} (c : CommandCode) (x : Result X Refused) (Is : X → Type 0) → IfOk x Is
    → IfOk (in_command c x) Is
in_command_is c (Ok x) Is is = is
in_command_is c (Err e) Is is = tt

in_header_is : (profile : Profile) (x : Result (Header × List ℕ) HeaderFault)
    (Is : Header × List ℕ → Type 0) → IfOk x Is → IfOk (in_header (if_served profile x)) Is
in_header_is profile (Ok h) Is is = by (serves profile h.0.code)
  where
    by : (b : Bool) → IfOk (in_header (if b then Ok h else Err fault.Code)) Is
    by true = is
    by false = tt
in_header_is profile (Err f) Is is = tt

whole_is : (Is : CommandCode → Type 0) (header : Header) (x : Result Whole Refused) → Is header.code
    → IfOk x (λ c. c.code ≡ header.code) → IfOk x (λ c. Is c.code)
whole_is Is header (Ok c) is same = subst Is (sym same) is
whole_is Is header (Err e) is same = tt

general_code : (Is : CommandCode → Type 0) (r : Record) (buffer : List ℕ) → HasCode Is buffer
    → IfOk (general r buffer) (λ c. Is c.code)
unfolding general
general_code Is r buffer has =
    ok_then (λ h. Is h.0.code) (λ c. Is c.code) (in_header (served_header r buffer)) _
    (in_header_is r.fixed.profile (header_at buffer) (λ h. Is h.0.code) has) (λ header is.
    in_command_is header.0.code (body_of r header.0 header.1) (λ c. Is c.code)
    (whole_is Is header.0 (body_of r header.0 header.1) is (body_code r header.0 header.1)))

acceptance_code : (Is : CommandCode → Type 0) (r : Record) (c : Whole) (locality : ℕ)
    (random : List ℕ) → Is c.code → IfOk (acceptance r c locality random) (λ a. Is a.command.code)
unfolding acceptance
acceptance_code Is r c locality random is =
    then_ok (λ a. Is a.command.code) (authorize r c locality) _ (λ grants.
    then_ok (λ a. Is a.command.code) (row_of r c.code (request_in r c grants locality random)) _
    (λ success. is))

-- the code of an accepted command has every property that the code in its buffer has
pub accepted_code : (Is : CommandCode → Type 0) (r : Record) (buffer : List ℕ) (locality : ℕ)
    (random : List ℕ) → HasCode Is buffer
    → IfOk (acceptance_in r buffer locality random) (λ a. Is a.command.code)
unfolding acceptance_in
accepted_code Is r buffer locality random has =
    ok_then (λ c. Is c.code) (λ a. Is a.command.code) (general r buffer) _
    (general_code Is r buffer has) (λ c is.
    in_command_is c.code (acceptance r c locality random) (λ a. Is a.command.code)
    (acceptance_code Is r c locality random is))

-- ---- the commands that are sent

hmac_named : (tag : ℕ) (body : List ℕ) → code_named (code_field (framed_message tag 0x155 body))
    ≡ Some command.Hmac
unfolding code_named
hmac_named tag body = ap code_named (from_be_bytes-to_be_bytes_4 0x155 (omega arith))

extend_named : (tag : ℕ) (body : List ℕ) → code_named (code_field (framed_message tag 0x182 body))
    ≡ Some command.PcrExtend
unfolding code_named
extend_named tag body = ap code_named (from_be_bytes-to_be_bytes_4 0x182 (omega arith))

random_named : (tag : ℕ) (body : List ℕ) → code_named (code_field (framed_message tag 0x17b body))
    ≡ Some command.GetRandom
unfolding code_named
random_named tag body = ap code_named (from_be_bytes-to_be_bytes_4 0x17b (omega arith))

module _ (Is : CommandCode → Type 0) (hmac : Is command.Hmac) (extend : Is command.PcrExtend)
    (random : Is command.GetRandom) where
  abbrev Sends : Sent → Type 0
  Sends sent = HasCode Is sent.command

  hmac_code : (handle : Handle) (e : Entry) (asked : Option HashAlg)
      → HasCode Is (hmac_command handle e asked)
  unfolding hmac_command
  hmac_code handle e asked =
      let body : List ℕ = to_be_bytes w32 handle.number ++ area_of e ++ hmac_parameters asked in
      framed_code Is 0x8002 0x155 body command.Hmac (hmac_named 0x8002 body) hmac

  extend_code : (handle : Handle) (e : Entry) (digests : List ℕ)
      → HasCode Is (extend_command handle e digests)
  unfolding extend_command
  extend_code handle e digests =
      let body : List ℕ = to_be_bytes w32 handle.number ++ area_of e ++ digests in
      framed_code Is 0x8002 0x182 body command.PcrExtend (extend_named 0x8002 body) extend

  random_code : (e : Entry) → HasCode Is (random_command e)
  unfolding random_command
  random_code e =
      let body : List ℕ = area_of e ++ random_parameters in
      framed_code Is 0x8002 0x17b body command.GetRandom (random_named 0x8002 body) random

  start_code : (r : Record) (c : Completion) (text : List ℕ) → IfOk (hmac_start_sent r c text) Sends
  unfolding hmac_start_sent
  start_code r c text =
      then_ok Sends (hmac_start_in c text) _
      (λ start. hmac_code start.handle (start_entry r start) start.hash)

  event_code : (r : Record) (c : Completion) (text : List ℕ)
      → IfOk (event_complete_sent r c text) Sends
  unfolding event_complete_sent
  event_code r c text =
      then_ok Sends (event_complete_in c text) _
      (λ event. extend_code event.pcr (event_entry r event) event.digests)

  update_code : (r : Record) (named : Named) → IfOk (update_sent r named) Sends
  unfolding update_sent
  update_code r named =
      then_ok Sends (updated_in named) _
      (λ object. random_code
      (entry_sent r (sequence_asked 0x15c named) random_covered named.entry))

  complete_code : (r : Record) (named : Named) → IfOk (complete_sent r named) Sends
  unfolding complete_sent
  complete_code r named =
      then_ok Sends (completed_in r.fixed.hierarchies named) _
      (λ answer. random_code
      (entry_sent r (sequence_asked 0x13e named) random_covered named.entry))

  only_ok : (x : Result Sent Refused) → IfOk x Sends → IfSome (accepted_only (Some x)) Sends
  only_ok (Ok sent) is = is
  only_ok (Err e) is = tt

  unless_code : (sends : Named → Result Sent Refused) (x : Result Named Refused)
      → ((named : Named) → IfOk (sends named) Sends)
      → IfSome (accepted_only (unless_password sends x)) Sends
  unless_code sends (Ok named) each = by (is_password named.entry)
    where
      by : (b : Bool) → IfSome (accepted_only (if b then None else Some (sends named))) Sends
      by true = tt
      by false = only_ok (sends named) (each named)
  unless_code sends (Err e) each = tt

  by_code : (r : Record) (c : Completion) (code : ℕ) (text : List ℕ)
      → IfSome (accepted_only (sent_by r c code text)) Sends
  by_code r c code text = by (code == 0x15b) (code == 0x185) (code == 0x15c) (code == 0x13e)
    where
      by : (start event update complete : Bool)
          → IfSome
          (accepted_only (if start then Some (hmac_start_sent r c text)
          else (if event then Some (event_complete_sent r c text)
          else (if update then unless_password (update_sent r) (named_in c text)
          else (if complete then unless_password (complete_sent r) (named_in c text)
          else None))))) Sends
      by true event update complete = only_ok (hmac_start_sent r c text) (start_code r c text)
      by false true update complete = only_ok (event_complete_sent r c text) (event_code r c text)
      by false false true complete = unless_code (update_sent r) (named_in c text) (update_code r)
      by false false false true = unless_code (complete_sent r) (named_in c text) (complete_code r)
      by false false false false = tt

  in_code : (r : Record) (c : Completion) (x : Result Command Short) → IfSome (sent_in r c x) Sends
  in_code r c (Ok command) = by_code r c command.code command.parameters
  in_code r c (Err e) = tt

  -- a property that TPM2_HMAC, TPM2_PCR_Extend and TPM2_GetRandom all have holds for each command
  -- that the layer sends
  pub sent_code : (r : Record) (c : Completion) (buffer response : List ℕ)
      → IfSome (sent_for r c buffer response) Sends
  unfolding sent_for
  sent_code r c buffer response = by (r.fixed.started && is_refusal 0x143 response)
    where
      by : (b : Bool) → IfSome (if b then sent_in r c (authorized_command buffer) else None) Sends
      by true = in_code r c (authorized_command buffer)
      by false = tt
