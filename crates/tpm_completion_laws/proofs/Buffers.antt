-- If the device does not support a command, it refuses the command with COMMAND_CODE, and the layer
-- parses the command.
use Rattle.std.proofs.Common.{arith, ◌≡◌, ℕ, ◌+◌, ◌^◌, ◌<◌, ◌≤◌, ◌&&◌, Bool, true, false, ltb, List, [], ◌++◌, drop, length, take, Option, Some, None, Result, Ok, Err, refl, sym, ap, ◌∙◌}
use Rattle.std.specs.Prelude.{◌==◌, ◌||◌, not, ok_or, if◌then◌else◌}
use Rattle.std.specs.Int.{w16, w32, from_be_bytes, to_be_bytes}
use Rattle.std.specs.List.{find}
use Rattle.std.specs.Option.{option_map_or}
use Rattle.std.proofs.lemmas.Bool.{eq-eqb, le-leb, le-ltb}
use Rattle.std.proofs.lemmas.Nat.{from_be_bytes-to_be_bytes_2, from_be_bytes-to_be_bytes_4}
use Rattle.tpm_bytes.specs.Reading.{◌>>=◌, number_at, refused_if, too_short}
use Rattle.tpm_bytes.specs.declared.cursor.Short.{Short}
use Rattle.tpm_bytes.proofs.Fields.{number_again, wide16, wide32}
use Rattle.tpm_commands.specs.CommandCode.{code_named}
use Rattle.tpm_commands.specs.declared.command_code.CommandCode.{CommandCode}
use Rattle.tpm_record.specs.Record.{Record}
use Rattle.tpm_record.specs.Tick.{after_tick}
use Rattle.tpm_types_common.specs.Check.{check_number}
use Rattle.tpm_types_common.specs.Limits.{buffer_limit}
use Rattle.tpm_types_common.specs.Rc.{code_number}
use Rattle.tpm_types_common.specs.declared.check.Check.TheVariants as check
use Rattle.tpm_types_command.proofs.Tags.{tag_named-again}
use Rattle.tpm_types_command.specs.Header.{code_field, header_at, if_served, size_field, tag_field}
use Rattle.tpm_types_command.specs.Tag.{tag_named}
use Rattle.tpm_types_command.specs.declared.header.Header.{Header}
use Rattle.tpm_types_command.specs.declared.header.HeaderFault.{HeaderFault}
use Rattle.tpm_types_command.specs.declared.header.HeaderFault.TheVariants as fault
use Rattle.tpm_types_command.specs.declared.tag.Tag.{Tag}
use Rattle.tpm_types_command.specs.declared.tag.Tag.TheVariants.{NoSessions}
use Rattle.tpm_step.specs.step.Answer.{framed_message}
use Rattle.tpm_step.specs.step.Events.{Given}
use Rattle.tpm_step.specs.step.General.{body_of, general, in_command, in_header}
use Rattle.tpm_step.specs.step.Step.{Stepped, acceptance_in, acceptance, answer_where, step}
use Rattle.tpm_completion.specs.Answer.{is_refusal, refusal}
use Rattle.tpm_completion.specs.Command.{Command, authorized_command, plain_command}
use Rattle.tpm_completion.specs.Hiding.{entries_after, entry_places, handle_places, handles_of, heard_buffer, hidden_at, is_saved_at, long_at, session_places, short_at}
use Rattle.tpm_completion.specs.Loading.{context_asked, object_context_in}
use Rattle.tpm_completion.specs.Reply.{command_reply, or_reply, plain_reply, reply, reply_by, served_reply}
use Rattle.tpm_completion.specs.Saving.{Reply}
use Rattle.tpm_completion.specs.Sending.{sent_for, sent_in}
use Rattle.tpm_completion.specs.SequenceReply.{asked_reply, bare_reply, sequence_reply}
use Rattle.tpm_completion.specs.declared.completion.Completion.{Completion}

-- ---- the device

-- If only the command code of a header is wrong, the fault of the header is an unknown command
-- code.
lacked_by : (outside other_size : Bool) (named : Option Tag) (known : Option CommandCode)
    (tag : Tag) (rest : List ℕ) → outside ≡ false → named ≡ Some tag → other_size ≡ false
    → known ≡ None → (refused_if outside fault.Length >>= λ length_fits. ok_or named fault.Tag
    >>= λ tag. refused_if other_size fault.Size >>= λ size_is_length. ok_or known fault.Code
    >>= λ code. Ok (record { tag = tag; code = code }, rest))
    ≡ (let done : Result (Header × List ℕ) HeaderFault = Err fault.Code in done)
lacked_by outside other_size named known tag rest e0 e1 e2 e3 = rw (e0, e1, e2, e3) refl

-- The device supports no command with this code.
pub record IsLacking (code : ℕ) : Type 0 where
  pub small : code < 2 ^ 32
  pub unnamed : code_named code ≡ None

pub framed_size : (code : ℕ) (body : List ℕ)
    → length (framed_message 0x8001 code body) ≡ 10 + length body
framed_size code body = omega arith

pub header_lacks : (code : ℕ) (body : List ℕ) → IsLacking code → length body ≤ 4086
    → header_at (framed_message 0x8001 code body) ≡ Err fault.Code
unfolding header_at
header_lacks code body is few =
    let bytes = framed_message 0x8001 code body in
    let long : length bytes ≡ 10 + length body = framed_size code body in
    let least : ltb (length bytes) 10 ≡ false = le-ltb _ _ (omega (arith, long)) in
    let most : ltb buffer_limit (length bytes) ≡ false = le-ltb _ _ (omega (arith, long, few)) in
    let outside : (ltb (length bytes) 10 || ltb buffer_limit (length bytes)) ≡ false =
    rw (least, most) refl in
    let tag-is : tag_named (tag_field bytes) ≡ Some NoSessions =
    ap tag_named (from_be_bytes-to_be_bytes_2 0x8001 (omega arith))
    ∙ tag_named-again NoSessions in
    let size-is : size_field bytes ≡ length bytes =
    from_be_bytes-to_be_bytes_4 (10 + length body) (omega (arith, few)) ∙ sym long in
    let other_size : not (size_field bytes == length bytes) ≡ false = ap not (eq-eqb _ _ size-is) in
    let code-is : code_named (code_field bytes) ≡ None =
    ap code_named (from_be_bytes-to_be_bytes_4 code is.small) ∙ is.unnamed in
    lacked_by (ltb (length bytes) 10 || ltb buffer_limit (length bytes))
    (not (size_field bytes == length bytes)) (tag_named (tag_field bytes))
    (code_named (code_field bytes)) NoSessions body outside tag-is other_size code-is

-- the step of a device that does not support the command
abbrev pub lacking_step : Record → Stepped
lacking_step t = record {
  response = refusal 0x143;
  row = record { code = 0; check = check_number check.Code };
  after = t;
}

pub step_lacks : (r : Record) (buffer : List ℕ) (locality elapsed : ℕ) (random : List ℕ)
    → header_at buffer ≡ Err fault.Code → step r (Given buffer locality elapsed random)
    ≡ lacking_step (after_tick r elapsed)
unfolding acceptance_in general code_number
step_lacks r buffer locality elapsed random e =
    let t = after_tick r elapsed in
    ap (λ (h : Result (Header × List ℕ) HeaderFault). answer_where false t random
    ((in_header (if_served t.fixed.profile h) >>= (λ header.
    in_command header.0.code (body_of t header.0 header.1)))
    >>= (λ command. in_command command.code (acceptance t command locality random)))) e

-- ---- the layer

pub plain_again : (code : ℕ) (body : List ℕ) → code < 2 ^ 32 → length body ≤ 4086
    → plain_command (framed_message 0x8001 code body)
    ≡ Ok (record { code = code; parameters = body })
unfolding plain_command
plain_again code body small few =
    let buffer = framed_message 0x8001 code body in
    let size = 10 + length body in
    let after_size : List ℕ = to_be_bytes w32 code ++ body in
    let after_tag : List ℕ = to_be_bytes w32 size ++ after_size in
    let Checked : ℕ → ℕ → ℕ × List ℕ → Result Command Short = λ tag n read.
    refused_if (not (tag == 0x8001)) too_short
    >>= (λ tagged. refused_if (not (n == length buffer)) too_short
    >>= (λ sized. Ok (record { code = read.0; parameters = read.1 }))) in
    let fits : (size == length buffer) ≡ true = eq-eqb _ _ (sym (framed_size code body)) in
    ap (λ (read : Result (ℕ × List ℕ) Short). read
    >>= (λ tag. number_at w32 tag.1 >>= (λ n. number_at w32 n.1 >>= Checked tag.0 n.0)))
    (number_again w16 (2 ^ 16) wide16 0x8001 after_tag (omega arith))
    ∙ ap (λ (read : Result (ℕ × List ℕ) Short). read
    >>= (λ n. number_at w32 n.1 >>= Checked 0x8001 n.0))
    (number_again w32 (2 ^ 32) wide32 size after_size (omega (arith, few)))
    ∙ ap (λ (read : Result (ℕ × List ℕ) Short). read >>= Checked 0x8001 size)
    (number_again w32 (2 ^ 32) wide32 code body small)
    ∙ ap (λ (same : Bool). refused_if (not same) too_short
    >>= (λ sized. Ok (record { code = code; parameters = body }))) fits

-- the device gets a command without handles and sessions as it is
pub plain_heard : (c : Completion) (code : ℕ) (body : List ℕ) → IsLacking code
    → handles_of code ≡ 0
    → heard_buffer c (framed_message 0x8001 code body) ≡ framed_message 0x8001 code body
unfolding session_places short_at long_at
plain_heard c code body is none =
    let bytes : List ℕ = framed_message 0x8001 code body in
    let long : length bytes ≡ 10 + length body = framed_size code body in
    let code_is : long_at bytes 6 ≡ code =
    ap (λ (b : Bool). if b then from_be_bytes w32 (take 4 (drop 6 bytes)) else 0)
    (le-leb 10 (length bytes) (omega (arith, long)))
    ∙ from_be_bytes-to_be_bytes_4 code is.small in
    let tag_is : short_at bytes 0 ≡ 0x8001 =
    ap (λ (b : Bool). if b then from_be_bytes w16 (take 2 bytes) else 0)
    (le-leb 2 (length bytes) (omega (arith, long)))
    ∙ from_be_bytes-to_be_bytes_2 0x8001 (omega arith) in
    let places : session_places bytes ≡ [] =
    ap (λ (n : ℕ). handle_places (handles_of n) ++ entries_after bytes (handles_of n)) code_is
    ∙ ap (λ (n : ℕ). handle_places n ++ entries_after bytes n) none
    ∙ ap (λ (n : ℕ). if n == 0x8002 then entry_places bytes 10 else []) tag_is in
    ap (λ (places : List ℕ). option_map_or (hidden_at bytes)
    (find (is_saved_at c bytes) places) bytes) places

-- if the device refused a command that it does not support, the layer loads the context that
-- `object_context_in` finds in the command
pub asked_again : (t : Record) (code : ℕ) (body : List ℕ) → code < 2 ^ 32 → length body ≤ 4086
    → t.fixed.started ≡ true
    → context_asked t (framed_message 0x8001 code body) (refusal 0x143)
    ≡ object_context_in (Ok (record { code = code; parameters = body }))
unfolding context_asked
asked_again t code body small few started =
    ap (λ (b : Bool). if b && is_refusal 0x143 (refusal 0x143)
    then object_context_in (plain_command (framed_message 0x8001 code body)) else None)
    started
    ∙ ap object_context_in (plain_again code body small few)

-- if the device refused a command without sessions, `bare_reply` is the layer's answer on sequence
-- objects
sequence_again : (t : Record) (c : Completion) (code : ℕ) (body : List ℕ) → code < 2 ^ 32
    → length body ≤ 4086 → t.fixed.started ≡ true
    → sequence_reply t c (framed_message 0x8001 code body) (refusal 0x143)
    ≡ bare_reply c (record { code = code; parameters = body })
unfolding sequence_reply
sequence_again t c code body small few started =
    let buffer = framed_message 0x8001 code body in
    ap (λ (b : Bool). if not b then None
    else asked_reply t c (plain_command buffer) (authorized_command buffer)) started
    ∙ ap (λ (x : Result Command Short). asked_reply t c x (authorized_command buffer))
    (plain_again code body small few)

-- if the device refused a command without sessions, the layer sends no command to the device
pub none_sent : (t : Record) (c : Completion) (code : ℕ) (body : List ℕ) → length body ≤ 4086
    → sent_for t c (framed_message 0x8001 code body) (refusal 0x143) ≡ None
unfolding sent_for authorized_command
none_sent t c code body few =
    ap (λ (read : Result (ℕ × List ℕ) Short). if t.fixed.started && is_refusal 0x143 (refusal 0x143)
    then sent_in t c
    (read
    >>= (λ tag. number_at w32 tag.1
    >>= (λ size. number_at w32 size.1
    >>= (λ one. refused_if (not (tag.0 == 0x8002)) too_short
    >>= (λ tagged. refused_if
    (not (size.0 == length (framed_message 0x8001 code body))) too_short
    >>= (λ sized. Ok (record { code = one.0; parameters = one.1 }))))))) else None)
    (number_again w16 (2 ^ 16) wide16 0x8001
    (to_be_bytes w32 (10 + length body) ++ to_be_bytes w32 code ++ body) (omega arith))
    ∙ none t.fixed.started
  where
    wrong_tag : (x : Result (ℕ × List ℕ) Short)
        → sent_in t c
        (x >>= (λ size. number_at w32 size.1
        >>= (λ one. (let z : Result Command Short = Err too_short in z)))) ≡ None
    wrong_tag (Ok size) = by (number_at w32 size.1)
      where
        by : (y : Result (ℕ × List ℕ) Short)
            → sent_in t c (y >>= (λ one. (let z : Result Command Short = Err too_short in z)))
            ≡ None
        by (Ok one) = refl
        by (Err e) = refl
    wrong_tag (Err e) = refl

    none : (b : Bool)
        → (if b && is_refusal 0x143 (refusal 0x143)
        then sent_in t c
        (number_at w32 (to_be_bytes w32 (10 + length body) ++ to_be_bytes w32 code ++ body)
        >>= (λ size. number_at w32 size.1
        >>= (λ one. (let z : Result Command Short = Err too_short in z)))) else None) ≡ None
    none true =
        wrong_tag
        (number_at w32 (to_be_bytes w32 (10 + length body) ++ to_be_bytes w32 code ++ body))
    none false = refl

-- `served_reply` defines the layer's reply to a command that the device does not support, and that
-- is not on sequence objects
pub reply_again : (t : Record) (c : Completion) (code : ℕ) (body : List ℕ) (was_told : Bool)
    → code < 2 ^ 32 → length body ≤ 4086 → t.fixed.started ≡ true
    → bare_reply c (record { code = code; parameters = body }) ≡ None
    → reply t c (framed_message 0x8001 code body) (refusal 0x143) was_told
    ≡ served_reply t c (record { code = code; parameters = body }) (refusal 0x143)
unfolding reply plain_reply command_reply
reply_again t c code body was_told small few started none =
    let buffer = framed_message 0x8001 code body in
    ap (λ (x : Option Reply). or_reply x (plain_reply t c buffer (refusal 0x143) was_told))
    (sequence_again t c code body small few started ∙ none)
    ∙ ap (reply_by t c buffer (refusal 0x143) was_told) (plain_again code body small few)
    ∙ by t.fixed.started started _ _
  where
    by : (b : Bool) → b ≡ true → (stand is : Reply) → (if not b then stand else is) ≡ is
    by b holds stand is = rw holds refl
