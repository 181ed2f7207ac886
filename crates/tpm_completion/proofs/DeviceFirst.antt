-- The client gets the device's response, with two exceptions (`DeviceFirst`).
use Rattle.std.proofs.Common.{◌≡◌, ℕ, ◌/◌, ◌^◌, ◌&&◌, ◌||◌, not, Bool, true, false, if◌then◌else◌, List, [], Option, None, Result, Ok, Err, refl, ap, sym, ◌∙◌}
use Rattle.std.proofs.lemmas.Bool.{false≢true}
use Rattle.std.specs.Prelude.{◌==◌}
use Rattle.std.specs.Str.{bytes_eq}
use Rattle.tpm_bytes.specs.declared.cursor.Short.{Short}
use Rattle.tpm_record.specs.Record.{Record}
use Rattle.tpm_step.specs.step.Answer.{framed_message}
use Rattle.tpm_completion.specs.Answer.{is_refusal}
use Rattle.tpm_completion.specs.Capability.{asked_at, capability_told, handles_told, told_of}
use Rattle.tpm_completion.specs.Command.{Command, plain_command, tag_of}
use Rattle.tpm_completion.specs.DeviceFirst.{DeviceFirst, asks_command, asks_list, asks_parameters, has_list, is_gap}
use Rattle.tpm_completion.specs.Loading.{context_asked}
use Rattle.tpm_completion.specs.Reply.{capability_asked, capability_reply, command_reply, or_reply, plain_reply, probe_reply, reply, reply_by, served_reply, stands}
use Rattle.tpm_completion.specs.Saving.{Reply}
use Rattle.tpm_completion.specs.Sending.{sent_for}
use Rattle.tpm_completion.specs.SequenceReply.{sequence_reply}
use Rattle.tpm_completion.specs.declared.capability.Asked.{Asked}
use Rattle.tpm_completion.specs.declared.completion.Completion.{Completion}

if_false : {X : Type 0} (b : Bool) (x y : X) → b ≡ false → (if b then x else y) ≡ y
if_false false x y e = refl
if_false true x y e = absurd (false≢true (sym e))

or_left : (a b : Bool) → (a || b) ≡ false → a ≡ false
or_left false b e = refl
or_left true b e = absurd (false≢true (sym e))

or_right : (a b : Bool) → (a || b) ≡ false → b ≡ false
or_right false b e = e
or_right true b e = absurd (false≢true (sym e))

and_right : (a b : Bool) → b ≡ false → (a && b) ≡ false
and_right false b e = refl
and_right true b e = e

-- The response is not one of the refusals after which the layer may answer.
record NoGap (response : List ℕ) : Type 0 where
  code : is_refusal 0x143 response ≡ false
  value : is_refusal 0x1c4 response ≡ false
  handle : is_refusal 0x1cb response ≡ false
  tag : bytes_eq response (framed_message 0xc4 0x1e []) ≡ false

no_gap : (response : List ℕ) → is_gap response ≡ false → NoGap response
no_gap response gap =
    let tag : Bool = bytes_eq response (framed_message 0xc4 0x1e []) in
    let two : is_refusal 0x1c4 response || (is_refusal 0x1cb response || tag) ≡ false =
    or_right (is_refusal 0x143 response) _ gap in
    let three : is_refusal 0x1cb response || tag ≡ false =
    or_right (is_refusal 0x1c4 response) _ two in
    record {
      code = or_left (is_refusal 0x143 response) _ gap;
      value = or_left (is_refusal 0x1c4 response) _ two;
      handle = or_left (is_refusal 0x1cb response) tag three;
      tag = or_right (is_refusal 0x1cb response) tag three;
    }

-- if both tests are false, the result is the last branch
either : {X : Type 0} (a b : Bool) (x y z : X) → a ≡ false → b ≡ false
    → (if a then x else (if b then y else z)) ≡ z
either a b x y z e f = if_false a x (if b then y else z) e ∙ if_false b y z f

-- if all three tests are false, the result is the last branch
none_of_three : {X : Type 0} (a b c : Bool) (x y z w : X) → a || (b || c) ≡ false
    → (if a then x else (if b then y else (if c then z else w))) ≡ w
none_of_three false false false x y z w e = refl
none_of_three false false true x y z w e = absurd (false≢true (sym e))
none_of_three false true c x y z w e = absurd (false≢true (sym e))
none_of_three true b c x y z w e = absurd (false≢true (sym e))

-- the layer lists only handles whose most significant byte is 02, 03 or 80
no_handles : (r : Record) (c : Completion) (asked : Asked) (kind : ℕ)
    → ((kind == 0x02) || ((kind == 0x03) || (kind == 0x80))) ≡ false
    → handles_told r c asked kind ≡ None
no_handles r c asked kind none =
    none_of_three (kind == 0x02) (kind == 0x03) (kind == 0x80) _ _ _ None none

-- if no test of the capability selects a list, the result is `None`
none_by : {X : Type 0} (handles commands properties kinds : Bool)
    (of_handles of_commands of_properties : Option X)
    → (commands || (properties || (handles && kinds))) ≡ false → (kinds ≡ false → of_handles ≡ None)
    → (if handles then of_handles
    else (if commands then of_commands else (if properties then of_properties else None))) ≡ None
none_by true false false kinds h c p none of = of none
none_by false false false kinds h c p none of = refl
none_by handles true properties kinds h c p none of = absurd (false≢true (sym none))
none_by handles false true kinds h c p none of = absurd (false≢true (sym none))

no_list : (r : Record) (c : Completion) (asked : Asked) → has_list asked ≡ false
    → told_of r c asked ≡ None
no_list r c asked none =
    none_by (asked.capability == 1) (asked.capability == 2) (asked.capability == 6)
    ((asked.property / 2 ^ 24 == 0x02)
    || ((asked.property / 2 ^ 24 == 0x03) || (asked.property / 2 ^ 24 == 0x80)))
    (handles_told r c asked (asked.property / 2 ^ 24)) _ _ none
    (no_handles r c asked (asked.property / 2 ^ 24))

told_none : (r : Record) (c : Completion) (asked : Asked) (was_told : Bool) (response : List ℕ)
    → is_refusal 0x1c4 response ≡ false → was_told && has_list asked ≡ false
    → capability_told r c asked was_told response ≡ None
unfolding capability_told
told_none r c asked true response refused none = no_list r c asked none
told_none r c asked false response refused none =
    if_false (is_refusal 0x1c4 response) _ None refused

asked_stands : (r : Record) (c : Completion) (response : List ℕ) (was_told : Bool)
    (asked : Result Asked Short) → is_refusal 0x1c4 response ≡ false
    → was_told && asks_parameters asked ≡ false
    → capability_asked r c response was_told asked ≡ stands c response
asked_stands r c response was_told (Ok asked) refused none =
    ap (capability_reply c response) (told_none r c asked was_told response refused none)
asked_stands r c response was_told (Err e) refused none = refl

-- if no test lets the layer answer, the reply is the device's response
chosen : (started unserved capability was_told list : Bool) (stand of_served of_capability : Reply)
    → unserved ≡ false → was_told && (capability && list) ≡ false
    → (was_told && list ≡ false → of_capability ≡ stand)
    → (if not started then stand
    else (if unserved then of_served else (if capability then of_capability else stand))) ≡ stand
chosen false unserved capability was_told list s v p unserved_is none of = refl
chosen true false false was_told list s v p unserved_is none of = refl
chosen true false true was_told list s v p unserved_is none of = of none
chosen true true capability was_told list s v p unserved_is none of =
    absurd (false≢true (sym unserved_is))

command_stands : (r : Record) (c : Completion) (command : Command) (response : List ℕ)
    (was_told : Bool) → is_gap response ≡ false → was_told && asks_command (Ok command) ≡ false
    → command_reply r c command response was_told ≡ stands c response
unfolding command_reply
command_stands r c command response was_told gap none =
    let no : NoGap response = no_gap response gap in
    chosen r.fixed.started (is_refusal 0x143 response) (command.code == 0x17a) was_told
    (asks_parameters (asked_at command.parameters)) (stands c response)
    (served_reply r c command response)
    (capability_asked r c response was_told (asked_at command.parameters))
    no.code none (asked_stands r c response was_told (asked_at command.parameters) no.value)

probe_stands : (c : Completion) (buffer response : List ℕ) → is_gap response ≡ false
    → probe_reply c buffer response ≡ stands c response
unfolding probe_reply
probe_stands c buffer response gap =
    if_false ((tag_of buffer == 0xc1) && bytes_eq response (framed_message 0xc4 0x1e [])) _
    (stands c response)
    (and_right (tag_of buffer == 0xc1) (bytes_eq response (framed_message 0xc4 0x1e []))
    (no_gap response gap).tag)

by_stands : (r : Record) (c : Completion) (buffer response : List ℕ) (was_told : Bool)
    (command : Result Command Short) → is_gap response ≡ false
    → was_told && asks_command command ≡ false
    → reply_by r c buffer response was_told command ≡ stands c response
by_stands r c buffer response was_told (Ok command) gap none =
    command_stands r c command response was_told gap none
by_stands r c buffer response was_told (Err e) gap none = probe_stands c buffer response gap

-- no object is loaded if the response is not one of the refusals in `is_gap`
none_asked : (r : Record) (buffer response : List ℕ) → is_gap response ≡ false
    → context_asked r buffer response ≡ None
unfolding context_asked
none_asked r buffer response gap =
    if_false (r.fixed.started && is_refusal 0x143 response) _ None
    (and_right r.fixed.started (is_refusal 0x143 response) (no_gap response gap).code)

-- no command is sent to the device if the response is not one of the refusals in `is_gap`
none_sent : (r : Record) (c : Completion) (buffer response : List ℕ) → is_gap response ≡ false
    → sent_for r c buffer response ≡ None
unfolding sent_for
none_sent r c buffer response gap =
    if_false (r.fixed.started && is_refusal 0x143 response) _ None
    (and_right r.fixed.started (is_refusal 0x143 response) (no_gap response gap).code)

-- the layer has no answer if the response is neither of the two refusals
neither : (stopped a b : Bool) (x y : Option Reply) → a ≡ false → b ≡ false
    → (if stopped then None else (if a then x else (if b then y else None))) ≡ None
neither true a b x y e f = refl
neither false false false x y e f = refl
neither false false true x y e f = absurd (false≢true (sym f))
neither false true b x y e f = absurd (false≢true (sym e))

-- the layer has no answer to a command on sequence objects if the response is not one of the
-- refusals in `is_gap`
none_of_sequences : (r : Record) (c : Completion) (buffer response : List ℕ)
    → is_gap response ≡ false → sequence_reply r c buffer response ≡ None
unfolding sequence_reply
none_of_sequences r c buffer response gap =
    let no : NoGap response = no_gap response gap in
    neither (not r.fixed.started) (is_refusal 0x143 response) (is_refusal 0x1cb response) _ _
    no.code no.handle

plain_stands : (r : Record) (c : Completion) (buffer response : List ℕ) (was_told : Bool)
    → is_gap response ≡ false → was_told && asks_list buffer ≡ false
    → plain_reply r c buffer response was_told ≡ stands c response
unfolding plain_reply
plain_stands r c buffer response was_told gap none =
    by_stands r c buffer response was_told (plain_command buffer) gap none

reply_stands : (r : Record) (c : Completion) (buffer response : List ℕ) (was_told : Bool)
    → is_gap response ≡ false → was_told && asks_list buffer ≡ false
    → reply r c buffer response was_told ≡ stands c response
unfolding reply
reply_stands r c buffer response was_told gap none =
    ap (λ (x : Option Reply). or_reply x (plain_reply r c buffer response was_told))
    (none_of_sequences r c buffer response gap)
    ∙ plain_stands r c buffer response was_told gap none

pub device_first : DeviceFirst
device_first r c buffer response was_told gap none = (
  none_asked r buffer response gap,
  none_sent r c buffer response gap,
  reply_stands r c buffer response was_told gap none,
)
