use Rattle.std.proofs.Common.{◌≡◌, ◌++◌, ℕ, List, Result, Ok, Err, OnOk, ap, subst, ◌∙◌}
use Rattle.tpm_image_text.specs.declared.fault.Malformed.{Malformed}
use Rattle.tpm_slots.specs.SlotRecord.{slot_record}
use Rattle.tpm_kept_journal.specs.Command as kept
use Rattle.tpm_kept_journal.specs.Command.{KeptCommand, command_of}
use Rattle.tpm_kept_journal.specs.DeviceJournal.{device_journal}
use Rattle.tpm_kept_journal.specs.Effect.{answer, cycled_at, state_after_command}
use Rattle.tpm_kept_journal.specs.State.{DeviceState, IsDeviceState, bytes_of}
use Rattle.tpm_kept_journal.proofs.Executed.{after_is, response_is}
use Rattle.tpm_kept_device.specs.View.{plain_command, spot_in, state_of}
use Rattle.tpm_kept_device.specs.declared.command.Command.{Command}
use Rattle.tpm_kept_device.specs.declared.parts.Parts.{Parts}
use Rattle.tpm_kept_device.proofs.device.KeptDeviceDevice.leap.Goals as goal

read_so : (text : List ℕ) (c : KeptCommand) (field : Command)
    → command_of text ≡ Ok (plain_command field) → plain_command field ≡ c → command_of text ≡ Ok c
read_so text c field read is =
    let done : KeptCommand → Result KeptCommand Malformed = λ (c : KeptCommand). Ok c in
    read ∙ ap done is

-- The state and the response after a command are those that the journal defines for the encoded
-- command.
led : (old : Parts) (text : List ℕ) (c : KeptCommand) (new : DeviceState)
    → IsDeviceState (state_of old) → command_of text ≡ Ok c
    → new ≡ state_after_command (state_of old) c
    → bytes_of new ≡ device_journal.after (spot_in old).state text
led old text c new is read same = ap bytes_of same
    ∙ after_is old.journal (slot_record old.machine.keep) is text c read

told : (old : Parts) (text : List ℕ) (c : KeptCommand) → IsDeviceState (state_of old)
    → command_of text ≡ Ok c
    → answer (state_of old) c ≡ device_journal.response (spot_in old).state text
told old text c is read = response_is old.journal (slot_record old.machine.keep) is text c read

on_ok : {A E P Q : Type 0} (r : Result A E) → OnOk r P → (P → Q) → OnOk r Q
on_ok (Ok a) p f = f p
on_ok (Err e) p f = tt

pub returns-in-Ok-Cycle-clause-state : goal.returns-in-Ok-Cycle-clause-state
returns-in-Ok-Cycle-clause-state c =
    let x = c.in-Ok-Cycle in
    let old : Parts = c.args.self.now.parts.value in
    let is : IsDeviceState (state_of old) =
    subst (λ (p : Parts). IsDeviceState (state_of p)) c.deref.ensures c.read_widths.ensures in
    led old c.args.command.now (kept.Cycles x.now_ms x.field-0-1) (state_of c.cycle_power.new.self)
    is
    (read_so c.args.command.now (kept.Cycles x.now_ms x.field-0-1) x.field-0 x.ensures.value
    (ap plain_command x.field-0-is))
    (c.cycle_power.ensures ∙ ap (λ (p : Parts). cycled_at (state_of p) x.now_ms)
    c.deref_mut.ensures.value)

pub returns-in-Ok-Begin-clause-state : goal.returns-in-Ok-Begin-clause-state
returns-in-Ok-Begin-clause-state c =
    let x = c.in-Ok-Begin in
    let old : Parts = c.args.self.now.parts.value in
    let is : IsDeviceState (state_of old) =
    subst (λ (p : Parts). IsDeviceState (state_of p)) c.deref.ensures c.read_widths.ensures in
    on_ok c.begin_anew.result c.begin_anew.ensures.state
    (led old c.args.command.now (kept.Begins x.seed.now)
    (state_of c.begin_anew.new.self.parts.value) is
    (read_so c.args.command.now (kept.Begins x.seed.now) x.field-0 x.ensures.value
    (ap plain_command x.field-0-is)))

pub returns-in-Ok-Begin-clause-response : goal.returns-in-Ok-Begin-clause-response
returns-in-Ok-Begin-clause-response c =
    let x = c.in-Ok-Begin in
    let old : Parts = c.args.self.now.parts.value in
    let is : IsDeviceState (state_of old) =
    subst (λ (p : Parts). IsDeviceState (state_of p)) c.deref.ensures c.read_widths.ensures in
    subst (λ (l : List ℕ). OnOk c.begin_anew.result
    (c.begin_anew.new.response.items ≡ c.args.response.now.items ++ l))
    (told old c.args.command.now (kept.Begins x.seed.now) is
    (read_so c.args.command.now (kept.Begins x.seed.now) x.field-0 x.ensures.value
    (ap plain_command x.field-0-is)))
    c.begin_anew.ensures.response
