-- What C sees of a keeper: what the keeper asks of its host, and what the host reports to it.
use Rattle.std.specs.Prelude.{◌≡◌, ◌==◌, ℕ, ◌⊎◌, Bool, true, false, if◌then◌else◌, List, [], length, take, Option, Some, None}
use Rattle.tpm_keeping.specs.Cutting.{Caller, caller_after_ask, caller_of, next_call}
use Rattle.tpm_keeping.specs.Holder.{Holder, Told, Done, Stands, Gone, Bytes, Failed, Starved}
use Rattle.tpm_keeping.specs.Sentence.{sentence}
use Rattle.tpm_keeping.specs.View.{ask_of}
use Rattle.tpm_keeping.specs.declared.holder.End.{End}
use Rattle.tpm_keeping.specs.declared.holder.End.TheVariants as ending
use Rattle.tpm_keeping.specs.declared.holder.Fault.{Fault}
use Rattle.tpm_keeping.specs.declared.holder.Fault.TheVariants as fault
use Rattle.tpm_keeping.specs.declared.holder.Force.{Force}
use Rattle.tpm_keeping.specs.declared.holder.Force.TheVariants.{Never, Power, Always}
use Rattle.tpm_keeping.specs.declared.holder.Job.{Job}
use Rattle.tpm_keeping.specs.declared.holder.Job.TheVariants.{Execute, Renew, Show, Begin, Cut}
use Rattle.tpm_keeping.specs.declared.keeper.Ask.{Ask}
use Rattle.tpm_keeping.specs.declared.keeper.Ask.TheVariants as ask
use Rattle.tpm_kept_device.specs.Answer.{PlainAnswer}
use Rattle.tpm_kept_device.specs.View.{spot_in}
use Rattle.tpm_kept_journal.specs.DeviceJournal.{device_journal}
use Rattle.tpm_kept_journal.specs.texts.HeadAt.{PlainHead, head_at}
use Rattle.tpmsim_library.specs.declared.device.Answered.{Answered}
use Rattle.tpmsim_library.specs.declared.keeper.DeviceKeeper.{DeviceKeeper}
use Rattle.tpmsim_library.specs.declared.request.Request.{Request}

-- the state of a keeper, as tpm_keeping defines it. `call_of` includes a call that has to begin
-- again after damage was cut off, and `view_of` does not
abbrev pub call_of : DeviceKeeper → Caller
call_of keeper = caller_of (λ device. spot_in device.parts.value) keeper.keeper

abbrev pub view_of : DeviceKeeper → Holder
view_of keeper = (call_of keeper).holder

-- A call for this job began. An unfinished call was abandoned.
abbrev pub Begins : (cuts : Bool) → Job → (text : List ℕ) → (before after : DeviceKeeper) → Type 0
Begins cuts job text before after =
    (call_of after ≡ caller_after_ask cuts job text (view_of before)) × (after.cuts ≡ before.cuts)

-- the `Force` with this number, or None if no `Force` has it
abbrev pub force_of : ℕ → Option Force
force_of number =
    if number == 0 then Some Never
    else (if number == 1 then Some Power
    else (if number == 2 then Some Always else None))

-- the `Job` with this number, or None if no `Job` has it
abbrev pub job_of : ℕ → Option Job
job_of number =
    if number == 0 then Some Execute
    else (if number == 1 then Some Renew
    else (if number == 2 then Some Show
    else (if number == 3 then Some Begin
    else (if number == 4 then Some Cut else None))))

-- the number that reports how a call ended
abbrev pub end_number : End → ℕ
end_number ending.Done = 0
end_number (ending.Failed fault.Idle) = 1
end_number (ending.Failed fault.Lock) = 2
end_number (ending.Failed fault.Look) = 3
end_number (ending.Failed fault.Read) = 4
end_number (ending.Failed fault.Write) = 5
end_number (ending.Failed fault.Force) = 6
end_number (ending.Failed fault.Make) = 7
end_number (ending.Failed fault.Name) = 8
end_number (ending.Failed fault.Settle) = 9
end_number (ending.Failed fault.Absent) = 10
end_number (ending.Failed fault.Unreadable) = 11
end_number (ending.Failed fault.NoCommand) = 12
end_number (ending.Failed fault.Damaged) = 13
end_number (ending.Failed fault.Memory) = 14

-- the fault with this number, or None if no fault has it
abbrev pub fault_of : ℕ → Option Fault
fault_of number =
    if number == 1 then Some fault.Idle
    else (if number == 2 then Some fault.Lock
    else (if number == 3 then Some fault.Look
    else (if number == 4 then Some fault.Read
    else (if number == 5 then Some fault.Write
    else (if number == 6 then Some fault.Force
    else (if number == 7 then Some fault.Make
    else (if number == 8 then Some fault.Name
    else (if number == 9 then Some fault.Settle
    else (if number == 10 then Some fault.Absent
    else (if number == 11 then Some fault.Unreadable
    else (if number == 12 then Some fault.NoCommand
    else (if number == 13 then Some fault.Damaged
    else (if number == 14 then Some fault.Memory else None)))))))))))))

-- the message of a fault; empty if there is no fault
abbrev pub said_by : Option Fault → List ℕ
said_by (Some fault) = sentence fault
said_by None = []

-- the message of the fault with this number
abbrev pub fault_text : (number : ℕ) → List ℕ
fault_text number = said_by (fault_of number)

-- the bytes that the host must write for this task
abbrev pub text_by : Ask → (out : List ℕ) → List ℕ
text_by (ask.Put cut at) out = out
text_by (ask.Make whole) out = out
text_by asked out = []

-- the response that may be sent; empty unless the call succeeded
abbrev pub response_by : Ask → (response : List ℕ) → List ℕ
response_by (ask.Nothing ending.Done) response = response
response_by asked response = []

abbrev pub text_of : Holder → List ℕ
text_of k = text_by (ask_of k) k.out

abbrev pub response_of : Holder → List ℕ
response_of k = response_by (ask_of k) k.response

-- whether the new journal that this job makes drops the damage in the old journal
abbrev pub drops_damage : Job → Bool
drops_damage Cut = true
drops_damage job = false

-- the response that may be sent, if the job executes a command; empty for any other job
abbrev pub if_executed : Job → List ℕ → List ℕ
if_executed Execute response = response
if_executed job response = []

-- the state text that may be sent, if the job returns the state text; empty for any other job
abbrev pub if_shown : Job → List ℕ → List ℕ
if_shown Show response = response
if_shown job response = []

abbrev pub executed_by : DeviceKeeper → List ℕ
executed_by keeper = if_executed (view_of keeper).job (response_of (view_of keeper))

abbrev pub shown_by : DeviceKeeper → List ℕ
shown_by keeper = if_shown (view_of keeper).job (response_of (view_of keeper))

-- the content of the head at the start of the bytes; empty if there is no head
abbrev pub content_of : Option PlainHead → List ℕ
content_of (Some h) = h.content
content_of None = []

abbrev pub content_at : List ℕ → List ℕ
content_at text = content_of (head_at text)

-- An answer to a TPM command: its code, check and number of random bytes are reported, and its
-- response is at the start of a buffer.
abbrev pub IsAnswer : PlainAnswer → (buffer : List ℕ) → Answered → Type 0
IsAnswer a buffer answered =
    (answered.code ≡ a.code) × (answered.check ≡ a.check) × (answered.drawn ≡ a.drawn)
    × (take answered.size buffer ≡ a.response)

-- the request for a task that has no parameters
abbrev pub task_of : (task : ℕ) → Request
task_of task = record { cut = 0; at = 0; size = 0; task = task; fault = 0; drops = 0 }

abbrev pub number_of : Bool → ℕ
number_of true = 1
number_of false = 0

-- the request for a keeper's task. It contains the number of bytes to write, or the size of the
-- response. It also says whether a new journal drops damage
abbrev pub request_by : Ask → (drops : Bool) → (text response : ℕ) → Request
request_by (ask.Nothing end) drops text response =
    record (task_of 0) { size = response; fault = end_number end }
request_by ask.Lock drops text response = task_of 1
request_by ask.Look drops text response = task_of 2
request_by (ask.Read at) drops text response = record (task_of 3) { at = at }
request_by (ask.Put cut at) drops text response =
    record (task_of 4) { cut = cut; at = at; size = text }
request_by ask.Force drops text response = task_of 5
request_by (ask.Make whole) drops text response =
    record (task_of 6) { cut = whole; size = text; drops = number_of drops }
request_by ask.Name drops text response = task_of 7
request_by ask.Settle drops text response = task_of 8
request_by ask.Unlock drops text response = task_of 9

abbrev pub request_of : Holder → Request
request_of k =
    request_by (ask_of k) (drops_damage k.job) (length (text_of k)) (length (response_of k))

-- the request if there is no keeper: no task, and the fault that reports the missing keeper
abbrev pub no_request : Request
no_request = record (task_of 0) { fault = 15 }

-- the host's report that it did its task; for Look and Name, the report includes the file, and for
-- Read, the bytes
abbrev pub did : Ask → (file size : ℕ) → List ℕ → Told
did ask.Look file size bytes = Stands file size
did ask.Name file size bytes = Stands file size
did (ask.Read at) file size bytes = Bytes bytes
did asked file size bytes = Done

abbrev pub told_by : (got : ℕ) → Ask → (file size : ℕ) → List ℕ → Told
told_by got asked file size bytes =
    if got == 0 then did asked file size bytes else (if got == 1 then Gone else Failed)

-- A keeper continues with what its host reported, or its call ends because an allocation failed.
abbrev pub GoesOn : (before : Caller) → Told → (after : Caller) → Type 0
GoesOn before told after = (after ≡ next_call device_journal before told)
    ⊎ (after ≡ next_call device_journal before Starved)
