-- One holder of a kept device: what it knows, and what it does next. A holder is a process. Its
-- keeper decides what it does: in the code the keeper is a `Keeper`, and in the definitions it is
-- this record.
use Rattle.std.specs.Prelude.{ℕ, ◌+◌, ◌-◌, ◌/◌, ◌==◌, ◌&&◌, ◌||◌, Bool, true, false, cond, List, [], ◌++◌, length, nat_le, take, Option, Some, None}
use Rattle.tpm_keeping.specs.Journal.{Journal, Spot, first_spot, next_spot}
use Rattle.tpm_keeping.specs.declared.holder.Force.{Force}
use Rattle.tpm_keeping.specs.declared.holder.Force.TheVariants.{Never, Always}
use Rattle.tpm_keeping.specs.declared.holder.Job.{Job}
use Rattle.tpm_keeping.specs.declared.holder.Job.TheVariants.{Execute, Renew, Show, Begin, Cut}
use Rattle.tpm_keeping.specs.declared.holder.Fault.{Fault}
use Rattle.tpm_keeping.specs.declared.holder.Fault.TheVariants as fault
use Rattle.tpm_keeping.specs.declared.holder.End.TheVariants as ending
use Rattle.tpm_keeping.specs.declared.holder.Phase.{Phase}
use Rattle.tpm_keeping.specs.declared.holder.Phase.TheVariants.{Ended, Locking, Looking, Reading, Putting, Forcing, Making, Naming, Settling, Leaving}

pub record Holder : Type 0 where
  -- when the holder syncs
  pub force : Force
  -- the minimum size at which the holder may restart a journal
  pub limit : ℕ
  pub phase : Phase
  pub job : Job
  pub command : List ℕ
  -- the position of the device in memory, or None if no device is in memory
  pub device : Option Spot
  -- the number of the file from which the device was read
  pub file : ℕ
  -- the number of this file's bytes that the device has executed
  pub place : ℕ
  -- the last executed bytes, if the holder does not know whether they are synced. Only a holder
  -- that syncs before each response stores these bytes
  pub unsure : List ℕ
  -- the size of the file
  pub size : ℕ
  -- the offset up to which the file was read
  pub seen : ℕ
  -- the bytes that were read but not executed yet
  pub read : List ℕ
  -- whether the folder was synced since the file was opened
  pub settled : Bool
  -- the bytes to be written
  pub out : List ℕ
  pub response : List ℕ

-- the report of the host
pub data Told : Type 0 where
  Done : Told
  Stands : (file size : ℕ) → Told
  Gone : Told
  Bytes : (bytes : List ℕ) → Told
  Failed : Told
  -- the task was done, but an allocation for the next step failed
  Starved : Told

abbrev pub fault_of : Phase → Fault
fault_of Locking = fault.Lock
fault_of Looking = fault.Look
fault_of Reading = fault.Read
fault_of Putting = fault.Write
fault_of Forcing = fault.Force
fault_of Making = fault.Make
fault_of Naming = fault.Name
fault_of Settling = fault.Settle
fault_of (Ended e) = fault.Idle
fault_of (Leaving e) = fault.Idle

abbrev pub fault_told : Phase → Told → Fault
fault_told phase Starved = fault.Memory
fault_told phase told = fault_of phase

-- a process that has done nothing yet
abbrev pub newborn : Force → ℕ → Holder
newborn force limit = record {
  force = force;
  limit = limit;
  phase = Ended (ending.Failed fault.Idle);
  job = Show;
  command = [];
  device = None;
  file = 0;
  place = 0;
  unsure = [];
  size = 0;
  seen = 0;
  read = [];
  settled = false;
  out = [];
  response = [];
}

-- the holder after a call in progress was dropped: the call was interrupted, or was made by the
-- parent of a fork. The holder then knows nothing. If no call is in progress, the holder is
-- unchanged
abbrev pub rests_in : Phase → Holder → Holder
rests_in (Ended e) k = k
rests_in phase k = newborn k.force k.limit

abbrev pub rests : Holder → Holder
rests k = rests_in k.phase k

-- the holder after a job was requested; during another call, the holder stays unchanged
abbrev pub asked_in : Phase → Holder → Job → List ℕ → Holder
asked_in (Ended e) k job command = record k { phase = Locking; job = job; command = command }
asked_in phase k job command = k

abbrev pub holder_after_ask : Holder → Job → List ℕ → Holder
holder_after_ask k job command = asked_in k.phase k job command

-- the holder after it forgot everything; in the next call, it opens the device from the file
abbrev pub forgets : Phase → Holder → Holder
forgets p k = record (newborn k.force k.limit) { phase = p }

abbrev pub holder_after_fault : Fault → Holder → Holder
holder_after_fault f k = forgets (Leaving (ending.Failed f)) k

abbrev pub goes : Phase → Holder → Holder
goes p k = record k { phase = p }

abbrev pub is_always : Force → Bool
is_always Always = true
is_always f = false

abbrev pub is_never : Force → Bool
is_never Never = true
is_never f = false

-- the offset up to which the holder has nothing left to sync
abbrev pub sure : Holder → ℕ
sure k = k.place - length k.unsure

-- the phase after all work on the file is done. The holder syncs the folder once for each file that
-- it opens, before its first response, unless it never syncs
abbrev pub settles : Holder → Phase
settles k = cond (k.settled || is_never k.force) (Leaving ending.Done) Settling

-- whether a journal has grown: its size has reached the limit and twice the size of a new journal's
-- head
abbrev pub is_grown : Journal → Holder → (p : Spot) → Bool
is_grown j k p = nat_le k.limit k.place && nat_le (length (j.head p.state)) (k.place / 2)

-- the holder after it executed a command that has an entry. It has to write the bytes that may not
-- be synced yet, followed by the entry. If the journal has grown, it has to write a new journal
-- that begins with the entry
abbrev pub enters : Journal → Holder → (p : Spot) → (grown : Bool) → Holder
enters j k p true = record k {
  phase = Making;
  device = Some (next_spot j (first_spot j p.state) k.command);
  out = j.head p.state ++ j.entry (first_spot j p.state) k.command;
  response = j.response p.state k.command;
}
enters j k p false = record k {
  phase = Putting;
  device = Some (next_spot j p k.command);
  out = k.unsure ++ j.entry p k.command;
  response = j.response p.state k.command;
}

-- the holder when it begins a new journal in this state
abbrev pub renews : Journal → Holder → (state response : List ℕ) → Holder
renews j k state response = record k {
  phase = Making;
  device = Some (first_spot j state);
  out = j.head state;
  response = response;
}

-- the holder after it executed a command that has no entry; a new journal begins in the state after
-- the command
abbrev pub leaps : Journal → Holder → (p : Spot) → Holder
leaps j k p = renews j k (j.after p.state k.command) (j.response p.state k.command)

-- the holder after it refused bytes that do not encode a command
abbrev pub refuses : Holder → (p : Spot) → Holder
refuses k p = record k {
  phase = Leaving (ending.Failed fault.NoCommand);
  device = Some p;
  out = [];
  response = [];
}

abbrev pub executes : Journal → Holder → (p : Spot) → Holder
executes j k p =
    cond (j.is_command k.command)
    (cond (j.is_entered k.command) (enters j k p (is_grown j k p)) (leaps j k p))
    (refuses k p)

abbrev pub shows : Holder → (p : Spot) → (response : List ℕ) → Holder
shows k p response = record k {
  phase = cond (is_always k.force) Putting (settles k);
  device = Some p;
  out = k.unsure;
  response = response;
}

-- the holder when it does its job, after it has executed the whole file
abbrev pub acts : Journal → Job → Holder → (p : Spot) → Holder
acts j Execute k p = executes j k p
acts j Renew k p = renews j k p.state []
acts j Show k p = shows k p (j.head p.state)
acts j Begin k p = shows k p []
acts j Cut k p = shows k p []

-- the holder after it executed the first `taken` of the bytes that it read
abbrev pub caught_up : Holder → (taken : ℕ) → Holder
caught_up k taken = record k {
  place = k.place + taken;
  unsure = cond (is_always k.force) (k.unsure ++ take taken k.read) [];
  read = [];
}

-- the holder if the bytes that it read are damaged. If the job is `Cut`, the holder has read the
-- whole file, and the file has an undamaged beginning, the holder begins a new journal in the state
-- after that beginning. Otherwise the call fails, and the file is unchanged
abbrev pub salvages_of : Journal → Holder → Option (Spot × ℕ) → Holder
salvages_of j k None = holder_after_fault fault.Damaged k
salvages_of j k (Some salvaged) = renews j (caught_up k salvaged.1) salvaged.0.state []

abbrev pub salvages : Journal → Job → Option Spot → Holder → Holder
salvages j Cut None k = salvages_of j k (j.salvaged k.read)
salvages j job device k = holder_after_fault fault.Damaged k

abbrev pub finishes : Journal → Holder → Option (Spot × ℕ) → Holder
finishes j k None = salvages j k.job k.device k
finishes j k (Some found) = acts j k.job (caught_up k found.1) found.0

abbrev pub found_spot : Journal → Option Spot → List ℕ → Option (Spot × ℕ)
found_spot j None text = j.opened text
found_spot j (Some p) text = j.followed p text

-- whether the whole file was read, so that it can be executed
abbrev pub is_read : Holder → Bool
is_read k = nat_le k.size k.seen

abbrev pub reads_on : Journal → Holder → Holder
reads_on j k = cond (is_read k) (finishes j k (found_spot j k.device k.read)) (goes Reading k)

-- the holder after a read; an empty read means that the file was truncated
abbrev pub has_read : Journal → Holder → List ℕ → Holder
has_read j k [] = holder_after_fault fault.Read k
has_read j k bytes = reads_on j (record k { seen = k.seen + length bytes; read = k.read ++ bytes })

-- whether the holder knows this file, and the file still has all bytes that the holder executed; if
-- not, the holder opens the file again
abbrev pub knows_file : Holder → (file size : ℕ) → Bool
knows_file k file size = k.file == file && nat_le k.place size

abbrev pub holder_after_look : Journal → Holder → (file size : ℕ) → Holder
holder_after_look j k file size =
    cond (knows_file k file size)
    (reads_on j (record k { size = size; seen = k.place; read = [] }))
    (reads_on j (record (newborn k.force k.limit) {
      job = k.job;
      command = k.command;
      file = file;
      size = size;
    }))

-- the holder if there is no journal: it begins a journal if that is its job; otherwise, the call
-- fails
abbrev pub begins_of : Journal → Holder → Option (List ℕ) → Holder
begins_of j k None = holder_after_fault fault.Unreadable k
begins_of j k (Some s) = renews j (record k { place = 0 }) s []

abbrev pub begins : Journal → Job → Holder → Holder
begins j Begin k = begins_of j k (j.begun k.command)
begins j job k = holder_after_fault fault.Absent k

abbrev pub has_put : Holder → Holder
has_put k = record k {
  phase = cond (is_always k.force) Forcing (settles k);
  place = sure k + length k.out;
  unsure = cond (is_always k.force) k.out [];
  out = [];
}

abbrev pub has_named : Holder → (file : ℕ) → Holder
has_named k file = record k {
  phase = cond (is_never k.force) (Leaving ending.Done) Settling;
  file = file;
  place = length k.out;
  unsure = [];
  settled = false;
}

-- the holder after its next step, given the host's report
abbrev pub next_in : Journal → Phase → Holder → Told → Holder
next_in j Locking k Done = goes Looking k
next_in j Locking k told = forgets (Ended (ending.Failed (fault_told Locking told))) k
next_in j Looking k (Stands file size) = holder_after_look j k file size
next_in j Looking k Gone = begins j k.job k
next_in j Reading k (Bytes bytes) = has_read j k bytes
next_in j Putting k Done = has_put k
next_in j Forcing k Done = record k { phase = settles k; unsure = [] }
next_in j Making k Done = goes Naming k
next_in j Naming k (Stands file size) = has_named k file
next_in j Settling k Done = record k { phase = Leaving ending.Done; settled = true }
next_in j (Leaving e) k told = goes (Ended e) k
next_in j (Ended e) k told = k
next_in j phase k told = holder_after_fault (fault_told phase told) k

abbrev pub next_of : Journal → Holder → Told → Holder
next_of j k told = next_in j k.phase k told
