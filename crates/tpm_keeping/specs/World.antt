-- The folder of a kept device, as its processes see it, and as a crash of the host may leave it.
--
-- The reader is expected to know fsync. A file has the contents that all processes see (`now`).
-- After a crash it may have any contents that it had since it was last synced (`past`), truncated
-- at any byte that is not before `forced` and followed by litter such as zeros. All processes see a
-- rename at once. Until the folder is synced, a crash may undo the rename: an earlier file
-- (`older`) has the name again, or no file has it.
--
-- A sync that fails may have dropped the bytes that it did not write: their pages count as clean.
-- Then a sync by another process succeeds without them (`is_dropped`), until they are written
-- again. The system may also drop bytes by itself when it writes back (`Drops`). If it does so
-- between a holder's write and its sync, that sync reports the failure, as the event `Fails`.
--
-- Only one process can have the lock. Processes may read less than they requested, fail during a
-- write or after it, finish an operation and still report an error, die at any byte, and fork. A
-- fork has the memory of its parent, but not the lock. Each process has its own `force` setting.
--
-- A host whose write fails truncates the file again. If the write left part of an entry, the model
-- makes another process do this: it takes the lock next and dies after truncating the file (`Dies p
-- (Part 0)`).
--
-- The model leaves out:
-- - What processes read after a failed sync, if the system then shows older bytes. A holder opens
--   the file again if it is shorter, but does not notice other bytes in the same place.
-- - A write that left a whole entry, was reported as failed, and is undone by truncation.
-- - A crash that mixes blocks of two contents.
-- - A disk that reports a sync that it did not do.
-- - A file system that loses bytes of a file and keeps later bytes, as ext4 and XFS may.
-- - A file system that undoes one of two renames.
-- - A folder whose sync fails and then succeeds without the rename.
-- - A torn sector over bytes that were synced before.
-- - The folder's own name in its parent, which hosts sync with the folder.
-- - The finished journals, which hosts link before a rename.
-- - The content of a command, such as its time and its random bytes.
-- - Network file systems, on which processes see locks and renames late.
-- - Two hosts on one folder.
-- - The removal of the lock's file while a holder has the lock.
-- - Anybody else who writes to the folder.
use Rattle.std.specs.Prelude.{◌≡◌, ℕ, zero, suc, ◌+◌, ◌-◌, ◌<◌, ◌≤◌, ◌==◌, ◌&&◌, Bool, true, false, cond, List, [], ◌∷◌, ◌++◌, drop, length, max, min, nat_le, take, Option, Some, None}
use Rattle.tpm_keeping.specs.Journal.{Entered, Journal, Spot, entries, first_spot, run, trail, whole_in}
use Rattle.tpm_keeping.specs.Holder.{Holder, Told, Done, Stands, Gone, Bytes, Failed, Starved, holder_after_ask, is_never, newborn, next_in, rests, sure}
use Rattle.tpm_keeping.specs.View.{ask_in}
use Rattle.tpm_keeping.specs.declared.keeper.Ask.{Ask}
use Rattle.tpm_keeping.specs.declared.keeper.Ask.TheVariants as ask
use Rattle.tpm_keeping.specs.declared.holder.Force.{Force}
use Rattle.tpm_keeping.specs.declared.holder.Force.TheVariants.{Power, Always}
use Rattle.tpm_keeping.specs.declared.holder.Job.{Job}
use Rattle.tpm_keeping.specs.declared.holder.Job.TheVariants.{Execute, Renew}
use Rattle.tpm_keeping.specs.declared.holder.End.{End}
use Rattle.tpm_keeping.specs.declared.holder.End.TheVariants as ending
use Rattle.tpm_keeping.specs.declared.holder.Phase.{Phase}
use Rattle.tpm_keeping.specs.declared.holder.Phase.TheVariants.{Ended, Locking, Putting, Leaving}

-- the bytes of a file, and the commands whose entries are complete in it
pub record Content : Type 0 where
  pub text : List ℕ
  pub commands : List (List ℕ)

-- A file. Its number is 0 if there is no file, and no two files ever have the same number.
pub record File : Type 0 where
  pub number : ℕ
  -- the file's head
  pub head : List ℕ
  -- the position after the head
  pub start : Spot
  -- the commands that were executed before the file's first entry
  pub before : List (List ℕ)
  pub now : Content
  -- the file's earlier contents since it was last synced
  pub past : List Content
  -- the number of bytes, from the file's start, that are on the disk
  pub forced : ℕ
  -- whether bytes after `forced` were dropped, and have not been written again
  pub is_dropped : Bool

-- a response that was sent
pub record Answer : Type 0 where
  -- the position of the response's command in the history, where the first command has position 1
  pub place : ℕ
  -- the `force` setting of the holder that sent the response
  pub force : Force
  pub command : List ℕ
  pub response : List ℕ
  -- whether a crash of the host has removed the response's command from the history
  pub is_gone : Bool

-- what the processes share
pub record Shared : Type 0 where
  -- the state in which the first journal began
  pub origin : List ℕ
  -- the file that is named `journal`
  pub file : File
  -- the files that were named `journal` since the folder was last synced
  pub older : List File
  -- the number of the next file that is created
  pub next : ℕ
  -- the bytes of the new file that is not named `journal` yet
  pub fresh : List ℕ
  -- the number of the new file's bytes that are on the disk
  pub fresh_forced : ℕ
  pub locked : Bool
  pub locker : ℕ
  -- The device's history: each command whose entry was written completely, or after which a journal
  -- began, except the commands that a crash of the host has removed.
  pub history : List (List ℕ)
  -- the number of commands, from the start of the history, that no crash removes
  pub promised : ℕ
  -- whether a holder that syncs has completed a call; if so, no crash removes the device
  pub lasting : Bool
  -- the responses that were sent, the latest first
  pub answers : List Answer

pub record World : Type 0 where
  pub shared : Shared
  pub holders : ℕ → Holder

-- how much of its task a process did
pub data Effect : Type 0 where
  Nothing : Effect
  Part : (count : ℕ) → Effect
  All : Effect

-- Everything that may happen. `p` is the process that does it.
pub data Event : Type 0 where
  -- the process begins; `force` and `limit` are its own settings
  Starts : (p : ℕ) → (force : Force) → (limit : ℕ) → Event
  Asks : (p : ℕ) → (job : Job) → (command : List ℕ) → Event
  -- the process does its task; a read returns one byte, and at most `more` further bytes
  Does : (p more : ℕ) → Event
  Fails : (p : ℕ) → (effect : Effect) → (starved : Bool) → Event
  Dies : (p : ℕ) → (effect : Effect) → Event
  Forks : (p child : ℕ) → Event
  Drops : Event
  -- The host crashes. This file is left with one of its contents, followed by this litter. The
  -- content is truncated at the byte `far`, but not before the end of the bytes on the disk.
  Crashes : (file content far : ℕ) → (litter : List ℕ) → Event

abbrev pub with_holder : Shared → (ℕ → Holder) → ℕ → Holder → World
with_holder s holders p k = record { shared = s; holders = λ q. cond (q == p) k (holders q) }

-- ---- what a process does

-- the bytes after a write at an offset. The written bytes replace old bytes, and may extend the
-- list
abbrev pub written_bytes : (text : List ℕ) → (at : ℕ) → (bytes : List ℕ) → List ℕ
written_bytes text at bytes = take at text ++ (bytes ++ drop (at + length bytes) text)

-- the job's command, if the command has an entry
abbrev pub adds : Journal → Job → List ℕ → List (List ℕ)
adds j Execute c = cond (j.is_entered c) (c ∷ []) []
adds j job c = []

-- the job's command, if the command has no entry, so that a new journal begins after it
abbrev pub leads : Journal → Job → List ℕ → List (List ℕ)
leads j Execute c = cond (j.is_entered c) [] (c ∷ [])
leads j job c = []

-- the commands that a file gains if the first `count` bytes of a holder's output are written: none,
-- unless all of the output is written
abbrev pub put_more : Journal → Holder → (count : ℕ) → List (List ℕ)
put_more j k count = cond (nat_le (length k.out) count) (adds j k.job k.command) []

-- whether dropped bytes are still missing from the file after a write. No bytes are missing if the
-- whole output was written, starting within the synced bytes
abbrev pub put_dropped : File → Holder → (count : ℕ) → Bool
put_dropped f k count =
    cond (nat_le (length k.out) count && nat_le (sure k) (min f.forced k.place)) false f.is_dropped

-- a file's bytes after a `Put`, which truncates the file and then writes at the requested offset
abbrev pub put_by : Ask → (text bytes : List ℕ) → List ℕ
put_by (ask.Put cut at) text bytes = written_bytes (take cut text) at bytes
put_by asked text bytes = text

abbrev pub put_on : Journal → File → Holder → (count : ℕ) → File
put_on j f k count = record {
  number = f.number;
  head = f.head;
  start = f.start;
  before = f.before;
  now = record {
    text = put_by (ask_in Putting k) f.now.text (take count k.out);
    commands = f.now.commands ++ put_more j k count;
  };
  past = f.now ∷ f.past;
  forced = min f.forced k.place;
  is_dropped = put_dropped f k count;
}

abbrev pub folder_after_put : Journal → Shared → Holder → (count : ℕ) → Shared
folder_after_put j s k count = record s {
  file = put_on j s.file k count;
  history = s.history ++ put_more j k count;
}

-- a file after a sync: all bytes are on the disk, unless some were dropped
abbrev pub forced_file : File → File
forced_file f = record f {
  past = cond f.is_dropped f.past [];
  forced = cond f.is_dropped f.forced (length f.now.text);
}

-- the folder after the bytes that are not synced were dropped
abbrev pub folder_after_loss : Shared → Shared
folder_after_loss s = record s { file = record s.file { is_dropped = true } }

-- the state of a holder's device. When the first file gets the journal's name, the history begins
-- in the state of the writer's device
abbrev pub state_in : Option Spot → List ℕ
state_in None = []
state_in (Some p) = p.state

abbrev pub named_from : Journal → (origin : List ℕ) → Shared → Holder → Shared
named_from j origin s k =
    let before = s.history ++ leads j k.job k.command in
    let base = run j origin before in
    record s {
      origin = origin;
      file = record {
        number = s.next;
        head = j.head base;
        start = first_spot j base;
        before = before;
        now = record { text = s.fresh; commands = adds j k.job k.command };
        past = [];
        forced = s.fresh_forced;
        is_dropped = false;
      };
      older = s.file ∷ s.older;
      next = s.next + 1;
      history = before ++ adds j k.job k.command;
    }

abbrev pub folder_after_naming : Journal → Shared → Holder → Shared
folder_after_naming j s k =
    named_from j (cond (s.file.number == 0) (state_in k.device) s.origin) s k

-- the folder after the host did a holder's task, completely or in part
abbrev pub does_asked : Journal → Ask → Shared → Holder → Effect → Shared
does_asked j (ask.Put cut at) s k (Part count) = folder_after_put j s k count
does_asked j (ask.Put cut at) s k All = folder_after_put j s k (length k.out)
does_asked j ask.Force s k (Part count) = folder_after_loss s
does_asked j ask.Force s k All = record s { file = forced_file s.file }
does_asked j (ask.Make whole) s k (Part count) =
    record s { fresh = take count k.out; fresh_forced = 0 }
does_asked j (ask.Make whole) s k All =
    record s { fresh = k.out; fresh_forced = length k.out }
does_asked j ask.Name s k All = folder_after_naming j s k
does_asked j ask.Settle s k All = record s { older = [] }
does_asked j asked s k effect = s

abbrev pub does : Journal → Phase → Shared → Holder → Effect → Shared
does j phase s k effect = does_asked j (ask_in phase k) s k effect

-- the host's report after it did a holder's task
abbrev pub tells_asked : Ask → Shared → (more : ℕ) → Told
tells_asked ask.Look s more =
    cond (s.file.number == 0) Gone (Stands s.file.number (length s.file.now.text))
tells_asked (ask.Read from) s more = Bytes (take (suc more) (drop from s.file.now.text))
tells_asked ask.Name s more = Stands s.file.number (length s.file.now.text)
tells_asked asked s more = Done

abbrev pub tells : Phase → Shared → Holder → (more : ℕ) → Told
tells phase s k more = tells_asked (ask_in phase k) s more

-- ---- what a completed call promises

abbrev pub answer_of : Shared → Holder → Answer
answer_of s k = record {
  place = length s.history;
  force = k.force;
  command = k.command;
  response = k.response;
  is_gone = false;
}

abbrev pub with_answer : Job → Shared → Holder → List Answer
with_answer Execute s k = answer_of s k ∷ s.answers
with_answer job s k = s.answers

abbrev pub promise : Journal → Force → Job → (command : List ℕ) → Shared → ℕ
promise j Always job c s = length s.history
promise j Power Execute c s = cond (j.is_entered c) s.promised (length s.history)
promise j Power Renew c s = length s.history
promise j force job c s = s.promised

-- the folder after a call ends and its holder releases the lock. If the call succeeded, the
-- commands that it promises are counted as promised, and the response of a command is sent
abbrev pub folder_after_leaving : Journal → End → Shared → Holder → Shared
folder_after_leaving j ending.Done s k = record s {
  locked = false;
  promised = promise j k.force k.job k.command s;
  lasting = cond (is_never k.force) s.lasting true;
  answers = with_answer k.job s k;
}
folder_after_leaving j (ending.Failed f) s k = record s { locked = false }

-- ---- one event

abbrev pub does_in : Journal → Phase → World → (p : ℕ) → Holder → (more : ℕ) → World
does_in j (Ended e) w p k more = w
does_in j Locking w p k more =
    cond w.shared.locked w
    (with_holder (record w.shared { locked = true; locker = p }) w.holders p
    (next_in j Locking k Done))
does_in j (Leaving e) w p k more =
    with_holder (folder_after_leaving j e w.shared k) w.holders p (next_in j (Leaving e) k Done)
does_in j phase w p k more =
    let s = does j phase w.shared k All in
    with_holder s w.holders p (next_in j phase k (tells phase s k more))

abbrev pub fails_in : Journal → Phase → World → (p : ℕ) → Holder → Effect → Told → World
fails_in j (Ended e) w p k effect told = w
fails_in j (Leaving e) w p k effect told =
    with_holder (folder_after_leaving j e w.shared k) w.holders p (next_in j (Leaving e) k told)
fails_in j phase w p k effect told =
    with_holder (does j phase w.shared k effect) w.holders p (next_in j phase k told)

-- the folder after a process died; if it had the lock, the lock is free
abbrev pub folder_after_death : Shared → ℕ → Shared
folder_after_death s p = record s { locked = cond (s.locker == p) false s.locked }

abbrev pub starts_in : Phase → Holder → Force → ℕ → Holder
starts_in (Ended e) k force limit = newborn force limit
starts_in phase k force limit = k

-- ---- a crash of the host

abbrev pub file_at : File → List File → ℕ → File
file_at f [] n = f
file_at f (g ∷ gs) zero = f
file_at f (g ∷ gs) (suc n) = file_at g gs n

abbrev pub content_at : Content → List Content → ℕ → Content
content_at c [] n = c
content_at c (d ∷ ds) zero = c
content_at c (d ∷ ds) (suc n) = content_at d ds n

abbrev pub litter_of : Journal → List ℕ → List ℕ
litter_of j litter = cond (j.is_litter litter) litter []

-- what is left of a file after a crash: the first `count` bytes of one of its contents, and litter
abbrev pub left_of : Journal → File → Content → (count : ℕ) → (litter : List ℕ) → File
left_of j f c count litter = record {
  number = f.number;
  head = f.head;
  start = f.start;
  before = f.before;
  now = record {
    text = take count c.text ++ litter;
    commands = whole_in j f.start c.commands (count - length f.head);
  };
  past = [];
  forced = length (take count c.text ++ litter);
  is_dropped = false;
}

-- the responses after a crash: a response is marked as gone if its command is not among the first
-- `count` commands
abbrev pub within : ℕ → List Answer → List Answer
within count [] = []
within count (a ∷ answers) =
    record a { is_gone = cond (nat_le a.place count) a.is_gone true } ∷ within count answers

abbrev pub stands : File → Shared → Shared
stands f s = record s {
  file = f;
  older = [];
  fresh = [];
  fresh_forced = 0;
  locked = false;
  history = f.before ++ f.now.commands;
  answers = within (length (f.before ++ f.now.commands)) s.answers;
}

abbrev pub crashed_to : Journal → Shared → File → (content far : ℕ) → (litter : List ℕ)
    → Shared
crashed_to j s f content far litter =
    let content = content_at f.now f.past content in
    stands (left_of j f content (max f.forced far) (litter_of j litter)) s

abbrev pub folder_after_crash : Journal → Shared → (file content far : ℕ) → (litter : List ℕ)
    → Shared
folder_after_crash j s file content far litter =
    crashed_to j s (file_at s.file s.older file) content far litter

-- ---- runs

abbrev pub happens : Journal → World → Event → World
happens j w (Starts p force limit) =
    with_holder w.shared w.holders p (starts_in (w.holders p).phase (w.holders p) force limit)
happens j w (Asks p job command) =
    with_holder w.shared w.holders p (holder_after_ask (w.holders p) job command)
happens j w (Does p more) = does_in j (w.holders p).phase w p (w.holders p) more
happens j w (Fails p effect starved) =
    fails_in j (w.holders p).phase w p (w.holders p) effect (cond starved Starved Failed)
happens j w (Dies p effect) =
    with_holder (folder_after_death (does j (w.holders p).phase w.shared (w.holders p) effect) p)
    w.holders p
    (newborn (w.holders p).force (w.holders p).limit)
happens j w (Forks p child) = with_holder w.shared w.holders child (rests (w.holders p))
happens j w Drops =
    cond w.shared.locked w (record w { shared = folder_after_loss w.shared })
happens j w (Crashes file content far litter) = record {
  shared = folder_after_crash j w.shared file content far litter;
  holders = λ q. newborn (w.holders q).force (w.holders q).limit;
}

abbrev pub world_after : Journal → List Event → World → World
world_after j [] w = w
world_after j (e ∷ es) w = world_after j es (happens j w e)

-- The file is a synced journal with complete entries, and possibly the remains of one more entry.
pub record IsFound (j : Journal) (f : File) : Type 0 where
  pub after : j.after_head f.head ≡ Some f.start
  pub lives : j.is_state f.start.state ≡ true
  pub entered : Entered j f.now.commands
  pub tail : List ℕ
  pub torn : j.is_torn (trail j f.start f.now.commands) tail ≡ true
  pub text : f.now.text ≡ f.head ++ (entries j f.start f.now.commands ++ tail)
  pub forced : f.forced ≡ length f.now.text

-- A folder with or without a journal, and processes that have done nothing yet. The history
-- consists of the commands whose entries are in the journal.
pub record IsStart (j : Journal) (w : World) : Type 0 where
  pub found : 0 < w.shared.file.number
      → IsFound j w.shared.file × (w.shared.origin ≡ w.shared.file.start.state)
  pub none : w.shared.file.number ≡ 0 → w.shared.file.now.commands ≡ []
  pub history : w.shared.history ≡ w.shared.file.now.commands
  pub before : w.shared.file.before ≡ []
  pub past : w.shared.file.past ≡ []
  pub older : w.shared.older ≡ []
  pub next : w.shared.file.number < w.shared.next
  pub unlocked : w.shared.locked ≡ false
  pub promised : w.shared.promised ≤ length w.shared.history
  pub lasting : w.shared.lasting ≡ true → 0 < w.shared.file.number
  pub answers : w.shared.answers ≡ []
  pub holders : (p : ℕ) → w.holders p ≡ newborn (w.holders p).force (w.holders p).limit
