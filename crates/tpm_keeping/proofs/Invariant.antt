-- The invariant of the folder and of each holder. It holds after every event.
use Rattle.std.proofs.Common.{◌≡◌, ◌⊎◌, ℕ, ◌+◌, ◌<◌, ◌≤◌, Bool, true, false, cond, List, [], ◌∷◌, ◌++◌, length, take, drop, Some, None, Option}
use Rattle.std.specs.List.{AllByRecursion}
use Rattle.tpm_keeping.specs.Journal.{Entered, Journal, Spot, entries, first_spot, run, trail}
use Rattle.tpm_keeping.specs.Holder.{Holder, is_always, is_never}
use Rattle.tpm_keeping.specs.World.{Answer, Content, File, Shared, World, adds, leads}
use Rattle.tpm_keeping.specs.Kept.{Ascend, IsTrue}
use Rattle.tpm_keeping.proofs.Entries.{whole}
use Rattle.tpm_keeping.specs.declared.holder.Force.{Force}
use Rattle.tpm_keeping.specs.declared.holder.Force.TheVariants.{Power, Always}
use Rattle.tpm_keeping.specs.declared.holder.Job.{Job}
use Rattle.tpm_keeping.specs.declared.holder.Job.TheVariants.{Execute, Renew, Show, Begin}
use Rattle.tpm_keeping.specs.declared.holder.End.TheVariants as ending
use Rattle.tpm_keeping.specs.declared.holder.Phase.{Phase}
use Rattle.tpm_keeping.specs.declared.holder.Phase.TheVariants.{Ended, Locking, Looking, Reading, Putting, Forcing, Making, Naming, Settling, Leaving}

-- ---- the folder

-- the head and all complete entries of a file
abbrev pub body : Journal → File → List ℕ
body j f = whole j f.head f.start f.now.commands

-- the position after a file's complete entries
abbrev pub spot_of : Journal → File → Spot
spot_of j f = trail j f.start f.now.commands

-- the state after a file's complete entries
abbrev pub state_of : Journal → File → List ℕ
state_of j f = (spot_of j f).state

pub record IsText (j : Journal) (head : List ℕ) (start : Spot) (c : Content) : Type 0 where
  pub tail : List ℕ
  pub is : c.text ≡ whole j head start c.commands ++ tail
  pub torn : j.is_torn (trail j start c.commands) tail ≡ true

-- The contents that a file has or had at some time. The commands in these contents begin with
-- `surely`. They all have entries, and they follow the commands `before` in the history. If the
-- file exists, the contents are the head, these entries, and a torn end, which may be empty. If the
-- file does not exist, there are no commands.
pub record IsContent (j : Journal) (head : List ℕ) (start : Spot) (number : ℕ)
    (history before surely : List (List ℕ)) (c : Content) : Type 0 where
  pub rest : List (List ℕ)
  pub has : c.commands ≡ surely ++ rest
  pub more : List (List ℕ)
  pub of : history ≡ before ++ (c.commands ++ more)
  pub entered : Entered j c.commands
  pub text : 0 < number → IsText j head start c
  pub empty : number ≡ 0 → c.commands ≡ []

-- A file's head decodes to the position `start`. The state at this position is valid, and is the
-- result of executing the commands `before`, which precede the file's first entry.
pub record IsHeaded (j : Journal) (origin head : List ℕ) (start : Spot)
    (before : List (List ℕ)) : Type 0 where
  pub after : j.after_head head ≡ Some start
  pub lives : j.is_state start.state ≡ true
  pub state : start.state ≡ run j origin before

-- The invariant of a file: whatever a crash leaves of the file is a journal that contains all
-- promised commands. The entries of `surely` are on the disk, and each promised command is in
-- `before` or `surely`.
pub record IsFile (j : Journal) (origin : List ℕ) (history : List (List ℕ)) (promised : ℕ)
    (lasting : Bool) (next : ℕ) (f : File) : Type 0 where
  pub surely : List (List ℕ)
  pub enough : 0 < f.number → length (whole j f.head f.start surely) ≤ f.forced
  pub kept : promised ≤ length f.before + length surely
  pub lasts : lasting ≡ true → 0 < f.number
  pub below : f.number < next
  pub unnamed : f.number ≡ 0 → f.before ≡ []
  pub headed : 0 < f.number → IsHeaded j origin f.head f.start f.before
  pub now : IsContent j f.head f.start f.number history f.before surely f.now
  pub past : AllByRecursion (IsContent j f.head f.start f.number history f.before surely) f.past

abbrev pub Each : Journal → List ℕ → List (List ℕ) → List Answer → Type 0
Each j origin history answers =
    AllByRecursion (λ a. a.is_gone ≡ false → IsTrue j origin history a) answers

abbrev pub Safe : ℕ → List Answer → Type 0
Safe promised answers =
    AllByRecursion (λ a. is_always a.force ≡ true → (a.is_gone ≡ false) × (a.place ≤ promised))
    answers

pub record Still (j : Journal) (s : Shared) : Type 0 where
  pub told : s.history ≡ s.file.before ++ s.file.now.commands
  pub file : IsFile j s.origin s.history s.promised s.lasting s.next s.file
  pub older : AllByRecursion (IsFile j s.origin s.history s.promised s.lasting s.next) s.older
  pub alone : s.file.number ≡ 0 → s.older ≡ []
  pub each : Each j s.origin s.history s.answers
  pub once : Ascend s.answers
  pub safe : Safe s.promised s.answers

-- ---- one holder

-- the part of the folder on which the invariant of a holder depends
pub record Sight : Type 0 where
  pub origin : List ℕ
  pub file : File
  pub older : List File
  pub next : ℕ
  pub fresh : List ℕ
  pub fresh_forced : ℕ
  pub history : List (List ℕ)
  pub answers : List Answer

abbrev pub sight : Shared → Sight
sight s = record {
  origin = s.origin;
  file = s.file;
  older = s.older;
  next = s.next;
  fresh = s.fresh;
  fresh_forced = s.fresh_forced;
  history = s.history;
  answers = s.answers;
}

-- The holder's device has executed the commands `done`, whose entries are the first in the file and
-- end at the offset `place`. If the holder syncs before each response, all executed bytes except
-- `unsure` are on the disk.
pub record IsAt (j : Journal) (head : List ℕ) (start : Spot) (cs : List (List ℕ)) (forced : ℕ)
    (force : Force) (spot : Spot) (place : ℕ) (unsure : List ℕ) : Type 0 where
  pub done : List (List ℕ)
  pub ahead : List (List ℕ)
  pub parts : cs ≡ done ++ ahead
  pub is : spot ≡ trail j start done
  pub front : List ℕ
  pub text : whole j head start done ≡ front ++ unsure
  pub reached : place ≡ length (whole j head start done)
  pub sure : is_always force ≡ true → length front ≤ forced

-- If the holder has a device, and the file from which it was read is still the journal, then `IsAt`
-- holds for this device. If the holder has no device, it has executed no bytes.
pub record Knows (j : Journal) (f : File) (force : Force) (file : ℕ) (device : Option Spot)
    (place : ℕ) (unsure : List ℕ) : Type 0 where
  pub at : (s : Spot) → device ≡ Some s → file ≡ f.number
      → IsAt j f.head f.start f.now.commands f.forced force s place unsure
  pub empty : device ≡ None → (place ≡ 0) × (unsure ≡ [])

abbrev pub KnowsOf : Journal → Sight → Holder → Type 0
KnowsOf j v k = Knows j v.file k.force k.file k.device k.place k.unsure

-- The holder has executed all complete entries of the journal. If it syncs before each response,
-- all bytes of these entries except `unsure` are on the disk.
pub record HasAll (j : Journal) (f : File) (force : Force) (file place : ℕ) (unsure : List ℕ) : Type
    0 where
  pub same : file ≡ f.number
  pub named : 0 < f.number
  pub front : List ℕ
  pub text : body j f ≡ front ++ unsure
  pub reached : place ≡ length (body j f)
  pub sure : is_always force ≡ true → length front ≤ f.forced

-- This is the correct response to the job in this state. Only `Execute` and `Show` require a
-- particular response.
abbrev pub Gives : Job → Journal → (state command response : List ℕ) → Type 0
Gives Execute j state c response = response ≡ j.response state c
Gives Show j state c response = response ≡ j.head state
Gives job j state c response = Unit {0}

-- `command` is the last command of the history, and `response` is the device's response to it. No
-- response at this position has been sent yet.
pub record IsLast (j : Journal) (origin : List ℕ) (history : List (List ℕ)) (answers : List Answer)
    (command response : List ℕ) : Type 0 where
  pub before : List (List ℕ)
  pub is : history ≡ before ++ command ∷ []
  pub gives : response ≡ j.response (run j origin before) command
  pub new : AllByRecursion (λ a. a.is_gone ≡ false → a.place < length history) answers

abbrev pub LastIf : Job → Journal → (origin : List ℕ) → (history : List (List ℕ)) → List Answer
    → (command response : List ℕ) → Type 0
LastIf Execute j origin history answers c response = IsLast j origin history answers c response
LastIf Show j origin history answers c response = response ≡ j.head (run j origin history)
LastIf job j origin history answers c response = Unit {0}

-- The holder has read the bytes of the journal from the end of the executed part up to the offset
-- `seen`.
pub record IsReading (j : Journal) (v : Sight) (k : Holder) : Type 0 where
  pub knows : KnowsOf j v k
  pub same : k.file ≡ v.file.number
  pub named : 0 < v.file.number
  pub size : k.size ≡ length v.file.now.text
  pub seen : k.seen ≡ k.place + length k.read
  pub read : take (length k.read) (drop k.place v.file.now.text) ≡ k.read

-- whether a holder with this `force` setting promises that no crash loses the result of the job
abbrev pub promises : Journal → Force → Job → (command : List ℕ) → Bool
promises j Always job c = true
promises j Power Execute c = cond (j.is_entered c) false true
promises j Power Renew c = true
promises j force job c = false

-- The holder has to write the bytes that may not be synced yet (`unsure`), and then the entry of
-- its command, if the command has one.
pub record Puts (j : Journal) (f : File) (job : Job) (k : Holder) : Type 0 where
  pub all : HasAll j f k.force k.file k.place k.unsure
  pub quiet : promises j Power job k.command ≡ false
  pub has : k.device ≡ Some (trail j (spot_of j f) (adds j job k.command))
  pub out : k.out ≡ k.unsure ++ entries j (spot_of j f) (adds j job k.command)
  pub gives : Gives job j (state_of j f) k.command k.response

-- The holder has executed all complete entries of the journal. If its job is `Execute`, its command
-- is the last command of the history. If its job is `Show`, its response is the head for the
-- current state.
pub record Stays (j : Journal) (origin : List ℕ) (f : File) (history : List (List ℕ))
    (answers : List Answer) (force : Force) (file : ℕ) (device : Option Spot) (place : ℕ)
    (unsure : List ℕ) (job : Job) (command response : List ℕ) : Type 0 where
  pub all : HasAll j f force file place unsure
  pub has : device ≡ Some (spot_of j f)
  pub last : LastIf job j origin history answers command response

abbrev pub StaysOf : Journal → Sight → Holder → Type 0
StaysOf j v k = Stays j v.origin v.file v.history v.answers k.force k.file k.device k.place k.unsure
    k.job k.command k.response

-- the bytes of a journal that begins in a state and contains the entries of these commands
abbrev pub begun : Journal → List ℕ → List (List ℕ) → List ℕ
begun j state cs = whole j (j.head state) (first_spot j state) cs

-- A journal exists, and the holder's output is a new journal that replaces it.
pub record Follows (j : Journal) (f : File) (job : Job) (command : List ℕ) (device : Option Spot)
    (out response : List ℕ) : Type 0 where
  pub named : 0 < f.number
  pub has : device
      ≡ Some (trail j (first_spot j (run j (state_of j f) (leads j job command)))
      (adds j job command))
  pub text : out ≡ begun j (run j (state_of j f) (leads j job command)) (adds j job command)
  pub gives : Gives job j (state_of j f) command response

-- No journal exists, and the holder's output is the head of the first journal.
pub record Founds (j : Journal) (f : File) (job : Job) (device : Option Spot) (out : List ℕ) : Type
    0 where
  pub unnamed : f.number ≡ 0
  pub is : job ≡ Begin
  pub state : List ℕ
  pub lives : j.is_state state ≡ true
  pub has : device ≡ Some (first_spot j state)
  pub text : out ≡ j.head state

abbrev pub Makes : Journal → Sight → Holder → Type 0
Makes j v k =
    Follows j v.file k.job k.command k.device k.out k.response
    ⊎ Founds j v.file k.job k.device k.out

-- All complete entries of the file are on the disk, and a crash leaves no earlier content of the
-- file.
pub record IsForced (j : Journal) (f : File) : Type 0 where
  pub all : length (body j f) ≤ f.forced
  pub past : f.past ≡ []

pub record IsDone (j : Journal) (v : Sight) (k : Holder) : Type 0 where
  pub stays : StaysOf j v k
  pub forced : promises j k.force k.job k.command ≡ true → IsForced j v.file
  pub settled : is_never k.force ≡ false → v.older ≡ []

-- The invariant of a holder in each phase.
abbrev pub In : Phase → Journal → Sight → Holder → Type 0
In (Ended e) j v k = KnowsOf j v k
In Locking j v k = KnowsOf j v k
In Looking j v k = KnowsOf j v k
In Reading j v k = IsReading j v k
In Putting j v k = Puts j v.file k.job k
In Forcing j v k = StaysOf j v k × (is_always k.force ≡ true) × (v.file.is_dropped ≡ false)
In Making j v k = Makes j v k
In Naming j v k = Makes j v k × (v.fresh ≡ k.out) × (length k.out ≤ v.fresh_forced)
In Settling j v k = StaysOf j v k × (promises j k.force k.job k.command ≡ true → IsForced j v.file)
In (Leaving ending.Done) j v k = IsDone j v k
In (Leaving (ending.Failed f)) j v k = KnowsOf j v k

-- whether a holder has the lock in this phase
abbrev pub holds : Phase → Bool
holds (Ended e) = false
holds Locking = false
holds phase = true

-- If the folder was synced since the holder opened this file, and the file is still the journal, a
-- crash cannot give the journal's name back to an earlier file.
abbrev pub Calm : Sight → (settled : Bool) → (file : ℕ) → Type 0
Calm v settled file = settled ≡ true → file ≡ v.file.number → v.older ≡ []

pub record Fits (j : Journal) (s : Shared) (p : ℕ) (k : Holder) : Type 0 where
  pub lock : holds k.phase ≡ true → (s.locked ≡ true) × (s.locker ≡ p)
  pub now : In k.phase j (sight s) k
  pub below : k.file < s.next
  pub calm : Calm (sight s) k.settled k.file

pub record Fine (j : Journal) (w : World) : Type 0 where
  pub still : Still j w.shared
  pub holders : (p : ℕ) → Fits j w.shared p (w.holders p)
