-- The properties that the folder of a kept device has at each moment.
use Rattle.std.specs.Prelude.{◌≡◌, ◌⊎◌, ℕ, Bool, false, true, cond, ◌+◌, ◌<◌, ◌≤◌, ◌==◌, List, [], ◌∷◌, ◌++◌, length, map, take, Option, Some, None}
use Rattle.std.specs.List.{AllByRecursion}
use Rattle.tpm_keeping.specs.Journal.{Journal, Spot, run}
use Rattle.tpm_keeping.specs.Holder.{Holder, Told, Bytes, is_always}
use Rattle.tpm_keeping.specs.World.{Answer, Asks, Does, Event, File, Shared, World}
use Rattle.tpm_keeping.specs.declared.holder.Job.{Job}
use Rattle.tpm_keeping.specs.declared.holder.Job.TheVariants.{Execute, Begin}
use Rattle.tpm_keeping.specs.declared.holder.Fault.TheVariants as fault
use Rattle.tpm_keeping.specs.declared.holder.End.{End}
use Rattle.tpm_keeping.specs.declared.holder.End.TheVariants as ending
use Rattle.tpm_keeping.specs.declared.holder.Phase.{Phase}
use Rattle.tpm_keeping.specs.declared.holder.Phase.TheVariants.{Ended, Locking, Looking, Reading, Putting, Forcing, Making, Naming, Settling, Leaving}

-- At the response's position, the history contains the command that the response answers. The
-- device that executed all commands before this position returns this response.
pub record IsTrue (j : Journal) (origin : List ℕ) (history : List (List ℕ)) (a : Answer)
    : Type 0 where
  pub before : List (List ℕ)
  pub rest : List (List ℕ)
  pub is : history ≡ before ++ (a.command ∷ rest)
  pub place : a.place ≡ length before + 1
  pub response : a.response ≡ j.response (run j origin before) a.command

-- a response is gone if a crash has removed its command from the history. Each response that is not
-- gone has a later position in the history than all earlier responses that are not gone
abbrev pub Ascend : List Answer → Type 0
Ascend [] = Unit {0}
Ascend (a ∷ before) =
    (a.is_gone ≡ false → AllByRecursion (λ b. b.is_gone ≡ false → b.place < a.place) before)
    × Ascend before

pub record IsKept (j : Journal) (w : Shared) : Type 0 where
  -- if there is a journal, it opens as the device that executed the history
  pub opens : 0 < w.file.number
      → (p : Spot) × (taken : ℕ) × (j.opened w.file.now.text ≡ Some (p, taken))
      × (p.state ≡ run j w.origin w.history)
  -- if a response is not gone, its command is in the history at its own position, and the response
  -- is the device's response to this command
  pub each : AllByRecursion (λ a. a.is_gone ≡ false → IsTrue j w.origin w.history a) w.answers
  -- the positions of the responses that are not gone ascend
  pub once : Ascend w.answers
  -- no response of a holder with `force=always` is gone, and the command of each such response is
  -- promised. The `force` settings of other holders do not matter
  pub always : AllByRecursion
      (λ a. is_always a.force ≡ true → (a.is_gone ≡ false) × (a.place ≤ w.promised))
      w.answers
  -- the promised commands are in the history
  pub promised : w.promised ≤ length w.history
  -- after a holder that syncs has completed a call, the device exists
  pub lasts : w.lasting ≡ true → 0 < w.file.number

-- At least as many commands are promised as before, and the commands that were promised before are
-- still the beginning of the history.
abbrev pub KeepsPromises : Shared → Shared → Type 0
KeepsPromises old new =
    (old.promised ≤ new.promised)
    × (take old.promised new.history ≡ take old.promised old.history)

-- ---- one call

-- a number for each phase of a call, which increases as the call progresses
abbrev pub rank : Phase → ℕ
rank Locking = 0
rank Looking = 1
rank Reading = 2
rank Putting = 3
rank Making = 3
rank Forcing = 4
rank Naming = 4
rank Settling = 5
rank (Leaving e) = 6
rank (Ended e) = 7

-- After a report of the host, the call is in a later phase, or more of the file has been read.
abbrev pub Advances : Holder → Holder → Type 0
Advances old new =
    (rank old.phase < rank new.phase)
    ⊎ ((old.phase ≡ Reading) × (new.phase ≡ Reading) × (old.seen < new.seen))

-- how a call ends if there is no journal and the host does all its tasks
abbrev pub begun_or : Option (List ℕ) → End
begun_or None = ending.Failed fault.Unreadable
begun_or (Some s) = ending.Done

abbrev pub end_without : Journal → Job → (command : List ℕ) → End
end_without j Begin c = begun_or (j.begun c)
end_without j job c = ending.Failed fault.Absent

-- how a call ends if there is a journal and the host does all its tasks
abbrev pub end_with : Journal → Job → (command : List ℕ) → End
end_with j Execute c = cond (j.is_command c) ending.Done (ending.Failed fault.NoCommand)
end_with j job c = ending.Done

abbrev pub end_of : Journal → File → Job → (command : List ℕ) → End
end_of j f job c = cond (f.number == 0) (end_without j job c) (end_with j job c)

-- one event for each number in the list: the process does its next task. A read returns one byte,
-- and at most this number of further bytes
abbrev pub turns : (p : ℕ) → (mores : List ℕ) → List Event
turns p mores = map (λ (more : ℕ). Does p more) mores

-- A call has ended in this way, and the lock is free.
abbrev pub HasEnded : World → (p : ℕ) → End → Type 0
HasEnded w p e = ((w.holders p).phase ≡ Ended e) × (w.shared.locked ≡ false)

-- ---- the job `Cut`

-- the bytes of the file that a holder has read but not executed, including the bytes that the host
-- now reports
abbrev pub text_read : Phase → Holder → Told → List ℕ
text_read Reading k (Bytes bytes) = k.read ++ bytes
text_read phase k told = []

-- The first `place` of these bytes open in some state, and the holder has to write the head for
-- that state.
pub record KeepsFront (j : Journal) (text : List ℕ) (k : Holder) : Type 0 where
  pub spot : Spot
  pub is : j.opened (take k.place text) ≡ Some (spot, k.place)
  pub out : k.out ≡ j.head spot.state

-- ---- the commands that were requested

-- Each requested command passes a test.
abbrev pub Pass : (List ℕ → Bool) → List Event → Type 0
Pass test [] = Unit {0}
Pass test (Asks p job command ∷ events) = (test command ≡ true) × Pass test events
Pass test (e ∷ events) = Pass test events
