-- When a keeper restarts a journal because of its size.
use Rattle.std.specs.Prelude.{◌≡◌, ℕ, ◌*◌, ◌<◌, ◌≤◌, ◌⊎◌, true, ◌++◌, length, Some}
use Rattle.tpm_keeping.specs.Holder.{Holder, Stands, next_of}
use Rattle.tpm_keeping.specs.Journal.{IsJournal, Journal, Spot, first_spot}
use Rattle.tpm_keeping.specs.declared.holder.Job.TheVariants.{Execute}
use Rattle.tpm_keeping.specs.declared.holder.Phase.TheVariants.{Looking, Making, Putting}

-- A holder whose device has executed the whole file is about to execute a command that has an entry.
pub record IsAboutToEnter (j : Journal) (k : Holder) (p : Spot) : Type 0 where
  pub phase : k.phase ≡ Looking
  pub device : k.device ≡ Some p
  pub is_state : j.is_state p.state ≡ true
  pub job : k.job ≡ Execute
  pub command : j.is_command k.command ≡ true
  pub entered : j.is_entered k.command ≡ true

-- the holder after the host reported the file that the holder knows, of the size that the holder
-- executed
abbrev pub looked : Journal → Holder → Holder
looked j k = next_of j k (Stands k.file k.place)

-- If the file has at least `limit` bytes and at least twice the size of a new journal's head, the
-- command begins a new journal, which consists of the head and the command's entry.
abbrev pub RestartsAtLimit : Type 0
RestartsAtLimit = (j : Journal) (k : Holder) (p : Spot) → IsJournal j → IsAboutToEnter j k p
    → k.limit ≤ k.place → 2 * length (j.head p.state) ≤ k.place
    → ((looked j k).phase ≡ Making)
    × ((looked j k).out ≡ j.head p.state ++ j.entry (first_spot j p.state) k.command)

-- If the file is smaller, the command's entry is added to it.
abbrev pub AddsBelowLimit : Type 0
AddsBelowLimit = (j : Journal) (k : Holder) (p : Spot) → IsJournal j → IsAboutToEnter j k p
    → (k.place < k.limit) ⊎ (k.place < 2 * length (j.head p.state))
    → (looked j k).phase ≡ Putting
