-- Why a journal could not be opened, as the program reports it.
use Rattle.std.specs.Prelude.{◌≡◌, ◌⊎◌, ℕ, List, Err}
use Rattle.tpm_journal.specs.Opening.{OpensJournal}
use Rattle.tpm_journal.specs.declared.following.FollowFault.{FollowFault}
use Rattle.tpm_journal.specs.declared.following.FollowFault.TheVariants as following
use Rattle.tpm_journal.specs.declared.opening.OpenFault.{OpenFault}
use Rattle.tpm_journal.specs.declared.opening.OpenFault.TheVariants as opening
use Rattle.tpm_keeping.specs.declared.holder.Fault.TheVariants as keeper
use Rattle.tpm_record.specs.Record.{Record}
use Rattle.tpm_state_text.specs.declared.fault.RestoreFault.{RestoreFault}
use Rattle.tpm_state_text.specs.declared.fault.RestoreFault.TheVariants as restore
use Rattle.tpm_state_text.specs.declared.fault.StateFault.TheVariants as state
use Rattle.tpmsim_folder.specs.declared.fault.Said.{Said}
use Rattle.tpmsim_folder.specs.declared.fault.Said.TheVariants as said

-- how the program reports why some of a journal's entries could not be executed again
abbrev pub said_of_following : FollowFault → Said
said_of_following following.Damaged = said.Keeper keeper.Damaged
said_of_following following.Otherwise = said.WasAnsweredOtherwise

abbrev pub said_of_state : RestoreFault → Said
said_of_state (restore.Text state.Earlier) = said.HoldsEarlierState
said_of_state _ = said.HoldsNoState

abbrev pub said_of_opening : OpenFault → Said
said_of_opening opening.NoJournal = said.IsNoJournal
said_of_opening (opening.Image fault) = said.HoldsNoImage
said_of_opening (opening.State fault) = said_of_state fault
said_of_opening (opening.Follow fault) = said_of_following fault

-- These bytes cannot be opened as a journal, because of this fault.
abbrev pub HasFault : List ℕ → OpenFault → Type 0
HasFault text fault = (new : Record) × OpensJournal text (Err fault) new

-- Either the report says why these bytes cannot be opened as a journal, or it says that an earlier
-- attempt found the journal damaged or that an allocation failed.
abbrev pub IsSaidOf : List ℕ → Said → Type 0
IsSaidOf text words =
    ((fault : OpenFault) × (words ≡ said_of_opening fault) × HasFault text fault)
    ⊎ (words ≡ said.Keeper keeper.Damaged) ⊎ (words ≡ said.Keeper keeper.Memory)
