-- The messages for the faults of a kept device.
use Rattle.std.specs.Prelude.{Bool, true, false, List, ℕ, ◌++◌, codes}
use Rattle.tpm_keeping.specs.Sentence.{sentence}
use Rattle.tpm_keeping.specs.declared.holder.Fault.TheVariants.{Damaged}
use Rattle.tpmsim_folder.specs.declared.fault.KeptFault.{KeptFault}
use Rattle.tpmsim_folder.specs.declared.fault.Place.{Place}
use Rattle.tpmsim_folder.specs.declared.fault.Place.TheVariants as place
use Rattle.tpmsim_folder.specs.declared.fault.Said.{Said}
use Rattle.tpmsim_folder.specs.declared.fault.Said.TheVariants as said

-- the rest of a file's or folder's path, after the path of the device's folder
abbrev pub place_file : Place → List ℕ
place_file place.Folder = codes ""
place_file place.Journal = codes "/journal"
place_file place.NewJournal = codes "/journal.new"
place_file place.LastJournal = codes "/journal.1"
place_file place.Lock = codes "/lock"

abbrev pub said_text : Said → List ℕ
said_text said.IsLink = codes "is a link, which is not followed"
said_text said.IsNoFile = codes "is no regular file"
said_text said.IsNoFolder = codes "is no folder"
said_text said.IsOfAnother = codes "belongs to another user"
said_text said.IsNotThere = codes "is not there"
said_text said.CannotBeMade = codes "cannot be made"
said_text said.CannotBeGivenItsMode = codes "cannot be given its mode"
said_text said.CannotBeLookedAt = codes "cannot be looked at"
said_text said.CannotBeOpened = codes "cannot be opened"
said_text said.CannotBeLocked = codes "cannot be locked"
said_text said.CannotBeRead = codes "cannot be read"
said_text said.CannotBeWritten = codes "cannot be written"
said_text said.CannotBeCut = codes "cannot be cut to whole records"
said_text said.CannotBeForced = codes "cannot be forced to the disk"
said_text said.CannotTakeThePlace = codes "cannot take the journal's place"
said_text said.CannotGetTheNextNumber = codes "cannot get the next number"
said_text said.WasShortenedMeanwhile = codes "was shortened while it was read"
said_text said.IsReplaced = codes "is replaced again and again"
said_text said.WantsClock = codes "needs the host's clock, which cannot be read or is before 1970"
said_text said.WantsRandom = codes "needs random bytes, and the system gives none"
said_text said.IsNoJournal = codes "is no journal of a device"
said_text said.HoldsNoImage = codes "holds an image that this program does not open"
said_text said.HoldsNoState = codes "holds a state that this program does not open"
said_text said.HoldsEarlierState =
    codes "holds a state text of version 1, which is no longer read: begin with a new device"
said_text said.WasAnsweredOtherwise =
    codes "was written by a version that answers otherwise than this one, and stays as it is: power-cycle the device with that version, or drop its commands with tpmsim-power --cut"
said_text (said.Keeper fault) = sentence fault

-- the message for a fault of a folder called `state`; it does not contain the system's error
abbrev pub kept_fault_text : KeptFault → List ℕ
kept_fault_text fault =
    codes "state" ++ place_file fault.place ++ codes " " ++ said_text fault.said

-- whether the fault is in the journal's contents, and not in the system
abbrev pub is_of_contents : Said → Bool
is_of_contents said.IsNoJournal = true
is_of_contents said.HoldsNoImage = true
is_of_contents said.HoldsNoState = true
is_of_contents said.HoldsEarlierState = true
is_of_contents said.WasAnsweredOtherwise = true
is_of_contents (said.Keeper Damaged) = true
is_of_contents _ = false
