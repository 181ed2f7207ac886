-- The device and the journal that a head starts.
use Rattle.std.specs.Prelude.{ℕ, List, Option, Some, None, Result, Err}
use Rattle.tpm_journal.specs.Starting.{Start, start_by}
use Rattle.tpm_journal.specs.declared.opening.OpenFault.{OpenFault}
use Rattle.tpm_journal.specs.declared.opening.OpenFault.TheVariants as fault
use Rattle.tpm_kept_journal.specs.texts.HeadAt.{PlainHead, head_at}

-- the device and the journal that a head starts, or the fault of the head's content; the fault
-- NoJournal if there is no head
abbrev pub start_of : Option PlainHead → Result Start OpenFault
start_of (Some h) = start_by h.kind h.clock h.content
start_of None = Err fault.NoJournal

-- the device and the journal that are started by the head at the beginning of the bytes, or a fault
unfoldable pub start_at : List ℕ → Result Start OpenFault
start_at text = start_of (head_at text)
