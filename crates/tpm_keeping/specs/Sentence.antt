-- The message for each fault of a call. It is written after the path of a file or of the folder.
use Rattle.std.specs.Prelude.{List, ℕ, codes}
use Rattle.tpm_keeping.specs.declared.holder.Fault.{Fault}
use Rattle.tpm_keeping.specs.declared.holder.Fault.TheVariants as fault

abbrev pub sentence : Fault → List ℕ
sentence fault.Idle = codes "was asked for nothing"
sentence fault.Lock = codes "cannot be locked"
sentence fault.Look = codes "cannot be looked at"
sentence fault.Read = codes "cannot be read"
sentence fault.Write = codes "cannot be written"
sentence fault.Force = codes "cannot be forced to the disk"
sentence fault.Make = codes "cannot be made"
sentence fault.Name = codes "cannot take the journal's place"
sentence fault.Settle = codes "cannot be forced to the disk"
sentence fault.Absent = codes "is not there"
sentence fault.Unreadable = codes "cannot begin with what is no text of a device"
sentence fault.NoCommand = codes "cannot execute what is no command"
sentence fault.Damaged = codes "is damaged, and stays as it is"
sentence fault.Memory = codes "needs memory, and the system gives none"
