-- How the program ends if it fails.
use Rattle.std.specs.Prelude.{ℕ, List, None, Result, Ok, Err, ◌++◌, codes, if◌then◌else◌}
use Rattle.std.specs.Fmt.{decimal}
use Rattle.std.specs.IoError.{error_kind}
use Rattle.std.specs.declared.io.Error.{Error}
use Rattle.std.specs.declared.io.ErrorKind.{ErrorKind}
use Rattle.std.specs.declared.io.ErrorKind.TheVariants.{OutOfMemory}
use Rattle.tpmsim.specs.declared.fault.Fault.{Fault}
use Rattle.tpmsim.specs.declared.fault.Fault.TheVariants.{Usage, ScriptLine, Asm, NoLine, Image, State, File, Socket, Entropy, Memory, Kept, Journal}
use Rattle.tpmsim.specs.declared.fault.JournalFault.{JournalFault}
use Rattle.tpmsim.specs.declared.fault.JournalFault.TheVariants as journal
use Rattle.tpm_image_text.specs.declared.fault.ImageFault.{ImageFault}
use Rattle.tpm_image_text.specs.declared.fault.ImageFault.TheVariants as image
use Rattle.tpm_line.specs.declared.fault.SpellFault.{SpellFault}
use Rattle.tpm_line.specs.declared.fault.SpellFault.TheVariants as spelling
use Rattle.tpm_state_text.specs.declared.fault.StateFault.{StateFault}
use Rattle.tpm_state_text.specs.declared.fault.StateFault.TheVariants as state
use Rattle.tpm_text.specs.declared.fault.AsmFault.{AsmFault}
use Rattle.tpm_text.specs.declared.fault.AsmFault.TheVariants as line
use Rattle.tpmsim_arguments.specs.declared.fault.ArgumentFault.{ArgumentFault}
use Rattle.tpmsim_arguments.specs.declared.fault.ArgumentFault.TheVariants as words
use Rattle.tpmsim_folder.specs.Fault.{is_of_contents, kept_fault_text}
use Rattle.tpmsim_image.specs.Fault.{with_error}
use Rattle.tpmsim_image.specs.declared.fault.Cause.{Cause}
use Rattle.tpmsim_image.specs.declared.fault.DeviceFault.{DeviceFault}
use Rattle.tpmsim_image.specs.declared.fault.DeviceFault.TheVariants as device
use Rattle.tpmsim_image.specs.declared.fault.Subject.{Subject}
use Rattle.tpmsim_image.specs.declared.fault.Subject.TheVariants as subject
use Rattle.tpmsim.specs.declared.kept.stop.PlayFault.{PlayFault}
use Rattle.tpmsim.specs.declared.kept.stop.PlayFault.TheVariants as play
use Rattle.tpmsim_script.specs.declared.fault.RunFault.{RunFault}
use Rattle.tpmsim_script.specs.declared.fault.RunFault.TheVariants.{Line, Read, TooManyLines, Write, Save, NoMemory}
use Rattle.tpmsim_script.specs.declared.script_fault.ScriptFault.{ScriptFault}
use Rattle.tpmsim_script.specs.declared.script_fault.ScriptFault.TheVariants as script

-- the cause with this subject and without a system error
abbrev pub alone : Subject → Cause
alone subject = record { subject = subject; error = None }

-- the fault with the number of a system error added to its cause; a fault without a cause is
-- unchanged
abbrev pub with_cause : Fault → Error → Fault
with_cause (File cause) error = File (with_error cause error)
with_cause (Socket cause) error = Socket (with_error cause error)
with_cause (Entropy cause) error = Entropy (with_error cause error)
with_cause fault error = fault

-- the fault Memory if an error is of the kind OutOfMemory, and otherwise the given fault
abbrev pub fault_of_kind : Fault → ErrorKind → Fault
fault_of_kind otherwise OutOfMemory = Memory
fault_of_kind otherwise _ = otherwise

abbrev pub fault_or : Fault → Error → Fault
fault_or otherwise error = fault_of_kind (with_cause otherwise error) (error_kind error)

-- the value of a result; for an error, Memory if memory ran out, and otherwise the given fault with
-- the number of the error
abbrev pub given_or : {A : Type 0} → Fault → Result A Error → Result A Fault
given_or otherwise (Ok value) = Ok value
given_or otherwise (Err error) = Err (fault_or otherwise error)

-- the fault of a command line that is refused: its words are not valid, or memory ran out
abbrev pub fault_of_arguments : ArgumentFault → Fault
fault_of_arguments words.Usage = Usage
fault_of_arguments words.NoMemory = Memory

-- the fault of a script on a new device
abbrev pub fault_of_script : ScriptFault → Fault
fault_of_script (script.Line number) = ScriptLine number
fault_of_script script.Read = File (alone subject.Script)
fault_of_script script.Write = File (alone subject.Output)
fault_of_script script.NoMemory = Memory

-- the fault of a script on a device that is kept
abbrev pub fault_of : RunFault → Fault
fault_of (Line number) = ScriptLine number
fault_of Read = File (alone subject.Script)
fault_of TooManyLines = File (alone subject.Script)
fault_of Write = File (alone subject.Output)
fault_of Save = File (alone subject.Image)
fault_of NoMemory = Memory

-- the fault of a line that was not assembled: memory ran out, or the line does not encode a command
abbrev pub fault_of_line : AsmFault → Fault
fault_of_line line.NoMemory = Memory
fault_of_line fault = Asm fault

-- the fault if no line that encodes a buffer was found: there may be no such line, or memory ran
-- out
abbrev pub fault_of_spelling : SpellFault → Fault
fault_of_spelling spelling.NoLine = NoLine
fault_of_spelling spelling.NoMemory = Memory

-- the fault if a device in an image could not be opened, saved or served
abbrev pub fault_of_device : DeviceFault → Fault
fault_of_device (device.Image fault) = Image fault
fault_of_device (device.File cause) = File cause
fault_of_device (device.Socket cause) = Socket cause
fault_of_device (device.Entropy cause) = Entropy cause
fault_of_device device.Memory = Memory

-- the fault if a script could not be played to its end on a kept device
abbrev pub fault_of_play : PlayFault → Fault
fault_of_play (play.Script fault) = fault_of fault
fault_of_play (play.Kept fault) = Kept fault

-- the exit status for a fault: 2 if the request is not valid; 3 if a file, a socket, a stream or
-- memory caused the failure; and 4 if the contents of an image, a state text or a journal are not
-- accepted
abbrev pub status_of : Fault → ℕ
status_of Usage = 2
status_of (ScriptLine number) = 2
status_of (Asm fault) = 2
status_of NoLine = 2
status_of (Image fault) = 4
status_of (State fault) = 4
status_of (File cause) = 3
status_of (Socket cause) = 3
status_of (Entropy cause) = 3
status_of Memory = 3
status_of (Kept fault) = if is_of_contents fault.said then 4 else 3
status_of (Journal fault) = 4

-- the name of a line's fault, with the column of the wrong token
abbrev pub asm_text : AsmFault → List ℕ
asm_text line.BadName = codes "BadName"
asm_text (line.BadField column) = codes "BadField " ++ decimal column
asm_text line.Missing = codes "Missing"
asm_text (line.Range column) = codes "Range " ++ decimal column
asm_text line.TooLong = codes "TooLong"
asm_text line.NoMemory = codes "NoMemory"

-- the name of an image's fault
abbrev pub image_text : ImageFault → List ℕ
image_text image.Short = codes "Short"
image_text image.Magic = codes "Magic"
image_text image.Version = codes "Version"
image_text image.Length = codes "Length"
image_text image.Digest = codes "Digest"
image_text image.Body = codes "Body"
image_text image.NoMemory = codes "NoMemory"

-- the name of a state text's fault
abbrev pub state_fault_text : StateFault → List ℕ
state_fault_text state.Short = codes "Short"
state_fault_text state.Magic = codes "Magic"
state_fault_text state.Version = codes "Version"
state_fault_text state.Length = codes "Length"
state_fault_text state.Digest = codes "Digest"
state_fault_text state.Body = codes "Body"
state_fault_text state.Earlier = codes "Earlier"

-- the text of a journal's fault
abbrev pub journal_fault_text : JournalFault → List ℕ
journal_fault_text journal.IsNoJournal = codes "journal is no journal of a device"
journal_fault_text journal.HoldsNoImage = codes "journal holds an image that this program does not open"
journal_fault_text journal.HoldsNoState = codes "journal holds a state that this program does not open"
journal_fault_text journal.HoldsEarlierState =
    codes "journal holds a state text of version 1, which is no longer read: begin with a new device"
journal_fault_text (journal.IsDamaged line) = codes "journal line " ++ decimal line ++ codes " is damaged"
journal_fault_text (journal.WasAnsweredOtherwise line) =
    codes "journal line " ++ decimal line ++ codes " was answered otherwise"

-- the message on standard error, after the program's name
abbrev pub fault_text : Fault → List ℕ
fault_text Usage = codes "usage"
fault_text (ScriptLine number) = codes "script line " ++ decimal number
fault_text (Asm fault) = codes "asm " ++ asm_text fault
fault_text NoLine = codes "line NoLine"
fault_text (Image fault) = codes "image " ++ image_text fault
fault_text (State fault) = codes "snapshot " ++ state_fault_text fault
fault_text (File cause) = codes "file"
fault_text (Socket cause) = codes "socket"
fault_text (Entropy cause) = codes "entropy"
fault_text Memory = codes "memory"
fault_text (Kept fault) = kept_fault_text fault
fault_text (Journal fault) = journal_fault_text fault
