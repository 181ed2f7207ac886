-- The result of parsing a command line.
use Rattle.std.specs.Prelude.{◌≡◌, ◌⊎◌, List, [], Some, None, Result, Ok, Err}
use Rattle.clap.specs.Words.{IsAmong, Text, fault_of, kind_of}
use Rattle.clap.specs.declared.error.kind.ErrorKind.{ErrorKind}
use Rattle.clap.specs.declared.error.kind.ErrorKind.TheVariants.{DisplayHelp, DisplayVersion}
use Rattle.tpmsim_arguments.specs.Invocation.{asked_by, invocation_of}
use Rattle.tpmsim_arguments.specs.CommandLine.{program}
use Rattle.tpmsim_arguments.specs.declared.arguments.Arguments.{Arguments}
use Rattle.tpmsim_arguments.specs.declared.arguments.Arguments.TheVariants.{Tell}
use Rattle.tpmsim_arguments.specs.declared.fault.ArgumentFault.{ArgumentFault}
use Rattle.tpmsim_arguments.specs.declared.fault.ArgumentFault.TheVariants.{Usage, NoMemory}

-- clap accepts these words.
abbrev pub AreTaken : List Text → Type 0
AreTaken words = fault_of program words ≡ []

-- clap's error is not a mistake: the user requested one of clap's texts, help or the version.
abbrev pub IsTold : ErrorKind → Type 0
IsTold kind = (kind ≡ DisplayHelp) ⊎ (kind ≡ DisplayVersion)

abbrev pub HaveMistake : List Text → Type 0
HaveMistake words =
    (kind : ErrorKind) × IsAmong kind (fault_of program words) × (IsTold kind → ⊥)

-- The result of parsing these words is their request, or clap's text if they request help or the
-- version. The result is Usage if clap finds a mistake in the words, or if the program refuses a
-- value, such as a locality above 4. Nothing is claimed if memory runs out.
abbrev pub Answers : List Text → Result Arguments ArgumentFault → Type 0
Answers words (Ok (Tell error)) =
    IsAmong (kind_of error) (fault_of program words) × IsTold (kind_of error)
Answers words (Ok arguments) = AreTaken words × (asked_by words ≡ Some (invocation_of arguments))
Answers words (Err Usage) = HaveMistake words ⊎ (AreTaken words × (asked_by words ≡ None))
Answers words (Err NoMemory) = Unit
