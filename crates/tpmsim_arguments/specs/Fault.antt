-- Why the words of a command line are refused.
use Rattle.clap.specs.declared.error.kind.ErrorKind as clap
use Rattle.clap.specs.declared.error.kind.ErrorKind.TheVariants as refused
use Rattle.tpmsim_arguments.specs.declared.fault.ArgumentFault.{ArgumentFault}
use Rattle.tpmsim_arguments.specs.declared.fault.ArgumentFault.TheVariants.{Usage, NoMemory}

-- the fault of words that clap refuses for this reason: memory ran out, or the words are not one of
-- the program's command lines
abbrev pub fault_of_words : clap.ErrorKind → ArgumentFault
fault_of_words refused.OutOfMemory = NoMemory
fault_of_words _ = Usage
