-- The parts of a machine to which contracts refer.
use Rattle.std.specs.Prelude.{ℕ}
use Rattle.tpm_record.specs.Record.{Record}
use Rattle.tpm_machine.specs.declared.machine.Machine.{Machine}

-- the record that a machine's state represents
abbrev pub state_of : {K S O P N : Type 0} → (K → Record) → Machine K S O P N → Record
state_of record_of machine = record_of machine.keep

-- the machine with this state instead of its own
abbrev pub with_keep : {K S O P N : Type 0} → Machine K S O P N → K → Machine K S O P N
with_keep machine keep = record machine { keep = keep }

-- the number of random bytes that a machine's latest event drew
abbrev pub latest_drawn : {K S O P N : Type 0} → Machine K S O P N → ℕ
latest_drawn machine = machine.drawn
