use Rattle.tpm_completion_laws.proofs.SequencesLoaded.{loads_sequences}
use Rattle.tpm_completion_laws.proofs.SequencesNamed.{is_named_once, slot_is_named}
use Rattle.tpm_completion_laws.proofs.SequencesSaved.{saves_sequences}
use Rattle.tpm_completion_laws.proofs.SequencesStarted.{starts_with_the_key}
use Rattle.tpm_completion_laws.proofs.Validity.{sequences_stay_valid_through}
use Rattle.tpm_completion_laws.proofs.sequence_laws.Goals as goal

pub returns-clause-named : goal.returns-clause-named
returns-clause-named c = slot_is_named

pub returns-clause-once : goal.returns-clause-once
returns-clause-once c = is_named_once

pub returns-clause-saved : goal.returns-clause-saved
returns-clause-saved c = saves_sequences

pub returns-clause-loaded : goal.returns-clause-loaded
returns-clause-loaded c = loads_sequences

pub returns-clause-valid : goal.returns-clause-valid
returns-clause-valid c = sequences_stay_valid_through

pub returns-clause-key : goal.returns-clause-key
returns-clause-key c = starts_with_the_key
