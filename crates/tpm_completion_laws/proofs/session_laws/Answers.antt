use Rattle.tpm_completion_laws.proofs.AcceptedProofs.{accepts_only_proofs, events_accept_only_proofs, sequences_accept_only_proofs}
use Rattle.tpm_completion_laws.proofs.SessionEntries.{carries_the_proof, compares_like_the_device}
use Rattle.tpm_completion_laws.proofs.session_laws.Goals as goal

pub returns-clause-carried : goal.returns-clause-carried
returns-clause-carried c = carries_the_proof

pub returns-clause-compared : goal.returns-clause-compared
returns-clause-compared c = compares_like_the_device

pub returns-clause-starts : goal.returns-clause-starts
returns-clause-starts c = accepts_only_proofs

pub returns-clause-sequences : goal.returns-clause-sequences
returns-clause-sequences c = sequences_accept_only_proofs

pub returns-clause-events : goal.returns-clause-events
returns-clause-events c = events_accept_only_proofs
