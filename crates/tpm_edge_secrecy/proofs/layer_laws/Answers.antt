use Rattle.tpm_edge_secrecy.proofs.Completed.{completed_run_tells_nothing, completed_tells_nothing}
use Rattle.tpm_edge_secrecy.proofs.Contexts.{layer_loads_alike}
use Rattle.tpm_edge_secrecy.proofs.Layer.{layer_answers_alike, layer_forgets_alike, layer_saves_alike}
use Rattle.tpm_edge_secrecy.proofs.Sequences.{layer_sends_alike}
use Rattle.tpm_edge_secrecy.proofs.layer_laws.Goals as goal

pub returns-clause-answers : goal.returns-clause-answers
returns-clause-answers c = layer_answers_alike

pub returns-clause-saves : goal.returns-clause-saves
returns-clause-saves c = layer_saves_alike

pub returns-clause-loads : goal.returns-clause-loads
returns-clause-loads c = layer_loads_alike

pub returns-clause-sends : goal.returns-clause-sends
returns-clause-sends c = layer_sends_alike

pub returns-clause-forgets : goal.returns-clause-forgets
returns-clause-forgets c = layer_forgets_alike

pub returns-clause-event : goal.returns-clause-event
returns-clause-event c = completed_tells_nothing

pub returns-clause-run : goal.returns-clause-run
returns-clause-run c = completed_run_tells_nothing
