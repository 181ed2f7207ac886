use Rattle.tpm_containers.specs.Slots.{lowest_free}
use Rattle.tpm_wire.specs.Wire.{wire_of}
use Rattle.tpm_wire.proofs.Executing.{never_unsaved, unsaved_where}
use Rattle.tpm_wire.proofs.serving.serve.Goals as goal

pub returns-clause-full : goal.returns-clause-full
returns-clause-full g c none =
    let full = c.serve_saving.ensures.full none in (full.0, full.1, full.2, full.3, full.4)

pub returns-clause-served : goal.returns-clause-served
returns-clause-served g c some = (c.serve_saving.ensures.served some).0

pub returns-clause-unsaved : goal.returns-clause-unsaved
returns-clause-unsaved g c =
    unsaved_where (lowest_free (wire_of g.K.Keep.record_of c.args.mux.now).streams)
    c.serve_saving.result
    (λ none. (c.serve_saving.ensures.full none).0)
    (λ some. let served = c.serve_saving.ensures.served some in never_unsaved _ _ _ _ _ served.1)
