use Rattle.std.specs.Prelude.{false}
use Rattle.std.proofs.lemmas.Result.{err_from_is_err_and}
use Rattle.tpm_machine.specs.State.{state_of}
use Rattle.tpm_image_text.proofs.OpeningLaws.{unframed}
use Rattle.tpm_image.proofs.image.fill_machine.Goals as goal

pub returns-in_err-version : goal.returns-in_err-version
returns-in_err-version g c =
    let p = err_from_is_err_and c.from_residual.result c.from_residual.ensures.1 in
    rw (p.1, p.2)
    (unframed (λ (done : Unit {0}). state_of {K = g.row.K.Denot}
    {S = g.row.K-Se.Denot} {O = g.row.K-ObjectSlots.Denot}
    {P = g.row.K-PersistentMap.Denot} {N = g.row.K-Nv.Denot} g.K.Keep.record_of
    c.args.machine.now) false c.args.text.now c.in_err-version.field-0.0
    c.in_err-version.ensures.value)
