use Rattle.std.specs.Prelude.{false}
use Rattle.tpm_machine.specs.State.{state_of}
use Rattle.tpm_record.specs.Record.{Record}
use Rattle.tpm_image.proofs.Histories.{opened_follows}
use Rattle.tpm_image_text.proofs.RecordLaws.{opened_only}
use Rattle.tpm_image.proofs.image.open_into.Goals as goal

pub returns-clause-history : goal.returns-clause-history
returns-clause-history g c = λ version r history is follows image.
    let opened : Unit {0} → Record =
    λ done. state_of {K = g.row.K.Denot} {S = g.row.K-Se.Denot}
    {O = g.row.K-ObjectSlots.Denot} {P = g.row.K-PersistentMap.Denot}
    {N = g.row.K-Nv.Denot} g.K.Keep.record_of c.fill_machine.new.machine in
    opened_follows opened false r history c.fill_machine.result
    (opened_only opened false c.args.text.now version r c.fill_machine.result is image
    c.fill_machine.ensures) follows
