use Rattle.std.proofs.Common.{subst}
use Rattle.std.proofs.BoxSteps.Form.{D}
use Rattle.std.specs.declared.option.Option.TheVariants.{Some}
use Rattle.tpmsim_library.specs.Journal.{OpensDevice}
use Rattle.tpmsim_library.proofs.Boxes.{boxes}
use Rattle.tpmsim_library.proofs.journal.tpmsim_journal_open.Goals as goal

-- the device in the journal is put into the holder
pub returns-in-Some-Ok-clause-opens : goal.returns-in-Some-Ok-clause-opens
returns-in-Some-Ok-clause-opens c =
    let opens = subst
    (λ r. OpensDevice (λ (b : D boxes). b.value) c.args.text.now c.args.taken.now (Some r)
    c.open_journal.new.taken)
    c.in-Some-Ok.field-0-is c.in-Some-Ok.ensures in
    λ done. (c.in-Some-Ok.device.value, c.put.ensures, opens)
