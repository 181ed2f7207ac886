use Rattle.std.proofs.Common.{rules, ◌∙◌, sym}
use Rattle.std.specs.Prelude.{◌||◌}
use Rattle.std.proofs.lemmas.Result.{err_from_is_err_and}
use Rattle.tpm_machine.specs.State.{state_of}
use Rattle.tpm_image_text.proofs.OpeningLaws.{is_image, unframed}
use Rattle.tpm_image.proofs.image.open_device.Goals as goal

pub returns-in_err-version-clause-exact : goal.returns-in_err-version-clause-exact
returns-in_err-version-clause-exact g c =
    let p = err_from_is_err_and c.from_residual.result c.from_residual.ensures.1 in
    rw (p.1, p.2)
    (unframed (state_of {K = g.row.K.Denot} {S = g.row.K-Se.Denot}
    {O = g.row.K-ObjectSlots.Denot} {P = g.row.K-PersistentMap.Denot}
    {N = g.row.K-Nv.Denot} g.K.Keep.record_of)
    (g.K.Keep.empty_can_refuse || g.K.Keep.can_refuse) c.args.text.now
    c.in_err-version.field-0.0 c.in_err-version.ensures.value)

pub returns-then-is_body-clause-exact : goal.returns-then-is_body-clause-exact
returns-then-is_body-clause-exact g c = (
  search rules,
  is_image c.args.text.now c.in_ok-version.version c.in_ok-version.body.now
      (search rules) (sym c.is_body.ensures ∙ c.if-is_body.true),
)
