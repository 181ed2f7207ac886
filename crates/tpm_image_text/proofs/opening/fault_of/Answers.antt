use Rattle.std.proofs.Common.{refl, ◌∙◌, sym, true}
use Rattle.tpm_record.specs.Record.{Record}
use Rattle.tpm_image_text.proofs.OpeningLaws.{is_image, unframed}
use Rattle.tpm_image_text.proofs.opening.fault_of.Goals as goal

pub returns-in-Err : goal.returns-in-Err
returns-in-Err c = unframed (λ (r : Record). r) true c.args.text.now c.in-Err.fault
    c.in-Err.ensures.value

pub returns-then-is_body : goal.returns-then-is_body
returns-then-is_body c = (
  refl,
  is_image c.args.text.now c.in-Ok.framed.0 c.in-Ok.framed.1.now c.in-Ok.ensures.value
      (sym c.is_body.ensures ∙ c.if-is_body.true),
)
