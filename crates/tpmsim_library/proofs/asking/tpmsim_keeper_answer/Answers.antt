use Rattle.std.proofs.Common.{sym, ap, ◌∙◌, Some}
use Rattle.tpm_kept_device.specs.Answer.{answer_of}
use Rattle.tpmsim_library.proofs.asking.tpmsim_keeper_answer.Goals as goal

-- the answer is decoded from the response of the command that the keeper executed
pub returns-in-Ok-clause-answers : goal.returns-in-Ok-clause-answers
returns-in-Ok-clause-answers c =
    λ done. (
      c.deref.result.now,
      _,
      c.in-Some.ensures.taken ∙ ap Some (sym c.deref.ensures),
      ap answer_of (sym c.executed.ensures) ∙ c.in-Ok.ensures.value,
      c.put_answer.ensures.is,
    )

pub returns-in-Err-clause-none : goal.returns-in-Err-clause-none
returns-in-Err-clause-none c =
    λ refused. (
      c.deref.result.now,
      _,
      c.in-Some.ensures.taken ∙ ap Some (sym c.deref.ensures),
      ap answer_of (sym c.executed.ensures) ∙ c.in-Err.ensures.value,
    )
