use Rattle.std.proofs.Common.{rules, arith, sym, refl, ◌∙◌}
use Rattle.std.proofs.lemmas.Grind.{common_steps}
use Rattle.std.proofs.lemmas.Result.{err_from_is_err_and}
use Rattle.tpm_state_text.proofs.Loops.{bank_cut, bank_more}
use Rattle.tpm_state_text.proofs.banks.read_sha256.Goals as goal

pub loop-place-preserved : goal.loop-place-preserved
loop-place-preserved c =
    let i = c.loop-place.invariant in
    record {
      joined =
          rw c.put_sha256.ensures
          (bank_more 32 c.loop-place.place c.loop-place.banks.sha256 _ c.loop-place.ahead _
          c.loop-place-test.true i.size (search rules) ∙ i.joined);
      other = search rules;
      count = search rules;
      size = grind (arith, common_steps);
    }

pub returns-in_err-read_array-clause-values : goal.returns-in_err-read_array-clause-values
returns-in_err-read_array-clause-values c =
    let p = err_from_is_err_and c.from_residual.result c.from_residual.ensures.1 in
    rw (p.1, p.2) (
      sym c.loop-place.invariant.joined
          ∙ bank_cut 32 c.loop-place.place c.loop-place.banks.sha256 _ c.loop-place.ahead
          c.loop-place-test.true (search rules),
      refl,
    )
