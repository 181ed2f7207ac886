use Rattle.std.proofs.Common.{rules, arith, []}
use Rattle.std.proofs.lemmas.Grind.{common_steps}
use Rattle.tpm_image_text.proofs.Writing.{written_more}
use Rattle.tpm_state_text.proofs.Loops.{one_fits}
use Rattle.tpm_state_text.proofs.banks.write_bank.Goals as goal

pub write_array-requires : goal.write_array-requires
write_array-requires g c = one_fits g.row.N c.loop-value.value-index _ _ c.requires.few
    c.loop-value-test.true c.requires.room c.loop-value.invariant.size

pub loop-value-preserved : goal.loop-value-preserved
loop-value-preserved g c = record {
  written = written_more (λ value. value) c.loop-value.text c.write_array.new.text _
      c.args.values.now c.loop-value.value-index []
      (omega (arith, c.loop-value-test.true, c.told-values)) (search rules)
      c.loop-value.invariant.written;
  size = grind (arith, common_steps);
}
