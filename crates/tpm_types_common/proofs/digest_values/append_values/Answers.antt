use Rattle.std.proofs.Common.{sym, ap, ◌∙◌, ◌++◌, List, ℕ, append-nil, arith}
use Rattle.tpm_types_common.proofs.ValuesLemmas.{value_written, values_text-nil}
use Rattle.tpm_types_common.proofs.digest_values.append_values.Goals as goal

pub loop-value-init : goal.loop-value-init
loop-value-init g c = record {
  so_far = sym (ap (λ (l : List ℕ). c.args.sink.now ++ l) values_text-nil
      ∙ append-nil c.args.sink.now);
  small = omega arith;
  room = c.requires;
}

pub loop-value-preserved : goal.loop-value-preserved
loop-value-preserved g c =
    let i = c.loop-value.invariant in record {
      so_far = value_written c.args.values.now c.loop-value.value-index _ c.args.sink.now
          c.loop-value.sink c.append_to.new.sink c.loop-value-test.true i.so_far
          c.append_to.ensures.written;
      small = omega (arith, i.small, c.append_to.ensures.small);
      room = i.room;
    }
