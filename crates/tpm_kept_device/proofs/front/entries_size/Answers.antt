use Rattle.std.proofs.Common.{arith}
use Rattle.tpm_journal_text.specs.Entry.{plain_entry}
use Rattle.tpm_kept_device.proofs.Fronts.{all_taken, entry_some, entry_taken}
use Rattle.tpm_kept_device.proofs.front.entries_size.Goals as goal

pub returns-in-Torn : goal.returns-in-Torn
returns-in-Torn c = record {
  value = all_taken c.args.sum c.loop-size.after c.loop-size.taken c.args.text.now
      c.split_at.result.1.now c.read_entry.result c.loop-size.invariant.1
      c.split_at.ensures.back c.read_entry.ensures c.in-Torn.is;
  within = c.loop-size.invariant.0;
}

pub loop-size-smaller : goal.loop-size-smaller
loop-size-smaller c =
    let some = entry_some _ _ _ _ c.in-Whole.ensures.1 c.in-Whole.ensures.2 in
    omega (arith, some, c.in-Whole.ensures.1, c.split_at.ensures.back_len, c.loop-size.invariant.0)

pub loop-size-preserved : goal.loop-size-preserved
loop-size-preserved c = (
  omega (arith, c.in-Whole.ensures.1, c.split_at.ensures.back_len, c.loop-size.invariant.0),
  entry_taken c.args.sum c.loop-size.after c.loop-size.taken c.args.text.now c.split_at.result.1.now
      c.in-Whole.size c.in-Whole.sum
      (plain_entry c.in-Whole.entry) c.loop-size.invariant.1 c.split_at.ensures.back
      c.in-Whole.ensures,
)
