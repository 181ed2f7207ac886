use Rattle.std.proofs.Common.{arith, length-take}
use Rattle.tpm_bytes.proofs.Fields.{AreBytes-take}
use Rattle.tpmsim_image.proofs.log.entry.entry_of_command.Goals as goal

pub returns-clause-is : goal.returns-clause-is
returns-clause-is c = record {
  elapsed = omega arith;
  locality = omega (arith, c.number.ensures.small);
  drawn = rw c.split_at.ensures.front
      (omega (arith, length-take c.args.drawn c.args.random.now, c.told-random));
  drawn_bytes = rw c.split_at.ensures.front
      (AreBytes-take c.args.drawn c.args.random.now c.fits-random);
  buffer = omega (arith, c.if-buffer-gt-ENTRY_LIMIT.false);
  buffer_bytes = λ i. omega (arith, c.type_inv.buffer i);
  answered = omega arith;
}
