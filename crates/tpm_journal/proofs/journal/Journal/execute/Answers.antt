use Rattle.std.proofs.Common.{arith, length-take, ap, subst}
use Rattle.tpm_bytes.proofs.Fields.{AreBytes-take}
use Rattle.tpm_completion.specs.Execution.{CompletesIf, seen_of}
use Rattle.tpm_step.specs.step.Events.{plain_event}
use Rattle.tpm_types_common.specs.Locality.{locality_number}
use Rattle.tpm_journal_text.specs.Sum.{sum_of}
use Rattle.tpm_journal.proofs.Commands.{entry_is}
use Rattle.tpm_journal.proofs.Drawing.{if_within}
use Rattle.tpm_journal.proofs.journal.Journal.execute.Goals as goal

pub split_at-requires : goal.split_at-requires
split_at-requires g c =
    let seen = seen_of g.K.Keep.record_of c.execute.new.machine c.execute.new.layer
    c.execute.new.outcome in
    let within = if_within g.K.Keep.can_refuse c.args.completes c.args.self.now.layer
    (g.K.Keep.record_of c.args.machine.now.keep) c.cut-buffer.result.now
    (locality_number c.args.locality) c.elapsed-elapsed_ms.result c.args.random.now seen
    (subst (λ e. CompletesIf g.K.Keep.can_refuse c.args.completes c.args.self.now.layer
    (g.K.Keep.record_of c.args.machine.now.keep) (plain_event e) seen)
    c.of_command-event.ensures.value c.execute.ensures.executes) in
    omega (arith, within, c.drawn.ensures)

pub write-requires-clause-entry : goal.write-requires-clause-entry
write-requires-clause-entry g c = record {
  elapsed = omega arith;
  locality = omega arith;
  drawn = rw c.split_at.ensures.front
      (omega (arith, length-take c.drawn.result c.args.random.now, c.told-random));
  drawn_bytes = rw c.split_at.ensures.front
      (AreBytes-take c.drawn.result c.args.random.now c.fits-random);
  buffer = rw c.cut-buffer.ensures (omega (arith, length-take 4097 c.args.buffer.now));
  buffer_bytes =
      rw c.cut-buffer.ensures
      (AreBytes-take 4097 c.args.buffer.now (λ i. omega (arith, c.type_inv.buffer i)));
  answered = omega arith;
}

pub returns-clause-entry : goal.returns-clause-entry
returns-clause-entry g c =
    entry_is c.args.buffer.now (locality_number c.args.locality) c.args.now_ms c.args.self.now.time
    c.args.completes
    c.args.random.now (seen_of g.K.Keep.record_of c.execute.new.machine c.execute.new.layer
    c.execute.new.outcome)
    (omega (arith, c.number.ensures.value, c.number.ensures.small)) c.told-random c.fits-random
    (λ i. omega (arith, c.type_inv.buffer i))
    (omega (arith, c.sum_of.type_inv, c.sum_of.ensures, ap sum_of c.as_slice.ensures.value))
