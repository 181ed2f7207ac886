use Rattle.std.proofs.Common.{◌≡◌, ◌-◌, length, map}
use Rattle.tpm_bytes.specs.Many.{many_at}
use Rattle.tpm_bytes.proofs.Joining.{behind}
use Rattle.tpm_bytes.proofs.many.read_many.Given as goal

-- The items read so far, followed by the items still to be read, are the whole list.
abbrev pub invariant-loop : goal.invariant-loop
invariant-loop g l = record {
  joined : behind (map g.T.Readable.seen l.things.items)
      (many_at g.T.Readable.at (l.count - l.counter) l.ahead)
      ≡ many_at g.T.Readable.at l.count l.text;
  size : length l.things.items ≡ l.counter;
}
