use Rattle.std.proofs.Common.{◌≡◌, ◌+◌, drop, length, map}
use Rattle.tpm_bytes.specs.Many.{each_at}
use Rattle.tpm_bytes.proofs.Joining.{behind}
use Rattle.tpm_bytes.proofs.many.read_each.Given as goal

-- The items read so far, followed by the items still to be read, are the whole list.
abbrev pub invariant-loop-key : goal.invariant-loop-key
invariant-loop-key g l = record {
  joined : behind (map g.T.ReadableBy.seen l.things.items)
      (each_at g.T.ReadableBy.at l.number (drop l.key-index l.keys) l.ahead)
      ≡ each_at g.T.ReadableBy.at 1 l.keys l.text;
  place : l.number ≡ l.key-index + 1;
  size : length l.things.items ≡ l.key-index;
}
