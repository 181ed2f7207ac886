use Rattle.std.proofs.Common.{rules, arith, sym, refl, ◌∙◌, ◌-◌, ◌+◌, map}
use Rattle.std.proofs.lemmas.Grind.{common_steps}
use Rattle.std.proofs.lemmas.Result.{err_from_is_err_and}
use Rattle.tpm_bytes.proofs.Joining.{one_more, none_more}
use Rattle.tpm_bytes.proofs.many.read_many.Goals as goal

pub loop-preserved : goal.loop-preserved
loop-preserved g c = record {
  joined =
      rw c.push.ensures.items
      (one_more g.T.Readable.seen g.T.Readable.at c.loop.things.items
      (c.args.count - c.loop.counter) (c.args.count - (c.loop.counter + 1)) _ c.loop.ahead
      c.read.new.text (omega arith) (search rules) ∙ c.loop.invariant.joined);
  size = grind (arith, common_steps);
}

pub returns-in_err-read : goal.returns-in_err-read
returns-in_err-read g c =
    let p = err_from_is_err_and c.from_residual.result c.from_residual.ensures.1 in
    rw (p.1, p.2) (
      sym c.loop.invariant.joined
          ∙ none_more g.T.Readable.at (map g.T.Readable.seen c.loop.things.items)
          (c.args.count - c.loop.counter) (c.args.count - (c.loop.counter + 1)) _ c.loop.ahead
          (omega arith) (search rules),
      refl,
    )
