use Rattle.std.proofs.Common.{rules, arith, take, ◌++◌}
use Rattle.std.proofs.lemmas.Grind.{common_steps}
use Rattle.std.proofs.KnownBytes.{Appends-trans}
use Rattle.tpm_bytes.proofs.tap.Tap.write_all.Goals as goal

pub loop-left-preserved : goal.loop-left-preserved
loop-left-preserved g c =
    let i = c.loop-left.invariant.0 in (
      (
        i.0 ++ take c.in-Ok.count c.loop-left.left.now,
        grind (arith, common_steps),
        Appends-trans _ _ _ _ _ i.2 (search rules),
      ),
      search rules,
    )
