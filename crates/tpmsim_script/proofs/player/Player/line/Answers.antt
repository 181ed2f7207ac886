use Rattle.tpmsim_script.specs.Line.{meaning_of}
use Rattle.tpmsim_script.proofs.Doing.{did_said}
use Rattle.tpmsim_script.proofs.Keeping.{told_said}
use Rattle.tpmsim_script.proofs.player.Player.line.Goals as goal

pub returns-clause-did : goal.returns-clause-did
returns-clause-did g c =
    λ cannot. did_said _ _ (meaning_of c.in_ok-said.said) _ _ _ _ _ c.requires
    c.in_ok-said.ensures.meaning (c.perform.ensures.did cannot)

pub returns-clause-told : goal.returns-clause-told
returns-clause-told g c =
    told_said g.S.Saver.saves g.S.Saver.saves_change c.args.line.now (meaning_of c.in_ok-said.said)
    _ _ _ _ c.in_ok-said.ensures.meaning c.perform.ensures.told
