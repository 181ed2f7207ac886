use Rattle.tpmsim_script.proofs.Starting.{starts}
use Rattle.tpmsim_script.proofs.player.Player.new.Goals as goal

pub returns-clause-playing : goal.returns-clause-playing
returns-clause-playing g c =
    starts c.args.traced _ _ _ _ c.new-2.ensures.locality c.new-2.ensures.time
    c.new-2.ensures.random
