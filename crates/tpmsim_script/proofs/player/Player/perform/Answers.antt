use Rattle.std.proofs.Common.{rules, refl}
use Rattle.tpm_machine.specs.State.{state_of}
use Rattle.tpmsim_script.specs.Player.{playing_of}
use Rattle.tpmsim_script.specs.Script.{script_playing, silence}
use Rattle.tpmsim_script.proofs.Doing.{nothing_printed}
use Rattle.tpmsim_script.proofs.player.Player.perform.Goals as goal

pub returns-in-Locality-clause-did : goal.returns-in-Locality-clause-did
returns-in-Locality-clause-did g c =
    λ cannot. (
      silence (script_playing c.args.self.now.traced c.set_locality.new.self
          (state_of g.K.Keep.record_of c.args.self.now.machine)),
      search rules,
      nothing_printed _,
      refl,
    )

pub returns-in_ok-wait-in-Wait-clause-did : goal.returns-in_ok-wait-in-Wait-clause-did
returns-in_ok-wait-in-Wait-clause-did g c =
    λ cannot. (
      silence (script_playing c.args.self.now.traced c.wait.new.self
          (state_of g.K.Keep.record_of c.args.self.now.machine)),
      search rules,
      nothing_printed _,
      refl,
    )

pub returns-in_ok-set_entropy-in-Entropy-clause-did : goal.returns-in_ok-set_entropy-in-Entropy-clause-did
returns-in_ok-set_entropy-in-Entropy-clause-did g c =
    λ cannot. (
      silence (script_playing c.args.self.now.traced c.set_entropy.new.self
          (state_of g.K.Keep.record_of c.args.self.now.machine)),
      search rules,
      nothing_printed _,
      refl,
    )

pub returns-in-Nothing-clause-did : goal.returns-in-Nothing-clause-did
returns-in-Nothing-clause-did g c =
    λ cannot. (
      silence (playing_of g.K.Keep.record_of c.args.self.now),
      search rules,
      nothing_printed _,
      refl,
    )
