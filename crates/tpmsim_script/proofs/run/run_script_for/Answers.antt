use Rattle.std.proofs.Common.{◌≡◌, ℕ, false, Option}
use Rattle.tpm_bytes.specs.Tap.{device_of}
use Rattle.tpmsim_script.specs.Script.{Plays, at_first, new_device_as}
use Rattle.tpmsim_script.proofs.ScriptFaults.{faults, no_memory, ran}
use Rattle.tpmsim_script.proofs.run.run_script_for.Goals as goal

pub returns-clause-played : goal.returns-clause-played
returns-clause-played g c =
    let P : Option ℕ → Type 0 = Plays (g.R.Read.remaining (device_of c.args.reader.now))
    (g.W.Write.contents (device_of c.args.writer.now))
    (g.W.Write.contents (device_of c.run_device.new.writer))
    (at_first c.args.trace (new_device_as c.args.profile)) 1 in
    λ cannot. rw c.script_result.ensures
    (ran P c.run_device.result
    (rw c.in_ok-machine.ensures.state at (c.run_device.ensures.played cannot)))

pub returns-clause-failed : goal.returns-clause-failed
returns-clause-failed g c =
    rw c.script_result.ensures
    (faults (g.K.Keep.can_refuse ≡ false) _ _ c.run_device.result _ _ c.run_device.ensures.failed
    (λ cannot. rw c.in_ok-machine.ensures.state at (c.run_device.ensures.read cannot))
    (λ cannot. rw c.in_ok-machine.ensures.state at (c.run_device.ensures.too_many cannot)))

pub returns-clause-no_memory : goal.returns-clause-no_memory
returns-clause-no_memory g c =
    rw c.script_result.ensures
    (no_memory _ _ c.run_device.result (λ same. (same.0, same.1)) c.run_device.ensures.no_memory)
