use Rattle.std.proofs.Common.{refl}
use Rattle.tpm_machine.specs.State.{state_of}
use Rattle.tpm_machine.proofs.Placing.{place_tells}
use Rattle.tpm_machine.proofs.machine.Machine.place.Goals as goal

pub returns : goal.returns
returns g c =
    let state = state_of g.K.Keep.record_of in
    let tells = place_tells g.K.Keep.can_refuse (state c.args.self.now) c.args.object
    c.add_object.result (g.K.Keep.record_of c.add_object.new.keep) c.read_sizes.ensures
    c.read_widths.ensures c.add_object.ensures in
    record {
      places = tells.places;
      executes = tells.executes;
      drawn = refl;
      follows = tells.follows;
    }
