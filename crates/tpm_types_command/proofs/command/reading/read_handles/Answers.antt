use Rattle.std.proofs.Common.{rules, arith, sym, refl, ◌≡◌, Ok, ◌∙◌, ◌-◌, ◌+◌}
use Rattle.std.proofs.lemmas.Grind.{common_steps}
use Rattle.std.specs.Int.{w32}
use Rattle.tpm_bytes.specs.Reading.{number_at, or_fault}
use Rattle.tpm_types_command.proofs.HandleLemmas.{cut_at, handle_more, handle_cut}
use Rattle.tpm_types_command.proofs.command.reading.read_handles.Goals as goal

pub loop-before-preserved : goal.loop-before-preserved
loop-before-preserved c =
    let read : or_fault (number_at w32 c.loop-before.ahead) (cut_at (c.loop-before.before + 1))
    ≡ Ok (c.in-Ok.number, c.u32.new.self) = search rules in
    record {
      joined =
          rw c.push.ensures.items
          (handle_more c.loop-before.handles.items (c.loop-before.before + 1)
          (c.args.count - c.loop-before.before) (c.args.count - (c.loop-before.before + 1))
          c.in-Ok.number c.loop-before.ahead c.u32.new.self (omega arith) read
          ∙ c.loop-before.invariant.joined);
      size = grind (arith, common_steps);
      few = c.loop-before.invariant.few;
    }

pub returns-in_default-clause-exact : goal.returns-in_default-clause-exact
returns-in_default-clause-exact c =
    rw c.at_handle.ensures (
      sym c.loop-before.invariant.joined
          ∙ handle_cut c.loop-before.handles.items (c.loop-before.before + 1)
          (c.args.count - c.loop-before.before) (c.args.count - (c.loop-before.before + 1)) _
          c.loop-before.ahead (omega arith) (search rules),
      refl,
    )
