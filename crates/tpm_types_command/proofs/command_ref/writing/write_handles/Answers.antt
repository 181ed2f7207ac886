use Rattle.std.proofs.Common.{◌++◌, List, ℕ, refl, sym, ap, ◌∙◌, append-nil, arith, rules, take_all}
use Rattle.std.specs.List.{flat_map}
use Rattle.tpm_bytes.proofs.WrittenTexts.{fits_more, written_more}
use Rattle.tpm_types_common.specs.declared.handle.Handle.{Handle}
use Rattle.tpm_types_command.specs.Command.{handle_text}
use Rattle.tpm_types_command.proofs.HandleLemmas.{handles_text-is, length-handles}
use Rattle.tpm_types_command.proofs.command_ref.writing.write_handles.Goals as goal

pub loop-handle-init : goal.loop-handle-init
loop-handle-init g c =
    record {
      so_far = sym (append-nil c.args.sink.now);
      room =
          omega (arith, length-handles c.args.handles.now);
    }

pub append_u32-requires : goal.append_u32-requires
append_u32-requires g c =
    let i = c.loop-handle.invariant in (
      search rules,
      fits_more handle_text c.args.handles.now c.loop-handle.handle-index g.row.N
          (record { number = 0 }) _ c.args.sink.now c.loop-handle.sink c.loop-handle-test.true
          refl i.so_far i.room,
    )

pub loop-handle-preserved : goal.loop-handle-preserved
loop-handle-preserved g c = record {
  so_far = written_more handle_text c.args.handles.now c.loop-handle.handle-index
      (record { number = 0 }) _ c.args.sink.now c.loop-handle.sink _ c.loop-handle-test.true
      refl c.loop-handle.invariant.so_far c.append_u32.ensures;
  room = c.loop-handle.invariant.room;
}

pub returns : goal.returns
returns g c = c.loop-handle.invariant.so_far
    ∙ (ap (λ (l : List Handle). c.args.sink.now ++ flat_map handle_text l)
    (take_all c.loop-handle.handle-index c.args.handles.now c.loop-handle-test.false)
    ∙ ap (λ (l : List ℕ). c.args.sink.now ++ l) (sym (handles_text-is c.args.handles.now)))
