use Rattle.std.proofs.Common.{◌≡◌, ◌∙◌, ap, sym}
use Rattle.std.specs.declared.option.Option.TheVariants.{Some}
use Rattle.tpmsim_web.specs.State.{whole_state}
use Rattle.tpmsim_web.proofs.Restoring.{fault_told, never_faulty, same_history, same_layer, same_record}
use Rattle.tpmsim_web.proofs.snapshots.device_restore.Goals as goal

-- The device that is put back into the holder is the device in the state text.
pub returns-in-Ok-clause-restores : goal.returns-in-Ok-clause-restores
returns-in-Ok-clause-restores c =
    λ done. (c.restore-restored.new.self, c.put.ensures, c.in-Ok.ensures.restores)

pub returns-in-Ok-clause-again : goal.returns-in-Ok-clause-again
returns-in-Ok-clause-again c = λ before is same done.
    let device = c.restore-restored.new.self in
    let text = c.args.text.now in (
      device,
      c.put.ensures,
      same_record text device c.in-Ok.ensures.restores (whole_state before) is same,
      same_layer text device c.in-Ok.ensures.restores before is same,
    )

pub returns-in-Ok-clause-history : goal.returns-in-Ok-clause-history
returns-in-Ok-clause-history c = λ state history is follows same done.
    let device = c.restore-restored.new.self in (
      device,
      c.put.ensures,
      same_history c.args.text.now device c.in-Ok.ensures.restores state
          history is follows same,
    )

-- The reported error is the first error in the bytes.
pub returns-in-Err-clause-told : goal.returns-in-Err-clause-told
returns-in-Err-clause-told c =
    let was : c.args.holder.now.device ≡ Some c.deref_mut.result.now =
    c.in-Some.ensures.taken ∙ ap Some (sym c.deref_mut.ensures.value) in
    rw was (λ refused. fault_told c.restore-restored.new.self c.args.text.now c.in-Err.fault
    c.restore_number.result c.restore_number.ensures c.in-Err.ensures.restores)

-- the state text of a device has no error
pub returns-in-Err-clause-taken : goal.returns-in-Err-clause-taken
returns-in-Err-clause-taken c = λ state is same.
    absurd (never_faulty c.restore-restored.new.self c.args.text.now c.in-Err.fault state
    c.in-Err.ensures.restores is same)
