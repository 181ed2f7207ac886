use Rattle.std.proofs.BoxSteps.Form.{D}
use Rattle.tpmsim_library.specs.State.{whole_state}
use Rattle.tpmsim_library.proofs.Boxes.{boxes}
use Rattle.tpmsim_library.proofs.Restoring.{fault_told, only_memory, same_history, same_layer, same_record}
use Rattle.tpmsim_library.proofs.snapshots.tpmsim_restore.Goals as goal

-- the device in the state text is put into the holder
pub returns-in-Ok-clause-restores : goal.returns-in-Ok-clause-restores
returns-in-Ok-clause-restores c = λ done. (c.in-Ok.device.value, c.put.ensures, c.in-Ok.ensures)

pub returns-in-Ok-clause-again : goal.returns-in-Ok-clause-again
returns-in-Ok-clause-again c = λ before is same done.
    let device = c.in-Ok.device.value in
    let text = c.args.text.now in (
      device,
      c.put.ensures,
      same_record text device c.in-Ok.ensures (whole_state before) is same,
      same_layer text device c.in-Ok.ensures before is same,
    )

pub returns-in-Ok-clause-history : goal.returns-in-Ok-clause-history
returns-in-Ok-clause-history c = λ state history is follows same done.
    let device = c.in-Ok.device.value in (
      device,
      c.put.ensures,
      same_history c.args.text.now device c.in-Ok.ensures state history is
          follows same,
    )

pub returns-in-Err-clause-told : goal.returns-in-Err-clause-told
returns-in-Err-clause-told c = λ refused other.
    fault_told (λ (b : D boxes). b.value) c.args.text.now c.in-Err.fault c.restore_number.result
    c.restore_number.ensures c.in-Err.ensures other

pub returns-in-Err-clause-taken : goal.returns-in-Err-clause-taken
returns-in-Err-clause-taken c = λ state is same refused.
    only_memory (λ (b : D boxes). b.value) c.args.text.now c.in-Err.fault c.restore_number.result
    state c.restore_number.ensures c.in-Err.ensures is same
