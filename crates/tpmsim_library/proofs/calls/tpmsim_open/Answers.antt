use Rattle.std.proofs.Common.{refl, Ok, Err, true}
use Rattle.std.proofs.BoxSteps.Form.{D}
use Rattle.tpmsim_library.specs.State.{record_of}
use Rattle.tpmsim_library.proofs.Boxes.{boxes}
use Rattle.tpmsim_library.proofs.Opening.{fault_alike}
use Rattle.tpmsim_library.proofs.calls.tpmsim_open.Goals as goal

pub returns-in-Ok-clause-opens : goal.returns-in-Ok-clause-opens
returns-in-Ok-clause-opens c =
    (Ok c.in-Ok.device.value, c.in-Ok.ensures.exact, (refl, c.put.ensures))

pub returns-in-Err-clause-opens : goal.returns-in-Err-clause-opens
returns-in-Err-clause-opens c = (
  Err c.in-Err.fault,
  fault_alike (λ (b : D boxes). record_of b.value) record_of true c.args.image.now c.in-Err.fault
      c.in-Err.ensures.exact,
  (c.fault_number.ensures, refl),
)

-- if a device with a history has this image, the opened device has the same history, followed by a
-- power cycle
pub returns-in-Ok-clause-history : goal.returns-in-Ok-clause-history
returns-in-Ok-clause-history c =
    λ done version r history is follows image. (
      c.in-Ok.device.value,
      c.put.ensures,
      c.in-Ok.ensures.history version r history is follows image,
    )
