use Rattle.std.proofs.Common.{◌≡◌, ◌∙◌, Err, Ok, ap, false, refl, sym}
use Rattle.std.specs.declared.option.Option.TheVariants.{Some}
use Rattle.tpmsim_web.specs.State.{record_of}
use Rattle.tpmsim_web.proofs.Opening.{fault_alike}
use Rattle.tpmsim_web.proofs.calls.device_open.Goals as goal

-- The device that is put back into the holder is the device in the image.
pub returns-in-Ok-clause-opens : goal.returns-in-Ok-clause-opens
returns-in-Ok-clause-opens c =
    let was : c.args.holder.now.device ≡ Some c.deref_mut.result.now =
    c.in-Some.ensures.taken ∙ ap Some (sym c.deref_mut.ensures.value) in
    rw was (Ok c.open-opened.new.self, c.in-Ok.ensures.exact, (refl, c.put.ensures))

-- On error, the device is put back unchanged into its holder.
pub returns-in-Err-clause-opens : goal.returns-in-Err-clause-opens
returns-in-Err-clause-opens c =
    let was : c.args.holder.now.device ≡ Some c.deref_mut.result.now =
    c.in-Some.ensures.taken ∙ ap Some (sym c.deref_mut.ensures.value) in
    let exact = fault_alike (λ (done : Unit {0}). record_of c.open-opened.new.self) record_of false
    c.args.image.now c.in-Err.fault c.in-Err.ensures.exact in
    rw was (
      Err c.in-Err.fault,
      exact,
      (c.fault_number.ensures, c.put.ensures ∙ ap Some c.in-Err.ensures.kept),
    )

-- If a device with a history has this image, the opened device has the same history, followed by a
-- power cycle.
pub returns-in-Ok-clause-history : goal.returns-in-Ok-clause-history
returns-in-Ok-clause-history c =
    λ done version r history is follows image. (
      c.open-opened.new.self,
      c.put.ensures,
      c.in-Ok.ensures.history version r history is follows image,
    )
