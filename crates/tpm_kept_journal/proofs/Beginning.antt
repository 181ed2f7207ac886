-- A new device's completing layer has the start number from the seed.
use Rattle.std.proofs.Common.{◌≡◌, ◌==◌, ℕ, Bool, true, false, cond, length, Option, Some, None, Result, Ok, Err, refl, subst}
use Rattle.tpm_image_text.specs.Image.{image_of}
use Rattle.tpm_image_text.specs.NonVolatile.{NonVolatile}
use Rattle.tpm_image_text.specs.declared.fault.ImageFault.{ImageFault}
use Rattle.tpm_state_text.specs.Body.{WholeState}
use Rattle.tpm_state_text.specs.State.{state_of_text}
use Rattle.tpm_state_text.specs.declared.fault.StateFault.{StateFault}
use Rattle.tpm_state_text.specs.declared.layer.Layer.{Layer}
use Rattle.tpm_kept_journal.specs.Seed.{Seed, begun_of, layer_restored, state_made, state_opened, state_restored}
use Rattle.tpm_kept_journal.specs.State.{DeviceState}

abbrev HasStart : ℕ → Option DeviceState → Type 0
HasStart start (Some s) = s.layer.start ≡ start
HasStart start None = Unit {0}

either : (start : ℕ) (b : Bool) (x y : Option DeviceState) → HasStart start x → HasStart start y
    → HasStart start (cond b x y)
either start true x y p q = p
either start false x y p q = q

opened_start : (seed : Seed) (read : Result NonVolatile ImageFault)
    → HasStart seed.start (state_opened seed read)
opened_start seed (Ok kept) = refl
opened_start seed (Err why) = tt

layer_start : (start : ℕ) (layer : Option Layer) → (layer_restored start layer).start ≡ start
layer_start start (Some layer) = refl
layer_start start None = refl

restored_start : (seed : Seed) (read : Result WholeState StateFault)
    → HasStart seed.start (state_restored seed read)
restored_start seed (Ok whole) = layer_start seed.start whole.layer
restored_start seed (Err why) = tt

made_start : (seed : Seed) → HasStart seed.start (state_made seed)
made_start seed = either seed.start (length seed.content == 256) _ None refl tt

begun_start : (seed : Seed) → HasStart seed.start (begun_of seed)
unfolding begun_of
begun_start seed =
    either seed.start (seed.kind == 0) (state_made seed) _ (made_start seed)
    (either seed.start (seed.kind == 1) (state_opened seed (image_of seed.content)) _
    (opened_start seed (image_of seed.content))
    (either seed.start (seed.kind == 2) (state_restored seed (state_of_text seed.content)) None
    (restored_start seed (state_of_text seed.content)) tt))

pub begins_with : (seed : Seed) (s : DeviceState) → begun_of seed ≡ Some s
    → s.layer.start ≡ seed.start
begins_with seed s is = subst (HasStart seed.start) is (begun_start seed)
