-- A device begins as its seed says.
use Rattle.std.proofs.Common.{◌≡◌, ◌<◌, ◌==◌, ℕ, false, List, Result, refl, ap, arith}
use Rattle.std.proofs.lemmas.Bool.{ne_eqb}
use Rattle.tpm_image_text.specs.NonVolatile.{NonVolatile}
use Rattle.tpm_image_text.specs.declared.fault.ImageFault.{ImageFault}
use Rattle.tpm_state_text.specs.Body.{WholeState}
use Rattle.tpm_state_text.specs.declared.fault.StateFault.{StateFault}
use Rattle.tpm_kept_journal.specs.Seed.{begun_of, state_opened, state_restored}
use Rattle.tpm_kept_laws.specs.Seeds.{MadeOfRandom, NoOtherKind, OpenedFromImage, RestoredFromState, seed_of}

pub made_of_random : MadeOfRandom
unfolding begun_of
made_of_random now start random many = rw many refl

pub opened_from_image : OpenedFromImage
unfolding begun_of
opened_from_image now start image kept is =
    ap (λ (r : Result NonVolatile ImageFault). state_opened (seed_of 1 now start image) r) is

pub restored_from_state : RestoredFromState
unfolding begun_of
restored_from_state now start text whole is =
    ap (λ (r : Result WholeState StateFault). state_restored (seed_of 2 now start text) r) is

differs : (kind most : ℕ) → most < kind → (kind == most) ≡ false
differs kind most more = ne_eqb kind most (λ same. absurd (omega (arith, same, more)))

pub no_other_kind : NoOtherKind
unfolding begun_of
no_other_kind kind now start content more =
    rw (
      differs kind 0 (omega (arith, more)),
      differs kind 1 (omega (arith, more)),
      differs kind 2 more,
    ) refl
