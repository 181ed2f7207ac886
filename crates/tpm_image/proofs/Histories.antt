-- A device that is opened from the image of another device follows that device's history, extended
-- by one more power cycle.
use Rattle.std.proofs.Common.{◌≡◌, Bool, ◌∷◌, Result, Ok, Err, IfOk, sym, subst}
use Rattle.tpm_record.specs.Cycle.{after_cycle}
use Rattle.tpm_record.specs.Record.{Record}
use Rattle.tpm_machine.specs.Follows.{Follows}
use Rattle.tpm_machine.specs.History.{History, PowerCycled}
use Rattle.tpm_machine.proofs.Following.{cycled_follows}
use Rattle.tpm_image_text.specs.Opening.{OpensAgain}
use Rattle.tpm_image_text.specs.declared.fault.ImageFault.{ImageFault}

pub opened_follows : {M : Type 0} (record_of : M → Record) (can : Bool) (r : Record)
    (history : History) (result : Result M ImageFault) → OpensAgain record_of can r result
    → Follows r history
    → IfOk result (λ machine. Follows (record_of machine) (PowerCycled ∷ history))
opened_follows record_of can r history (Ok machine) opens follows =
    subst (λ (x : Record). Follows x (PowerCycled ∷ history)) (sym opens)
    (cycled_follows r history follows)
opened_follows record_of can r history (Err fault) opens follows = tt
