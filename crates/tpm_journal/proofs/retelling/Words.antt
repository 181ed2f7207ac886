-- The answer to an entry can be described in words, and the output for it is written piece by
-- piece.
use Rattle.std.proofs.Common.{ℕ, Bool, true, false, List, ◌++◌, Option}
use Rattle.std.specs.Io.KnownBytes.{Appends}
use Rattle.std.proofs.KnownBytes.{Appends-trans}
use Rattle.tpm_completion.specs.Execution.{CompletesIf, Seen}
use Rattle.tpm_completion.specs.declared.completion.Completion.{Completion}
use Rattle.tpm_record.specs.Record.{Record}
use Rattle.tpm_step.specs.step.Events.{PlainEvent}
use Rattle.tpm_text.proofs.Traceable.{executed}
use Rattle.tpm_journal.specs.Retelling.{CanBeTold}

pub can_be_told : (can completes : Bool) (layer : Completion) (old : Record) (event : PlainEvent)
    (seen : Seen)
    → CompletesIf can completes layer old event seen
    → CanBeTold completes event seen.step.row seen.step.response
can_be_told can true layer old event seen done = tt
can_be_told can false layer old event seen done = executed can old event seen.step done.executes

pub put_together : (a b c d e : Option (List ℕ)) (w x y z : List ℕ)
    → Appends a b w → Appends b c x → Appends c d y → Appends d e z → Appends a e (w ++ x ++ y ++ z)
put_together a b c d e w x y z p q r s =
    Appends-trans _ _ _ _ _ (Appends-trans _ _ _ _ _ (Appends-trans _ _ _ _ _ p q) r) s
