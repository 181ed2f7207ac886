-- If a device is created from the state text of a device, the two devices are equal.
use Rattle.std.proofs.Common.{◌≡◌, Bool, List, Option, ℕ, Result, Ok, Err, sym, ap, ◌∙◌}
use Rattle.tpm_bytes.proofs.Fields.{ok_is}
use Rattle.tpm_record.specs.Record.{Record}
use Rattle.tpm_state_text.specs.Body.{IsWholeState, WholeState}
use Rattle.tpm_state_text.specs.Filling.{Restores, RestoresAgain, state_of}
use Rattle.tpm_state_text.specs.State.{state_of_text, state_text}
use Rattle.tpm_state_text.specs.declared.fault.RestoreFault.{RestoreFault}
use Rattle.tpm_state_text.specs.declared.fault.RestoreFault.TheVariants as unrestored
use Rattle.tpm_state_text.specs.declared.fault.StateFault.{StateFault}
use Rattle.tpm_state_text.specs.declared.layer.Layer.{Layer}
use Rattle.tpm_state_text.proofs.StateLaws.{text_told}

differ : {X E : Type 0} (x : X) (e : E) → (let done : Result X E = Ok x in done) ≡ Err e → ⊥
differ x e is = absurd cc

pub restored_again : {K : Type 0} (record_of : K → Record) (can : Bool) (state : WholeState)
    (text : List ℕ) (result : Result (K × Option Layer) RestoreFault)
    → Restores record_of can text result → IsWholeState state → text ≡ state_text state
    → RestoresAgain record_of can state result
restored_again record_of can state text (Ok made) read is same =
    ok_is {E = StateFault} (state_of (record_of made.0) made.1) state
    (sym read ∙ ap state_of_text same ∙ text_told state is)
restored_again record_of can state text (Err (unrestored.Text fault)) read is same =
    differ state fault (sym (text_told state is) ∙ sym (ap state_of_text same) ∙ read)
restored_again record_of can state text (Err unrestored.NoMemory) read is same = read
