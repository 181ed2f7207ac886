-- A machine that is restored from the state text of a device is in the device's state, and
-- follows its history.
use Rattle.std.proofs.Common.{◌≡◌, Bool, List, Option, ℕ, Result, Ok, Err, IfOk, sym, ap, subst, ◌∙◌}
use Rattle.tpm_bytes.proofs.Fields.{ok_is}
use Rattle.tpm_machine.specs.Follows.{Follows}
use Rattle.tpm_machine.specs.History.{History}
use Rattle.tpm_record.specs.Record.{Record}
use Rattle.tpm_state_text.specs.Body.{IsWholeState, WholeState}
use Rattle.tpm_state_text.specs.Filling.{RestoresAgain, RestoresInto, RestoresNew, state_of}
use Rattle.tpm_state_text.specs.State.{state_of_text, state_text}
use Rattle.tpm_state_text.specs.declared.fault.RestoreFault.{RestoreFault}
use Rattle.tpm_state_text.specs.declared.fault.RestoreFault.TheVariants as unrestored
use Rattle.tpm_state_text.specs.declared.fault.StateFault.{StateFault}
use Rattle.tpm_state_text.specs.declared.layer.Layer.{Layer}
use Rattle.tpm_state_text.proofs.StateLaws.{text_told}
use Rattle.tpm_snapshot.specs.Restoring.{HasState}

differ : {X E : Type 0} (x : X) (e : E) → (let done : Result X E = Ok x in done) ≡ Err e → ⊥
differ x e is = absurd cc

-- decoding the state text of a state returns that state, without a fault
module _ (state : WholeState) (text : List ℕ) (is : IsWholeState state)
    (same : text ≡ state_text state) where
  told_again : state_of_text text ≡ Ok state
  told_again = ap state_of_text same ∙ text_told state is

  pub read_again : (read : WholeState) → state_of_text text ≡ Ok read → read ≡ state
  read_again read was = ok_is {E = StateFault} read state (sym was ∙ told_again)

  pub no_fault : (fault : StateFault) → state_of_text text ≡ Err fault → ⊥
  no_fault fault was = differ state fault (sym told_again ∙ was)

pub new_again : (can : Bool) (device : Record) (state : WholeState) (text : List ℕ)
    (result : Result (Option Layer) RestoreFault)
    → RestoresNew can (state_of_text text) device result → IsWholeState state
    → text ≡ state_text state → HasState can state device result
new_again can device state text (Ok layer) read is same =
    read_again state text is same (state_of device layer) read
new_again can device state text (Err (unrestored.Text fault)) read is same =
    no_fault state text is same fault read
new_again can device state text (Err unrestored.NoMemory) read is same = read

pub into_again : (can : Bool) (old device : Record) (state : WholeState) (text : List ℕ)
    (result : Result (Option Layer) RestoreFault) → RestoresInto can text old result device
    → IsWholeState state → text ≡ state_text state → HasState can state device result
into_again can old device state text (Ok layer) read is same =
    new_again can device state text (Ok layer) read is same
into_again can old device state text (Err (unrestored.Text fault)) read is same =
    new_again can device state text (Err (unrestored.Text fault)) read.0 is same
into_again can old device state text (Err unrestored.NoMemory) read is same = read.0

pub has_follows : (can : Bool) (device : Record) (state : WholeState) (history : History)
    (result : Result (Option Layer) RestoreFault) → HasState can state device result
    → Follows state.device history → IfOk result (λ layer. Follows device history)
has_follows can device state history (Ok layer) has follows =
    subst (λ (s : WholeState). Follows s.device history) (sym has) follows
has_follows can device state history (Err fault) has follows = tt

pub again_follows : {M : Type 0} (record_of : M → Record) (can : Bool) (state : WholeState)
    (history : History) (result : Result (M × Option Layer) RestoreFault)
    → RestoresAgain record_of can state result → Follows state.device history
    → IfOk result (λ made. Follows (record_of made.0) history)
again_follows record_of can state history (Ok made) again follows =
    subst (λ (s : WholeState). Follows s.device history) (sym again) follows
again_follows record_of can state history (Err fault) again follows = tt
