-- Decoding an encoded state of a device gives this state again.
use Rattle.std.proofs.Common.{◌≡◌, ◌<◌, ◌^◌, ℕ, List, Option, Some, None, Result, Ok, Err, refl, ap, ◌∙◌, drop_at, take_at}
use Rattle.std.specs.Int.{w64, from_be_bytes, to_be_bytes}
use Rattle.tpm_image_text.proofs.FieldSpelling.{wide64}
use Rattle.tpm_completion.specs.declared.completion.Completion.{Completion}
use Rattle.tpm_record.specs.Record.{Record}
use Rattle.tpm_snapshot.specs.Layer.{completion_of, layer_of}
use Rattle.tpm_snapshot.proofs.Layers.{layer_again}
use Rattle.tpm_state_text.specs.Body.{WholeState}
use Rattle.tpm_state_text.specs.State.{state_of_text, state_text}
use Rattle.tpm_state_text.specs.declared.fault.StateFault.{StateFault}
use Rattle.tpm_state_text.specs.declared.layer.Layer.{Layer}
use Rattle.tpm_state_text.proofs.StateLaws.{text_told}
use Rattle.tpm_kept_journal.specs.State.{DeviceState, IsDeviceState, bytes_of, content_in, state_by, state_of_bytes, state_with, time_in, whole_of}

-- ---- decoding an encoded state

state_of : (s : DeviceState) → state_with s.time s.device (Some (layer_of s.layer)) ≡ Some s
state_of s =
    ap (λ (c : Completion). let made : DeviceState = record s { layer = c } in Some made)
    (layer_again s.layer)

pub time_of : (s : DeviceState) → s.time < 2 ^ 64 → time_in (bytes_of s) ≡ s.time
unfolding bytes_of
time_of s small =
    ap (from_be_bytes w64)
    (take_at (to_be_bytes w64 s.time) (state_text (whole_of s)) 8 (wide64.len s.time))
    ∙ wide64.again s.time small

pub content_of : (s : DeviceState) → content_in (bytes_of s) ≡ state_text (whole_of s)
unfolding bytes_of
content_of s = drop_at (to_be_bytes w64 s.time) (state_text (whole_of s)) 8 (wide64.len s.time)

pub state_told : (s : DeviceState) → IsDeviceState s → state_of_bytes (bytes_of s) ≡ Some s
unfolding state_of_bytes
state_told s is =
    ap (λ (n : ℕ). state_by n (state_of_text (content_in (bytes_of s)))) (time_of s is.time)
    ∙ ap (λ (t : List ℕ). state_by s.time (state_of_text t)) (content_of s)
    ∙ ap (state_by s.time) (text_told (whole_of s) is.whole)
    ∙ state_of s

-- ---- bytes that decode to a state

pub layer_back : (layer : Layer) → layer_of (completion_of (Some layer)) ≡ layer
layer_back layer = refl

-- The bytes decode to a state, which contains this layer and this device.
pub record IsStateText (text : List ℕ) : Type 0 where
  pub layer : Layer
  pub device : Record
  pub says : state_of_text (content_in text)
      ≡ Ok (record { device = device; layer = Some layer })
  pub is : state_of_bytes text
      ≡ Some (record { time = time_in text; layer = completion_of (Some layer); device = device })

said_with : (text : List ℕ) (device : Record) (layer : Option Layer) (s : DeviceState)
    → state_of_text (content_in text) ≡ Ok (record { device = device; layer = layer })
    → state_with (time_in text) device layer ≡ Some s → IsStateText text
unfolding state_of_bytes
said_with text device (Some layer) s e is =
    record { layer = layer; device = device; says = e; is = ap (state_by (time_in text)) e }
said_with text device None s e is = absurd cc

said_by : (text : List ℕ) (read : Result WholeState StateFault) (s : DeviceState)
    → state_of_text (content_in text) ≡ read
    → state_by (time_in text) read ≡ Some s → IsStateText text
said_by text (Ok whole) s e is = said_with text whole.device whole.layer s e is
said_by text (Err why) s e is = absurd cc

pub text_says : (text : List ℕ) (s : DeviceState) → state_of_bytes text ≡ Some s → IsStateText text
unfolding state_of_bytes
text_says text s is = said_by text (state_of_text (content_in text)) s refl is
