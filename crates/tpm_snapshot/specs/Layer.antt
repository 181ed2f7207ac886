-- The part of a state text that encodes the completing layer. It encodes the layer's whole state.
use Rattle.std.specs.Prelude.{Option, Some, None}
use Rattle.tpm_completion.specs.Completion.{new_completion}
use Rattle.tpm_completion.specs.declared.completion.Completion.{Completion}
use Rattle.tpm_state_text.specs.declared.layer.Layer.{Layer}

-- the part of a state text that encodes the layer
abbrev pub layer_of : Completion → Layer
layer_of c = record {
  start = c.start;
  count = c.count;
  sessions = c.sessions;
  sequences = c.sequences;
}

-- the layer that a state text encodes; a new layer with start number 0 if the state text encodes no
-- layer
abbrev pub completion_of : Option Layer → Completion
completion_of None = new_completion 0
completion_of (Some layer) = record {
  start = layer.start;
  count = layer.count;
  sessions = layer.sessions;
  sequences = layer.sequences;
}
