-- Converting a layer to its part of a state text, and back, returns that layer.
use Rattle.std.proofs.Common.{◌≡◌, Some, refl}
use Rattle.tpm_completion.specs.declared.completion.Completion.{Completion}
use Rattle.tpm_snapshot.specs.Layer.{completion_of, layer_of}

pub layer_again : (c : Completion) → completion_of (Some (layer_of c)) ≡ c
layer_again c = refl
