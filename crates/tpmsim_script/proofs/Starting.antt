-- Lemmas about the script and the device at the start.
use Rattle.std.proofs.Common.{◌≡◌, ℕ, ◌+◌, ◌<◌, List, length, slice_index, sym, ◌∙◌, arith}
use Rattle.std.proofs.lemmas.Grind.{same_number_lists}
use Rattle.std.proofs.lemmas.List.FromFn.{get_or-range_with_len, length-range_with_len}
use Rattle.std.specs.Prelude.{Bool, replicate}
use Rattle.tpm_record.specs.Record.{Record}
use Rattle.tpmsim_script.specs.Script.{at_first, script_bytes}

pub starts : (traced : Bool) (locality waited : ℕ) (random : List ℕ) (device : Record)
    → locality ≡ 0 → waited ≡ 0 → random ≡ replicate 256 0
    → record {
      traced = traced;
      locality = locality;
      waited = waited;
      random = random;
      device =
          device;
    } ≡ at_first traced device
unfolding at_first
starts traced locality waited random device l w r =
    λ i. record { traced = traced; locality = l i; waited = w i; random = r i; device = device }

-- If a list has 256 bytes, and each byte equals its offset, the list consists of the bytes 00 to
-- ff.
pub counted_up : (bytes : List ℕ) → length bytes ≡ 256
    → ((place : ℕ) → place < 256 → slice_index bytes place ≡ place) → bytes ≡ script_bytes
counted_up bytes size each =
    same_number_lists bytes script_bytes (size ∙ sym (length-range_with_len 0 256))
    (λ k l. let here : k ≡ 0 + k = omega arith in each k (omega (arith, size)) ∙ here
    ∙ sym (get_or-range_with_len 0 256 k 0 (omega (arith, size))))
