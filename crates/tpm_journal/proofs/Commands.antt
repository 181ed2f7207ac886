-- The entry of every executed command can be written (`IsEntry`).
use Rattle.std.proofs.Common.{◌≡◌, ℕ, Bool, ◌≤◌, ◌<◌, ◌^◌, List, length, arith, length-take}
use Rattle.tpm_bytes.specs.Reading.{AreBytes}
use Rattle.tpm_bytes.proofs.Fields.{AreBytes-take}
use Rattle.tpm_completion.specs.Execution.{Seen}
use Rattle.tpm_journal_text.specs.Entry.{IsEntry}
use Rattle.tpm_journal_text.specs.Sum.{sum_of}
use Rattle.tpm_journal.specs.Command.{command_at, elapsed_of, entry_of}

pub entry_is : (buffer : List ℕ) (locality now time : ℕ) (completes : Bool) (random : List ℕ)
    (seen : Seen) → locality ≤ 4
    → length random ≡ 256 → AreBytes random → AreBytes buffer → sum_of seen.step.response < 2 ^ 64
    → IsEntry (entry_of (command_at buffer locality (elapsed_of now time) completes random) seen)
entry_is buffer locality now time completes random seen near many random_bytes buffer_bytes sum =
    record {
      elapsed = omega arith;
      locality = near;
      drawn = omega (arith, length-take seen.drawn random, many);
      drawn_bytes = AreBytes-take seen.drawn random random_bytes;
      buffer = omega (arith, length-take 4097 buffer);
      buffer_bytes = AreBytes-take 4097 buffer buffer_bytes;
      answered = sum;
    }
