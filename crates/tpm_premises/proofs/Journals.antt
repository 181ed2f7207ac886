-- Proves the example of a journal with one entry.
use Rattle.std.proofs.Common.{◌≡◌, ℕ, zero, suc, ◌%◌, ◌<◌, ◌≤◌, ◌^◌, ◌&&◌, Bool, true, false, List, [], ◌∷◌, length, take, refl, arith}
use Rattle.std.specs.Prelude.{nat_lt, replicate}
use Rattle.std.specs.List.{list_all}
use Rattle.std.proofs.lemmas.Bool.{false≢true, ltb-true}
use Rattle.std.proofs.lemmas.List.{length-take}
use Rattle.tpm_bytes.proofs.Fields.{AreBytes-take}
use Rattle.tpm_bytes.specs.Reading.{AreBytes}
use Rattle.tpm_completion.specs.Completion.{new_completion}
use Rattle.tpm_completion.specs.Execution.{Passes}
use Rattle.tpm_journal_text.specs.Entry.{IsEntry}
use Rattle.tpm_journal_text.specs.Sum.{offset_basis, sum_from, with_byte}
use Rattle.tpm_journal.specs.Command.{entry_of}
use Rattle.tpm_machine.proofs.Following.{execution_follows}
use Rattle.tpm_step.proofs.history.FailedRun.{failed_run_is}
use Rattle.tpm_step.specs.step.Execution.{Executes}
use Rattle.tpm_step.specs.history.FailedRun.{tried_device, wrong_after, wrong_read, zeros}
use Rattle.tpm_premises.specs.Journals.{HasOneEntry, effect, given_command, refusal_step}

-- ---- the parts of the entry

and_true : (a b : Bool) → (a && b) ≡ true → (a ≡ true) × (b ≡ true)
and_true true b e = (refl, e)
and_true false b e = absurd (false≢true e)

are_bytes : (bytes : List ℕ) → list_all (λ byte. nat_lt byte 256) bytes ≡ true → AreBytes bytes
are_bytes [] e i = omega arith
are_bytes (byte ∷ bytes) e zero =
    ltb-true byte 256 (and_true (nat_lt byte 256) (list_all (λ b. nat_lt b 256) bytes) e).0
are_bytes (byte ∷ bytes) e (suc i) =
    are_bytes bytes (and_true (nat_lt byte 256) (list_all (λ b. nat_lt b 256) bytes) e).1 i

zero_bytes : (count : ℕ) → AreBytes (replicate count 0)
zero_bytes zero i = omega arith
zero_bytes (suc count) zero = omega arith
zero_bytes (suc count) (suc i) = zero_bytes count i

sum_below : (sum : ℕ) (bytes : List ℕ) → sum < 2 ^ 64 → sum_from sum bytes < 2 ^ 64
sum_below sum [] h = h
sum_below sum (byte ∷ bytes) h = sum_below (with_byte sum byte) bytes (below _)
  where
    below : (n : ℕ) → n % 2 ^ 64 < 2 ^ 64
    below n = omega arith

few_drawn : (count : ℕ) → length (take count zeros) ≤ 256
few_drawn count = omega (arith, length-take count zeros)

is_entry : IsEntry (entry_of given_command effect)
is_entry = record {
  elapsed = omega arith;
  locality = omega arith;
  drawn = few_drawn effect.drawn;
  drawn_bytes = AreBytes-take effect.drawn zeros (zero_bytes 256);
  buffer = omega arith;
  buffer_bytes = are_bytes wrong_read refl;
  answered = sum_below offset_basis refusal_step.response (omega arith);
}

-- ---- the command was executed

executes : Executes false (tried_device 0 0 0) (wrong_after 0) refusal_step
executes = failed_run_is.leads.1

passes : Passes false (new_completion 0) (tried_device 0 0 0) (wrong_after 0) effect
passes = record {
  executes = executes;
  history = λ history follows. execution_follows false (tried_device 0 0 0) (wrong_after 0)
      refusal_step history executes follows;
  layer = refl;
  drawn = refl;
}

pub has_one_entry : HasOneEntry
has_one_entry = (given_command, effect, passes, is_entry, refl, (refl, refl))
