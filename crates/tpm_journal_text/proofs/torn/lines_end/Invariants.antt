use Rattle.std.proofs.Common.{◌≡◌, ◌<◌, ◌⊎◌, ℕ, get_or}
use Rattle.tpm_journal_text.proofs.torn.lines_end.Given as goal

-- Each line feed before this offset is at the end of a line.
abbrev pub invariant-loop-place : goal.invariant-loop-place
invariant-loop-place l = (k : ℕ) → k < l.place → get_or l.lines k 0 ≡ 10
    → (k ≡ 15) ⊎ ((k ≡ 21) ⊎ (k ≡ l.drawn_end))
