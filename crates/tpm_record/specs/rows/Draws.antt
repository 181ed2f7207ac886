-- How many of its event's random bytes a command may draw. TPM 2.0 Library, Part 3, section 24.6:
-- TPM2_Clear draws the most, since it replaces a seed and two proofs of 32 bytes each.
use Rattle.std.specs.Prelude.{ℕ}

-- the largest number of random bytes that a command draws
abbrev pub draw_limit : ℕ
draw_limit = 96
