-- Several items, encoded one after another. TPM 2.0 Library, Part 2, section 10.9 (a TPML: a count,
-- then the items), and Part 1, section 18 (the handles of a command, in order).
use Rattle.std.specs.Prelude.{ℕ, zero, suc, ◌+◌, List, [], ◌∷◌, Result, Ok}
use Rattle.tpm_bytes.specs.Reading.{◌>>=◌}

-- the given number of items at the start of the bytes, one after another, and the remaining bytes
abbrev pub many_at : {A E : Type 0}
    → (List ℕ → Result (A × List ℕ) E)
    → ℕ → List ℕ → Result (List A × List ℕ) E
many_at at zero text = Ok ([], text)
many_at at (suc count) text = do
  first ← at text
  others ← many_at at count first.1
  Ok (first.0 ∷ others.0, others.1)

-- the items at the start of the bytes, one for each key in order, and the remaining bytes; the keys
-- are numbered from n
abbrev pub each_at : {K A E : Type 0}
    → (ℕ → K → List ℕ → Result (A × List ℕ) E)
    → ℕ → List K → List ℕ → Result (List A × List ℕ) E
each_at at n [] text = Ok ([], text)
each_at at n (key ∷ keys) text = do
  first ← at n key text
  others ← each_at at (n + 1) keys first.1
  Ok (first.0 ∷ others.0, others.1)
