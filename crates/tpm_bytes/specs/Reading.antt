-- Reads a value at the start of the input: some bytes, a number, or a sized buffer. TPM 2.0
-- Library, Part 1 (numbers on the wire are big-endian), and Part 2, section 10.4 (TPM2B: a size of
-- two bytes, and that many bytes). A read returns the value and the remaining bytes.
use Rattle.std.specs.Prelude.{◌≡◌, ℕ, ◌<◌, nat_lt, Bool, true, false, if◌then◌else◌}
use Rattle.std.specs.Prelude.{List, length, get_or, take, drop, Result, Ok, Err}
use Rattle.std.specs.Int.{Width, w16, byte_len, from_be_bytes}
use Rattle.tpm_bytes.specs.declared.cursor.Short.{Short}
use Rattle.tpm_bytes.specs.declared.cursor.SizedFault.{SizedFault}
use Rattle.tpm_bytes.specs.declared.cursor.SizedFault.TheVariants as fault

infixl 10 ◌>>=◌
abbrev pub ◌>>=◌ : {A B E : Type 0} → Result A E → (A → Result B E) → Result B E
(Ok x) >>= f = f x
(Err e) >>= f = Err e

-- the same result, except that every fault is replaced by this fault
abbrev pub or_fault : {A E F : Type 0} → Result A E → F → Result A F
or_fault (Ok x) fault = Ok x
or_fault (Err e) fault = Err fault

-- a step that fails with this fault if the test is true
abbrev pub refused_if : {E : Type 0} → Bool → E → Result (Unit {0}) E
refused_if true fault = Err fault
refused_if false fault = Ok tt

-- Each number in the list is below 256.
abbrev pub AreBytes : List ℕ → Type 0
AreBytes bytes = (i : ℕ) → get_or bytes i 0 < 256

abbrev pub too_short : Short
too_short = record {}

-- the first `count` bytes, and the remaining bytes
abbrev pub bytes_at : ℕ → List ℕ → Result (List ℕ × List ℕ) Short
bytes_at count text =
    if nat_lt (length text) count then Err too_short
    else Ok (take count text, drop count text)

-- the number at the start of the bytes, and the remaining bytes
abbrev pub number_at : Width → List ℕ → Result (ℕ × List ℕ) Short
number_at width text =
    if nat_lt (length text) (byte_len width) then Err too_short
    else Ok (from_be_bytes width (take (byte_len width) text), drop (byte_len width) text)

-- the content of the sized buffer at the start of the bytes, and the remaining bytes. Fails with
-- TooLong if the size is over the limit, even if bytes are missing; otherwise with Short if bytes
-- are missing
abbrev pub sized_at : ℕ → List ℕ → Result (List ℕ × List ℕ) SizedFault
sized_at limit text = do
  size ← or_fault (number_at w16 text) fault.Short
  if nat_lt limit size.0 then Err fault.TooLong else or_fault (bytes_at size.0 size.1) fault.Short

-- The code's result matches the definition: either the value, converted by `view`, or the fault.
abbrev pub Gives : {X Y E : Type 0} → (X → Y) → Result Y E → Result X E → Type 0
Gives view defined (Ok x) = defined ≡ Ok (view x)
Gives view defined (Err e) = defined ≡ Err e

-- A read of `old` returned `result` and left `new`, as defined: either the value and the remaining
-- bytes, or the fault and all bytes.
abbrev pub Reads : {X Y E : Type 0}
    → (X → Y) → Result (Y × List ℕ) E
    → List ℕ → Result X E → List ℕ → Type 0
Reads view read old (Ok x) new = read ≡ Ok (view x, new)
Reads view read old (Err e) new = (read ≡ Err e) × (new ≡ old)
