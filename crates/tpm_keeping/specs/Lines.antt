-- A small journal, which shows that the requirements of a keeper can be satisfied. A line consists
-- of its content, with each byte increased by two, and a 1 at the end. Therefore no byte of a line
-- is zero, and a line without its last byte is not a line. A state consists of all contents that
-- were executed. A command that begins with a zero has no entry, and the empty list is not a
-- command. A journal opens if it begins with a line, and salvaging it gives the same device.
use Rattle.std.specs.Prelude.{ℕ, zero, suc, ◌+◌, Bool, true, false, List, [], ◌∷◌, ◌++◌, length, Option, Some, None}
use Rattle.tpm_keeping.specs.Journal.{Journal, Spot}

abbrev pub marked_bytes : List ℕ → List ℕ
marked_bytes [] = []
marked_bytes (b ∷ text) = suc (suc b) ∷ marked_bytes text

abbrev pub line : List ℕ → List ℕ
line text = marked_bytes text ++ 1 ∷ []

-- a line's content and the bytes after the line, with one more byte at the start of the content
abbrev pub with_first : ℕ → Option (List ℕ × List ℕ) → Option (List ℕ × List ℕ)
with_first b None = None
with_first b (Some found) = Some (b ∷ found.0, found.1)

abbrev pub line_at : List ℕ → Option (List ℕ × List ℕ)
line_at [] = None
line_at (zero ∷ rest) = None
line_at (suc zero ∷ rest) = Some ([], rest)
line_at (suc (suc b) ∷ rest) = with_first b (line_at rest)

-- Executes lines: `part` is the part of a line that was read, `taken` the size of the lines before
-- it, and `far` the number of bytes read.
abbrev pub walk : (state part : List ℕ) → (taken far : ℕ) → List ℕ → List ℕ × ℕ
walk state part taken far [] = (state, taken)
walk state part taken far (suc zero ∷ rest) = walk (state ++ part) [] (suc far) (suc far) rest
walk state part taken far (b ∷ rest) = walk state (part ++ b ∷ []) taken (suc far) rest

-- the position with this state; no entry depends on the checksum of its position
abbrev pub spot_at : (chain : ℕ) → List ℕ → Spot
spot_at chain state = record { state = state; chain = chain }

abbrev pub opened_by : Option (List ℕ × List ℕ) → Option (Spot × ℕ)
opened_by None = None
opened_by (Some found) =
    Some (
      spot_at 0 (walk found.0 [] 0 0 found.1).0,
      suc (length found.0) + (walk found.0 [] 0 0 found.1).1,
    )

-- the position with this state, if no bytes are left: a head is a line with nothing after it
abbrev pub spot_if_all : (state rest : List ℕ) → Option Spot
spot_if_all state [] = Some (spot_at 0 state)
spot_if_all state (b ∷ rest) = None

abbrev pub headed_by : Option (List ℕ × List ℕ) → Option Spot
headed_by None = None
headed_by (Some found) = spot_if_all found.0 found.1

-- whether no line ends in these bytes
abbrev pub is_unended : List ℕ → Bool
is_unended [] = true
is_unended (suc zero ∷ rest) = false
is_unended (b ∷ rest) = is_unended rest

abbrev pub is_some : List ℕ → Bool
is_some [] = false
is_some (b ∷ rest) = true

abbrev pub begins_above_zero : List ℕ → Bool
begins_above_zero [] = false
begins_above_zero (zero ∷ rest) = false
begins_above_zero (suc b ∷ rest) = true

abbrev pub is_zeros : List ℕ → Bool
is_zeros [] = true
is_zeros (zero ∷ rest) = is_zeros rest
is_zeros (suc b ∷ rest) = false

abbrev pub lines : Journal
lines = record {
  is_state = λ s. true;
  is_command = λ c. is_some c;
  is_entered = λ c. begins_above_zero c;
  after = λ s c. s ++ marked_bytes c;
  response = λ s c. s;
  begun = λ seed. Some seed;
  entry = λ p c. line c;
  link = λ p c. p.chain;
  head = λ s. line s;
  first = λ s. 0;
  after_head = λ text. headed_by (line_at text);
  opened = λ text. opened_by (line_at text);
  followed = λ p text.
      Some (spot_at p.chain (walk p.state [] 0 0 text).0, (walk p.state [] 0 0 text).1);
  salvaged = λ text. opened_by (line_at text);
  is_torn = λ p text. is_unended text;
  is_litter = λ text. is_zeros text;
}
