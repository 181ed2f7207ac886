-- How a line is split into tokens, and a token into pieces.
use Rattle.std.specs.Prelude.{◌≡◌, ℕ, ◌+◌, ◌==◌, List, [], ◌∷◌, length, Option, Some, None}
use Rattle.std.specs.Prelude.{Result, Ok}
use Rattle.std.specs.List.{slice_split}
use Rattle.tpm_bytes.specs.Reading.{◌>>=◌}
use Rattle.tpm_text.specs.declared.token.Token as declared
use Rattle.tpm_number.specs.declared.fault.TokenFault.{TokenFault}

-- the separator between tokens
abbrev pub space : ℕ
space = 32

-- the separator between the elements of a list
abbrev pub plus : ℕ
plus = 43

-- the separator between numbers
abbrev pub comma : ℕ
comma = 44

-- the separator between a word and the text after it
abbrev pub colon : ℕ
colon = 58

-- the pieces of a text between its separators; there is one more piece than separators
abbrev pub pieces_of : ℕ → List ℕ → List (List ℕ)
pieces_of separator text = slice_split (λ byte. byte == separator) text

-- a token of a line, and the position of its first byte, counted from 1
pub record Token : Type 0 where
  pub column : ℕ
  pub text : List ℕ

-- the tokens with these texts, separated by single spaces; the first token begins at this column
abbrev pub placed_tokens : ℕ → List (List ℕ) → List Token
placed_tokens column [] = []
placed_tokens column (text ∷ texts) =
    record { column = column; text = text } ∷ placed_tokens (column + length text + 1) texts

-- the tokens of a line
unfoldable pub tokens_of : List ℕ → List Token
tokens_of line = placed_tokens 1 (pieces_of space line)

abbrev pub token_of : declared.Token → Token
token_of token = record { column = token.column; text = token.text.now }

-- the value of each piece of a token, or the first fault from the left
unfoldable pub each_in : {A : Type 0}
    → (List ℕ → Result A TokenFault) → List (List ℕ) → Result (List A) TokenFault
each_in read [] = Ok []
each_in read (piece ∷ pieces) = do
  first ← read piece
  others ← each_in read pieces
  Ok (first ∷ others)

-- The first element was removed from the list and returned, or the list was empty.
abbrev pub TakesFirst : {X Y : Type 0} → (X → Y) → List Y → Option X → List Y → Type 0
TakesFirst view old None new = (old ≡ []) × (new ≡ [])
TakesFirst view old (Some x) new = old ≡ view x ∷ new
