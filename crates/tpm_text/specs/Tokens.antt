-- The tokens of a line that are not read yet.
use Rattle.std.specs.Prelude.{◌+◌, ◌-◌, List, [], length}
use Rattle.std.specs.Option.{option_map_or}
use Rattle.tpm_text.specs.declared.token.Tokens.{Tokens}
use Rattle.tpm_text.specs.Pieces.{Token, pieces_of, placed_tokens, space}

abbrev pub tokens_left : Tokens → List Token
tokens_left tokens =
    option_map_or
    (λ rest. placed_tokens (tokens.size - length rest.now + 1) (pieces_of space rest.now))
    tokens.rest []
