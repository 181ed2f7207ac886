-- Texts that are not scripts, such as the trace or the dump of another program.
use Rattle.std.specs.Prelude.{ℕ, ◌==◌, Bool, true, false, not, if◌then◌else◌, List, [], ◌∷◌, codes}
use Rattle.std.specs.Prelude.{is_some, filter, length, nat_lt}
use Rattle.tpm_number.specs.Number.{is_word}
use Rattle.tpm_text.specs.Pieces.{pieces_of}
use Rattle.tpmsim_script.specs.Hint.{command_like, first_token}

-- whether a word is the first word of lines of a script
abbrev pub is_first_word : List ℕ → Bool
is_first_word word = if is_word (codes "do") word then true
    else (if is_word (codes "cmd") word then true
    else (if is_word (codes "loc") word then true
    else (if is_word (codes "wait") word then true
    else (if is_word (codes "entropy") word then true
    else is_word (codes "power") word))))

-- whether a line is empty or a comment
abbrev pub is_silent : List ℕ → Bool
is_silent [] = true
is_silent (first ∷ line) = first == 35

-- whether a first word is known: lines of a script begin with it, or it resembles the name of a
-- command
abbrev pub is_known : List ℕ → Bool
is_known word = if is_first_word word then true else is_some (command_like word)

-- whether a line begins like a line of a script
abbrev pub is_script_line : List ℕ → Bool
is_script_line line = if is_silent line then false else is_known (first_token line)

-- whether a line does not begin like a line of a script
abbrev pub is_strange : List ℕ → Bool
is_strange line = if is_silent line then false else not (is_known (first_token line))

-- the number of lines that pass a test
abbrev pub line_count : (List ℕ → Bool) → List ℕ → ℕ
line_count test text = length (filter test (pieces_of 10 text))

-- whether a text is not a script: it has lines, and none of them begins like a line of a script;
-- empty lines and comments do not count
abbrev pub is_foreign : List ℕ → Bool
is_foreign text = if nat_lt 0 (line_count is_strange text) then line_count is_script_line text == 0
    else false
