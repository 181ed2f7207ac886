-- The word for what is expected at the first fault of a line that is not a valid command.
use Rattle.std.specs.Prelude.{ℕ, ◌+◌, ◌-◌, ◌==◌, List, [], ◌++◌, length, map, take, drop, replicate, codes, get_or}
use Rattle.std.specs.Prelude.{Option, Some, None}
use Rattle.std.specs.List.{count_by, take_while}
use Rattle.tpm_commands.specs.CommandCode.{code_called, handle_count, shape_of}
use Rattle.tpm_commands.specs.declared.command_code.CommandCode.{CommandCode}
use Rattle.tpm_text.specs.Entry.{begins_entry}
use Rattle.tpm_text.specs.Pieces.{pieces_of, space}
use Rattle.tpm_text.specs.declared.fault.AsmFault.{AsmFault}
use Rattle.tpm_text.specs.declared.fault.AsmFault.TheVariants as fault
use Rattle.tpm_help.specs.Form.{handle_word, parameter_word}

-- the number of authorization entries among the tokens of a command: they follow the handles, are
-- at most three, and end before the first token that does not begin like an entry
abbrev pub entry_count : CommandCode → (tokens : List (List ℕ)) → ℕ
entry_count code tokens =
    length (take_while begins_entry (take 3 (drop (handle_count code + 1) tokens)))

-- the words for the parts that follow the name of a command with this many entries
abbrev pub words_behind : CommandCode → (entries : ℕ) → List (List ℕ)
words_behind code entries = map (λ rule. handle_word rule.kind) (shape_of code).handles
    ++ (replicate entries (codes "entry") ++ map parameter_word (shape_of code).parameters)

-- the word for the part of a command that is expected at this position after the command's name,
-- which is the first token; positions are counted from 0
abbrev pub word_for : Option CommandCode → (tokens : List (List ℕ)) → (place : ℕ) → List ℕ
word_for None tokens place = codes "command"
word_for (Some code) tokens place =
    get_or (words_behind code (entry_count code tokens)) place (codes "end of line")

abbrev pub tokens_in : List ℕ → List (List ℕ)
tokens_in words = pieces_of space words

abbrev pub word_behind : (words : List ℕ) → (place : ℕ) → List ℕ
word_behind words place =
    word_for (code_called (get_or (tokens_in words) 0 [])) (tokens_in words) place

abbrev pub space_count : List ℕ → ℕ
space_count text = count_by (λ byte. byte == space) text

-- the word for what is expected at this fault: at the fault's column, or after the last token
unfoldable pub word_at : (words : List ℕ) → AsmFault → List ℕ
word_at words fault.BadName = codes "command"
word_at words (fault.BadField column) =
    word_behind words (space_count (take (column - 1) words) - 1)
word_at words (fault.Range column) =
    word_behind words (space_count (take (column - 1) words) - 1)
word_at words fault.Missing = word_behind words (space_count words)
word_at words fault.TooLong = codes "at most 4096 bytes"
word_at words fault.NoMemory = codes "memory"
