-- What the author of a bad line probably meant.
use Rattle.std.specs.Prelude.{ℕ, ◌-◌, ◌==◌, ◌||◌, nat_eq, nat_le, nat_lt, Bool, true, false, if◌then◌else◌}
use Rattle.std.specs.Prelude.{List, [], ◌∷◌, ◌++◌, length, take, drop, codes}
use Rattle.std.specs.Prelude.{Option, Some, None, Result, Ok, Err}
use Rattle.std.specs.Int.{w32, to_be_bytes}
use Rattle.std.specs.List.{ends_with, find, position}
use Rattle.std.specs.Option.{option_map_or}
use Rattle.std.specs.Str.{bytes_eq, str_eq_ignore_ascii_case}
use Rattle.hex.specs.Hex.{encode_lower}
use Rattle.tpm_commands.specs.CommandCode.{code_name, serves}
use Rattle.tpm_commands.specs.CommandFacts.{all_codes}
use Rattle.tpm_commands.specs.declared.command_code.CommandCode.{CommandCode}
use Rattle.tpm_commands.specs.declared.profile.Profile.TheVariants.{Symmetric}
use Rattle.tpm_help.specs.Wanted.{word_at}
use Rattle.tpm_number.specs.Number.{number_in}
use Rattle.tpm_number.specs.declared.fault.TokenFault.{TokenFault}
use Rattle.tpm_text.specs.declared.fault.AsmFault.{AsmFault}
use Rattle.tpm_text.specs.declared.fault.AsmFault.TheVariants as fault
use Rattle.tpmsim_script.specs.declared.bad_line.BadLine.{BadLine}
use Rattle.tpmsim_script.specs.declared.bad_line.Wanted.{Wanted}
use Rattle.tpmsim_script.specs.declared.bad_line.Wanted.TheVariants as wanted

-- a word without the prefix TPM2_, in either case
abbrev pub bare_name : List ℕ → List ℕ
bare_name word =
    if str_eq_ignore_ascii_case (take 5 word) (codes "TPM2_") then drop 5 word else word

-- whether a word is the name of this command, which the symmetric profile has, apart from the case
-- of its letters and the prefix TPM2_
abbrev pub resembles : List ℕ → CommandCode → Bool
resembles word code = if serves Symmetric code
    then str_eq_ignore_ascii_case (bare_name word) (code_name code) else false

-- the command that a word resembles
abbrev pub command_like : List ℕ → Option CommandCode
command_like word = find (resembles word) all_codes

-- the first token of a text whose first space has this offset
abbrev pub token_by : Option ℕ → List ℕ → List ℕ
token_by None text = text
token_by (Some offset) text = take offset text

-- the first token of a text, which may be empty
abbrev pub first_token : List ℕ → List ℕ
first_token text = token_by (position (λ byte. byte == 32) text) text

-- what suggests these words, one directly after the other
abbrev pub suggestion : (front word : List ℕ) → List ℕ
suggestion front word = codes "    did you mean " ++ front ++ word ++ codes "?"

-- a hint: a line with a suggestion
unfoldable pub hint : (front word : List ℕ) → List ℕ
hint front word = suggestion front word ++ 10 ∷ []

-- the hint at a word that resembles the name of a command; `front` precedes the name
abbrev pub name_hint : (front word : List ℕ) → List ℕ
name_hint front word =
    option_map_or (λ code. hint front (code_name code)) (command_like word) []

-- the bytes of a password in hex, or `-` for an empty password
abbrev pub password_digits : List ℕ → List ℕ
password_digits password = if length password == 0 then codes "-" else encode_lower password

-- the hint at a token that is no entry: after `pw:`, a text is probably meant as a password
abbrev pub password_hint : List ℕ → List ℕ
password_hint token =
    if bytes_eq (take 3 token) (codes "pw:")
    then hint (codes "pw:") (password_digits (drop 3 token)) else []

-- whether this is the number of a PCR, or at least that of the first NV index
abbrev pub is_handle_number : ℕ → Bool
is_handle_number number = nat_lt number 24 || nat_le 16777216 number

-- the hint at a number that is not a handle: the number is probably meant as a handle
abbrev pub number_hint : Result ℕ TokenFault → List ℕ
number_hint (Ok number) =
    if is_handle_number number then hint [] (encode_lower (to_be_bytes w32 number)) else []
number_hint (Err fault) = []

abbrev pub handle_hint : List ℕ → List ℕ
handle_hint token = number_hint (number_in 4294967295 token)

-- whether a handle is expected, if these are the words for what is expected
abbrev pub is_handle_word : List ℕ → Bool
is_handle_word word = if bytes_eq word (codes "PCR") then true
    else (if bytes_eq word (codes "NULL") then true
    else (if bytes_eq word (codes "LOCKOUT") then true
    else (if bytes_eq word (codes "Hierarchy") then true
    else (if bytes_eq word (codes "Entity") then true
    else (if bytes_eq word (codes "Object") then true
    else (if bytes_eq word (codes "Policy") then true
    else bytes_eq word (codes "Index")))))))

-- the hint at a token; `expected` are the words for what is expected there
abbrev pub token_hint : (token expected : List ℕ) → List ℕ
token_hint token expected = if bytes_eq expected (codes "entry") then password_hint token
    else if is_handle_word expected then handle_hint token else []

-- the hint at the fault of a command in words
abbrev pub words_hint : (words : List ℕ) → AsmFault → List ℕ
words_hint words fault.BadName = name_hint [] (first_token words)
words_hint words (fault.BadField column) =
    token_hint (first_token (drop (column - 1) words)) (word_at words (fault.BadField column))
words_hint words other = []

-- the hint at the fault of a line that does not end with a carriage return
abbrev pub fault_hint : Wanted → (line : List ℕ) → AsmFault → List ℕ
fault_hint wanted.Word line fault = name_hint (codes "do ") (first_token line)
fault_hint wanted.Command line fault = words_hint (drop 3 line) fault
fault_hint other line fault = []

-- the line with which a hint says that lines end with a line feed alone
unfoldable pub return_hint : List ℕ
return_hint = codes "    the line ends with CR LF: end it with LF alone" ++ 10 ∷ []

-- the hint at a bad line: a line of text, or nothing
abbrev pub hint_text : (line : List ℕ) → BadLine → List ℕ
hint_text line bad = if ends_with nat_eq line (13 ∷ []) then return_hint
    else fault_hint bad.wanted line bad.fault
