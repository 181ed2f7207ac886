-- Lines: commands in words, with tokens separated by single spaces. The tokens are in the order of
-- TPM 2.0 Library, Part 3: the name, the handles, the authorization entries, the parameters.
use Rattle.tpm_types_common.specs.Limits.{buffer_limit}
use Rattle.std.specs.Prelude.{◌≡◌, ℕ, zero, suc, nat_lt, not, cond, List, [], ◌∷◌, ◌++◌}
use Rattle.std.specs.Prelude.{Result, Ok, Err, ok_or}
use Rattle.tpm_bytes.specs.Reading.{◌>>=◌, refused_if}
use Rattle.tpm_types_common.specs.declared.handle.Handle.{Handle}
use Rattle.tpm_commands.specs.declared.command_code.CommandCode.{CommandCode}
use Rattle.tpm_commands.specs.declared.shape.ParameterKind.{ParameterKind}
use Rattle.tpm_types_command.specs.AuthEntry.{Entry}
use Rattle.tpm_types_command.specs.Command.{Whole, command_size, command_text}
use Rattle.tpm_commands.specs.CommandCode.{code_called, handle_count, serves, shape_of}
use Rattle.tpm_commands.specs.declared.profile.Profile.{Profile}
use Rattle.tpm_commands.specs.declared.profile.Profile.TheVariants.{Symmetric}
use Rattle.tpm_text.specs.declared.fault.AsmFault.{AsmFault}
use Rattle.tpm_text.specs.declared.fault.AsmFault.TheVariants as fault
use Rattle.tpm_number.specs.declared.fault.TokenFault.{TokenFault}
use Rattle.tpm_text.specs.Entry.{begins_entry, entry_in, handle_in}
use Rattle.tpm_text.specs.Fault.{at_column}
use Rattle.tpm_text.specs.Parameter.{parameter_text}
use Rattle.tpm_text.specs.Pieces.{Token, tokens_of}

-- the value of the first token, and the tokens after it; Missing if there is no token
abbrev pub token_in : {A : Type 0}
    → (List ℕ → Result A TokenFault) → List Token → Result (A × List Token) AsmFault
token_in read [] = Err fault.Missing
token_in read (token ∷ tokens) = do
  value ← at_column token.column (read token.text)
  Ok (value, tokens)

-- the command that the first token names; the fault BadName if a device of this profile serves no such
-- command. Each line has a first token, which may be empty
abbrev pub name_in : Profile → List Token → Result (CommandCode × List Token) AsmFault
name_in profile [] = Err fault.BadName
name_in profile (token ∷ tokens) = do
  code ← ok_or (code_called token.text) fault.BadName
  served ← refused_if (not (serves profile code)) fault.BadName
  Ok (code, tokens)

-- `count` handles, each from one token, and the remaining tokens
unfoldable pub handles_in : ℕ → List Token → Result (List Handle × List Token) AsmFault
handles_in zero tokens = Ok ([], tokens)
handles_in (suc count) tokens = do
  first ← token_in handle_in tokens
  others ← handles_in count first.1
  Ok (first.0 ∷ others.0, others.1)

-- the entries at the beginning of the tokens, and the remaining tokens. There are at most `most`
-- entries, and they end before the first token that does not begin like an entry
unfoldable pub entry_tokens_in : ℕ → List Token → Result (List Entry × List Token) AsmFault
entry_tokens_in zero tokens = Ok ([], tokens)
entry_tokens_in (suc most) [] = Ok ([], [])
entry_tokens_in (suc most) (token ∷ tokens) = cond (begins_entry token.text) (do
  first ← at_column token.column (entry_in token.text)
  others ← entry_tokens_in most tokens
  Ok (first ∷ others.0, others.1))
    (Ok ([], token ∷ tokens))

-- the encodings of parameters of these kinds, each from one token, and the remaining tokens
unfoldable pub parameters_in : List ParameterKind → List Token
    → Result (List ℕ × List Token) AsmFault
parameters_in [] tokens = Ok ([], tokens)
parameters_in (kind ∷ kinds) tokens = do
  first ← token_in (parameter_text kind) tokens
  others ← parameters_in kinds first.1
  Ok (first.0 ++ others.0, others.1)

-- checks that no token remains
abbrev pub end_of_line : List Token → Result (Unit {0}) AsmFault
end_of_line [] = Ok tt
end_of_line (token ∷ tokens) = Err (fault.BadField token.column)

-- the command of a profile that a line encodes, or the line's first fault from the left
unfoldable pub spelled_for : Profile → List ℕ → Result Whole AsmFault
spelled_for profile line = do
  name ← name_in profile (tokens_of line)
  handles ← handles_in (handle_count name.0) name.1
  entries ← entry_tokens_in 3 handles.1
  parameters ← parameters_in (shape_of name.0).parameters entries.1
  whole ← end_of_line parameters.1
  Ok (record {
    code = name.0;
    handles = handles.0;
    entries = entries.0;
    parameters = parameters.0;
  })

-- the encoding of the command of a profile that a line encodes; the fault TooLong is returned only if
-- nothing else is wrong
unfoldable pub assembled_for : Profile → List ℕ → Result (List ℕ) AsmFault
assembled_for profile line = do
  command ← spelled_for profile line
  fits ← refused_if (nat_lt buffer_limit (command_size command)) fault.TooLong
  Ok (command_text command)

-- the encoding of the command of the symmetric profile that a line encodes
abbrev pub assembled_bytes : List ℕ → Result (List ℕ) AsmFault
assembled_bytes line = assembled_for Symmetric line

-- A call returned the encoding of the command that a line encodes, or the fault of the line.
-- Instead of the encoding, it may have returned NoMemory.
abbrev pub Assembles : {X : Type 0} → (X → List ℕ)
    → Result (List ℕ) AsmFault → Result X AsmFault → Type 0
Assembles view (Ok text) (Ok buffer) = view buffer ≡ text
Assembles view (Ok text) (Err found) = found ≡ fault.NoMemory
Assembles view (Err other) (Ok buffer) = ⊥
Assembles view (Err other) (Err found) = found ≡ other
