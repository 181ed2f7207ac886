-- The encoding of a command while it is being written.
use Rattle.tpm_types_common.specs.Limits.{buffer_limit}
use Rattle.std.specs.Prelude.{◌≡◌, ℕ, ◌+◌, nat_le, if◌then◌else◌, List, ◌++◌, length, take, drop}
use Rattle.std.specs.Prelude.{Option, Some, None, option_map, Result, Ok, Err}
use Rattle.std.specs.Int.{w32, to_be_bytes}
use Rattle.tpm_commands.specs.declared.command_code.CommandCode.{CommandCode}
use Rattle.tpm_types_command.specs.declared.tag.Tag.{Tag}
use Rattle.tpm_types_command.specs.Header.{header_text}
use Rattle.tpm_text.specs.declared.fault.AsmFault.{AsmFault}
use Rattle.tpm_text.specs.declared.fault.AsmFault.TheVariants.{TooLong}
use Rattle.tpm_text.specs.declared.draft.Draft.{Draft}

-- the bytes written to a draft so far; None if there were more bytes than a command may have
abbrev pub drafted_bytes : Draft → Option (List ℕ)
drafted_bytes draft = option_map (λ size. take size draft.bytes) draft.used

-- a draft with more bytes added
unfoldable pub grown_draft : Option (List ℕ) → List ℕ → Option (List ℕ)
grown_draft None bytes = None
grown_draft (Some text) bytes =
    if nat_le (length text + length bytes) buffer_limit then Some (text ++ bytes) else None

-- a draft with an authorization area added: the size of its entries, then the entries
unfoldable pub with_area : Option (List ℕ) → Option (List ℕ) → Option (List ℕ)
with_area draft None = None
with_area draft (Some entries) = grown_draft draft (to_be_bytes w32 (length entries) ++ entries)

-- the command in a draft; the first ten bytes of the draft are only a placeholder for the header
unfoldable pub finished_command : Tag → CommandCode → Option (List ℕ) → Result (List ℕ) AsmFault
finished_command tag code None = Err TooLong
finished_command tag code (Some text) = Ok (header_text tag (length text) code ++ drop 10 text)

-- A call appended to the draft the bytes that its definition returns, or failed with the
-- definition's fault.
abbrev pub Drafts : {E : Type 0}
    → Result (List ℕ) E → Option (List ℕ) → Result (Unit {0}) E → Option (List ℕ) → Type 0
Drafts (Ok text) old (Ok done) new = new ≡ grown_draft old text
Drafts (Err fault) old (Err found) new = found ≡ fault
Drafts _ old _ new = ⊥

-- The draft contains the whole command that the definition returns, or the call returned the fault
-- of the definition.
abbrev pub Finishes : {E : Type 0}
    → Result (List ℕ) E → Result (Unit {0}) E → Option (List ℕ) → Type 0
Finishes (Ok text) (Ok done) new = new ≡ Some text
Finishes (Err fault) (Err found) new = found ≡ fault
Finishes _ _ new = ⊥
