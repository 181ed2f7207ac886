-- Whole commands. TPM 2.0 Library, Part 1, sections 18.2 to 18.6: the header, the handles, the
-- authorization area (if there are sessions), and the parameters.
use Rattle.tpm_types_common.specs.Limits.{buffer_limit}
use Rattle.std.specs.Prelude.{◌≡◌, ℕ, zero, suc, ◌+◌, ◌<◌, ◌≤◌, ◌^◌, ◌↔◌}
use Rattle.std.specs.Prelude.{List, [], ◌∷◌, ◌++◌, length, map}
use Rattle.std.specs.Prelude.{Result, Ok, Err, IsOk, OnOk, OnErr}
use Rattle.std.specs.List.{flat_map, AllByRecursion}
use Rattle.std.specs.Int.{w32, to_be_bytes}
use Rattle.tpm_bytes.specs.Reading.{◌>>=◌, number_at, or_fault}
use Rattle.tpm_types_command.specs.declared.header.HeaderFault.{HeaderFault}
use Rattle.tpm_commands.specs.declared.command_code.CommandCode.{CommandCode}
use Rattle.tpm_types_common.specs.declared.handle.Handle.{Handle}
use Rattle.tpm_types_common.specs.declared.rc.Rc.{Rc}
use Rattle.tpm_types_common.specs.declared.rc.ResponseCode.TheVariants as code
use Rattle.tpm_types_common.specs.declared.rc.Place.TheVariants as place
use Rattle.tpm_types_command.specs.declared.tag.Tag.{Tag}
use Rattle.tpm_types_command.specs.declared.tag.Tag.TheVariants.{NoSessions, Sessions}
use Rattle.tpm_types_command.specs.declared.command.Command.{Command}
use Rattle.tpm_types_command.specs.declared.command_ref.CommandRef.{CommandRef}
use Rattle.tpm_types_command.specs.AuthArea.{area_at, area_text}
use Rattle.tpm_types_command.specs.AuthEntry.{Entry, HasSizes, IsEntry, entry_of}
use Rattle.tpm_types_command.specs.Header.{header_at, header_fault_rc, header_text, if_served}
use Rattle.tpm_types_command.specs.declared.header.Header.{Header}
use Rattle.tpm_commands.specs.declared.profile.Profile.{Profile}
use Rattle.tpm_types_common.specs.Rc.{at, plain}
use Rattle.tpm_commands.specs.CommandCode.{handle_count}

-- a command, regardless of where its bytes are in memory
pub record Whole : Type 0 where
  pub code : CommandCode
  pub handles : List Handle
  pub entries : List Entry
  pub parameters : List ℕ

-- a command with its own entries
abbrev pub whole_command : Command → Whole
whole_command c = record {
  code = c.code;
  handles = c.handles.items;
  entries = map entry_of c.entries.items;
  parameters = c.parameters.now;
}

-- a command that borrows its entries
abbrev pub whole_of : CommandRef → Whole
whole_of c = record {
  code = c.code;
  handles = c.handles.items;
  entries = map entry_of c.entries.now;
  parameters = c.parameters.now;
}

-- the tag of a command with these entries: TPM_ST_SESSIONS if there are entries, and
-- TPM_ST_NO_SESSIONS if not
abbrev pub tag_for : List Entry → Tag
tag_for [] = NoSessions
tag_for (entry ∷ entries) = Sessions

abbrev pub handle_text : Handle → List ℕ
handle_text handle = to_be_bytes w32 handle.number

unfoldable pub handles_text : List Handle → List ℕ
handles_text handles = flat_map handle_text handles

-- the encoding of the authorization area, which is present only if there are entries
abbrev pub sessions_text : List Entry → List ℕ
sessions_text [] = []
sessions_text (entry ∷ entries) = area_text (entry ∷ entries)

-- the encoding of a command without its header
unfoldable pub command_body_text : Whole → List ℕ
command_body_text c = handles_text c.handles ++ sessions_text c.entries ++ c.parameters

-- commandSize: the length of the whole command
unfoldable pub command_size : Whole → ℕ
command_size c = 10 + length (command_body_text c)

unfoldable pub command_text : Whole → List ℕ
command_text c = header_text (tag_for c.entries) (command_size c) c.code ++ command_body_text c

-- A command can be encoded if its lengths fit their size fields.
pub record HasText (c : Whole) : Type 0 where
  pub entries : AllByRecursion HasSizes c.entries
  pub whole : command_size c < 2 ^ 32

abbrev pub IsHandle : Handle → Type 0
IsHandle handle = handle.number < 2 ^ 32

-- The encoding of a command can be read under these conditions: the command has as many handles as
-- its code requires; it has at most three entries; its handles and entries are valid; and it fits
-- in a command buffer.
pub record IsCommand (c : Whole) : Type 0 where
  pub handle_count : length c.handles ≡ handle_count c.code
  pub handles : AllByRecursion IsHandle c.handles
  pub entry_count : length c.entries ≤ 3
  pub entries : AllByRecursion IsEntry c.entries
  pub size : command_size c ≤ buffer_limit

-- ---- reading a command, up to the first fault

-- this many handles at the start of the bytes, and the remaining bytes. The handles are numbered
-- from `number`. A fault contains the number of the truncated handle
abbrev pub handles_at : ℕ → ℕ → List ℕ → Result (List Handle × List ℕ) Rc
handles_at number zero text = Ok ([], text)
handles_at number (suc count) text = do
  first ← or_fault (number_at w32 text) (at (place.Handle number) (plain code.Insufficient))
  others ← handles_at (number + 1) count first.1
  Ok (record { number = first.0 } ∷ others.0, others.1)

abbrev pub sessions_at : Tag → List ℕ → Result (List Entry × List ℕ) Rc
sessions_at NoSessions text = Ok ([], text)
sessions_at Sessions text = area_at text

-- the header of a command, or the response code for the header's fault
abbrev pub header_or_rc : {A : Type 0} → Result A HeaderFault → Result A Rc
header_or_rc (Ok x) = Ok x
header_or_rc (Err fault) = Err (header_fault_rc fault)

-- the command with this header that the bytes after the header encode. All bytes after its handles and
-- authorization area are its parameters. Therefore no bytes are left
abbrev pub command_after : Header × List ℕ → Result (Whole × List ℕ) Rc
command_after header = do
  handles ← handles_at 1 (handle_count header.0.code) header.1
  entries ← sessions_at header.0.tag handles.1
  Ok (
    record {
      code = header.0.code;
      handles = handles.0;
      entries = entries.0;
      parameters = entries.1;
    },
    [],
  )

-- the command that all these bytes encode
unfoldable pub command_at : List ℕ → Result (Whole × List ℕ) Rc
command_at text = do
  header ← header_or_rc (header_at text)
  command_after header

-- the command that all these bytes encode, if a device of this profile serves it
unfoldable pub served_command_at : Profile → List ℕ → Result (Whole × List ℕ) Rc
served_command_at profile text = do
  header ← header_or_rc (if_served profile (header_at text))
  command_after header

-- A write appends the whole encoding of a command if the command can be encoded and the encoding
-- fits. Otherwise, the write appends nothing.
abbrev pub PutsCommand : {E : Type 0} → ℕ → Whole → List ℕ → Result (Unit {0}) E → List ℕ → Type 0
PutsCommand capacity c old result new =
    (IsOk result ↔ (HasText c × (length old + command_size c ≤ capacity)))
    × OnOk result (new ≡ old ++ command_text c)
    × OnErr result (new ≡ old)
