-- Authorization areas. TPM 2.0 Library, Part 1, section 18.6: authorizationSize, then one to three
-- entries.
use Rattle.std.specs.Prelude.{◌≡◌, ℕ, zero, suc, nat_lt}
use Rattle.std.specs.Prelude.{List, [], ◌∷◌, ◌++◌, length, map, Result, Ok, Err}
use Rattle.std.specs.List.{flat_map}
use Rattle.std.specs.Int.{w32, to_be_bytes}
use Rattle.tpm_bytes.specs.Reading.{◌>>=◌, bytes_at, number_at, or_fault, refused_if}
use Rattle.tpm_types_command.specs.declared.auth_entry.AuthEntry.{AuthEntry}
use Rattle.tpm_types_common.specs.declared.rc.Rc.{Rc}
use Rattle.tpm_types_common.specs.declared.rc.ResponseCode.TheVariants as code
use Rattle.tpm_types_command.specs.AuthEntry.{Entry, entry_at, entry_of, auth_entry_text}
use Rattle.tpm_types_common.specs.Rc.{plain}

abbrev pub entries_text : List Entry → List ℕ
entries_text entries = flat_map auth_entry_text entries

abbrev pub area_text : List Entry → List ℕ
area_text entries = to_be_bytes w32 (length (entries_text entries)) ++ entries_text entries

-- ---- reading an authorization area: every fault is AUTHSIZE

-- all entries in the bytes; at most this many are allowed. Fails with AUTHSIZE if an entry is
-- truncated, or if bytes are left after the last allowed entry
abbrev pub entries_in : ℕ → List ℕ → Result (List Entry) Rc
entries_in most [] = Ok []
entries_in zero (byte ∷ bytes) = Err (plain code.Authsize)
entries_in (suc most) (byte ∷ bytes) = do
  first ← entry_at (byte ∷ bytes)
  others ← entries_in most first.1
  Ok (first.0 ∷ others)

unfoldable pub area_at : List ℕ → Result (List Entry × List ℕ) Rc
area_at text = do
  size ← or_fault (number_at w32 text) (plain code.Authsize)
  nine ← refused_if (nat_lt size.0 9) (plain code.Authsize)
  bytes ← or_fault (bytes_at size.0 size.1) (plain code.Authsize)
  entries ← entries_in 3 bytes.0
  Ok (entries, bytes.1)

-- A read of these bytes added all entries in them to an empty array (`entries`), or returned the
-- fault.
abbrev pub AreEntries : List ℕ → Result (Unit {0}) Rc → List AuthEntry → Type 0
AreEntries bytes (Ok done) entries = entries_in 3 bytes ≡ Ok (map entry_of entries)
AreEntries bytes (Err fault) entries = entries_in 3 bytes ≡ Err fault
