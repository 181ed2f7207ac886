-- Entries of an authorization area. TPM 2.0 Library, Part 2, section 10.13.2 (TPMS_AUTH_COMMAND).
use Rattle.std.specs.Prelude.{◌≡◌, ℕ, ◌+◌, ◌<◌, ◌≤◌, ◌^◌, ◌↔◌}
use Rattle.std.specs.Prelude.{List, ◌++◌, length, Result, Ok, IsOk, OnOk, OnErr}
use Rattle.std.specs.Int.{w8, w32, to_be_bytes}
use Rattle.tpm_bytes.specs.Reading.{◌>>=◌, number_at, or_fault, sized_at}
use Rattle.tpm_bytes.specs.Writing.{sized_text}
use Rattle.tpm_types_command.specs.declared.auth_entry.AuthEntry.{AuthEntry}
use Rattle.tpm_types_common.specs.declared.session_attributes.SessionAttributes.{SessionAttributes}
use Rattle.tpm_types_common.specs.declared.handle.Handle.{Handle}
use Rattle.tpm_types_common.specs.declared.rc.Rc.{Rc}
use Rattle.tpm_types_common.specs.declared.rc.ResponseCode.TheVariants as code
use Rattle.tpm_types_common.specs.Rc.{plain}

-- an entry, regardless of where its bytes are in memory
pub record Entry : Type 0 where
  pub session : Handle
  pub nonce : List ℕ
  pub attributes : SessionAttributes
  pub hmac : List ℕ

abbrev pub entry_of : AuthEntry → Entry
entry_of e = record {
  session = e.session;
  nonce = e.nonce.now;
  attributes = e.attributes;
  hmac = e.hmac.now;
}

-- the encoding of an entry: the session's handle, the nonce, the attributes, and the HMAC or
-- password
abbrev pub auth_entry_text : Entry → List ℕ
auth_entry_text e =
    to_be_bytes w32 e.session.number ++ sized_text e.nonce
    ++ to_be_bytes w8 e.attributes.octet ++ sized_text e.hmac

-- An entry can be encoded if each of its numbers fits its field.
pub record IsEntry (e : Entry) : Type 0 where
  pub session : e.session.number < 2 ^ 32
  pub nonce : length e.nonce < 2 ^ 16
  pub attributes : e.attributes.octet < 2 ^ 8
  pub hmac : length e.hmac < 2 ^ 16

-- The lengths of the entry's nonce and HMAC fit in two-byte size fields.
abbrev pub HasSizes : Entry → Type 0
HasSizes e = (length e.nonce < 2 ^ 16) × (length e.hmac < 2 ^ 16)

-- the entry at the start of the bytes, and the remaining bytes. Fails with AUTHSIZE if any part of
-- the entry is truncated
unfoldable pub entry_at : List ℕ → Result (Entry × List ℕ) Rc
entry_at text = do
  session ← or_fault (number_at w32 text) (plain code.Authsize)
  nonce ← or_fault (sized_at 0xffff session.1) (plain code.Authsize)
  attributes ← or_fault (number_at w8 nonce.1) (plain code.Authsize)
  hmac ← or_fault (sized_at 0xffff attributes.1) (plain code.Authsize)
  Ok (
    record {
      session = record { number = session.0 };
      nonce = nonce.0;
      attributes = record { octet = attributes.0 };
      hmac = hmac.0;
    },
    hmac.1,
  )

-- A write appends the whole encoding of an entry if the entry can be encoded and the encoding fits.
-- Otherwise, the write appends nothing.
abbrev pub PutsEntry : {E : Type 0} → ℕ → Entry → List ℕ → Result (Unit {0}) E → List ℕ → Type 0
PutsEntry capacity e old result new =
    (IsOk result
    ↔ ((length e.nonce < 2 ^ 16) × (length e.hmac < 2 ^ 16)
    × (length old + (9 + length e.nonce + length e.hmac) ≤ capacity)))
    × OnOk result (new ≡ old ++ auth_entry_text e)
    × OnErr result (new ≡ old)
