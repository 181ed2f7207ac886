-- The code writes an entry part by part. Together, the parts are the entry's encoding.
use Rattle.std.proofs.Common.{◌≡◌, ℕ, ◌<◌, ◌==◌, List, [], ◌∷◌, ◌++◌, length, Option, Result, Ok, Err, refl, ap, ◌∙◌, arith}
use Rattle.std.specs.Int.{w8, w32, to_be_bytes}
use Rattle.std.proofs.lemmas.List.Splits.{length-slice_split}
use Rattle.tpm_bytes.specs.Reading.{◌>>=◌}
use Rattle.tpm_bytes.specs.Writing.{sized_text}
use Rattle.tpm_types_common.specs.declared.handle.Handle.{Handle}
use Rattle.tpm_types_common.specs.Handle.{password_handle}
use Rattle.tpm_text.specs.Draft.{Drafts, grown_draft}
use Rattle.tpm_text.specs.Entry.{SessionPieces, handle_in, octet_in, password_entry, session_entry, session_pieces_of, text_of_entry}
use Rattle.tpm_text.specs.Hex.{bytes_in}
use Rattle.tpm_text.specs.Parameter.{buffer_text}
use Rattle.tpm_text.specs.Pieces.{colon, pieces_of}
use Rattle.tpm_text.proofs.Growing.{grown-grown}
use Rattle.tpm_number.specs.declared.fault.TokenFault.{TokenFault}
use Rattle.tpm_number.specs.declared.fault.TokenFault.TheVariants.{Bad}

-- the first part of a password entry's encoding, before the size of the password
abbrev pub password_front : List ℕ
password_front = to_be_bytes w32 password_handle.number ++ 0 ∷ 0 ∷ 1 ∷ []

pub password_text : (password : List ℕ) → text_of_entry (password_entry password)
    ≡ (buffer_text password >>= λ bytes. Ok (password_front ++ bytes))
unfolding password_entry buffer_text
password_text password = by (bytes_in password)
  where
    by : (read : Result (List ℕ) TokenFault)
        → text_of_entry
        (read
        >>= λ bytes.
        Ok (record {
          session = password_handle;
          nonce = [];
          attributes =
              record { octet = 1 };
          hmac = bytes;
        }))
        ≡ (read >>= (λ bytes. Ok (sized_text bytes)) >>= λ bytes. Ok (password_front ++ bytes))
    by (Ok bytes) = refl
    by (Err fault) = refl

-- If a token has five or more pieces, it does not encode the entry of a session.
five_are_bad : (a b c d : List ℕ) (others : List (List ℕ)) → 0 < length others
    → session_pieces_of (a ∷ b ∷ c ∷ d ∷ others) ≡ Err Bad
five_are_bad a b c d [] some = absurd (omega (arith, some))
five_are_bad a b c d (e ∷ others) some = refl

pub other_pieces : (text a b c d rest : List ℕ)
    → pieces_of colon text ≡ a ∷ b ∷ c ∷ d ∷ pieces_of colon rest
    → session_pieces_of (pieces_of colon text) ≡ Err Bad
other_pieces text a b c d rest e = ap session_pieces_of e
    ∙ five_are_bad a b c d (pieces_of colon rest)
    (omega (arith, length-slice_split (λ byte. byte == 58) rest))

-- the encoding of a session's entry, part by part
abbrev pub parts_of : SessionPieces → Result (List ℕ) TokenFault
parts_of pieces =
    handle_in pieces.session >>= λ session.
    buffer_text pieces.nonce >>= λ nonce.
    octet_in pieces.attributes >>= λ octet.
    buffer_text pieces.hmac >>= λ hmac.
    Ok (to_be_bytes w32 session.number ++ nonce ++ to_be_bytes w8 octet ++ hmac)

pub session_text : (text : List ℕ) (pieces : SessionPieces)
    → session_pieces_of (pieces_of colon text) ≡ Ok pieces
    → text_of_entry (session_entry text) ≡ parts_of pieces
unfolding session_entry buffer_text
session_text text pieces e =
    rw e (by (handle_in pieces.session) (bytes_in pieces.nonce) (octet_in pieces.attributes)
    (bytes_in pieces.hmac))
  where
    by : (session : Result Handle TokenFault) (nonce : Result (List ℕ) TokenFault)
        (octet : Result ℕ TokenFault) (hmac : Result (List ℕ) TokenFault)
        → text_of_entry (session >>= λ session. nonce >>= λ nonce. octet >>= λ octet. hmac
        >>= λ hmac.
        Ok (record {
          session = session;
          nonce = nonce;
          attributes =
              record { octet = octet };
          hmac = hmac;
        }))
        ≡ (session >>= λ session. nonce >>= (λ bytes. Ok (sized_text bytes)) >>= λ nonce. octet
        >>= λ octet. hmac >>= (λ bytes. Ok (sized_text bytes))
        >>= λ hmac. Ok (to_be_bytes w32 session.number ++ nonce ++ to_be_bytes w8 octet
        ++ hmac))
    by (Err fault) nonce octet hmac = refl
    by (Ok session) (Err fault) octet hmac = refl
    by (Ok session) (Ok nonce) (Err fault) hmac = refl
    by (Ok session) (Ok nonce) (Ok octet) (Err fault) = refl
    by (Ok session) (Ok nonce) (Ok octet) (Ok hmac) = refl

pub no_session_text : (text : List ℕ) (fault : TokenFault)
    → session_pieces_of (pieces_of colon text) ≡ Err fault
    → text_of_entry (session_entry text) ≡ Err fault
unfolding session_entry
no_session_text text fault e = rw e refl

-- Writing the four parts of a session's entry one after another extends the draft by the entry's
-- encoding.
pub parts_drafted : (session octet : List ℕ) (nonce : List ℕ) (hmac : Result (List ℕ) TokenFault)
    (old one two three : Option (List ℕ)) (result : Result (Unit {0}) TokenFault)
    (new : Option (List ℕ))
    → one ≡ grown_draft old session → two ≡ grown_draft one nonce → three ≡ grown_draft two octet
    → Drafts hmac three result new
    → Drafts (hmac >>= λ bytes. Ok (session ++ nonce ++ octet ++ bytes)) old result new
parts_drafted session octet nonce (Ok bytes) old one two three (Ok done) new e f g h =
    h ∙ ap (λ d. grown_draft d bytes)
    (g ∙ ap (λ d. grown_draft d octet)
    (f ∙ ap (λ d. grown_draft d nonce) e ∙ grown-grown old session nonce)
    ∙ grown-grown old (session ++ nonce) octet)
    ∙ grown-grown old ((session ++ nonce) ++ octet) bytes
parts_drafted session octet nonce (Ok bytes) old one two three (Err found) new e f g h = absurd h
parts_drafted session octet nonce (Err fault) old one two three (Ok done) new e f g h = absurd h
parts_drafted session octet nonce (Err fault) old one two three (Err found) new e f g h = h
