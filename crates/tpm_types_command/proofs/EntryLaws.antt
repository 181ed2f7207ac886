-- A read returns an authorization entry or area exactly when the input starts with its encoding.
use Rattle.std.proofs.Common.{◌≡◌, ℕ, zero, suc, ◌+◌, ◌^◌, ◌<◌, ◌≤◌, false, ltb, List, [], ◌∷◌, ◌++◌, length, Ok, refl, sym, ap, subst, ◌∙◌, append_assoc, arith}
use Rattle.std.specs.List.{AllByRecursion}
use Rattle.std.specs.Int.{w8, w32, to_be_bytes}
use Rattle.std.proofs.lemmas.Bool.{ltb-false, le-ltb}
use Rattle.std.proofs.lemmas.List.{length-append}
use Rattle.tpm_bytes.specs.Reading.{◌>>=◌, bytes_at, number_at, or_fault, refused_if, sized_at}
use Rattle.tpm_bytes.specs.Writing.{sized_text}
use Rattle.tpm_bytes.proofs.Fields.{AreBytes, Takes, Takes-then, bind_ok, or_fault_ok, passed, bytes_take, bytes_again, number_or_takes, number_or_again, sized_takes, sized_again, wide8, wide32, ok_is}
use Rattle.tpm_bytes.proofs.Spelling.{IsAgain, IsTaken}
use Rattle.tpm_types_common.specs.declared.rc.ResponseCode.TheVariants as code
use Rattle.tpm_types_common.specs.Rc.{plain}
use Rattle.tpm_types_command.specs.AuthEntry.{Entry, IsEntry, entry_at, auth_entry_text}
use Rattle.tpm_types_common.proofs.FieldLaws.{number_spelled}
use Rattle.tpm_types_common.proofs.Spelled.{Spelled, all_read, first, four_texts, respelled, then}
use Rattle.tpm_types_command.specs.AuthArea.{area_at, area_text, entries_in, entries_text}

-- ---- an entry

-- A read returns a sized buffer of any length exactly when the input starts with its encoding.
sized_spelled : Spelled sized_text (λ bytes. length bytes < 2 ^ 16)
    (λ text. or_fault (sized_at 0xffff text) (plain code.Authsize))
sized_spelled = record {
  taken = λ bytes x fits e. let t =
      sized_takes 0xffff (plain code.Authsize) bytes x fits e in (t.0, t.1);
  again = λ buffer rest small. sized_again 0xffff (plain code.Authsize) buffer rest small
      (omega (arith, small));
}

-- the fields of an entry, in order
abbrev Fields : Type 0
Fields = ((ℕ × List ℕ) × ℕ) × List ℕ

abbrev fields_of : Entry → Fields
fields_of e = (((e.session.number, e.nonce), e.attributes.octet), e.hmac)

abbrev entry_of_fields : Fields → Entry
entry_of_fields f = record {
  session = record { number = f.0.0.0 };
  nonce = f.0.0.1;
  attributes =
      record { octet = f.0.1 };
  hmac = f.1;
}

entry_spelled : Spelled auth_entry_text IsEntry entry_at
unfolding entry_at
entry_spelled =
    let session = number_spelled w32 (2 ^ 32) wide32 (plain code.Authsize) in
    let attributes = number_spelled w8 (2 ^ 8) wide8 (plain code.Authsize) in
    let fields =
    first session
    (then sized_spelled
    (then attributes
    (then sized_spelled (all_read fields_of entry_of_fields (λ _. refl) (λ _. refl))))) in
    respelled fields
    (λ e. four_texts (to_be_bytes w32 e.session.number) (sized_text e.nonce)
    (to_be_bytes w8 e.attributes.octet) (sized_text e.hmac))
    (λ e is. record { session = is.0; nonce = is.1.0; attributes = is.1.1.0; hmac = is.1.1.1.0 })
    (λ e is. (is.session, (is.nonce, (is.attributes, (is.hmac, tt)))))

pub entry_takes : IsTaken auth_entry_text IsEntry entry_at
entry_takes = entry_spelled.taken

pub entry_again : IsAgain auth_entry_text IsEntry entry_at
entry_again = entry_spelled.again

pub length-auth_entry_text : (entry : Entry)
    → length (auth_entry_text entry) ≡ 9 + length entry.nonce + length entry.hmac
length-auth_entry_text entry =
    omega (
      arith,
      length-append (to_be_bytes w32 entry.session.number ++ sized_text entry.nonce
          ++ to_be_bytes w8 entry.attributes.octet) (sized_text entry.hmac),
      length-append (to_be_bytes w32 entry.session.number ++ sized_text entry.nonce)
          (to_be_bytes w8 entry.attributes.octet),
      length-append (to_be_bytes w32 entry.session.number) (sized_text entry.nonce),
    )

pub ruleset entry_sizes = (length-auth_entry_text)

-- ---- the entries of an authorization area

-- If bytes are left, the read of all entries reads one entry and then the remaining entries.
pub entries_in_some : (most : ℕ) (left : List ℕ) → 0 < length left
    → entries_in (suc most) left
    ≡ (entry_at left >>= λ first. entries_in most first.1 >>= λ others. Ok (first.0 ∷ others))
entries_in_some most [] some = absurd (omega arith)
entries_in_some most (byte ∷ bytes) some = refl

entries_take_some : (most : ℕ) (bytes : List ℕ) (entries : List Entry) → AreBytes bytes
    → 0 < length bytes → entries_in (suc most) bytes ≡ Ok entries → (first : Entry × List ℕ)
    × (others : List Entry) × Takes bytes (auth_entry_text first.0) first.1 × IsEntry first.0
    × (entries_in most first.1 ≡ Ok others) × (first.0 ∷ others ≡ entries)
entries_take_some most bytes entries fits some e =
    let a =
    bind_ok (entry_at bytes) (λ first. entries_in most first.1
    >>= λ others. Ok (first.0 ∷ others)) entries
    (sym (entries_in_some most bytes some) ∙ e) in
    let b = bind_ok (entries_in most a.0.1) (λ others. Ok (a.0.0 ∷ others)) entries a.2 in
    let t = entry_takes bytes a.0 fits a.1 in
    (a.0, b.0, t.0, t.1, b.1, ok_is (a.0.0 ∷ b.0) entries b.2)

abbrev AreThese : ℕ → List ℕ → List Entry → Type 0
AreThese most bytes entries = (bytes ≡ entries_text entries) × (length entries ≤ most)
    × AllByRecursion IsEntry entries

pub entries_take : (most : ℕ) (bytes : List ℕ) (entries : List Entry) → AreBytes bytes
    → entries_in most bytes ≡ Ok entries → (bytes ≡ entries_text entries) × (length entries ≤ most)
    × AllByRecursion IsEntry entries
entries_take zero [] entries fits e =
    subst (AreThese zero []) (ok_is [] entries e) (refl, omega arith, tt)
entries_take zero (byte ∷ bytes) entries fits e = absurd cc
entries_take (suc most) [] entries fits e =
    subst (AreThese (suc most) []) (ok_is [] entries e) (refl, omega arith, tt)
entries_take (suc most) (byte ∷ bytes) entries fits e =
    let a = entries_take_some most (byte ∷ bytes) entries fits (omega arith) e in
    let others = entries_take most a.0.1 a.1 a.2.rest_fits a.4 in
    let whole : byte ∷ bytes ≡ auth_entry_text a.0.0 ++ entries_text a.1 =
    a.2.parts ∙ ap (λ (l : List ℕ). auth_entry_text a.0.0 ++ l) others.0 in
    subst (AreThese (suc most) (byte ∷ bytes)) a.5 (whole, omega (arith, others.1), (a.3, others.2))

pub entries_again : (most : ℕ) (entries : List Entry) → length entries ≤ most
    → AllByRecursion IsEntry entries → entries_in most (entries_text entries) ≡ Ok entries
entries_again zero [] few are = refl
entries_again (suc most) [] few are = refl
entries_again zero (entry ∷ entries) few are = absurd (omega arith)
entries_again (suc most) (entry ∷ entries) few are =
    let some : 0 < length (auth_entry_text entry ++ entries_text entries) =
    omega (
      arith,
      length-append (auth_entry_text entry) (entries_text entries),
      length-auth_entry_text entry,
    ) in
    entries_in_some most (auth_entry_text entry ++ entries_text entries) some
    ∙ rw (
      entry_again entry (entries_text entries) are.0,
      entries_again most entries (omega arith) are.1,
    ) refl

-- ---- an authorization area

pub area_takes : (bytes : List ℕ) (x : List Entry × List ℕ) → AreBytes bytes → area_at bytes ≡ Ok x
    → Takes bytes (area_text x.0) x.1 × (length x.0 ≤ 3) × AllByRecursion IsEntry x.0
    × (9 ≤ length (entries_text x.0))
unfolding area_at
area_takes bytes x fits e =
    let f = plain code.Authsize in
    let a = bind_ok (or_fault (number_at w32 bytes) f)
    (λ size. refused_if (ltb size.0 9) f >>= λ nine. or_fault (bytes_at size.0 size.1) f
    >>= λ bytes. entries_in 3 bytes.0 >>= λ entries. Ok (entries, bytes.1)) x e in
    let b = bind_ok (refused_if (ltb a.0.0 9) f)
    (λ nine. or_fault (bytes_at a.0.0 a.0.1) f >>= λ bytes. entries_in 3 bytes.0
    >>= λ entries. Ok (entries, bytes.1)) x a.2 in
    let c = bind_ok (or_fault (bytes_at a.0.0 a.0.1) f)
    (λ bytes. entries_in 3 bytes.0 >>= λ entries. Ok (entries, bytes.1)) x b.2 in
    let d = bind_ok (entries_in 3 c.0.0) (λ entries. Ok (entries, c.0.1)) x c.2 in
    let nine : 9 ≤ a.0.0 = ltb-false _ _ (passed (ltb a.0.0 9) f b.0 b.1) in
    let t0 = number_or_takes w32 (2 ^ 32) wide32 f bytes a.0 fits a.1 in
    let t1 = bytes_take a.0.0 a.0.1 c.0.0 c.0.1 t0.0.rest_fits
    (or_fault_ok (bytes_at a.0.0 a.0.1) f c.0 c.1) in
    let entries = entries_take 3 c.0.0 d.0 t1.2 d.1 in
    let size : a.0.0 ≡ length (entries_text d.0) = sym t1.1 ∙ ap length entries.0 in
    let both = Takes-then bytes (to_be_bytes w32 a.0.0) a.0.1 c.0.0 c.0.1 t0.0 t1.0 in
    let sized : Takes bytes (to_be_bytes w32 (length (entries_text d.0)) ++ c.0.0) c.0.1 =
    subst (λ (n : ℕ). Takes bytes (to_be_bytes w32 n ++ c.0.0) c.0.1) size both in
    let spelled : Takes bytes (area_text d.0) c.0.1 =
    subst (λ (l : List ℕ). Takes bytes (to_be_bytes w32 (length (entries_text d.0)) ++ l) c.0.1)
    entries.0 sized in
    subst (λ (y : List Entry × List ℕ). Takes bytes (area_text y.0) y.1 × (length y.0 ≤ 3)
    × AllByRecursion IsEntry y.0 × (9 ≤ length (entries_text y.0))) (ok_is (d.0, c.0.1) x d.2)
    (spelled, entries.1, entries.2, omega arith)

pub area_again : (entries : List Entry) (rest : List ℕ) → 0 < length entries → length entries ≤ 3
    → AllByRecursion IsEntry entries → length (entries_text entries) < 2 ^ 32
    → area_at (area_text entries ++ rest) ≡ Ok (entries, rest)
unfolding area_at
area_again [] rest some few are small = absurd (omega arith)
area_again (entry ∷ entries) rest some few are small =
    let f = plain code.Authsize in
    let all = entries_text (entry ∷ entries) in
    let nine : ltb (length all) 9 ≡ false =
    le-ltb _ _
    (omega (
      arith,
      length-append (auth_entry_text entry) (entries_text entries),
      length-auth_entry_text entry,
    )) in
    ap area_at (append_assoc (to_be_bytes w32 (length all)) all rest)
    ∙ rw (
      number_or_again w32 (2 ^ 32) wide32 f (length all) (all ++ rest) small,
      nine,
      bytes_again all rest (length all) refl,
      entries_again 3 (entry ∷ entries) few are,
    ) refl
