-- A read returns the header of a command exactly when the input starts with its encoding.
use Rattle.tpm_types_common.specs.Limits.{buffer_limit}
use Rattle.std.proofs.Common.{◌≡◌, ℕ, ◌+◌, ◌^◌, ◌≤◌, Bool, true, false, ltb, List, ◌++◌, length, take, drop, Option, Some, Result, Ok, refl, sym, ap, subst, ◌∙◌, arith}
use Rattle.std.specs.Prelude.{◌==◌, ◌||◌, not, ok_or}
use Rattle.std.specs.Int.{Width, w16, w32, byte_len, from_be_bytes, to_be_bytes}
use Rattle.std.proofs.lemmas.Bool.{eq-eqb, ltb-false, le-ltb}
use Rattle.std.proofs.lemmas.List.{drop-drop, length-append, length-drop}
use Rattle.std.proofs.lemmas.Nat.{from_be_bytes-to_be_bytes_2, from_be_bytes-to_be_bytes_4}
use Rattle.tpm_bytes.specs.Reading.{◌>>=◌, refused_if}
use Rattle.tpm_bytes.proofs.Fields.{AreBytes, IsWide, Takes, Takes-then, bind_ok, ok_or_ok, passed, number_takes, wide16, wide32, ok_is}
use Rattle.tpm_types_command.specs.declared.header.Header.{Header}
use Rattle.tpm_types_command.specs.declared.header.HeaderFault.{HeaderFault}
use Rattle.tpm_types_command.specs.declared.header.HeaderFault.TheVariants as fault
use Rattle.tpm_commands.specs.declared.command_code.CommandCode.{CommandCode}
use Rattle.tpm_types_command.specs.declared.tag.Tag.{Tag}
use Rattle.tpm_commands.specs.CommandCode.{code_named, code_number}
use Rattle.tpm_types_command.specs.Header.{code_field, header_at, header_text, size_field, tag_field}
use Rattle.tpm_types_command.specs.Tag.{tag_named, tag_number}
use Rattle.tpm_commands.proofs.Codes.{code_named-again, code_named-is, code_number-small}
use Rattle.tpm_types_command.proofs.Tags.{tag_named-again, tag_named-is, tag_number-small}
use Rattle.tpm_types_common.proofs.SelectionLaws.{is_equal}

neither : (a b : Bool) → (a || b) ≡ false → (a ≡ false) × (b ≡ false)
neither true b e = absurd cc
neither false b e = (refl, e)

-- If the input is long enough for a number, it starts with the encoding of the number that its
-- first bytes decode to.
field_takes : (w : Width) (limit : ℕ) (wide : IsWide w limit) (bytes : List ℕ) → AreBytes bytes
    → byte_len w ≤ length bytes
    → Takes bytes (to_be_bytes w (from_be_bytes w (take (byte_len w) bytes)))
    (drop (byte_len w) bytes)
field_takes w limit wide bytes fits long =
    let there : ltb (length bytes) (byte_len w) ≡ false = le-ltb _ _ long in
    (number_takes w limit wide bytes (from_be_bytes w (take (byte_len w) bytes))
    (drop (byte_len w) bytes) fits (rw there refl)).0

-- an input of at least ten bytes starts with the three fields of a header
fields_take : (bytes : List ℕ) → AreBytes bytes → 10 ≤ length bytes
    → Takes bytes (to_be_bytes w16 (tag_field bytes) ++ to_be_bytes w32 (size_field bytes)
    ++ to_be_bytes w32 (code_field bytes)) (drop 10 bytes)
fields_take bytes fits long =
    let t0 : Takes bytes (to_be_bytes w16 (tag_field bytes)) (drop 2 bytes) =
    field_takes w16 (2 ^ 16) wide16 bytes fits (omega arith) in
    let t1 : Takes (drop 2 bytes) (to_be_bytes w32 (size_field bytes)) (drop 4 (drop 2 bytes)) =
    field_takes w32 (2 ^ 32) wide32 (drop 2 bytes) t0.rest_fits
    (omega (arith, length-drop 2 bytes)) in
    let six : drop 4 (drop 2 bytes) ≡ drop 6 bytes = drop-drop 4 2 bytes in
    let t1' : Takes (drop 2 bytes) (to_be_bytes w32 (size_field bytes)) (drop 6 bytes) =
    subst (λ (l : List ℕ). Takes (drop 2 bytes) (to_be_bytes w32 (size_field bytes)) l) six
    t1 in
    let t2 : Takes (drop 6 bytes) (to_be_bytes w32 (code_field bytes)) (drop 4 (drop 6 bytes)) =
    field_takes w32 (2 ^ 32) wide32 (drop 6 bytes) t1'.rest_fits
    (omega (arith, length-drop 6 bytes)) in
    let ten : drop 4 (drop 6 bytes) ≡ drop 10 bytes = drop-drop 4 6 bytes in
    let t2' : Takes (drop 6 bytes) (to_be_bytes w32 (code_field bytes)) (drop 10 bytes) =
    subst (λ (l : List ℕ). Takes (drop 6 bytes) (to_be_bytes w32 (code_field bytes)) l) ten
    t2 in
    let t01 = Takes-then bytes (to_be_bytes w16 (tag_field bytes)) (drop 2 bytes)
    (to_be_bytes w32 (size_field bytes)) (drop 6 bytes) t0 t1' in
    Takes-then bytes (to_be_bytes w16 (tag_field bytes) ++ to_be_bytes w32 (size_field bytes))
    (drop 6 bytes) (to_be_bytes w32 (code_field bytes)) (drop 10 bytes) t01 t2'

-- The bytes start with this header, and fit in a command buffer. Its commandSize is the length of
-- the bytes.
pub record IsHeader (bytes : List ℕ) (x : Header × List ℕ) : Type 0 where
  pub text : Takes bytes (header_text x.0.tag (length bytes) x.0.code) x.1
  pub least : 10 ≤ length bytes
  pub most : length bytes ≤ buffer_limit

pub header_takes : (bytes : List ℕ) (x : Header × List ℕ) → AreBytes bytes → header_at bytes ≡ Ok x
    → IsHeader bytes x
unfolding header_at header_text
header_takes bytes x fits e =
    let outside = ltb (length bytes) 10 || ltb buffer_limit (length bytes) in
    let other_size = not (size_field bytes == length bytes) in
    let a = bind_ok (refused_if outside fault.Length)
    (λ length_fits. ok_or (tag_named (tag_field bytes)) fault.Tag
    >>= λ tag. refused_if other_size fault.Size
    >>= λ size_is_length. ok_or (code_named (code_field bytes)) fault.Code
    >>= λ code. Ok (record { tag = tag; code = code }, drop 10 bytes)) x e in
    let b = bind_ok (ok_or (tag_named (tag_field bytes)) fault.Tag)
    (λ tag. refused_if other_size fault.Size
    >>= λ size_is_length. ok_or (code_named (code_field bytes)) fault.Code
    >>= λ code. Ok (record { tag = tag; code = code }, drop 10 bytes)) x a.2 in
    let c = bind_ok (refused_if other_size fault.Size)
    (λ size_is_length. ok_or (code_named (code_field bytes)) fault.Code
    >>= λ code. Ok (record { tag = b.0; code = code }, drop 10 bytes)) x b.2 in
    let d = bind_ok (ok_or (code_named (code_field bytes)) fault.Code)
    (λ code. Ok (record { tag = b.0; code = code }, drop 10 bytes)) x c.2 in
    let inside = neither (ltb (length bytes) 10) (ltb buffer_limit (length bytes))
    (passed outside fault.Length a.0 a.1) in
    let least : 10 ≤ length bytes = ltb-false _ _ inside.0 in
    let most : length bytes ≤ buffer_limit = ltb-false _ _ inside.1 in
    let tag : tag_field bytes ≡ tag_number b.0 =
    tag_named-is (tag_field bytes) b.0
    (ok_or_ok (tag_named (tag_field bytes)) fault.Tag b.0 b.1) in
    let size : size_field bytes ≡ length bytes =
    is_equal (size_field bytes) (length bytes) (passed other_size fault.Size c.0 c.1) in
    let code : code_field bytes ≡ code_number d.0 =
    code_named-is (code_field bytes) d.0
    (ok_or_ok (code_named (code_field bytes)) fault.Code d.0 d.1) in
    let t0 = fields_take bytes fits least in
    let t1 : Takes bytes (to_be_bytes w16 (tag_number b.0) ++ to_be_bytes w32 (size_field bytes)
    ++ to_be_bytes w32 (code_field bytes)) (drop 10 bytes) =
    subst (λ n. Takes bytes
    (to_be_bytes w16 n ++ to_be_bytes w32 (size_field bytes)
    ++ to_be_bytes w32 (code_field bytes)) (drop 10 bytes)) tag t0 in
    let t2 : Takes bytes (to_be_bytes w16 (tag_number b.0) ++ to_be_bytes w32 (length bytes)
    ++ to_be_bytes w32 (code_field bytes)) (drop 10 bytes) =
    subst (λ n. Takes bytes
    (to_be_bytes w16 (tag_number b.0) ++ to_be_bytes w32 n
    ++ to_be_bytes w32 (code_field bytes)) (drop 10 bytes)) size t1 in
    let t3 : Takes bytes (to_be_bytes w16 (tag_number b.0) ++ to_be_bytes w32 (length bytes)
    ++ to_be_bytes w32 (code_number d.0)) (drop 10 bytes) =
    subst (λ n. Takes bytes (to_be_bytes w16 (tag_number b.0) ++ to_be_bytes w32 (length bytes)
    ++ to_be_bytes w32 n) (drop 10 bytes)) code t2 in
    let made : Header × List ℕ = (record { tag = b.0; code = d.0 }, drop 10 bytes) in
    subst (IsHeader bytes) (ok_is made x d.2) (record { text = t3; least = least; most = most })

-- If every step of reading a header succeeds, the read returns the header.
steps_again : (outside other_size : Bool) (named : Option Tag) (served : Option CommandCode)
    (tag : Tag) (code : CommandCode) (rest : List ℕ) → outside ≡ false → named ≡ Some tag
    → other_size ≡ false → served ≡ Some code
    → (refused_if outside fault.Length >>= λ length_fits. ok_or named fault.Tag
    >>= λ tag. refused_if other_size fault.Size >>= λ size_is_length. ok_or served fault.Code
    >>= λ code. Ok (record { tag = tag; code = code }, rest))
    ≡ (let done : Result (Header × List ℕ) HeaderFault =
    Ok (record { tag = tag; code = code }, rest) in done)
steps_again outside other_size named served tag code rest e0 e1 e2 e3 = rw (e0, e1, e2, e3) refl

pub header_again : (tag : Tag) (size : ℕ) (code : CommandCode) (rest : List ℕ)
    → size ≡ 10 + length rest → size ≤ buffer_limit
    → header_at (header_text tag size code ++ rest) ≡ Ok (record { tag = tag; code = code }, rest)
unfolding header_at header_text
header_again tag size code rest whole most =
    let bytes =
    (to_be_bytes w16 (tag_number tag) ++ to_be_bytes w32 size
    ++ to_be_bytes w32 (code_number code)) ++ rest in
    let long : length bytes ≡ size =
    omega (
      arith,
      length-append (to_be_bytes w16 (tag_number tag) ++ to_be_bytes w32 size
          ++ to_be_bytes w32 (code_number code)) rest,
    ) in
    let least : ltb (length bytes) 10 ≡ false = le-ltb _ _ (omega arith) in
    let few : ltb buffer_limit (length bytes) ≡ false = le-ltb _ _ (omega arith) in
    let outside : (ltb (length bytes) 10 || ltb buffer_limit (length bytes)) ≡ false =
    rw (least, few) refl in
    let tag-is : tag_named (tag_field bytes) ≡ Some tag =
    ap tag_named (from_be_bytes-to_be_bytes_2 (tag_number tag) (tag_number-small tag))
    ∙ tag_named-again tag in
    let size-is : size_field bytes ≡ length bytes =
    from_be_bytes-to_be_bytes_4 size (omega arith) ∙ sym long in
    let other_size : not (size_field bytes == length bytes) ≡ false = ap not (eq-eqb _ _ size-is) in
    let code-is : code_named (code_field bytes) ≡ Some code =
    ap code_named (from_be_bytes-to_be_bytes_4 (code_number code) (code_number-small code))
    ∙ code_named-again code in
    steps_again (ltb (length bytes) 10 || ltb buffer_limit (length bytes))
    (not (size_field bytes == length bytes)) (tag_named (tag_field bytes))
    (code_named (code_field bytes)) tag code rest outside tag-is other_size code-is
