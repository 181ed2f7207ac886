-- A read returns a field exactly when the input starts with the field's encoding.
use Rattle.std.proofs.Common.{◌≡◌, ℕ, ◌+◌, ◌^◌, ◌<◌, ◌≤◌, Bool, true, false, cond, ltb, List, [], ◌∷◌, ◌++◌, length, take, drop, Option, Some, None, Result, Ok, Err, refl, sym, ap, subst, ◌∙◌, append_assoc, arith, inl, inr}
use Rattle.std.specs.Prelude.{ok_or}
use Rattle.std.specs.Int.{Width, w8, w16, w32, byte_len, from_be_bytes, to_be_bytes}
use Rattle.std.proofs.lemmas.Bool.{cases_lt, ltb-false, le-ltb}
use Rattle.std.proofs.lemmas.List.{take_at, drop_at, take-append-drop, length-append, length-take, get_or-drop, get_or-take, get_or_past}
use Rattle.std.proofs.lemmas.Nat.{be_bytes_2, be_bytes_4, from_be_bytes-to_be_bytes_2, from_be_bytes-to_be_bytes_4}
use Rattle.tpm_bytes.specs.declared.cursor.SizedFault.TheVariants as fault
pub use Rattle.tpm_bytes.specs.Reading.{AreBytes}
use Rattle.tpm_bytes.specs.Reading.{◌>>=◌, bytes_at, number_at, or_fault, refused_if, sized_at, too_short}
use Rattle.tpm_bytes.specs.Writing.{sized_text}

AreBytes-drop : (n : ℕ) (bytes : List ℕ) → AreBytes bytes → AreBytes (drop n bytes)
AreBytes-drop n bytes h i = rw get_or-drop (h (n + i))

pub AreBytes-take : (n : ℕ) (bytes : List ℕ) → AreBytes bytes → AreBytes (take n bytes)
AreBytes-take n bytes h i =
    elim (cases_lt i n) [
      | inl lt ↦ rw (get_or-take n bytes i 0 lt) (h i)
      | inr le ↦ rw (get_or_past (take n bytes) i 0 (omega (arith, length-take n bytes)))
          (omega arith)
    ]

-- ---- steps that succeed

pub bind_ok : {A B E : Type 0} (r : Result A E) (f : A → Result B E) (y : B) → (r >>= f) ≡ Ok y
    → (x : A) × (r ≡ Ok x) × (f x ≡ Ok y)
bind_ok (Ok x) f y e = (x, refl, e)
bind_ok (Err d) f y e = absurd cc

pub or_fault_ok : {A E F : Type 0} (r : Result A E) (f : F) (x : A) → or_fault r f ≡ Ok x → r ≡ Ok x
or_fault_ok (Ok y) f x e = cc
or_fault_ok (Err d) f x e = absurd cc

pub passed : {E : Type 0} (b : Bool) (fault : E) (x : Unit {0}) → refused_if b fault ≡ Ok x
    → b ≡ false
passed true fault x e = absurd cc
passed false fault x e = refl

pub ok_or_ok : {A E : Type 0} (o : Option A) (fault : E) (x : A) → ok_or o fault ≡ Ok x → o ≡ Some x
ok_or_ok (Some y) fault x e = cc
ok_or_ok None fault x e = absurd cc

pub guard_ok : {A E : Type 0} (b : Bool) (d : E) (x y : A) → cond b (Err d) (Ok x) ≡ Ok y
    → (b ≡ false) × (x ≡ y)
guard_ok true d x y e = absurd cc
guard_ok false d x y e = (refl, cc)

pub guard_passed : {A E : Type 0} (b : Bool) (d : E) (r : Result A E) (y : A)
    → cond b (Err d) r ≡ Ok y → (b ≡ false) × (r ≡ Ok y)
guard_passed true d r y e = absurd cc
guard_passed false d r y e = (refl, e)

pub ok_is : {A E : Type 0} (x y : A) → (let done : Result A E = Ok x in done ≡ Ok y) → x ≡ y
ok_is x y e = cc

-- A read of `bytes` consumed `text` and left `rest`: `bytes` is `text` followed by `rest`, and each
-- number in `rest` is below 256.
pub record Takes (bytes text rest : List ℕ) : Type 0 where
  pub parts : bytes ≡ text ++ rest
  pub rest_fits : AreBytes rest

pub Takes-then : (a x b y c : List ℕ) → Takes a x b → Takes b y c → Takes a (x ++ y) c
Takes-then a x b y c p q =
    record {
      parts = p.parts ∙ ap (λ (t : List ℕ). x ++ t) q.parts ∙ sym (append_assoc x y c);
      rest_fits = q.rest_fits;
    }

-- ---- bytes

pub bytes_take : (count : ℕ) (bytes front rest : List ℕ) → AreBytes bytes
    → bytes_at count bytes ≡ Ok (front, rest) → Takes bytes front rest × (length front ≡ count)
    × AreBytes front
bytes_take count bytes front rest fits e =
    let g = guard_ok (ltb (length bytes) count) too_short (take count bytes, drop count bytes)
    (front, rest) e in
    let long : count ≤ length bytes = ltb-false _ _ g.0 in
    let made : Takes bytes (take count bytes) (drop count bytes) =
    record {
      parts = sym (take-append-drop count bytes);
      rest_fits =
          AreBytes-drop count bytes fits;
    } in
    let whole : length (take count bytes) ≡ count = omega (arith, length-take count bytes) in
    subst (λ (p : List ℕ × List ℕ). Takes bytes p.0 p.1 × (length p.0 ≡ count) × AreBytes p.0) g.1
    (made, whole, AreBytes-take count bytes fits)

pub bytes_again : (front rest : List ℕ) (count : ℕ) → length front ≡ count
    → bytes_at count (front ++ rest) ≡ Ok (front, rest)
bytes_again front rest count len =
    let long : ltb (length (front ++ rest)) count ≡ false =
    le-ltb _ _ (omega (arith, length-append front rest)) in
    rw (long, take_at front rest count len, drop_at front rest count len) refl

-- ---- numbers

pub record IsWide (w : Width) (limit : ℕ) : Type 0 where
  pub len : (n : ℕ) → length (to_be_bytes w n) ≡ byte_len w
  pub back : (bytes : List ℕ) → length bytes ≡ byte_len w → AreBytes bytes
      → to_be_bytes w (from_be_bytes w bytes) ≡ bytes
  pub again : (n : ℕ) → n < limit → from_be_bytes w (to_be_bytes w n) ≡ n
  pub below : (bytes : List ℕ) → AreBytes bytes → from_be_bytes w bytes < limit

byte_back : (bytes : List ℕ) → length bytes ≡ 1 → AreBytes bytes
    → to_be_bytes w8 (from_be_bytes w8 bytes) ≡ bytes
byte_back [] len fits = absurd (omega arith)
byte_back (b ∷ []) len fits = ap (λ (n : ℕ). n ∷ []) (omega (arith, fits 0))
byte_back (b ∷ c ∷ bytes) len fits = absurd (omega arith)

pub wide8 : IsWide w8 (2 ^ 8)
wide8 = record {
  len = λ n. refl;
  back = byte_back;
  again = λ n lt. omega arith;
  below = λ bytes fits. omega (arith, fits 0);
}

pub wide16 : IsWide w16 (2 ^ 16)
wide16 = record {
  len = λ n. refl;
  back = λ bytes len fits. be_bytes_2 bytes _ len fits refl;
  again = λ n lt. from_be_bytes-to_be_bytes_2 n lt;
  below = λ bytes fits. omega (arith, fits 0, fits 1);
}

pub wide32 : IsWide w32 (2 ^ 32)
wide32 = record {
  len = λ n. refl;
  back = λ bytes len fits. be_bytes_4 bytes _ len fits refl;
  again = λ n lt. from_be_bytes-to_be_bytes_4 n lt;
  below = λ bytes fits. omega (arith, fits 0, fits 1, fits 2, fits 3);
}

pub number_takes : (w : Width) (limit : ℕ) (wide : IsWide w limit) (bytes : List ℕ) (n : ℕ)
    (rest : List ℕ) → AreBytes bytes → number_at w bytes ≡ Ok (n, rest)
    → Takes bytes (to_be_bytes w n) rest × (n < limit)
number_takes w limit wide bytes n rest fits e =
    let g = guard_ok (ltb (length bytes) (byte_len w)) too_short
    (from_be_bytes w (take (byte_len w) bytes), drop (byte_len w) bytes) (n, rest) e in
    let long : byte_len w ≤ length bytes = ltb-false _ _ g.0 in
    let n-is : from_be_bytes w (take (byte_len w) bytes) ≡ n = ap (λ (p : ℕ × List ℕ). p.0) g.1 in
    let rest-is : drop (byte_len w) bytes ≡ rest = ap (λ (p : ℕ × List ℕ). p.1) g.1 in
    let front : to_be_bytes w n ≡ take (byte_len w) bytes =
    rw (← n-is)
    (wide.back (take (byte_len w) bytes) (omega (arith, length-take (byte_len w) bytes))
    (AreBytes-take (byte_len w) bytes fits)) in (
      record {
        parts = rw (front, ← rest-is) (sym (take-append-drop (byte_len w) bytes));
        rest_fits =
            rw (← rest-is) (AreBytes-drop (byte_len w) bytes fits);
      },
      rw (← n-is)
          (wide.below (take (byte_len w) bytes) (AreBytes-take (byte_len w) bytes fits)),
    )

pub number_again : (w : Width) (limit : ℕ) (wide : IsWide w limit) (n : ℕ) (rest : List ℕ)
    → n < limit → number_at w (to_be_bytes w n ++ rest) ≡ Ok (n, rest)
number_again w limit wide n rest lt =
    let len = wide.len n in
    let long : ltb (length (to_be_bytes w n ++ rest)) (byte_len w) ≡ false =
    le-ltb _ _ (omega (arith, length-append (to_be_bytes w n) rest)) in
    rw (
      long,
      take_at (to_be_bytes w n) rest (byte_len w) len,
      drop_at (to_be_bytes w n) rest (byte_len w) len,
      wide.again n lt,
    ) refl

-- If a number is read, the bytes start with its encoding, no matter which fault the read returns
-- for a truncated number.
pub number_or_takes : {F : Type 0} (w : Width) (limit : ℕ) (wide : IsWide w limit) (f : F)
    (bytes : List ℕ) (x : ℕ × List ℕ) → AreBytes bytes → or_fault (number_at w bytes) f ≡ Ok x
    → Takes bytes (to_be_bytes w x.0) x.1 × (x.0 < limit)
number_or_takes w limit wide f bytes x fits e =
    number_takes w limit wide bytes x.0 x.1 fits (or_fault_ok (number_at w bytes) f x e)

pub number_or_again : {F : Type 0} (w : Width) (limit : ℕ) (wide : IsWide w limit) (f : F) (n : ℕ)
    (rest : List ℕ) → n < limit → or_fault (number_at w (to_be_bytes w n ++ rest)) f ≡ Ok (n, rest)
number_or_again w limit wide f n rest lt =
    ap (λ (r : Result (ℕ × List ℕ) _). or_fault r f) (number_again w limit wide n rest lt)

-- ---- sized buffers

pub sized_takes : {F : Type 0} (limit : ℕ) (f : F) (bytes : List ℕ) (x : List ℕ × List ℕ)
    → AreBytes bytes → or_fault (sized_at limit bytes) f ≡ Ok x → Takes bytes (sized_text x.0) x.1
    × (length x.0 < 2 ^ 16) × (length x.0 ≤ limit)
sized_takes limit f bytes x fits e =
    let a = bind_ok (or_fault (number_at w16 bytes) fault.Short)
    (λ size. cond (ltb limit size.0) (Err fault.TooLong)
    (or_fault (bytes_at size.0 size.1) fault.Short)) x
    (or_fault_ok (sized_at limit bytes) f x e) in
    let n = a.0 in
    let g = guard_passed (ltb limit n.0) fault.TooLong (or_fault (bytes_at n.0 n.1) fault.Short) x
    a.2 in
    let t = number_or_takes w16 (2 ^ 16) wide16 fault.Short bytes n fits a.1 in
    let u = bytes_take n.0 n.1 x.0 x.1 t.0.rest_fits
    (or_fault_ok (bytes_at n.0 n.1) fault.Short x g.1) in
    let few : n.0 ≤ limit = ltb-false _ _ g.0 in
    let both = Takes-then bytes (to_be_bytes w16 n.0) n.1 x.0 x.1 t.0 u.0 in (
      subst (λ (k : ℕ). Takes bytes (to_be_bytes w16 k ++ x.0) x.1) (sym u.1) both,
      omega (arith, t.1, u.1),
      omega (arith, few, u.1),
    )

pub sized_again : {F : Type 0} (limit : ℕ) (f : F) (text rest : List ℕ) → length text < 2 ^ 16
    → length text ≤ limit → or_fault (sized_at limit (sized_text text ++ rest)) f ≡ Ok (text, rest)
sized_again limit f text rest lt few =
    let regrouped : sized_text text ++ rest ≡ to_be_bytes w16 (length text) ++ (text ++ rest) =
    append_assoc (to_be_bytes w16 (length text)) text rest in
    let short : ltb limit (length text) ≡ false = le-ltb _ _ few in
    ap (λ (l : List ℕ). or_fault (sized_at limit l) f) regrouped
    ∙ rw (
      number_again w16 (2 ^ 16) wide16 (length text) (text ++ rest) lt,
      short,
      bytes_again text rest (length text) refl,
    ) refl
