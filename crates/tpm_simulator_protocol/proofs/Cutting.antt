-- How a stream is divided into requests does not depend on when its requests are executed.
use Rattle.std.proofs.Common.{◌≡◌, ℕ, ◌+◌, ◌<◌, ◌≤◌, Bool, true, false, List, [], ◌∷◌, ◌++◌, length, take, drop, Option, Some, None, refl, sym, ap, ◌∙◌, append_assoc, append-nil, length-append, arith, inl, inr}
use Rattle.std.proofs.Math.Seq.{drop-append_seam, take-append_seam}
use Rattle.std.specs.Prelude.{nat_le, ◌==◌, fold, option_and_then, if◌then◌else◌}
use Rattle.std.proofs.lemmas.List.Sums.{fold-append}
use Rattle.std.specs.Option.{option_map_or}
use Rattle.std.proofs.lemmas.Bool.{cases_eq, eq-eqb, ne_eqb, leb-true, leb-false, false≢true}
use Rattle.tpm_simulator_protocol.specs.Request.{is_last, request_limit, request_size}
use Rattle.tpm_simulator_protocol.specs.Stream.{Cut, Cutting, Stream, cut_at, cut_of, cut_with, cut_within, exact_cutting, fed_stream, is_whole, next_of, with_byte, with_rest}
use Rattle.tpm_simulator_protocol.specs.declared.request.Port.{Port}
use Rattle.tpm_simulator_protocol.proofs.Sizes.{own_size, size_bounds, size_stays, some_is, unknown_short}

-- ---- complete and incomplete requests

whole_at : (p : Port) (bytes : List ℕ) (n : ℕ) → request_size p bytes ≡ Some n
    → is_whole p bytes ≡ (n == length bytes)
whole_at p bytes n is =
    ap (λ (o : Option ℕ). option_map_or (λ size. size == length bytes) o false) is

not_whole : (p : Port) (bytes : List ℕ)
    → ((n : ℕ) → request_size p bytes ≡ Some n → length bytes < n) → is_whole p bytes ≡ false
not_whole p bytes less = by (request_size p bytes) refl
  where
    by : (o : Option ℕ) → request_size p bytes ≡ o → is_whole p bytes ≡ false
    by None is = ap (λ (o : Option ℕ). option_map_or (λ size. size == length bytes) o false) is
    by (Some n) is = whole_at p bytes n is
        ∙ ne_eqb n (length bytes) (λ e. let l = less n is in absurd (omega arith))

abbrev begun : List (List ℕ) → List ℕ → Cutting
begun done rest = record { requests = done; rest = rest; ended = false }

goes_on : (p : Port) (done : List (List ℕ)) (rest : List ℕ) (byte : ℕ)
    → is_whole p (rest ++ byte ∷ []) ≡ false
    → with_byte p (begun done rest) byte ≡ begun done (rest ++ byte ∷ [])
unfolding with_byte
goes_on p done rest byte is = rw is refl

completes : (p : Port) (done : List (List ℕ)) (rest : List ℕ) (byte : ℕ)
    → is_whole p (rest ++ byte ∷ []) ≡ true
    → with_byte p (begun done rest) byte ≡ exact_cutting (done ++ (rest ++ byte ∷ []) ∷ [])
    (is_last p (rest ++ byte ∷ []))
unfolding with_byte
completes p done rest byte is = rw is refl

length-one : (rest : List ℕ) (byte : ℕ) → length (rest ++ byte ∷ []) ≡ length rest + 1
length-one rest byte = length-append rest (byte ∷ [])

-- Further bytes that do not complete a request only extend the rest of a stream. The requests stay
-- the same.
grows : (p : Port) (done : List (List ℕ)) (rest more all : List ℕ) → rest ++ more ≡ all
    → ((n : ℕ) → request_size p all ≡ Some n → length all < n)
    → fold (with_byte p) (begun done rest) more ≡ begun done all
grows p done rest [] all is less = ap (begun done) (sym (append-nil rest) ∙ is)
grows p done rest (byte ∷ more) all is less =
    let grown = rest ++ byte ∷ [] in
    let same : grown ++ more ≡ all = append_assoc rest (byte ∷ []) more ∙ is in
    let few : length grown ≤ length all = omega (arith, ap length same, length-append grown more) in
    let part = not_whole p grown (λ n size.
    let l = less n (sym (ap (request_size p) same) ∙ size_stays p grown more n size) in omega
    (arith, few, l)) in
    ap (λ (c : Cutting). fold (with_byte p) c more) (goes_on p done rest byte part)
    ∙ grows p done grown more all same less

whole_now : (p : Port) (grown more all : List ℕ) (n : ℕ) → grown ++ more ≡ all
    → request_size p all ≡ Some n → length grown ≡ n → is_whole p grown ≡ true
whole_now p grown more all n same size here =
    whole_at p grown n (own_size p grown more all n same size (omega (arith, here)))
    ∙ eq-eqb n (length grown) (sym here)

whole_later : (p : Port) (grown more all : List ℕ) (n : ℕ) → grown ++ more ≡ all
    → request_size p all ≡ Some n → length grown < n → is_whole p grown ≡ false
whole_later p grown more all n same size less =
    not_whole p grown (λ m own.
    let e = some_is m n (sym (size_stays p grown more m own) ∙ ap (request_size p) same ∙ size) in
    omega (arith, e, less))

ends_here : (p : Port) (done : List (List ℕ)) (grown more all : List ℕ) (n : ℕ)
    → grown ++ more ≡ all → length grown ≡ n
    → fold (with_byte p) (exact_cutting (done ++ grown ∷ []) (is_last p grown)) more
    ≡ fold (with_byte p) (exact_cutting (done ++ take n all ∷ []) (is_last p (take n all)))
    (drop n all)
ends_here p done grown more all n same here =
    let front : take n all ≡ grown = rw (← here, ← same) (take-append_seam grown more) in
    let behind : drop n all ≡ more = rw (← here, ← same) (drop-append_seam grown more) in
    rw (front, behind) refl

-- If further bytes complete a request, the stream is divided into the earlier requests, this
-- request, and the requests in the bytes after it.
completed : (p : Port) (done : List (List ℕ)) (rest more all : List ℕ) (n : ℕ)
    → rest ++ more ≡ all → request_size p all ≡ Some n → length rest < n → n ≤ length all
    → fold (with_byte p) (begun done rest) more
    ≡ fold (with_byte p) (exact_cutting (done ++ take n all ∷ []) (is_last p (take n all)))
    (drop n all)
completed p done rest [] all n is size less fits =
    absurd (omega (arith, ap length is, length-append rest [], less, fits))
completed p done rest (byte ∷ more) all n is size less fits =
    let grown = rest ++ byte ∷ [] in
    let same : grown ++ more ≡ all = append_assoc rest (byte ∷ []) more ∙ is in
    let longer : length grown ≡ length rest + 1 = length-one rest byte in
    elim (cases_eq (length grown) n) [
      | inl here ↦
          ap (λ (c : Cutting). fold (with_byte p) c more)
          (completes p done rest byte (whole_now p grown more all n same size here))
          ∙ ends_here p done grown more all n same here
      | inr apart ↦
          let below : length grown < n = omega (arith, longer, less, apart) in
          ap (λ (c : Cutting). fold (with_byte p) c more)
          (goes_on p done rest byte (whole_later p grown more all n same size below))
          ∙ completed p done grown more all n same size below fits
    ]

-- ---- the next request of a stream

next_if : (p : Port) (done : List (List ℕ)) (taken : List ℕ) (n : ℕ) (c : Cut)
    → request_size p taken ≡ Some n → cut_within p n taken ≡ Some c
    → (c.after.ended ≡ is_last p c.text)
    × (cut_with p done (record { taken = taken; ended = false })
    ≡ cut_with p (done ++ c.text ∷ []) c.after)
next_if p done taken n c size is = by (nat_le n (length taken)) refl is
  where
    by : (b : Bool) → nat_le n (length taken) ≡ b
        → (if b then Some (cut_at p n taken) else None) ≡ Some c
        → (c.after.ended ≡ is_last p c.text)
        × (cut_with p done (record { taken = taken; ended = false })
        ≡ cut_with p (done ++ c.text ∷ []) c.after)
    by true fits e = (
      rw (← some_is _ _ e) refl,
      completed p done [] taken taken n refl size (omega (arith, size_bounds p taken n size))
          (leb-true n (length taken) fits)
          ∙ ap (λ (x : Cut). cut_with p (done ++ x.text ∷ []) x.after) (some_is _ _ e),
    )
    by false fits e = absurd cc

-- the next request, which has this size; None if the size is unknown or not all bytes were received
abbrev next_by : Port → List ℕ → Option ℕ → Option Cut
next_by p taken size = option_and_then (λ n. cut_within p n taken) size

next_is : (p : Port) (taken : List ℕ) (size : Option ℕ) (o : Option Cut)
    → request_size p taken ≡ size → next_by p taken (request_size p taken) ≡ o
    → next_by p taken size ≡ o
next_is p taken size o is e = sym (ap (next_by p taken) is) ∙ e

-- Suppose that `c` is the next request of a stream. Then the stream is divided into the executed
-- requests, this request, and the requests in the bytes after it.
pub cut_next : (p : Port) (done : List (List ℕ)) (s : Stream) (c : Cut) → next_of p s ≡ Some c
    → (c.after.ended ≡ is_last p c.text)
    × (cut_with p done s ≡ cut_with p (done ++ c.text ∷ []) c.after)
cut_next p done s c is = by s.ended s.taken (request_size p s.taken) refl is
  where
    by : (ended : Bool) (taken : List ℕ) (o : Option ℕ) → request_size p taken ≡ o
        → next_of p (record { taken = taken; ended = ended }) ≡ Some c
        → (c.after.ended ≡ is_last p c.text)
        × (cut_with p done (record { taken = taken; ended = ended })
        ≡ cut_with p (done ++ c.text ∷ []) c.after)
    by true taken o size e = absurd cc
    by false taken None size e = absurd (let f = next_is p taken None (Some c) size e in cc)
    by false taken (Some n) size e =
        next_if p done taken n c size (next_is p taken (Some n) (Some c) size e)

-- ---- a stream whose next request is not complete

stays_ended : (p : Port) (done : List (List ℕ)) (rest bytes : List ℕ)
    → fold (with_byte p) (record { requests = done; rest = rest; ended = true }) bytes
    ≡ record { requests = done; rest = rest ++ bytes; ended = true }
unfolding with_byte
stays_ended p done rest [] =
    ap (λ (l : List ℕ). record { requests = done; rest = l; ended = true })
    (sym (append-nil rest))
stays_ended p done rest (byte ∷ bytes) =
    stays_ended p done (rest ++ byte ∷ []) bytes
    ∙ ap (λ (l : List ℕ). record { requests = done; rest = l; ended = true })
    (append_assoc rest (byte ∷ []) bytes)

too_few : (p : Port) (n : ℕ) (taken : List ℕ) → cut_within p n taken ≡ None → length taken < n
too_few p n taken is = by (nat_le n (length taken)) refl is
  where
    by : (b : Bool) → nat_le n (length taken) ≡ b
        → (if b then Some (cut_at p n taken) else None) ≡ None → length taken < n
    by true fits e = absurd cc
    by false fits e = leb-false n (length taken) fits

-- If the next request has a known size but is not complete, fewer bytes than this size were
-- received.
waits_for : (p : Port) (taken : List ℕ)
    → next_of p (record { taken = taken; ended = false }) ≡ None → (n : ℕ)
    → request_size p taken ≡ Some n → length taken < n
waits_for p taken none n size = too_few p n taken (next_is p taken (Some n) None size none)

-- If the next request of a stream is not complete, the stream has no further request, and the bytes
-- that it stores are the rest.
pub cut_last : (p : Port) (done : List (List ℕ)) (s : Stream) → next_of p s ≡ None
    → cut_with p done s ≡ record { requests = done; rest = s.taken; ended = s.ended }
cut_last p done s none = by s.ended s.taken none
  where
    by : (ended : Bool) (taken : List ℕ)
        → next_of p (record { taken = taken; ended = ended }) ≡ None
        → cut_with p done (record { taken = taken; ended = ended })
        ≡ record { requests = done; rest = taken; ended = ended }
    by true taken e = stays_ended p done [] taken
    by false taken e = grows p done [] taken taken refl (waits_for p taken e)

-- If a stream has not ended and its next request is not complete, fewer bytes are stored than a
-- request can have.
pub next_room : (p : Port) (s : Stream) → next_of p s ≡ None → s.ended ≡ false
    → length s.taken < request_limit
next_room p s none lives = by s.ended s.taken (request_size p s.taken) refl none lives
  where
    by : (ended : Bool) (taken : List ℕ) (o : Option ℕ) → request_size p taken ≡ o
        → next_of p (record { taken = taken; ended = ended }) ≡ None → ended ≡ false
        → length taken < request_limit
    by true taken o size e lives = absurd (false≢true (sym lives))
    by false taken None size e lives = unknown_short p taken size
    by false taken (Some n) size e lives =
        omega (arith, waits_for p taken e n size, size_bounds p taken n size)

-- ---- receiving more bytes of a stream

rest_stays : (p : Port) (b : Bool) (c : Cutting) (rest : List ℕ) (last : Bool)
    → (more : List (List ℕ))
    × ((if b then record { requests = c.requests ++ rest ∷ []; rest = []; ended = last }
    else record c { rest = rest }).requests ≡ c.requests ++ more)
rest_stays p true c rest last = (rest ∷ [], refl)
rest_stays p false c rest last = ([], sym (append-nil c.requests))

byte_stays : (p : Port) (c : Cutting) (byte : ℕ) → (more : List (List ℕ))
    × ((with_byte p c byte).requests ≡ c.requests ++ more)
unfolding with_byte
byte_stays p c byte = by c.ended
  where
    by : (b : Bool) → (more : List (List ℕ))
        × ((if b then record c { rest = c.rest ++ byte ∷ [] }
        else with_rest p c (c.rest ++ byte ∷ [])).requests ≡ c.requests ++ more)
    by true = ([], sym (append-nil c.requests))
    by false = rest_stays p (is_whole p (c.rest ++ byte ∷ [])) c (c.rest ++ byte ∷ [])
        (is_last p (c.rest ++ byte ∷ []))

-- When more bytes arrive, the requests of a stream stay the same, and new requests may follow them.
pub requests_stay : (p : Port) (c : Cutting) (bytes : List ℕ) → (more : List (List ℕ))
    × ((fold (with_byte p) c bytes).requests ≡ c.requests ++ more)
requests_stay p c [] = ([], sym (append-nil c.requests))
requests_stay p c (byte ∷ bytes) =
    let first = byte_stays p c byte in
    let others = requests_stay p (with_byte p c byte) bytes in (
      first.0 ++ others.0,
      others.1 ∙ ap (λ (l : List (List ℕ)). l ++ others.0) first.1
          ∙ append_assoc c.requests first.0 others.0,
    )

-- Suppose that the bytes received so far consist of the executed requests `done` and the stream
-- `s`. After more bytes, they consist of `done` and `s` with the new bytes.
pub receive_more : (p : Port) (received bytes : List ℕ) (done : List (List ℕ)) (s : Stream)
    → cut_of p received ≡ cut_with p done s
    → cut_of p (received ++ bytes) ≡ cut_with p done (fed_stream s bytes)
receive_more p received bytes done s is =
    fold-append (with_byte p) (exact_cutting [] false) received bytes
    ∙ ap (λ (c : Cutting). fold (with_byte p) c bytes) is
    ∙ sym (fold-append (with_byte p) (exact_cutting done s.ended) s.taken bytes)
