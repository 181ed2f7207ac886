-- How a stream is divided into buffers does not depend on when its buffers are executed.
use Rattle.tpm_types_common.specs.Limits.{buffer_limit}
use Rattle.std.proofs.Common.{◌≡◌, ℕ, ◌+◌, ◌<◌, ◌≤◌, Bool, true, false, List, [], ◌∷◌, ◌++◌, length, take, drop, Option, Some, None, refl, sym, ap, ◌∙◌, subst, append_assoc, append-nil, length-append, length-drop, arith, inl, inr}
use Rattle.std.proofs.Math.Seq.{drop-append_seam, take-append_seam}
use Rattle.std.specs.Prelude.{nat_le, ◌==◌, ◌&&◌, fold, option_and_then, if◌then◌else◌}
use Rattle.std.proofs.lemmas.List.Sums.{fold-append}
use Rattle.std.specs.Int.{w32, from_be_bytes}
use Rattle.std.specs.Option.{option_map_or}
use Rattle.std.proofs.lemmas.Bool.{cases_eq, eq-eqb, ne_eqb, leb-true, leb-false, false≢true}
use Rattle.tpm_wire.specs.Stream.{Cut, Cutting, CutsTo, Stream, buffer_size, command_size, cut_at, cut_of, cut_with, cut_within, exact_cutting, fed_stream, is_last, is_size, is_whole, new_stream, next_of, size_by, with_byte, with_rest}

-- ---- the size of a buffer, by its first six bytes

size_longer : (bytes more : List ℕ) (n : ℕ) → buffer_size bytes ≡ Some n
    → buffer_size (bytes ++ more) ≡ Some n
unfolding command_size
size_longer (t ∷ u ∷ a ∷ b ∷ c ∷ d ∷ bytes) more n is = is
size_longer bytes more n is = absurd cc

size_shorter : (bytes more : List ℕ) → 6 ≤ length bytes
    → buffer_size (bytes ++ more) ≡ buffer_size bytes
unfolding command_size
size_shorter (t ∷ u ∷ a ∷ b ∷ c ∷ d ∷ bytes) more six = refl
size_shorter [] more six = absurd (omega arith)
size_shorter (t ∷ []) more six = absurd (omega arith)
size_shorter (t ∷ u ∷ []) more six = absurd (omega arith)
size_shorter (t ∷ u ∷ a ∷ []) more six = absurd (omega arith)
size_shorter (t ∷ u ∷ a ∷ b ∷ []) more six = absurd (omega arith)
size_shorter (t ∷ u ∷ a ∷ b ∷ c ∷ []) more six = absurd (omega arith)

last_shorter : (bytes more : List ℕ) → 6 ≤ length bytes → is_last (bytes ++ more) ≡ is_last bytes
unfolding command_size
last_shorter (t ∷ u ∷ a ∷ b ∷ c ∷ d ∷ bytes) more six = refl
last_shorter [] more six = absurd (omega arith)
last_shorter (t ∷ []) more six = absurd (omega arith)
last_shorter (t ∷ u ∷ []) more six = absurd (omega arith)
last_shorter (t ∷ u ∷ a ∷ []) more six = absurd (omega arith)
last_shorter (t ∷ u ∷ a ∷ b ∷ []) more six = absurd (omega arith)
last_shorter (t ∷ u ∷ a ∷ b ∷ c ∷ []) more six = absurd (omega arith)

and_left : (a b : Bool) → (a && b) ≡ true → a ≡ true
and_left true b e = refl
and_left false b e = e

and_right : (a b : Bool) → (a && b) ≡ true → b ≡ true
and_right true b e = e
and_right false b e = absurd (false≢true e)

bounds_if : (b : Bool) (size : ℕ) → (b ≡ true → (6 ≤ size) × (size ≤ buffer_limit))
    → (6 ≤ (if b then size else 6)) × ((if b then size else 6) ≤ buffer_limit)
bounds_if true size within = within refl
bounds_if false size within = (omega arith, omega arith)

size_bounds : (size : ℕ) → (6 ≤ size_by size) × (size_by size ≤ buffer_limit)
size_bounds size =
    bounds_if (is_size size) size (λ e.
    let low = leb-true 10 size (and_left (nat_le 10 size) (nat_le size buffer_limit) e) in
    let high = leb-true size buffer_limit
    (and_right (nat_le 10 size) (nat_le size buffer_limit) e) in
    (omega arith, omega arith))

some_is : {X : Type 0} (x y : X) → Some x ≡ Some y → x ≡ y
some_is x y e = cc

-- If the size of a buffer is known, it is between 6 and 4,096 bytes.
buffer_bounds : (bytes : List ℕ) (n : ℕ) → buffer_size bytes ≡ Some n → (6 ≤ n) × (n ≤ buffer_limit)
unfolding command_size
buffer_bounds (t ∷ u ∷ a ∷ b ∷ c ∷ d ∷ bytes) n is =
    rw (← some_is _ _ is) (size_bounds (from_be_bytes w32 (a ∷ b ∷ c ∷ d ∷ [])))
buffer_bounds bytes n is = absurd cc

-- ---- complete and incomplete buffers

whole_at : (bytes : List ℕ) (n : ℕ) → buffer_size bytes ≡ Some n
    → is_whole bytes ≡ (n == length bytes)
whole_at bytes n is = ap (λ (o : Option ℕ). option_map_or (λ size. size == length bytes) o false) is

not_whole : (bytes : List ℕ) → ((n : ℕ) → buffer_size bytes ≡ Some n → length bytes < n)
    → is_whole bytes ≡ false
not_whole bytes less = by (buffer_size bytes) refl
  where
    by : (o : Option ℕ) → buffer_size bytes ≡ o → is_whole bytes ≡ false
    by None is = ap (λ (o : Option ℕ). option_map_or (λ size. size == length bytes) o false) is
    by (Some n) is = whole_at bytes n is
        ∙ ne_eqb n (length bytes) (λ e. let l = less n is in absurd (omega arith))

abbrev begun : List (List ℕ) → List ℕ → Cutting
begun done rest = record { buffers = done; rest = rest; ended = false }

goes_on : (done : List (List ℕ)) (rest : List ℕ) (byte : ℕ) → is_whole (rest ++ byte ∷ []) ≡ false
    → with_byte (begun done rest) byte ≡ begun done (rest ++ byte ∷ [])
unfolding with_byte
goes_on done rest byte is = rw is refl

completes : (done : List (List ℕ)) (rest : List ℕ) (byte : ℕ) → is_whole (rest ++ byte ∷ []) ≡ true
    → with_byte (begun done rest) byte ≡ exact_cutting (done ++ (rest ++ byte ∷ []) ∷ [])
    (is_last (rest ++ byte ∷ []))
unfolding with_byte
completes done rest byte is = rw is refl

length-one : (rest : List ℕ) (byte : ℕ) → length (rest ++ byte ∷ []) ≡ length rest + 1
length-one rest byte = length-append rest (byte ∷ [])

-- Further bytes that do not complete a buffer only extend the rest of a stream. The buffers stay
-- the same.
grows : (done : List (List ℕ)) (rest more all : List ℕ) → rest ++ more ≡ all
    → ((n : ℕ) → buffer_size all ≡ Some n → length all < n)
    → fold with_byte (begun done rest) more ≡ begun done all
grows done rest [] all is less = ap (begun done) (sym (append-nil rest) ∙ is)
grows done rest (byte ∷ more) all is less =
    let grown = rest ++ byte ∷ [] in
    let same : grown ++ more ≡ all = append_assoc rest (byte ∷ []) more ∙ is in
    let few : length grown ≤ length all = omega (arith, ap length same, length-append grown more) in
    let part = not_whole grown (λ n size.
    let l =
    less n (subst (λ (bytes : List ℕ). buffer_size bytes ≡ Some n) same
    (size_longer grown more n size)) in omega (arith, few)) in
    ap (λ (c : Cutting). fold with_byte c more) (goes_on done rest byte part)
    ∙ grows done grown more all same less

whole_now : (grown more all : List ℕ) (n : ℕ) → grown ++ more ≡ all → buffer_size all ≡ Some n
    → length grown ≡ n → is_whole grown ≡ true
whole_now grown more all n same size here =
    let six = buffer_bounds all n size in
    let own : buffer_size grown ≡ Some n = sym (size_shorter grown more (omega (arith, six, here)))
    ∙ ap buffer_size same ∙ size in
    whole_at grown n own ∙ eq-eqb n (length grown) (sym here)

whole_later : (grown more all : List ℕ) (n : ℕ) → grown ++ more ≡ all → buffer_size all ≡ Some n
    → length grown < n → is_whole grown ≡ false
whole_later grown more all n same size less =
    not_whole grown (λ m own.
    let e = some_is m n (sym (size_longer grown more m own) ∙ ap buffer_size same ∙ size) in omega
    (arith, e, less))

ends_here : (done : List (List ℕ)) (grown more all : List ℕ) (n : ℕ) → grown ++ more ≡ all
    → length grown ≡ n → 6 ≤ n → fold with_byte (exact_cutting (done ++ grown ∷ []) (is_last grown))
    more ≡ fold with_byte (exact_cutting (done ++ take n all ∷ []) (is_last all)) (drop n all)
ends_here done grown more all n same here six =
    let front : take n all ≡ grown = rw (← here, ← same) (take-append_seam grown more) in
    let behind : drop n all ≡ more = rw (← here, ← same) (drop-append_seam grown more) in
    let last : is_last all ≡ is_last grown =
    rw (← same) (last_shorter grown more (omega (arith, here, six))) in
    rw (front, behind, last) refl

-- If further bytes complete a buffer, the stream is divided into the earlier buffers, this buffer,
-- and the buffers in the bytes after it.
completed : (done : List (List ℕ)) (rest more all : List ℕ) (n : ℕ) → rest ++ more ≡ all
    → buffer_size all ≡ Some n → length rest < n → n ≤ length all
    → fold with_byte (begun done rest) more
    ≡ fold with_byte (exact_cutting (done ++ take n all ∷ []) (is_last all)) (drop n all)
completed done rest [] all n is size less fits =
    absurd (omega (arith, ap length is, length-append rest []))
completed done rest (byte ∷ more) all n is size less fits =
    let grown = rest ++ byte ∷ [] in
    let same : grown ++ more ≡ all = append_assoc rest (byte ∷ []) more ∙ is in
    let longer : length grown ≡ length rest + 1 = length-one rest byte in
    elim (cases_eq (length grown) n) [
      | inl here ↦
          ap (λ (c : Cutting). fold with_byte c more)
          (completes done rest byte (whole_now grown more all n same size here))
          ∙ ends_here done grown more all n same here (omega (arith, buffer_bounds all n size))
      | inr apart ↦
          let below : length grown < n = omega (arith, longer, less, apart) in
          ap (λ (c : Cutting). fold with_byte c more)
          (goes_on done rest byte (whole_later grown more all n same size below))
          ∙ completed done grown more all n same size below fits
    ]

rest_stays : (b : Bool) (c : Cutting) (rest : List ℕ) (last : Bool)
    → (more : List (List ℕ))
    × ((if b then record { buffers = c.buffers ++ rest ∷ []; rest = []; ended = last }
    else record c { rest = rest }).buffers ≡ c.buffers ++ more)
rest_stays true c rest last = (rest ∷ [], refl)
rest_stays false c rest last = ([], sym (append-nil c.buffers))

byte_stays : (c : Cutting) (byte : ℕ) → (more : List (List ℕ))
    × ((with_byte c byte).buffers ≡ c.buffers ++ more)
unfolding with_byte
byte_stays c byte = by c.ended
  where
    by : (b : Bool) → (more : List (List ℕ))
        × ((if b then record c { rest = c.rest ++ byte ∷ [] }
        else with_rest c (c.rest ++ byte ∷ [])).buffers ≡ c.buffers ++ more)
    by true = ([], sym (append-nil c.buffers))
    by false = rest_stays (is_whole (c.rest ++ byte ∷ [])) c (c.rest ++ byte ∷ [])
        (is_last (c.rest ++ byte ∷ []))

-- ---- the next buffer of a stream

next_if : (done : List (List ℕ)) (taken : List ℕ) (n : ℕ) (c : Cut) → buffer_size taken ≡ Some n
    → cut_within n (is_last taken) taken ≡ Some c
    → cut_with done (record { taken = taken; ended = false })
    ≡ cut_with (done ++ c.buffer ∷ []) c.after
next_if done taken n c size is = by (nat_le n (length taken)) refl is
  where
    by : (b : Bool) → nat_le n (length taken) ≡ b
        → (if b then Some (cut_at n (is_last taken) taken) else None) ≡ Some c
        → cut_with done (record { taken = taken; ended = false })
        ≡ cut_with (done ++ c.buffer ∷ []) c.after
    by true fits e =
        completed done [] taken taken n refl size (omega (arith, buffer_bounds taken n size))
        (leb-true n (length taken) fits)
        ∙ ap (λ (x : Cut). cut_with (done ++ x.buffer ∷ []) x.after) (some_is _ _ e)
    by false fits e = absurd cc

-- the next buffer, which has this size; None if the size is unknown or not all bytes were received
abbrev next_by : List ℕ → Option ℕ → Option Cut
next_by taken size = option_and_then (λ n. cut_within n (is_last taken) taken) size

next_is : (taken : List ℕ) (size : Option ℕ) (o : Option Cut) → buffer_size taken ≡ size
    → next_by taken (buffer_size taken) ≡ o → next_by taken size ≡ o
next_is taken size o is e = sym (ap (next_by taken) is) ∙ e

-- Suppose that `c` is the next buffer of a stream. Then the stream is divided into the executed
-- buffers, this buffer, and the buffers in the bytes after it.
pub cut_next : (done : List (List ℕ)) (s : Stream) (c : Cut) → next_of s ≡ Some c
    → cut_with done s ≡ cut_with (done ++ c.buffer ∷ []) c.after
cut_next done s c is = by s.ended s.taken (buffer_size s.taken) refl is
  where
    by : (ended : Bool) (taken : List ℕ) (o : Option ℕ) → buffer_size taken ≡ o
        → next_of (record { taken = taken; ended = ended }) ≡ Some c
        → cut_with done (record { taken = taken; ended = ended })
        ≡ cut_with (done ++ c.buffer ∷ []) c.after
    by true taken o size e = absurd cc
    by false taken None size e = absurd (let f = next_is taken None (Some c) size e in cc)
    by false taken (Some n) size e =
        next_if done taken n c size (next_is taken (Some n) (Some c) size e)

-- ---- a stream whose next buffer is not complete

stays_ended : (done : List (List ℕ)) (rest bytes : List ℕ)
    → fold with_byte (record { buffers = done; rest = rest; ended = true }) bytes
    ≡ record { buffers = done; rest = rest ++ bytes; ended = true }
unfolding with_byte
stays_ended done rest [] = ap (λ (l : List ℕ). record { buffers = done; rest = l; ended = true })
    (sym (append-nil rest))
stays_ended done rest (byte ∷ bytes) =
    stays_ended done (rest ++ byte ∷ []) bytes
    ∙ ap (λ (l : List ℕ). record { buffers = done; rest = l; ended = true })
    (append_assoc rest (byte ∷ []) bytes)

too_few : (n : ℕ) (taken : List ℕ) → cut_within n (is_last taken) taken ≡ None → length taken < n
too_few n taken is = by (nat_le n (length taken)) refl is
  where
    by : (b : Bool) → nat_le n (length taken) ≡ b
        → (if b then Some (cut_at n (is_last taken) taken) else None) ≡ None → length taken < n
    by true fits e = absurd cc
    by false fits e = leb-false n (length taken) fits

-- If the next buffer has a known size but is not complete, fewer bytes than this size were
-- received.
waits_for : (taken : List ℕ) → next_of (record { taken = taken; ended = false }) ≡ None → (n : ℕ)
    → buffer_size taken ≡ Some n → length taken < n
waits_for taken none n size = too_few n taken (next_is taken (Some n) None size none)

-- If the next buffer of a stream is not complete, the stream has no further buffer, and the bytes
-- that it stores are the rest.
pub cut_last : (done : List (List ℕ)) (s : Stream) → next_of s ≡ None
    → cut_with done s ≡ record { buffers = done; rest = s.taken; ended = s.ended }
cut_last done s none = by s.ended s.taken none
  where
    by : (ended : Bool) (taken : List ℕ) → next_of (record { taken = taken; ended = ended }) ≡ None
        → cut_with done (record { taken = taken; ended = ended })
        ≡ record { buffers = done; rest = taken; ended = ended }
    by true taken e = stays_ended done [] taken
    by false taken e = grows done [] taken taken refl (waits_for taken e)

-- If the size of a buffer is unknown, fewer than six of its bytes were received.
size_known : (bytes : List ℕ) → buffer_size bytes ≡ None → length bytes < 6
unfolding command_size
size_known (t ∷ u ∷ a ∷ b ∷ c ∷ d ∷ bytes) is = absurd cc
size_known [] is = omega arith
size_known (t ∷ []) is = omega arith
size_known (t ∷ u ∷ []) is = omega arith
size_known (t ∷ u ∷ a ∷ []) is = omega arith
size_known (t ∷ u ∷ a ∷ b ∷ []) is = omega arith
size_known (t ∷ u ∷ a ∷ b ∷ c ∷ []) is = omega arith

-- If a stream has not ended and its next buffer is not complete, the stream can store at least one
-- more byte.
pub next_room : (s : Stream) → next_of s ≡ None → s.ended ≡ false → length s.taken < buffer_limit
next_room s none lives = by s.ended s.taken (buffer_size s.taken) refl none lives
  where
    by : (ended : Bool) (taken : List ℕ) (o : Option ℕ) → buffer_size taken ≡ o
        → next_of (record { taken = taken; ended = ended }) ≡ None → ended ≡ false
        → length taken < buffer_limit
    by true taken o size e lives = absurd (false≢true (sym lives))
    by false taken None size e lives = omega (arith, size_known taken size)
    by false taken (Some n) size e lives =
        omega (arith, waits_for taken e n size, buffer_bounds taken n size)

-- ---- the bytes of the next buffer of a stream

cut_shorter : (n : ℕ) (taken : List ℕ) (c : Cut) → 6 ≤ n
    → cut_within n (is_last taken) taken ≡ Some c → length c.after.taken < length taken
cut_shorter n taken c six is = by (nat_le n (length taken)) refl is
  where
    by : (b : Bool) → nat_le n (length taken) ≡ b
        → (if b then Some (cut_at n (is_last taken) taken) else None) ≡ Some c
        → length c.after.taken < length taken
    by true fits e =
        rw (← some_is _ _ e) (omega (arith, length-drop n taken, leb-true n (length taken) fits))
    by false fits e = absurd cc

-- A stream is shorter after its next buffer is cut off, because a buffer has at least one byte.
pub next_shorter : (s : Stream) (c : Cut) → next_of s ≡ Some c
    → length c.after.taken < length s.taken
next_shorter s c is = by s.ended s.taken (buffer_size s.taken) refl is
  where
    by : (ended : Bool) (taken : List ℕ) (o : Option ℕ) → buffer_size taken ≡ o
        → next_of (record { taken = taken; ended = ended }) ≡ Some c
        → length c.after.taken < length taken
    by true taken o size e = absurd cc
    by false taken None size e = absurd (let f = next_is taken None (Some c) size e in cc)
    by false taken (Some n) size e =
        cut_shorter n taken c (buffer_bounds taken n size).0
        (next_is taken (Some n) (Some c) size e)

-- ---- reading more bytes of a stream

-- Dividing a stream into buffers, and then adding bytes, has the same result as adding the bytes
-- first.
pub cut_fed : (done : List (List ℕ)) (s : Stream) (bytes : List ℕ)
    → fold with_byte (cut_with done s) bytes ≡ cut_with done (fed_stream s bytes)
cut_fed done s bytes = sym (fold-append with_byte (exact_cutting done s.ended) s.taken bytes)

-- Suppose that the bytes read so far consist of the executed buffers `done` and the stream `s`.
-- After one more read, they consist of `done` and `s` with the new bytes.
pub read_more : (read bytes : List ℕ) (done : List (List ℕ)) (s : Stream)
    → cut_of read ≡ cut_with done s → cut_of (read ++ bytes) ≡ cut_with done (fed_stream s bytes)
read_more read bytes done s is =
    fold-append with_byte (exact_cutting [] false) read bytes
    ∙ ap (λ (c : Cutting). fold with_byte c bytes) is ∙ cut_fed done s bytes

-- Suppose that cutting the buffers `done` off a stream leaves the stream `t`. Then cutting off
-- `done` and the next buffer of `t` leaves the bytes after that buffer.
pub cuts_one : (s t : Stream) (done : List (List ℕ)) (u : Stream) (c : Cut) → CutsTo s done t
    → next_of t ≡ Some c → u ≡ c.after → CutsTo s (done ++ c.buffer ∷ []) u
cuts_one s t done u c to is same before =
    to before ∙ cut_next (before ++ done) t c is
    ∙ ap (λ (l : List (List ℕ)). cut_with l c.after) (append_assoc before done (c.buffer ∷ []))
    ∙ ap (cut_with (before ++ (done ++ c.buffer ∷ []))) (sym same)

pub cuts_none : (s : Stream) → CutsTo s [] s
cuts_none s before = ap (λ (l : List (List ℕ)). cut_with l s) (sym (append-nil before))

-- Suppose that more bytes are read, and then more buffers are executed. The bytes read so far are
-- still divided into the executed buffers and the stream that is left.
pub read_on : (read bytes : List ℕ) (done more : List (List ℕ)) (s t u : Stream)
    → cut_of read ≡ cut_with done s → t ≡ fed_stream s bytes → CutsTo t more u
    → cut_of (read ++ bytes) ≡ cut_with (done ++ more) u
read_on read bytes done more s t u is same to =
    read_more read bytes done s is ∙ ap (cut_with done) (sym same) ∙ to done

-- When more bytes are read, the buffers of a stream stay the same, and new buffers may follow them.
pub buffers_stay : (c : Cutting) (bytes : List ℕ) → (more : List (List ℕ))
    × ((fold with_byte c bytes).buffers ≡ c.buffers ++ more)
buffers_stay c [] = ([], sym (append-nil c.buffers))
buffers_stay c (byte ∷ bytes) =
    let first = byte_stays c byte in
    let others = buffers_stay (with_byte c byte) bytes in (
      first.0 ++ others.0,
      others.1 ∙ ap (λ (l : List (List ℕ)). l ++ others.0) first.1
          ∙ append_assoc c.buffers first.0 others.0,
    )

-- A new stream contains no complete buffer.
pub next_opened : next_of new_stream ≡ None
unfolding command_size
next_opened = refl
