-- Lemmas about adding one encoding after another to a draft.
use Rattle.tpm_types_common.specs.Limits.{buffer_limit}
use Rattle.std.proofs.Common.{◌≡◌, ℕ, ◌+◌, ◌<◌, ◌≤◌, Bool, true, false, List, ◌++◌, length, Option, Some, None, Result, Ok, Err, refl, sym, ap, ◌∙◌, arith, append_assoc, length-append}
use Rattle.std.specs.Prelude.{nat_le}
use Rattle.std.specs.Int.{w16, to_be_bytes}
use Rattle.std.proofs.lemmas.Bool.{le-leb, leb-false, leb-true, lt-leb}
use Rattle.tpm_bytes.specs.Reading.{◌>>=◌}
use Rattle.tpm_bytes.specs.Writing.{sized_text}
use Rattle.tpm_text.specs.Draft.{Drafts, grown_draft}
use Rattle.tpm_text.specs.Hex.{IsChecked}

pub fits : (text bytes : List ℕ) → length text + length bytes ≤ buffer_limit
    → grown_draft (Some text) bytes ≡ Some (text ++ bytes)
unfolding grown_draft
fits text bytes h = rw (le-leb (length text + length bytes) buffer_limit h) refl

pub spills : (text bytes : List ℕ) → buffer_limit < length text + length bytes
    → grown_draft (Some text) bytes ≡ None
unfolding grown_draft
spills text bytes h = rw (lt-leb (length text + length bytes) buffer_limit h) refl

pub none_grows : (bytes : List ℕ) → grown_draft None bytes ≡ None
unfolding grown_draft
none_grows bytes = refl

pub grown-grown : (draft : Option (List ℕ)) (a b : List ℕ)
    → grown_draft (grown_draft draft a) b ≡ grown_draft draft (a ++ b)
grown-grown None a b = ap (λ d. grown_draft d b) (none_grows a) ∙ none_grows b
    ∙ sym (none_grows (a ++ b))
grown-grown (Some text) a b =
    by (nat_le (length text + length a) buffer_limit)
    refl (nat_le (length text + (length a + length b)) buffer_limit) refl
  where
    by : (fits_a : Bool) → nat_le (length text + length a) buffer_limit ≡ fits_a
        → (fits_both : Bool) → nat_le (length text + (length a + length b)) buffer_limit ≡ fits_both
        → grown_draft (grown_draft (Some text) a) b ≡ grown_draft (Some text) (a ++ b)
    by true e true f =
        let short = leb-true _ _ e in let whole = leb-true _ _ f in
        ap (λ d. grown_draft d b) (fits text a short)
        ∙ fits (text ++ a) b (omega (arith, whole, length-append text a))
        ∙ ap Some (append_assoc text a b)
        ∙ sym (fits text (a ++ b) (omega (arith, whole, length-append a b)))
    by true e false f =
        let short = leb-true _ _ e in let long = leb-false _ _ f in
        ap (λ d. grown_draft d b) (fits text a short)
        ∙ spills (text ++ a) b (omega (arith, long, length-append text a))
        ∙ sym (spills text (a ++ b) (omega (arith, long, length-append a b)))
    by false e _ f =
        let long = leb-false _ _ e in
        ap (λ d. grown_draft d b) (spills text a long) ∙ none_grows b
        ∙ sym (spills text (a ++ b) (omega (arith, long, length-append a b)))

-- Writing the first part of an encoding, and then the rest, writes the whole encoding.
pub drafted_behind : {E : Type 0} (front : List ℕ) (rest : Result (List ℕ) E)
    (old middle : Option (List ℕ)) (result : Result (Unit {0}) E) (new : Option (List ℕ))
    → middle ≡ grown_draft old front → Drafts rest middle result new
    → Drafts (rest >>= λ bytes. Ok (front ++ bytes)) old result new
drafted_behind front (Ok bytes) old middle (Ok done) new m h =
    h ∙ ap (λ d. grown_draft d bytes) m ∙ grown-grown old front bytes
drafted_behind front (Ok bytes) old middle (Err fault) new m h = absurd h
drafted_behind front (Err fault) old middle (Ok done) new m h = absurd h
drafted_behind front (Err fault) old middle (Err found) new m h = h

-- Writing a size, and then that many bytes, writes a sized buffer.
pub sized_behind : {E : Type 0} (count : ℕ) (rest : Result (List ℕ) E)
    (old middle : Option (List ℕ)) (result : Result (Unit {0}) E) (new : Option (List ℕ))
    → ((bytes : List ℕ) → rest ≡ Ok bytes → count ≡ length bytes)
    → middle ≡ grown_draft old (to_be_bytes w16 count) → Drafts rest middle result new
    → Drafts (rest >>= λ bytes. Ok (sized_text bytes)) old result new
sized_behind count (Ok bytes) old middle (Ok done) new size m h =
    h ∙ ap (λ d. grown_draft d bytes) m ∙ grown-grown old (to_be_bytes w16 count) bytes
    ∙ ap (λ n. grown_draft old (to_be_bytes w16 n ++ bytes)) (size bytes refl)
sized_behind count (Ok bytes) old middle (Err fault) new size m h = absurd h
sized_behind count (Err fault) old middle (Ok done) new size m h = absurd h
sized_behind count (Err fault) old middle (Err found) new size m h = h

-- Adding more bytes than a command may have makes the draft None, whatever it contained.
pub too_much : (draft : Option (List ℕ)) (bytes : List ℕ) → buffer_limit < length bytes
    → grown_draft draft bytes ≡ None
too_much None bytes long = none_grows bytes
too_much (Some text) bytes long = spills text bytes (omega (arith, long))

pub sized_too_long : {E : Type 0} (rest : Result (List ℕ) E) (old : Option (List ℕ))
    (result : Result (Unit {0}) E)
    → ((bytes : List ℕ) → rest ≡ Ok bytes → buffer_limit < length bytes) → IsChecked rest result
    → Drafts (rest >>= λ bytes. Ok (sized_text bytes)) old result None
sized_too_long (Ok bytes) old (Ok done) long h = let more =
    long bytes refl in
    sym (too_much old (sized_text bytes)
    (omega (arith, more, length-append (to_be_bytes w16 (length bytes)) bytes)))
sized_too_long (Ok bytes) old (Err fault) long h = absurd h
sized_too_long (Err fault) old (Ok done) long h = absurd h
sized_too_long (Err fault) old (Err found) long h = h

-- A successful write extends the draft by the encoding that the definition returns.
pub drafts_ok : {E : Type 0} (read : Result (List ℕ) E) (old new : Option (List ℕ))
    (result : Result (Unit {0}) E) → result ≡ Ok tt → Drafts read old result new
    → (text : List ℕ) × (read ≡ Ok text) × (new ≡ grown_draft old text)
drafts_ok (Ok text) old new (Ok done) e h = (text, refl, h)
drafts_ok (Ok text) old new (Err found) e h = absurd h
drafts_ok (Err fault) old new (Ok done) e h = absurd h
drafts_ok (Err fault) old new (Err found) e h = absurd cc

pub drafts_err : {E : Type 0} (read : Result (List ℕ) E) (old new : Option (List ℕ))
    (result : Result (Unit {0}) E) (fault : E) → result ≡ Err fault → Drafts read old result new
    → read ≡ Err fault
drafts_err (Ok text) old new (Ok done) fault e h = absurd cc
drafts_err (Ok text) old new (Err found) fault e h = absurd h
drafts_err (Err other) old new (Ok done) fault e h = absurd h
drafts_err (Err other) old new (Err found) fault e h = ap Err (sym h ∙ cc)
