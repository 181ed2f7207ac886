-- The head that encodes a state starts a device in that state, whatever bytes follow the head.
use Rattle.std.proofs.Common.{◌≡◌, ◌≤◌, ◌+◌, ◌==◌, ◌&&◌, ℕ, suc, Bool, true, false, cond, List, [], ◌∷◌, ◌++◌, length, take, Option, Some, None, Result, Ok, Err, refl, sym, ap, ◌∙◌, append-nil, arith, drop_at, take_at, take_all, get_or-drop, length-append, length-drop, eq-eqb, eqb-true, le-leb, drop_of_length-le}
use Rattle.std.specs.Prelude.{is_some, nat_le}
use Rattle.std.specs.Int.{w64, to_be_bytes}
use Rattle.std.proofs.lemmas.Bool.{false≢true}
use Rattle.std.proofs.lemmas.List.{take-append-drop, length-take-le}
use Rattle.tpm_bytes.specs.Reading.{AreBytes}
use Rattle.tpm_bytes.proofs.Fields.{AreBytes-take}
use Rattle.tpm_image_text.proofs.FieldSpelling.{wide64}
use Rattle.tpm_journal.specs.Starting.{Start, start_by, start_by_state}
use Rattle.tpm_journal.specs.declared.opening.OpenFault.{OpenFault}
use Rattle.tpm_journal_text.specs.Head.{HasHead, content_limit, current_kind, head_sum, head_text}
use Rattle.tpm_journal_text.specs.Marked.{marked_line}
use Rattle.tpm_journal_text.specs.declared.head.HeadKind.{HeadKind}
use Rattle.tpm_journal_text.specs.declared.head.HeadKind.TheVariants.{Image, State, Versioned}
use Rattle.tpm_keeping.specs.Journal.{Spot}
use Rattle.tpm_snapshot.specs.Layer.{completion_of}
use Rattle.tpm_state_text.specs.Body.{WholeState}
use Rattle.tpm_state_text.specs.State.{state_of_text, state_text}
use Rattle.tpm_state_text.specs.declared.fault.StateFault.{StateFault}
use Rattle.tpm_state_text.specs.declared.layer.Layer.{Layer}
use Rattle.tpm_state_text.proofs.StateLaws.{front_short, text_found}
use Rattle.tpm_kept_journal.specs.Opening.{after_head_text, head_of, head_sum_of, is_state_text, no_head, opened_text, spot_after_walk, spot_by, started_at, started_by, started_no_head, walked_after, whole_head}
use Rattle.tpm_kept_journal.specs.State.{DeviceState, bytes_of, content_in, state_of_bytes, time_in}
use Rattle.tpm_kept_journal.specs.texts.HeadAt.{PlainHead, head_at, text_of_head}
use Rattle.tpm_image_text.specs.Fields.{are_bytes}
use Rattle.tpm_kept_journal.proofs.States.{IsStateText, layer_back, text_says}
use Rattle.tpm_kept_journal.proofs.Walks.{spot_made}
use Rattle.tpm_kept_journal.proofs.texts.HeadAt.{head_again, head_found}
use Rattle.tpm_image_text.proofs.Bytes.{are_bytes-Decides}
use Rattle.tpm_kept_journal.proofs.texts.Parts.{Decides-leb, so_found, so_told}

-- ---- bytes that encode a state

-- The bytes encode a state that can be written in a head.
pub record IsWritable (text : List ℕ) : Type 0 where
  pub are : AreBytes text
  pub says : IsStateText text
  pub small : length (content_in text) ≤ content_limit current_kind

some_state : (text : List ℕ) (found : Option DeviceState) → state_of_bytes text ≡ found
    → is_some found ≡ true → IsStateText text
some_state text (Some s) e is = text_says text s e
some_state text None e is = absurd cc

both_true : (a b : Bool) → (a && b) ≡ true → (a ≡ true) × (b ≡ true)
both_true true b is = (refl, is)
both_true false b is = absurd (false≢true is)

pub writable : (text : List ℕ) → is_state_text text ≡ true → IsWritable text
unfolding is_state_text
writable text is =
    let parts = both_true (are_bytes text) _ is in
    let others = both_true (is_some (state_of_bytes text)) _ parts.1 in
    record {
      are = (are_bytes-Decides text).0 parts.0;
      says = some_state text (state_of_bytes text) refl others.0;
      small = (Decides-leb (length (content_in text)) (content_limit current_kind)).0 others.1;
    }

-- If every element of a list is a byte, every element after the first eight is also a byte.
content_bytes : (text : List ℕ) → AreBytes text → AreBytes (content_in text)
content_bytes text are i = rw get_or-drop (are (8 + i))

abbrev head_is : (text : List ℕ) → PlainHead
head_is text = record { kind = current_kind; clock = time_in text; content = content_in text }

has_head : (text : List ℕ) → IsWritable text → HasHead current_kind (time_in text) (content_in text)
has_head text is = record {
  named = omega arith;
  in_time = wide64.below (take 8 text) (AreBytes-take 8 text is.are);
  small = is.small;
  are_bytes = content_bytes text is.are;
}

-- An encoded state has at least eight bytes, which encode the time.
content_some : (text : List ℕ) (whole : WholeState)
    → state_of_text (content_in text) ≡ Ok whole → 8 ≤ length text
content_some text whole says = long (content_in text) refl
  where
    long : (content : List ℕ) → content_in text ≡ content → 8 ≤ length text
    long [] none =
        let no : Ok whole ≡ Err _ = sym says ∙ ap state_of_text none
        ∙ front_short [] 0 (omega arith) in
        absurd cc
    long (byte ∷ content) some = omega (arith, ap length some, length-drop 8 text)

-- If bytes decode to a state, encoding this state gives the same bytes.
text_again : (text : List ℕ) (is : IsWritable text)
    → bytes_of (record {
      time = time_in text;
      layer = completion_of (Some is.says.layer);
      device =
          is.says.device;
    }) ≡ text
unfolding bytes_of
text_again text is =
    let says = is.says in
    let long : 8 ≤ length text = content_some text _ says.says in
    let time : to_be_bytes w64 (time_in text) ≡ take 8 text =
    wide64.back (take 8 text) (length-take-le 8 text long) (AreBytes-take 8 text is.are) in
    let whole : content_in text ≡ state_text
    (record { device = says.device; layer = Some says.layer }) =
    (text_found (content_in text) _ (content_bytes text is.are) says.says).1 in
    ap (λ (l : Layer). to_be_bytes w64 (time_in text)
    ++ state_text (record { device = says.device; layer = Some l })) (layer_back says.layer)
    ∙ ap (λ (l : List ℕ). to_be_bytes w64 (time_in text) ++ l) (sym whole)
    ∙ ap (λ (l : List ℕ). l ++ content_in text) time
    ∙ take-append-drop 8 text

-- ---- heads

-- If the bytes begin with the encoding of a head, `started_at` reads it with `head_at`, and does
-- not treat it as a `no_head`.
head_first : (kind : HeadKind) (clock : ℕ) (content rest : List ℕ)
    → started_at (head_text kind clock content ++ rest)
    ≡ started_by (head_at (head_text kind clock content ++ rest))
unfolding head_text marked_line
head_first Image clock content rest = refl
head_first State clock content rest = refl
head_first (Versioned version) clock content rest = refl

-- A head that can be written starts the device that it contains.
pub head_starts : (h : PlainHead) (rest : List ℕ) → HasHead h.kind h.clock h.content
    → started_at (text_of_head h ++ rest)
    ≡ spot_by (length (text_of_head h)) (start_by h.kind h.clock h.content)
head_starts h rest has = head_first h.kind h.clock h.content rest
    ∙ ap started_by (head_again h rest has)

-- The head that contains an encoded state starts the device in that state.
state_starts : (text : List ℕ) (is : IsWritable text)
    → spot_by (length (head_text current_kind (time_in text) (content_in text)))
    (start_by current_kind (time_in text) (content_in text))
    ≡ Some (
      spot_made text (head_sum (time_in text) (content_in text)),
      length (head_text current_kind (time_in text) (content_in text)),
    )
state_starts text is =
    let size : ℕ = length (head_text current_kind (time_in text) (content_in text)) in
    ap (λ (r : Result WholeState StateFault). spot_by size
    (start_by_state (time_in text) (content_in text) r)) is.says.says
    ∙ ap (λ (l : List ℕ). Some (spot_made l (head_sum (time_in text) (content_in text)), size))
    (text_again text is)

whole_is : (size : ℕ) (p : Spot) → whole_head size (Some (p, size)) ≡ Some p
whole_is size p = so_told (size == size) p (eq-eqb size size refl)

-- ---- the head for a state

head_by : (so : Bool) (text : List ℕ) → (so ≡ true → IsWritable text)
    → whole_head
    (length (cond so (head_text current_kind (time_in text) (content_in text)) (no_head text)))
    (started_at (cond so (head_text current_kind (time_in text) (content_in text)) (no_head text)))
    ≡ Some (spot_made text (cond so (head_sum (time_in text) (content_in text)) 0))
head_by true text is =
    let head : List ℕ = head_text current_kind (time_in text) (content_in text) in
    let starts : started_at head
    ≡ Some (spot_made text (head_sum (time_in text) (content_in text)), length head) =
    ap started_at (sym (append-nil head)) ∙ head_starts (head_is text) [] (has_head text (is refl))
    ∙ state_starts text (is refl) in
    ap (whole_head (length head)) starts
    ∙ whole_is (length head) (spot_made text (head_sum (time_in text) (content_in text)))
head_by false text is =
    let size : ℕ = 2 + length text in
    let found : started_no_head (length text) text ≡ Some (spot_made text 0, size) =
    so_told (nat_le (length text) (length text)) (spot_made (take (length text) text) 0, size)
    (le-leb _ _ (omega arith))
    ∙ ap (λ (l : List ℕ). Some (spot_made l 0, size)) (take_all (length text) text (omega arith)) in
    let long : length (no_head text) ≡ size = omega arith in
    ap (λ (n : ℕ). whole_head n (started_no_head (length text) text)) long
    ∙ ap (whole_head size) found ∙ whole_is size (spot_made text 0)

pub heads : (text : List ℕ) → after_head_text (head_of text)
    ≡ Some (spot_made text (head_sum_of text))
unfolding after_head_text head_of head_sum_of
heads text = head_by (is_state_text text) text (writable text)

-- ---- bytes after a head

found_head : (size : ℕ) (found : Option (Spot × ℕ)) (p : Spot) → whole_head size found ≡ Some p
    → found ≡ Some (p, size)
found_head size None p is = absurd cc
found_head size (Some found) p is =
    let so = so_found (found.1 == size) found.0 p is in
    let here : found.1 ≡ size = eqb-true found.1 size so.0 in
    ap (λ (n : ℕ). Some (found.0, n)) here ∙ ap (λ (q : Spot). Some (q, size)) so.1

abbrev count_of : Option (Spot × ℕ) → ℕ
count_of None = 0
count_of (Some found) = found.1

started_whole : (size : ℕ) (start : Result Start OpenFault) (p : Spot) (n : ℕ)
    → spot_by size start ≡ Some (p, n) → size ≡ n
started_whole size (Ok start) p n is = ap count_of is
started_whole size (Err why) p n is = absurd cc

-- If the bytes are exactly one head, the same head is found when further bytes follow.
head_alone : (head : List ℕ) (found : Option PlainHead) (p : Spot) → head_at head ≡ found
    → started_by found ≡ Some (p, length head)
    → (rest : List ℕ) → head_at (head ++ rest) ≡ head_at head
head_alone head None p at is rest = absurd cc
head_alone head (Some h) p at is rest =
    let found = head_found head h at in
    let size : length (text_of_head h) ≡ length head =
    started_whole (length (text_of_head h)) (start_by h.kind h.clock h.content) p (length head)
    is in
    let same : head ≡ text_of_head h =
    found.1 ∙ ap (λ (l : List ℕ). text_of_head h ++ l)
    (drop_of_length-le head {i = length (text_of_head h)} (omega (arith, size)))
    ∙ append-nil (text_of_head h) in
    ap (λ (l : List ℕ). head_at (l ++ rest)) same ∙ head_again h rest found.0 ∙ sym at

no_head_behind : (count : ℕ) (text rest : List ℕ) (p : Spot)
    → started_no_head count text ≡ Some (p, suc (suc (length text)))
    → started_no_head count (text ++ rest) ≡ Some (p, suc (suc (length text)))
no_head_behind count text rest p is =
    let so = so_found (nat_le count (length text)) (spot_made (take count text) 0, 2 + count)
    (p, suc (suc (length text))) is in
    let all : count ≡ length text = omega (arith, ap (λ (f : Spot × ℕ). f.1) so.1) in
    so_told (nat_le count (length (text ++ rest)))
    (spot_made (take count (text ++ rest)) 0, 2 + count)
    (le-leb _ _ (omega (arith, all, length-append text rest)))
    ∙ ap (λ (l : List ℕ). Some (spot_made l 0, 2 + count))
    (take_at text rest count (sym all) ∙ sym (take_all count text (omega (arith, all))))
    ∙ ap (λ (f : Spot × ℕ). Some f) so.1

head_behind : (so : Bool) (first second : ℕ) (text rest : List ℕ) (p : Spot)
    → cond so (started_no_head second text) (started_by (head_at (first ∷ second ∷ text)))
    ≡ Some (p, suc (suc (length text)))
    → cond so (started_no_head second (text ++ rest))
    (started_by (head_at (first ∷ second ∷ (text ++ rest)))) ≡ Some (p, suc (suc (length text)))
head_behind true first second text rest p is = no_head_behind second text rest p is
head_behind false first second text rest p is =
    ap started_by (head_alone (first ∷ second ∷ text) (head_at (first ∷ second ∷ text)) p refl is
    rest) ∙ is

started_behind : (head rest : List ℕ) (p : Spot) → started_at head ≡ Some (p, length head)
    → started_at (head ++ rest) ≡ Some (p, length head)
started_behind [] rest p is = absurd cc
started_behind (first ∷ []) rest p is = absurd cc
started_behind (first ∷ second ∷ text) rest p is =
    head_behind (first == 256) first second text rest p is

-- Opening a head with further bytes executes these bytes from the position after the head.
pub opened_after : (head rest : List ℕ) (p : Spot) → after_head_text head ≡ Some p
    → opened_text (head ++ rest) ≡ spot_after_walk p (length head) rest
unfolding after_head_text opened_text
opened_after head rest p is =
    let starts : started_at (head ++ rest) ≡ Some (p, length head) =
    started_behind head rest p (found_head (length head) (started_at head) p is) in
    ap (walked_after (head ++ rest)) starts
    ∙ ap (spot_after_walk p (length head)) (drop_at head rest (length head) refl)
