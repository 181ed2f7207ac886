-- `head_at` returns a head exactly when its argument begins with the encoding of this head.
use Rattle.std.proofs.Common.{◌≡◌, ℕ, ◌*◌, ◌/◌, ◌<◌, ◌^◌, Bool, true, false, List, ◌++◌, length, take, drop, Some, None, refl, ap, sym, subst, ◌∙◌}
use Rattle.std.specs.Prelude.{Decides, codes, cond}
use Rattle.std.specs.Int.{w32, from_be_bytes}
use Rattle.std.proofs.lemmas.Bool.{cond-false, cond-true}
use Rattle.std.proofs.lemmas.Bool.Decides.{Decides-and, Decides-like, Decides-ltb}
use Rattle.std.proofs.lemmas.List.{drop_at, take_at}
use Rattle.tpm_journal_text.specs.Head.{HasHead, IsKind, content_limit, head_mark, head_sum, head_text, head_word, version_number}
use Rattle.tpm_journal_text.specs.Places.{HeadStands}
use Rattle.tpm_journal_text.specs.declared.head.HeadKind.{HeadKind}
use Rattle.tpm_journal_text.specs.declared.head.HeadKind.TheVariants.{Image, State, Versioned}
use Rattle.tpm_journal_text.proofs.HeadStanding.{head_line_stands, head_mark_bytes, head_mark_many, head_stands, is_image, is_state, is_versioned, version_bytes, version_digits, version_read, version_text, word_many}
use Rattle.tpm_journal_text.proofs.Pieces.{line_digits}
use Rattle.tpm_kept_journal.specs.texts.HeadAt.{PlainHead, begins_with_head, head_at, head_by, head_mark_in, is_head, is_kind, kind_in, text_of_head, version_in}
use Rattle.tpm_kept_journal.specs.texts.Parts.{begins_with, hex_at, where_so}
use Rattle.tpm_image_text.proofs.Bytes.{are_bytes-Decides}
use Rattle.tpm_kept_journal.proofs.texts.Parts.{Decides-leb, begins, begins_with-Decides, hex_is_at, not_told, so_found, so_told}

-- ---- the test of a head's fields

is_kind-Decides : (kind : HeadKind) → Decides (is_kind kind) (IsKind kind)
is_kind-Decides Image = (λ so. tt, λ is. refl)
is_kind-Decides State = (λ so. tt, λ is. refl)
is_kind-Decides (Versioned version) = Decides-ltb (version_number version) (2 ^ 32)

pub is_head-Decides : (h : PlainHead) → Decides (is_head h) (HasHead h.kind h.clock h.content)
unfolding is_head
is_head-Decides h =
    Decides-like (is_head h)
    (λ p. record { named = p.0; in_time = p.1.0; small = p.1.1.0; are_bytes = p.1.1.1 })
    (λ has. (has.named, (has.in_time, (has.small, has.are_bytes))))
    (Decides-and _ _ (is_kind-Decides h.kind)
    (Decides-and _ _ (Decides-ltb h.clock (2 ^ 64))
    (Decides-and _ _ (Decides-leb (length h.content) (content_limit h.kind))
    (are_bytes-Decides h.content))))

-- ---- the parts of a head

version_is : (version : ℕ) (text more : List ℕ) → version_number version < 2 ^ 32
    → text ≡ head_word (Versioned version) ++ more → version_in text ≡ version
version_is version text more small t =
    ap (λ (l : List ℕ). from_be_bytes w32 l / 251)
    (hex_is_at 10 4 text (version_text version) (version_bytes version) refl
    (version_digits version text more t))
    ∙ version_read version small

kind_is : (kind : HeadKind) (clock : ℕ) (content rest text : List ℕ) → IsKind kind
    → text ≡ head_text kind clock content ++ rest → kind_in text ≡ kind
unfolding kind_in
kind_is kind clock content rest text is t = first (begins_with text (codes "# tpmsim v")) refl
  where
    by : (b : Bool) → begins_with text (head_word State) ≡ b
        → begins_with text (codes "# tpmsim v") ≡ false
        → cond (begins_with text (head_word State)) State Image ≡ kind
    by true so none =
        let front = (begins_with-Decides text (head_word State)).0 so in
        cond-true (begins_with text (head_word State)) State Image so
        ∙ is_state (head_word State) text rest kind clock content is refl
        (ap (take (length (head_word State))) front
        ∙ take_at (head_word State) (drop (length (head_word State)) text)
        (length (head_word State)) refl) t
    by false not none =
        cond-false (begins_with text (head_word State)) State Image not
        ∙ is_image (head_word State) text rest (begins_with text (head_word State))
        (begins_with text (codes "# tpmsim v")) kind clock content refl
        (λ more m. begins text (head_word State) more m) not
        (λ more m. begins text (codes "# tpmsim v") more m) none t

    first : (b : Bool) → begins_with text (codes "# tpmsim v") ≡ b
        → cond (begins_with text (codes "# tpmsim v")) (Versioned (version_in text))
        (cond (begins_with text (head_word State)) State Image) ≡ kind
    first true so =
        let front = (begins_with-Decides text (codes "# tpmsim v")).0 so in
        cond-true (begins_with text (codes "# tpmsim v")) (Versioned (version_in text))
        (cond (begins_with text (head_word State)) State Image) so
        ∙ is_versioned text rest (version_in text) kind clock content is
        (λ version more small m. version_is version text more small m)
        (ap (take 10) front
        ∙ take_at (codes "# tpmsim v") (drop (length (codes "# tpmsim v")) text) 10 refl) t
    first false not =
        cond-false (begins_with text (codes "# tpmsim v")) (Versioned (version_in text))
        (cond (begins_with text (head_word State)) State Image) not
        ∙ by (begins_with text (head_word State)) refl not

mark_is : (kind : HeadKind) (clock : ℕ) (content rest text : List ℕ)
    → text ≡ head_text kind clock content ++ rest
    → head_mark_in text ≡ head_mark clock content
unfolding head_mark_in
mark_is kind clock content rest text t =
    let mark = head_mark clock content in
    let many = head_mark_many clock content in
    hex_is_at 19 20 text mark (head_mark_bytes clock content) (sym many)
    (ap (λ (n : ℕ). take (2 * n) (drop 19 text)) many
    ∙ ap (λ (n : ℕ). take 40 (drop n text)) (sym (word_many kind))
    ∙ line_digits (head_word kind) mark text (head_sum clock content) 77 20 many
    (head_line_stands kind clock content text rest t))

head_made : HeadKind → (clock : ℕ) → (content : List ℕ) → PlainHead
head_made kind clock content = record { kind = kind; clock = clock; content = content }

-- `head_by` returns a head if its numbers are in the mark, and its content is at its offset in the
-- bytes.
stands_told : (kind : HeadKind) (clock : ℕ) (content mark text : List ℕ)
    → HeadStands kind clock content mark text
    → head_by kind mark text ≡ record { kind = kind; clock = clock; content = content }
unfolding head_by head_made
stands_told kind clock content mark text at =
    let count = from_be_bytes w32 (take 4 (drop 8 mark)) in
    ap (λ (n : ℕ). head_made kind n (hex_at 79 count text)) at.clock_told
    ∙ ap (head_made kind clock)
    (hex_is_at 79 count text content at.has.are_bytes at.count_told at.content_told)

-- ---- the head at the start of the bytes

head_is : (h : PlainHead) (rest text : List ℕ) → HasHead h.kind h.clock h.content
    → text ≡ text_of_head h ++ rest
    → head_by (kind_in text) (head_mark_in text) text ≡ h
head_is h rest text has t =
    let kind = kind_is h.kind h.clock h.content rest text has.named t in
    let mark = mark_is h.kind h.clock h.content rest text t in
    ap (λ (k : HeadKind). head_by k (head_mark_in text) text) kind
    ∙ ap (λ (m : List ℕ). head_by h.kind m text) mark
    ∙ stands_told h.kind h.clock h.content (head_mark h.clock h.content) text
    (head_stands h.kind h.clock h.content (head_mark h.clock h.content) text rest has
    (head_mark_many h.clock h.content) (head_mark_bytes h.clock h.content)
    (head_line_stands h.kind h.clock h.content text rest t) t)

begins_with_its_head : (text : List ℕ) (h : PlainHead) → Decides (begins_with_head text h)
    (HasHead h.kind h.clock h.content
    × (text ≡ text_of_head h ++ drop (length (text_of_head h)) text))
begins_with_its_head text h =
    Decides-and (is_head h) (begins_with text (text_of_head h)) (is_head-Decides h)
    (begins_with-Decides text (text_of_head h))

pub head_at_front : (h : PlainHead) (rest text : List ℕ) → HasHead h.kind h.clock h.content
    → text ≡ text_of_head h ++ rest → head_at text ≡ Some h
unfolding head_at
head_at_front h rest text has t =
    ap (λ (g : PlainHead). where_so (begins_with_head text g) g) (head_is h rest text has t)
    ∙ so_told (begins_with_head text h) h
    ((begins_with_its_head text h).1 (
      has,
      t ∙ ap (λ (l : List ℕ). text_of_head h ++ l)
          (sym (ap (drop (length (text_of_head h))) t
          ∙ drop_at (text_of_head h) rest (length (text_of_head h)) refl)),
    ))

pub head_again : (h : PlainHead) (rest : List ℕ) → HasHead h.kind h.clock h.content
    → head_at (text_of_head h ++ rest) ≡ Some h
head_again h rest has = head_at_front h rest (text_of_head h ++ rest) has refl

pub head_found : (text : List ℕ) (h : PlainHead) → head_at text ≡ Some h
    → HasHead h.kind h.clock h.content
    × (text ≡ text_of_head h ++ drop (length (text_of_head h)) text)
unfolding head_at
head_found text h found =
    let mine = head_by (kind_in text) (head_mark_in text) text in
    let so = so_found (begins_with_head text mine) mine h found in
    subst (λ (g : PlainHead). HasHead g.kind g.clock g.content
    × (text ≡ text_of_head g ++ drop (length (text_of_head g)) text)) so.1
    ((begins_with_its_head text mine).0 so.0)

pub no_head : (text : List ℕ)
    → ((h : PlainHead) (rest : List ℕ) → HasHead h.kind h.clock h.content
    → text ≡ text_of_head h ++ rest → ⊥) → head_at text ≡ None
unfolding head_at
no_head text none =
    let mine = head_by (kind_in text) (head_mark_in text) text in
    not_told (begins_with_head text mine) mine (λ so. (
    let is = (begins_with_its_head text mine).0 so in
    none mine (drop (length (text_of_head mine)) text) is.0 is.1
    ))
