-- The parts of a head are at the expected offsets in its mark and in its encoding.
use Rattle.std.proofs.Common.{◌≡◌, ℕ, ◌*◌, ◌/◌, ◌≤◌, ◌<◌, ◌^◌, List, [], ◌∷◌, ◌++◌, length, take, drop, get_or, Bool, true, false, refl, ap, sym, ◌∙◌, append_assoc, arith, length-append}
use Rattle.std.specs.Prelude.{codes}
use Rattle.std.specs.Int.{w32, w64, from_be_bytes, to_be_bytes}
use Rattle.std.proofs.lemmas.List.{take_at, drop_at, take-append-drop}
use Rattle.std.proofs.lemmas.Nat.{from_be_bytes-to_be_bytes_4, from_be_bytes-to_be_bytes_8}
use Rattle.hex.specs.Hex.{encode_lower, lower_digits}
use Rattle.hex.proofs.HexLemmas.{length-encode_with}
use Rattle.tpm_bytes.specs.Reading.{AreBytes}
use Rattle.tpm_journal_text.specs.Head.{HasHead, IsHeadOf, IsKind, content_limit, head_mark, head_size, head_sum, head_text, head_word, version_number}
use Rattle.tpm_journal_text.specs.declared.head.HeadKind.{HeadKind}
use Rattle.tpm_journal_text.specs.declared.head.HeadKind.TheVariants.{Image, State, Versioned}
use Rattle.tpm_journal_text.specs.Marked.{marked_line}
use Rattle.tpm_journal_text.specs.declared.head.Head.{Head}
use Rattle.tpm_journal_text.specs.Places.{HeadStands}
use Rattle.tpm_journal_text.specs.Sum.{offset_basis, sum_from}
use Rattle.tpm_journal_text.proofs.Bytes.{all_small}
use Rattle.tpm_journal_text.proofs.Pieces.{front_of, hex_same, line_length, line_same}

pub head_mark_many : (clock : ℕ) (content : List ℕ) → length (head_mark clock content) ≡ 20
unfolding head_mark
head_mark_many clock content = refl

pub head_mark_bytes : (clock : ℕ) (content : List ℕ) → AreBytes (head_mark clock content)
unfolding head_mark
head_mark_bytes clock content =
    all_small (head_mark clock content) (
      omega arith,
      (
        omega arith,
        (
          omega arith,
          (
            omega arith,
            (
              omega arith,
              (
                omega arith,
                (
                  omega arith,
                  (
                    omega arith,
                    (
                      omega arith,
                      (
                        omega arith,
                        (
                          omega arith,
                          (
                            omega arith,
                            (
                              omega arith,
                              (
                                omega arith,
                                (
                                  omega arith,
                                  (
                                    omega arith,
                                    (omega arith, (omega arith, (omega arith, (omega arith, tt)))),
                                  ),
                                ),
                              ),
                            ),
                          ),
                        ),
                      ),
                    ),
                  ),
                ),
              ),
            ),
          ),
        ),
      ),
    )

limit_small : (kind : HeadKind) → content_limit kind ≤ 40960
limit_small Image = omega arith
limit_small State = omega arith
limit_small (Versioned version) = omega arith

clock_is : (kind : HeadKind) (clock : ℕ) (content : List ℕ) → HasHead kind clock content
    → from_be_bytes w64 (take 8 (head_mark clock content)) ≡ clock
unfolding head_mark
clock_is kind clock content has = from_be_bytes-to_be_bytes_8 clock has.in_time

count_is : (kind : HeadKind) (clock : ℕ) (content : List ℕ) → HasHead kind clock content
    → from_be_bytes w32 (take 4 (drop 8 (head_mark clock content))) ≡ length content
unfolding head_mark
count_is kind clock content has =
    from_be_bytes-to_be_bytes_4 (length content) (omega (arith, has.small, limit_small kind))

regrouped : (line word content end rest : List ℕ)
    → (line ++ word ++ content ++ end) ++ rest ≡ (line ++ word) ++ (content ++ (end ++ rest))
regrouped line word content end rest = simp append_assoc refl

-- the line for a head's mark
head_line : HeadKind → (clock : ℕ) → (content : List ℕ) → List ℕ
head_line kind clock content =
    marked_line (head_word kind) (head_mark clock content) (head_sum clock content)

parts : (kind : HeadKind) (clock : ℕ) (content rest : List ℕ) → head_text kind clock content ++ rest
    ≡ (head_line kind clock content ++ codes "# ") ++ (encode_lower content ++ (10 ∷ [] ++ rest))
unfolding head_text head_line
parts kind clock content rest =
    regrouped (marked_line (head_word kind) (head_mark clock content) (head_sum clock content)) (codes "# ") (encode_lower content) (10 ∷ []) rest

-- the four bytes that encode a version
abbrev pub version_text : (version : ℕ) → List ℕ
version_text version = to_be_bytes w32 (version_number version)

digits_many : (version : ℕ) → length (encode_lower (version_text version)) ≡ 8
digits_many version = length-encode_with lower_digits (version_text version)

pub word_many : (kind : HeadKind) → length (head_word kind) ≡ 19
word_many Image = refl
word_many State = refl
word_many (Versioned version) = omega (
  arith,
  length-append (codes "# tpmsim v") (encode_lower (version_text version)),
  length-append (codes "# tpmsim v" ++ encode_lower (version_text version)) (32 ∷ []),
  digits_many version,
)

head_line_many : (kind : HeadKind) (clock : ℕ) (content : List ℕ)
    → length (head_line kind clock content) ≡ 77
unfolding head_line
head_line_many kind clock content =
    omega (
      arith,
      line_length (head_word kind) (head_mark clock content) (head_sum clock content) 20
          (head_mark_many clock content),
      word_many kind,
    )

before_many : (kind : HeadKind) (clock : ℕ) (content : List ℕ) → length (head_line kind clock content ++ codes "# ") ≡ 79
before_many kind clock content = omega (arith, head_line_many kind clock content, length-append (head_line kind clock content) (codes "# "))

-- the bytes that follow the line with the head's mark: the line with the content in hex, then the
-- rest
behind_line : (content rest : List ℕ) → List ℕ
behind_line content rest = codes "# " ++ (encode_lower content ++ (10 ∷ [] ++ rest))

line_first : (kind : HeadKind) (clock : ℕ) (content rest : List ℕ)
    → head_text kind clock content ++ rest ≡ head_line kind clock content
    ++ behind_line content rest
unfolding behind_line
line_first kind clock content rest =
    parts kind clock content rest ∙ append_assoc (head_line kind clock content) (codes "# ") (encode_lower content ++ (10 ∷ [] ++ rest))

-- An encoded head begins with the line for its mark.
pub head_line_stands : (kind : HeadKind) (clock : ℕ) (content text rest : List ℕ)
    → text ≡ head_text kind clock content ++ rest
    → take 77 text ≡ marked_line (head_word kind) (head_mark clock content) (head_sum clock content)
unfolding head_line
head_line_stands kind clock content text rest t =
    front_of (head_line kind clock content) (behind_line content rest) text 77
    (head_line_many kind clock content)
    (t ∙ line_first kind clock content rest)

line_word : (word bytes rest : List ℕ) (sum : ℕ)
    → (more : List ℕ) × (marked_line word bytes sum ++ rest ≡ word ++ more)
unfolding marked_line
line_word word bytes rest sum = (
  encode_lower bytes ++ (32 ∷ [] ++ (encode_lower (to_be_bytes w64 sum) ++ (10 ∷ [] ++ rest))),
  simp append_assoc refl,
)

-- If the input begins with a head, it begins with the word for the head's kind.
word_stands : (kind : HeadKind) (clock : ℕ) (content text rest : List ℕ)
    → text ≡ head_text kind clock content ++ rest
    → (more : List ℕ) × (text ≡ head_word kind ++ more)
unfolding head_line
word_stands kind clock content text rest t =
    let line = line_word (head_word kind) (head_mark clock content) (behind_line content rest)
    (head_sum clock content) in
    (line.0, t ∙ line_first kind clock content rest ∙ line.1)

pub version_bytes : (version : ℕ) → AreBytes (version_text version)
version_bytes version =
    all_small (version_text version)
    (omega arith, (omega arith, (omega arith, (omega arith, tt))))

version_grouped : (word digits space more : List ℕ)
    → (word ++ digits ++ space) ++ more ≡ word ++ (digits ++ (space ++ more))
version_grouped word digits space more = simp append_assoc refl

-- the word for a version: its beginning, then the digits of the version
pub version_parts : (version : ℕ) (more : List ℕ) → head_word (Versioned version) ++ more
    ≡ codes "# tpmsim v" ++ (encode_lower (version_text version) ++ (32 ∷ [] ++ more))
version_parts version more =
    version_grouped (codes "# tpmsim v") (encode_lower (version_text version)) (32 ∷ []) more

-- The digits of a version follow the beginning of its word.
pub version_digits : (version : ℕ) (text more : List ℕ)
    → text ≡ head_word (Versioned version) ++ more
    → take 8 (drop 10 text) ≡ encode_lower (version_text version)
version_digits version text more t =
    ap (λ (l : List ℕ). take 8 (drop 10 l)) (t ∙ version_parts version more)
    ∙ take_at (encode_lower (version_text version)) (32 ∷ [] ++ more) 8 (digits_many version)

-- The version is the number that its digits encode.
pub version_read : (version : ℕ) → version_number version < 2 ^ 32
    → from_be_bytes w32 (version_text version) / 251 ≡ version
version_read version small =
    ap (λ (n : ℕ). n / 251) (from_be_bytes-to_be_bytes_4 (version_number version) small)
    ∙ omega arith

one_version : (version other : ℕ) (x y : List ℕ) → version_number version < 2 ^ 32
    → version_number other < 2 ^ 32
    → head_word (Versioned version) ++ x ≡ head_word (Versioned other) ++ y → version ≡ other
one_version version other x y small others same =
    let digits = sym (version_digits version (head_word (Versioned version) ++ x) x refl)
    ∙ version_digits other (head_word (Versioned version) ++ x) y same in
    let bytes = hex_same (version_text version) (version_text other) (version_bytes version)
    (version_bytes other) digits in
    sym (version_read version small)
    ∙ ap (λ (l : List ℕ). from_be_bytes w32 l / 251) bytes
    ∙ version_read other others

-- the tenth byte of the word distinguishes a version from other words
no_version : (version : ℕ) (word x y : List ℕ) → get_or (word ++ y) 9 0 ≡ 106
    → head_word (Versioned version) ++ x ≡ word ++ y → ⊥
no_version version word x y other same =
    let no : 118 ≡ 106 = ap (λ (l : List ℕ). get_or l 9 0) same ∙ other in
    omega (arith, no)

one_word : (kind other : HeadKind) (x y : List ℕ) → IsKind kind → IsKind other
    → head_word kind ++ x ≡ head_word other ++ y → kind ≡ other
one_word Image Image x y is others same = refl
one_word State State x y is others same = refl
one_word Image State x y is others same =
    let no : 49 ≡ 50 = ap (λ (l : List ℕ). get_or l 17 0) same in
    absurd (omega (arith, no))
one_word State Image x y is others same =
    let no : 50 ≡ 49 = ap (λ (l : List ℕ). get_or l 17 0) same in
    absurd (omega (arith, no))
one_word (Versioned version) (Versioned other) x y is others same =
    ap Versioned (one_version version other x y is others same)
one_word (Versioned version) Image x y is others same =
    absurd (no_version version (head_word Image) x y refl same)
one_word (Versioned version) State x y is others same =
    absurd (no_version version (head_word State) x y refl same)
one_word Image (Versioned version) x y is others same =
    absurd (no_version version (head_word Image) y x refl (sym same))
one_word State (Versioned version) x y is others same =
    absurd (no_version version (head_word State) y x refl (sym same))

-- If the input begins with the word for a state text, its head contains a state text; otherwise its
-- head contains an image.
pub is_state : (word text rest : List ℕ) (kind : HeadKind) (clock : ℕ) (content : List ℕ)
    → IsKind kind → word ≡ head_word State → take (length word) text ≡ word
    → text ≡ head_text kind clock content ++ rest → State ≡ kind
is_state word text rest kind clock content one is front t =
    let stands = word_stands kind clock content text rest t in
    one_word State kind (drop (length word) text) stands.0 tt one
    (ap (λ (l : List ℕ). l ++ drop (length word) text) (sym is ∙ sym front)
    ∙ take-append-drop (length word) text ∙ stands.1)

pub is_image : (word text rest : List ℕ) (found versioned : Bool) (kind : HeadKind) (clock : ℕ)
    (content : List ℕ) → word ≡ head_word State
    → ((rest : List ℕ) → text ≡ word ++ rest → found ≡ true) → found ≡ false
    → ((rest : List ℕ) → text ≡ codes "# tpmsim v" ++ rest → versioned ≡ true)
    → versioned ≡ false
    → text ≡ head_text kind clock content ++ rest → Image ≡ kind
is_image word text rest found versioned Image clock content is none not_found new not_new t = refl
is_image word text rest found versioned State clock content is none not_found new not_new t =
    let stands = word_stands State clock content text rest t in
    let both : true ≡ false =
    sym (none stands.0 (stands.1 ∙ ap (λ (l : List ℕ). l ++ stands.0) (sym is))) ∙ not_found in
    absurd cc
is_image word text rest found versioned (Versioned version) clock content is none not_found new
    not_new t =
    let stands = word_stands (Versioned version) clock content text rest t in
    let both : true ≡ false =
    sym (new (encode_lower (version_text version) ++ (32 ∷ [] ++ stands.0))
    (stands.1 ∙ version_parts version stands.0))
    ∙ not_new in
    absurd cc

-- If the input begins with the beginning of the word for a version, its head contains the version.
pub is_versioned : (text rest : List ℕ) (found : ℕ) (kind : HeadKind) (clock : ℕ)
    (content : List ℕ) → IsKind kind
    → ((version : ℕ) (more : List ℕ) → version_number version < 2 ^ 32
    → text ≡ head_word (Versioned version) ++ more → found ≡ version)
    → take 10 text ≡ codes "# tpmsim v"
    → text ≡ head_text kind clock content ++ rest → Versioned found ≡ kind
is_versioned text rest found Image clock content one reads front t =
    let stands = word_stands Image clock content text rest t in
    let no : 118 ≡ 106 =
    ap (λ (l : List ℕ). get_or l 9 0) (sym front ∙ ap (take 10) stands.1) in
    absurd (omega (arith, no))
is_versioned text rest found State clock content one reads front t =
    let stands = word_stands State clock content text rest t in
    let no : 118 ≡ 106 =
    ap (λ (l : List ℕ). get_or l 9 0) (sym front ∙ ap (take 10) stands.1) in
    absurd (omega (arith, no))
is_versioned text rest found (Versioned version) clock content one reads front t =
    let stands = word_stands (Versioned version) clock content text rest t in
    ap Versioned (reads version stands.0 one stands.1)

pub head_text_many : (kind : HeadKind) (clock : ℕ) (content : List ℕ)
    → length (head_text kind clock content) ≡ head_size (length content)
unfolding head_text head_line
head_text_many kind clock content =
    let line = head_line_many kind clock content in
    let a = length-append (head_line kind clock content) (codes "# ") in
    let b = length-append (head_line kind clock content ++ codes "# ") (encode_lower content) in
    let c = length-append (head_line kind clock content ++ codes "# " ++ encode_lower content) (10 ∷ []) in
    omega (arith, line, a, b, c, length-encode_with lower_digits content)

-- If a mark was read from input that begins with a head, it is the mark of that head.
pub head_mark_stands : (kind : HeadKind) (clock : ℕ) (content mark text rest : List ℕ)
    → length mark ≡ 20 → AreBytes mark
    → take 77 text ≡ marked_line (head_word kind) mark (sum_from offset_basis mark)
    → text ≡ head_text kind clock content ++ rest
    → mark ≡ head_mark clock content
head_mark_stands kind clock content mark text rest many are line t =
    line_same (head_word kind) mark (head_mark clock content) (sum_from offset_basis mark)
    (head_sum clock content) are (head_mark_bytes clock content)
    (many ∙ sym (head_mark_many clock content))
    (sym line ∙ head_line_stands kind clock content text rest t)

pub head_stands : (kind : HeadKind) (clock : ℕ) (content mark text rest : List ℕ)
    → HasHead kind clock content → length mark ≡ 20 → AreBytes mark
    → take 77 text ≡ marked_line (head_word kind) mark (sum_from offset_basis mark)
    → text ≡ head_text kind clock content ++ rest
    → HeadStands kind clock content mark text
head_stands kind clock content mark text rest has many are line t =
    let same : mark ≡ head_mark clock content =
    head_mark_stands kind clock content mark text rest many are line t in
    record {
      has = has;
      clock_told = ap (λ (l : List ℕ). from_be_bytes w64 (take 8 l)) same
          ∙ clock_is kind clock content has;
      count_told = ap (λ (l : List ℕ). from_be_bytes w32 (take 4 (drop 8 l))) same
          ∙ count_is kind clock content has;
      content_told = ap (λ (l : List ℕ). take (2 * length content) (drop 79 l))
          (t ∙ parts kind clock content rest)
          ∙ rw (drop_at (head_line kind clock content ++ codes "# ") (encode_lower content ++ (10 ∷ [] ++ rest)) 79 (before_many kind clock content))
          (take_at (encode_lower content) (10 ∷ [] ++ rest) (2 * length content)
          (length-encode_with lower_digits content));
      long = omega (
        arith,
        ap length t,
        length-append (head_text kind clock content) rest,
        head_text_many kind clock content,
      );
    }

-- The line for the content follows the line for the mark.
pub content_line_stands : (kind : HeadKind) (clock : ℕ) (content text rest : List ℕ)
    → text ≡ head_text kind clock content ++ rest
    → drop 77 text ≡ codes "# " ++ (encode_lower content ++ (10 ∷ [] ++ rest))
unfolding behind_line
content_line_stands kind clock content text rest t =
    ap (drop 77) (t ∙ line_first kind clock content rest)
    ∙ drop_at (head_line kind clock content) (behind_line content rest) 77
    (head_line_many kind clock content)

-- If the input consists of the line for a head's mark, the line for its content, and further bytes,
-- it begins with this head.
head_whole : (kind : HeadKind) (clock : ℕ) (content text rest : List ℕ)
    → take 77 text ≡ head_line kind clock content
    → drop 77 text ≡ behind_line content rest → text ≡ head_text kind clock content ++ rest
head_whole kind clock content text rest line behind =
    sym (take-append-drop 77 text) ∙ ap (λ (l : List ℕ). l ++ drop 77 text) line
    ∙ ap (λ (l : List ℕ). head_line kind clock content ++ l) behind
    ∙ sym (line_first kind clock content rest)

pub head_found : (text mark rest : List ℕ) (head : Head)
    → HasHead head.kind head.clock head.content.now → head_mark head.clock head.content.now ≡ mark
    → head.sum ≡ sum_from offset_basis mark
    → take 77 text ≡ marked_line (head_word head.kind) mark head.sum
    → drop 77 text ≡ codes "# " ++ (encode_lower head.content.now ++ (10 ∷ [] ++ rest)) → head.size ≡ head_size (length head.content.now)
    → IsHeadOf text head
unfolding head_line behind_line
head_found text mark rest head has is sum line behind size =
    let after : head.sum ≡ head_sum head.clock head.content.now =
    sum ∙ ap (sum_from offset_basis) (sym is) in
    let line_is : take 77 text ≡ head_line head.kind head.clock head.content.now =
    line ∙ ap (λ (m : List ℕ). marked_line (head_word head.kind) m head.sum) (sym is)
    ∙ ap (marked_line (head_word head.kind) (head_mark head.clock head.content.now)) after in
    let whole : text ≡ head_text head.kind head.clock head.content.now ++ rest =
    head_whole head.kind head.clock head.content.now text rest line_is behind in
    let many = head_text_many head.kind head.clock head.content.now in
    record {
      has = has;
      whole =
          omega (
            arith,
            ap length whole,
            length-append (head_text head.kind head.clock head.content.now) rest,
            many,
            size,
          );
      is = front_of (head_text head.kind head.clock head.content.now) rest text head.size
          (many ∙ sym size) whole;
      after = after;
    }

-- Two heads with which the same input begins are of the same kind.
pub same_kind : (kind other : HeadKind) (clock time : ℕ) (content bytes x y : List ℕ)
    → IsKind kind → IsKind other
    → head_text kind clock content ++ x ≡ head_text other time bytes ++ y → kind ≡ other
same_kind kind other clock time content bytes x y is others same =
    let a = word_stands kind clock content (head_text kind clock content ++ x) x refl in
    let b = word_stands other time bytes (head_text kind clock content ++ x) y same in
    one_word kind other a.0 b.0 is others (sym a.1 ∙ b.1)

-- Two heads of the same kind with which the same input begins are equal.
pub same_head : (kind : HeadKind) (clock other : ℕ) (content bytes x y : List ℕ)
    → HasHead kind clock content → HasHead kind other bytes
    → head_text kind clock content ++ x ≡ head_text kind other bytes ++ y
    → (clock ≡ other) × (content ≡ bytes)
same_head kind clock other content bytes x y has others same =
    let text = head_text kind clock content ++ x in
    let mark = head_mark clock content in
    let line = head_line_stands kind clock content text x refl in
    let a = head_stands kind clock content mark text x has (head_mark_many clock content)
    (head_mark_bytes clock content) line refl in
    let b = head_stands kind other bytes mark text y others (head_mark_many clock content)
    (head_mark_bytes clock content) line same in
    let many : length content ≡ length bytes = sym a.count_told ∙ b.count_told in (
      sym a.clock_told ∙ b.clock_told,
      hex_same content bytes has.are_bytes others.are_bytes
          (sym a.content_told ∙ ap (λ (n : ℕ). take (2 * n) (drop 79 text)) many ∙ b.content_told),
    )
