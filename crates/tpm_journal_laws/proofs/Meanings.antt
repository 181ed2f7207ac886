-- As lines of a script, the lines of a journal mean what the journal's entries record.
use Rattle.std.proofs.Common.{◌≡◌, ℕ, zero, suc, ◌+◌, ◌<◌, ◌≤◌, ◌==◌, false, List, [], ◌∷◌, ◌++◌, Some, None, refl, ap, ◌∙◌, append_assoc, cond, length, length-append, arith}
use Rattle.std.specs.Prelude.{codes, map, nat_lt}
use Rattle.std.specs.Int.{w64, to_be_bytes}
use Rattle.std.specs.List.{AllByRecursion, position, position_or_len}
use Rattle.std.specs.Result.{result_ok}
use Rattle.std.proofs.lemmas.Bool.{lt-ltb}
use Rattle.std.proofs.lemmas.Bool.Decides.{nat_tests}
use Rattle.hex.specs.Hex.{encode_lower}
use Rattle.tpm_journal_text.specs.Entry.{IsEntry, PlainEntry, entry_text, entry_word, executing_lines, mark_line, mark_of, setting_lines, shown, sum_after, ten_digits}
use Rattle.tpm_journal_text.proofs.HeadStanding.{version_text}
use Rattle.tpm_journal_text.specs.Head.{head_mark, head_sum, head_text, head_word}
use Rattle.tpm_journal_text.specs.Journal.{entries_text}
use Rattle.tpm_journal_text.specs.Marked.{marked_line}
use Rattle.tpm_journal_text.specs.Sum.{sum_from}
use Rattle.tpm_journal_text.specs.declared.head.HeadKind.{HeadKind}
use Rattle.tpm_journal_text.specs.declared.head.HeadKind.TheVariants.{Image, State, Versioned}
use Rattle.tpmsim_script.specs.Line.{Executes, SetsLocality, Waits, SetsEntropy, DoesNothing}
use Rattle.tpmsim_script.specs.Line.{line_meaning, line_reading, lines_of, reading_by, reading_with}
use Rattle.tpm_journal_laws.specs.Meanings.{EntryMeansIt, HeadMeansNothing, JournalMeansIt, entries_meanings, entry_meanings, meanings_of}
use Rattle.tpm_journal_laws.proofs.Breaks.{Unbroken, hex_unbroken, line_first, unbroken_joined}
use Rattle.tpm_journal_laws.proofs.Numbers.{ten_digits_read}

-- ---- the lines of entries and heads, without their line feeds

unfoldable pub mark_front : (word bytes : List ℕ) (sum : ℕ) → List ℕ
mark_front word bytes sum =
    word ++ (encode_lower bytes ++ (32 ∷ encode_lower (to_be_bytes w64 sum)))

unfoldable pub wait_line : PlainEntry → List ℕ
wait_line e = codes "wait " ++ ten_digits e.elapsed

unfoldable pub loc_line : PlainEntry → List ℕ
loc_line e = codes "loc " ++ (48 + e.locality) ∷ []

unfoldable pub entropy_line : PlainEntry → List ℕ
entropy_line e = codes "entropy " ++ encode_lower (shown e.drawn)

unfoldable pub cmd_line : PlainEntry → List ℕ
cmd_line e = codes "cmd " ++ encode_lower e.buffer

-- ---- these lines contain no line feed

no_feed : (d : ℕ) → (48 + d == 10) ≡ false
no_feed d = grind (arith, nat_tests)

wait_unbroken : (e : PlainEntry) → Unbroken (wait_line e)
unfolding wait_line ten_digits
wait_unbroken e = (
  refl,
  (
    refl,
    (
      refl,
      (
        refl,
        (
          refl,
          (
            no_feed _,
            (
              no_feed _,
              (
                no_feed _,
                (
                  no_feed _,
                  (
                    no_feed _,
                    (no_feed _, (no_feed _, (no_feed _, (no_feed _, (no_feed _, tt))))),
                  ),
                ),
              ),
            ),
          ),
        ),
      ),
    ),
  ),
)

loc_unbroken : (e : PlainEntry) → Unbroken (loc_line e)
unfolding loc_line
loc_unbroken e = (refl, (refl, (refl, (refl, (no_feed e.locality, tt)))))

entropy_unbroken : (e : PlainEntry) → Unbroken (entropy_line e)
unfolding entropy_line
entropy_unbroken e = unbroken_joined (codes "entropy ") (encode_lower (shown e.drawn))
    (refl, (refl, (refl, (refl, (refl, (refl, (refl, (refl, tt))))))))
    (hex_unbroken (shown e.drawn))

cmd_unbroken : (e : PlainEntry) → Unbroken (cmd_line e)
unfolding cmd_line
cmd_unbroken e = unbroken_joined (codes "cmd ") (encode_lower e.buffer) (refl, (refl, (refl, (refl, tt)))) (hex_unbroken e.buffer)

mark_unbroken : (word bytes : List ℕ) (sum : ℕ) → Unbroken word
    → Unbroken (mark_front word bytes sum)
unfolding mark_front
mark_unbroken word bytes sum h =
    unbroken_joined word _ h
    (unbroken_joined (encode_lower bytes) _ (hex_unbroken bytes)
    (refl, hex_unbroken (to_be_bytes w64 sum)))

-- ---- the meanings of single lines

spaced : (text : List ℕ) (place : ℕ) → position_or_len (λ byte. byte == 32) text ≡ place
    → place < length text
    → position (λ byte. byte == 32) text ≡ Some place
spaced text place e l =
    ap (λ n. cond (nat_lt n (length text)) (Some n) None) e
    ∙ ap (λ b. cond b (Some place) None) (lt-ltb place (length text) l)

pub wait_means : (e : PlainEntry) → IsEntry e → line_meaning (wait_line e) ≡ Some (Waits e.elapsed)
unfolding wait_line line_reading reading_with ten_digits
wait_means e is = rw (ten_digits_read e.elapsed is.elapsed) refl

digit_meant : (n : ℕ) → n ≤ 4 → line_meaning (codes "loc " ++ (48 + n) ∷ []) ≡ Some (SetsLocality n)
unfolding line_reading reading_with Rattle.tpm_number.specs.Number.numeral
    Rattle.tpm_number.specs.Number.at_most
digit_meant zero h = refl
digit_meant (suc zero) h = refl
digit_meant (suc (suc zero)) h = refl
digit_meant (suc (suc (suc zero))) h = refl
digit_meant (suc (suc (suc (suc zero)))) h = refl
digit_meant (suc (suc (suc (suc (suc n))))) h = absurd (omega (arith, h))

pub loc_means : (e : PlainEntry) → IsEntry e
    → line_meaning (loc_line e) ≡ Some (SetsLocality e.locality)
unfolding loc_line
loc_means e is = digit_meant e.locality is.locality

pub entropy_means : (e : PlainEntry) → line_meaning (entropy_line e)
    ≡ Some (SetsEntropy (encode_lower (shown e.drawn)))
unfolding entropy_line line_reading reading_with
entropy_means e =
    let text = codes "entropy " ++ encode_lower (shown e.drawn) in
    ap (λ at. result_ok (reading_by at text)) (spaced text 7 refl (omega (arith, length-append (codes "entropy ") (encode_lower (shown e.drawn)))))

pub cmd_means : (e : PlainEntry) → line_meaning (cmd_line e)
    ≡ Some (Executes (encode_lower e.buffer))
unfolding cmd_line line_reading reading_with
cmd_means e =
    let text = codes "cmd " ++ encode_lower e.buffer in
    ap (λ at. result_ok (reading_by at text)) (spaced text 3 refl (omega (arith, length-append (codes "cmd ") (encode_lower e.buffer))))

comment_means : (text : List ℕ) → line_meaning (35 ∷ text) ≡ Some DoesNothing
unfolding line_reading
comment_means text = refl

-- ---- the meaning of an entry

regrouped : (word bytes space sum feed rest : List ℕ)
    → (word ++ bytes ++ space ++ sum ++ feed) ++ rest ≡ (word ++ (bytes ++ (space ++ sum)))
    ++ (feed ++ rest)
regrouped word bytes space sum feed rest = simp append_assoc refl

mark_split : (word bytes rest : List ℕ) (sum : ℕ)
    → marked_line word bytes sum ++ rest ≡ mark_front word bytes sum ++ 10 ∷ rest
unfolding marked_line mark_front
mark_split word bytes rest sum =
    regrouped word (encode_lower bytes) (32 ∷ []) (encode_lower (to_be_bytes w64 sum)) (10 ∷ [])
    rest

lines_grouped : (mark wait digits feed loc locality entropy drawn cmd buffer rest : List ℕ)
    → (mark ++ (wait ++ digits ++ (feed ++ loc) ++ locality ++ feed)
    ++ (entropy ++ drawn ++ (feed ++ cmd) ++ buffer ++ feed)) ++ rest
    ≡ mark
    ++ ((wait ++ digits)
    ++ (feed
    ++ ((loc ++ locality)
    ++ (feed ++ ((entropy ++ drawn) ++ (feed ++ ((cmd ++ buffer) ++ (feed ++ rest))))))))
lines_grouped mark wait digits feed loc locality entropy drawn cmd buffer rest =
    simp append_assoc refl

pub entry_split : (sum : ℕ) (e : PlainEntry) (rest : List ℕ) → entry_text sum e ++ rest
    ≡ mark_line sum (mark_of e)
    ++ (wait_line e ++ 10
    ∷ (loc_line e ++ 10 ∷ (entropy_line e ++ 10 ∷ (cmd_line e ++ 10 ∷ rest))))
unfolding entry_text setting_lines executing_lines wait_line loc_line entropy_line cmd_line
entry_split sum e rest =
    lines_grouped (mark_line sum (mark_of e)) (codes "wait ") (ten_digits e.elapsed) (10 ∷ []) (codes "loc ") ((48 + e.locality) ∷ [])
    (codes "entropy ") (encode_lower (shown e.drawn)) (codes "cmd ") (encode_lower e.buffer) rest

-- splitting an encoded entry into lines yields these five lines
pub entry_lines : (sum : ℕ) (e : PlainEntry) (rest : List ℕ) → lines_of (entry_text sum e ++ rest)
    ≡ mark_front entry_word (mark_of e) (sum_from sum (mark_of e)) ∷ wait_line e ∷ loc_line e
    ∷ entropy_line e ∷ cmd_line e ∷ lines_of rest
entry_lines sum e rest =
    let mark = mark_front entry_word (mark_of e) (sum_from sum (mark_of e)) in
    let more = wait_line e ++ 10
    ∷ (loc_line e ++ 10 ∷ (entropy_line e ++ 10 ∷ (cmd_line e ++ 10 ∷ rest))) in
    ap lines_of (entry_split sum e rest
    ∙ mark_split entry_word (mark_of e) more (sum_from sum (mark_of e)))
    ∙ line_first mark more (mark_unbroken entry_word (mark_of e) _ (refl, (refl, tt)))
    ∙ ap (λ (l : List (List ℕ)). mark ∷ l) (line_first (wait_line e) _ (wait_unbroken e)
    ∙ ap (λ (l : List (List ℕ)). wait_line e ∷ l) (line_first (loc_line e) _ (loc_unbroken e)
    ∙ ap (λ (l : List (List ℕ)). loc_line e ∷ l) (line_first (entropy_line e) _ (entropy_unbroken e)
    ∙ ap (λ (l : List (List ℕ)). entropy_line e ∷ l)
    (line_first (cmd_line e) rest (cmd_unbroken e)))))

pub mark_means : (sum : ℕ) (e : PlainEntry)
    → line_meaning (mark_front entry_word (mark_of e) (sum_from sum (mark_of e))) ≡ Some DoesNothing
unfolding mark_front
mark_means sum e = comment_means _

pub entry_means_it : EntryMeansIt
entry_means_it sum e rest is =
    ap (map line_meaning) (entry_lines sum e rest)
    ∙ rw (mark_means sum e, wait_means e is, loc_means e is, entropy_means e, cmd_means e) refl

-- ---- the meaning of a head

head_front : (kind : HeadKind) (bytes : List ℕ) (sum : ℕ)
    → Unbroken (mark_front (head_word kind) bytes sum)
head_front Image bytes sum =
    mark_unbroken (head_word Image) bytes sum (
      refl,
      (
        refl,
        (
          refl,
          (
            refl,
            (
              refl,
              (
                refl,
                (
                  refl,
                  (
                    refl,
                    (
                      refl,
                      (
                        refl,
                        (refl, (refl, (refl, (refl, (refl, (refl, (refl, (refl, (refl, tt))))))))),
                      ),
                    ),
                  ),
                ),
              ),
            ),
          ),
        ),
      ),
    )
head_front State bytes sum =
    mark_unbroken (head_word State) bytes sum (
      refl,
      (
        refl,
        (
          refl,
          (
            refl,
            (
              refl,
              (
                refl,
                (
                  refl,
                  (
                    refl,
                    (
                      refl,
                      (
                        refl,
                        (refl, (refl, (refl, (refl, (refl, (refl, (refl, (refl, (refl, tt))))))))),
                      ),
                    ),
                  ),
                ),
              ),
            ),
          ),
        ),
      ),
    )
head_front (Versioned version) bytes sum =
    mark_unbroken (head_word (Versioned version)) bytes sum
    (unbroken_joined (codes "# tpmsim v" ++ encode_lower (version_text version)) (32 ∷ [])
    (unbroken_joined (codes "# tpmsim v") (encode_lower (version_text version)) (
      refl,
      (refl, (refl, (refl, (refl, (refl, (refl, (refl, (refl, (refl, tt))))))))),
    )
    (hex_unbroken (version_text version)))
    (refl, tt))

pub head_front_means : (kind : HeadKind) (bytes : List ℕ) (sum : ℕ)
    → line_meaning (mark_front (head_word kind) bytes sum) ≡ Some DoesNothing
unfolding mark_front
head_front_means Image bytes sum = comment_means _
head_front_means State bytes sum = comment_means _
head_front_means (Versioned version) bytes sum = comment_means _

head_grouped : (mark word digits feed rest : List ℕ)
    → (mark ++ word ++ digits ++ feed) ++ rest ≡ mark ++ ((word ++ digits) ++ (feed ++ rest))
head_grouped mark word digits feed rest = simp append_assoc refl

unfoldable pub content_line : (content : List ℕ) → List ℕ
content_line content = codes "# " ++ encode_lower content

pub content_unbroken : (content : List ℕ) → Unbroken (content_line content)
unfolding content_line
content_unbroken content = unbroken_joined (codes "# ") (encode_lower content) (refl, (refl, tt)) (hex_unbroken content)

pub content_means : (content : List ℕ) → line_meaning (content_line content) ≡ Some DoesNothing
unfolding content_line
content_means content = comment_means _

head_split : (kind : HeadKind) (clock : ℕ) (content rest : List ℕ)
    → head_text kind clock content ++ rest
    ≡ marked_line (head_word kind) (head_mark clock content) (head_sum clock content)
    ++ (content_line content ++ 10 ∷ rest)
unfolding head_text content_line
head_split kind clock content rest =
    head_grouped (marked_line (head_word kind) (head_mark clock content) (head_sum clock content)) (codes "# ") (encode_lower content) (10 ∷ []) rest

-- splitting an encoded head into lines yields these two lines
pub head_lines : (kind : HeadKind) (clock : ℕ) (content rest : List ℕ)
    → lines_of (head_text kind clock content ++ rest)
    ≡ mark_front (head_word kind) (head_mark clock content) (head_sum clock content)
    ∷ content_line content ∷ lines_of rest
head_lines kind clock content rest =
    let mark = mark_front (head_word kind) (head_mark clock content) (head_sum clock content) in
    let more = content_line content ++ 10 ∷ rest in
    ap lines_of (head_split kind clock content rest
    ∙ mark_split (head_word kind) (head_mark clock content) more (head_sum clock content))
    ∙ line_first mark more (head_front kind (head_mark clock content) (head_sum clock content))
    ∙ ap (λ (l : List (List ℕ)). mark ∷ l)
    (line_first (content_line content) rest (content_unbroken content))

pub head_means_nothing : HeadMeansNothing
head_means_nothing kind clock content rest =
    ap (map line_meaning) (head_lines kind clock content rest)
    ∙ rw (
      head_front_means kind (head_mark clock content) (head_sum clock content),
      content_means content,
    ) refl

-- ---- the meaning of a journal

entries_mean : (sum : ℕ) (entries : List PlainEntry) → AllByRecursion IsEntry entries
    → meanings_of (entries_text sum entries) ≡ entries_meanings entries []
entries_mean sum [] are = refl
entries_mean sum (e ∷ entries) are =
    entry_means_it sum e (entries_text (sum_after sum e) entries) are.0
    ∙ ap (entry_meanings e) (entries_mean (sum_after sum e) entries are.1)

pub journal_means_it : JournalMeansIt
journal_means_it kind clock content entries are =
    head_means_nothing kind clock content (entries_text (head_sum clock content) entries)
    ∙ ap (λ l. Some DoesNothing ∷ Some DoesNothing ∷ l)
    (entries_mean (head_sum clock content) entries are)
