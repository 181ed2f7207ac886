-- The message schedule and the rounds of SHA-256, word by word and round by round.
use Rattle.std.proofs.Common.{◌≡◌, ℕ, ◌+◌, ◌-◌, ◌*◌, ◌<◌, ◌≤◌, List, length, take, slice_set, add-one, refl, sym, ap, ◌∙◌, arith}
use Rattle.std.proofs.lemmas.List.{get_or-take, take_more_set}
use Rattle.sha2.specs.Sha256.{first_words, next_word, schedule, word_at}

-- If the first t words are those of the block, storing word t of the block at index t makes the
-- first t + 1 words those of the block.
pub first_words_more : (words block : List ℕ) (t word : ℕ) → t < length words
    → take t words ≡ first_words block t
    → word ≡ word_at block (4 * t) → take (t + 1) (slice_set words t word)
    ≡ first_words block (t + 1)
unfolding first_words
first_words_more words block t word within so_far is =
    take_more_set words t word within ∙ rw (so_far, is, add-one t) refl

-- word t of the schedule depends only on the words before it
next_word_before : (words : List ℕ) (t : ℕ) → 16 ≤ t
    → next_word (take t words) t ≡ next_word words t
next_word_before words t late =
    rw (
      get_or-take t words (t - 2) 0 (omega arith),
      get_or-take t words (t - 7) 0 (omega arith),
      get_or-take t words (t - 15) 0 (omega arith),
      get_or-take t words (t - 16) 0 (omega arith),
    )
    refl

-- the schedule begins with the words of the block
pub schedule_none : (words block : List ℕ) → take 16 words ≡ first_words block 16
    → take 16 words ≡ schedule block 0
unfolding schedule
schedule_none words block so_far = so_far

-- If the first t words are those of the schedule, storing word t of the schedule at index t makes
-- the first t + 1 words those of the schedule.
pub schedule_more : (words block : List ℕ) (t word : ℕ) → 16 ≤ t → t < length words
    → take t words ≡ schedule block (t - 16)
    → word ≡ next_word words t → take (t + 1) (slice_set words t word) ≡ schedule block (t + 1 - 16)
unfolding schedule
schedule_more words block t word late within so_far is =
    let count : t + 1 - 16 ≡ t - 16 + 1 = omega arith in
    let at : t - 16 + 16 ≡ t = omega arith in
    let value : word ≡ next_word (schedule block (t - 16)) t =
    is ∙ sym (next_word_before words t late) ∙ ap (λ (ws : List ℕ). next_word ws t) so_far in
    take_more_set words t word within
    ∙ rw (so_far, value, count, add-one (t - 16), at) refl
