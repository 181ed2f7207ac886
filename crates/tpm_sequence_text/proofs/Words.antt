-- Lemmas about reading words one after another: the words read so far, followed by the words that
-- remain to be read, are the whole list.
use Rattle.std.proofs.Common.{◌≡◌, ℕ, ◌+◌, ◌-◌, ◌<◌, List, length, take, slice_set, Result, Ok, Err, ap, ◌∙◌, arith}
use Rattle.std.proofs.lemmas.List.{append-nil, take_all, take_more_set}
use Rattle.tpm_bytes.proofs.Joining.{behind, none_more}
use Rattle.tpm_bytes.specs.Many.{many_at}
use Rattle.tpm_image_text.proofs.BankLaws.{behind_none, one_more_read}

module _ {A E : Type 0} (at : List ℕ → Result (A × List ℕ) E) (count : ℕ) where
  -- the result of reading the whole list: the first `place` elements of `things`, followed by the
  -- elements that are read from `text`
  pub left : (place : ℕ) (things : List A) (text : List ℕ) → Result (List A × List ℕ) E
  left place things text = behind (take place things) (many_at at (count - place) text)

  pub left_begun : (things : List A) (text : List ℕ) → left 0 things text ≡ many_at at count text
  unfolding left
  left_begun things text =
      let all : count - 0 ≡ count = omega arith in
      behind_none _ ∙ ap (λ (n : ℕ). many_at at n text) all

  pub left_more : (place : ℕ) (things : List A) (thing : A) (text rest : List ℕ) → place < count
      → length things ≡ count → at text ≡ Ok (thing, rest)
      → left (place + 1) (slice_set things place thing) rest ≡ left place things text
  unfolding left
  left_more place things thing text rest below size is =
      ap (λ (front : List A). behind front (many_at at (count - (place + 1)) rest))
      (take_more_set things place thing (omega (arith, below, size)))
      ∙ one_more_read at (take place things) (count - place) (count - (place + 1)) thing text rest
      (omega (arith, below)) is

  pub left_done : (place : ℕ) (things : List A) (text : List ℕ) → place ≡ count
      → length things ≡ count
      → left place things text ≡ Ok (things, text)
  unfolding left
  left_done place things text whole size =
      let none : count - place ≡ 0 = omega (arith, whole) in
      ap (λ (n : ℕ). behind (take place things) (many_at at n text)) none
      ∙ ap (λ (l : List A). let done : Result (List A × List ℕ) E = Ok (l, text) in done)
      (append-nil (take place things) ∙ take_all place things (omega (arith, whole, size)))

  pub left_cut : (place : ℕ) (things : List A) (fault : E) (text : List ℕ) → place < count
      → at text ≡ Err fault
      → left place things text ≡ Err fault
  unfolding left
  left_cut place things fault text below is =
      none_more at (take place things) (count - place) (count - (place + 1)) fault text
      (omega (arith, below)) is

pub ruleset left_laws = (left_begun, left_more, left_done, left_cut)
