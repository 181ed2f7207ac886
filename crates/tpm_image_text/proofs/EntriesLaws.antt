-- Lemmas about reading entries one after another, each with a higher key than the entry before it.
use Rattle.std.proofs.Common.{arith, ◌≡◌, ℕ, zero, suc, ◌+◌, ◌-◌, ◌<◌, ◌≤◌, Bool, true, false, List, [], ◌∷◌, ◌++◌, Result, Ok, Err, IfOk, refl, sym, ap, ◌∙◌, append-nil}
use Rattle.std.specs.Prelude.{nat_le, not}
use Rattle.std.proofs.lemmas.Bool.{le-leb, lt-leb}
use Rattle.tpm_containers.specs.SortedMap.{Entries}
use Rattle.tpm_bytes.specs.Many.{many_at}
use Rattle.tpm_bytes.specs.Reading.{◌>>=◌, refused_if}
use Rattle.tpm_bytes.proofs.Joining.{behind, moved}
use Rattle.tpm_image_text.proofs.BankLaws.{behind_none}
use Rattle.tpm_image_text.specs.Body.{ascend_from}
use Rattle.tpm_image_text.specs.Fields.{malformed_fault, passing}
use Rattle.tpm_image_text.specs.Filling.{Appends, Fills}
use Rattle.tpm_image_text.specs.declared.fault.FillFault.{FillFault}
use Rattle.tpm_image_text.specs.declared.fault.FillFault.TheVariants as unfilled
use Rattle.tpm_image_text.specs.declared.fault.Malformed.{Malformed}

-- prepends an entry to the entries that were read
abbrev pub before : {X : Type 0} → ℕ × X → Entries X × List ℕ
    → Result (Entries X × List ℕ) Malformed
before e o = Ok (e ∷ o.0, o.1)

-- checks that the keys of the entries that were read ascend, and that the first key is at least
-- `low`
abbrev pub passed_from : {X : Type 0} → ℕ → Entries X × List ℕ
    → Result (Entries X × List ℕ) Malformed
passed_from low o = refused_if (not (ascend_from low o.0)) malformed_fault >>= λ passed. Ok o

module _ {X : Type 0} (at : List ℕ → Result ((ℕ × X) × List ℕ) Malformed) where
  -- reads `count` entries in ascending order, the first with a key of at least `low`
  unfoldable pub entries_from : (count low : ℕ) → List ℕ → Result (Entries X × List ℕ) Malformed
  entries_from zero low text = Ok ([], text)
  entries_from (suc count) low text =
      at text >>= λ first.
      refused_if (not (nat_le low first.0.0)) malformed_fault >>= λ in_order.
      entries_from count (first.0.0 + 1) first.1 >>= before first.0

  -- testing whether all keys ascend is the same as testing the first key, and then the keys of the
  -- other entries
  one_passes : (in_order : Bool) (e : ℕ × X) (others : Result (Entries X × List ℕ) Malformed)
      (low : ℕ) → nat_le low e.0 ≡ in_order → (others >>= before e >>= passed_from low)
      ≡ (refused_if (not in_order) malformed_fault >>= λ first. others >>= passed_from (e.0 + 1)
      >>= before e)
  one_passes true e (Err fault) low is = refl
  one_passes false e (Err fault) low is = refl
  one_passes true e (Ok o) low is = rw is (by (ascend_from (e.0 + 1) o.0))
    where
      by : (b : Bool) → (refused_if (not b) malformed_fault >>= λ passed. before e o)
          ≡ (refused_if (not b) malformed_fault >>= (λ passed. Ok o) >>= before e)
      by true = refl
      by false = refl
  one_passes false e (Ok o) low is = rw is refl

  pub entries_are : (count low : ℕ) (text : List ℕ)
      → (many_at at count text >>= passed_from low) ≡ entries_from count low text
  unfolding entries_from
  entries_are zero low text = refl
  entries_are (suc count) low text = by (at text) (λ low text. entries_are count low text)
    where
      by : (r : Result ((ℕ × X) × List ℕ) Malformed)
          → ((low : ℕ) (text : List ℕ) → (many_at at count text >>= passed_from low)
          ≡ entries_from count low text)
          → (r >>= (λ first. many_at at count first.1 >>= before first.0) >>= passed_from low)
          ≡ (r >>= λ first. refused_if (not (nat_le low first.0.0)) malformed_fault
          >>= λ in_order. entries_from count (first.0.0 + 1) first.1 >>= before first.0)
      by (Err fault) are = refl
      by (Ok first) are =
          one_passes (nat_le low first.0.0) first.0 (many_at at count first.1) low refl
          ∙ ap (λ (r : Result (Entries X × List ℕ) Malformed). refused_if
          (not (nat_le low first.0.0)) malformed_fault >>= λ in_order. r >>= before first.0)
          (are (first.0.0 + 1) first.1)

  -- the result of the whole loop: the entries so far, followed by the entries that remain to be
  -- read
  unfoldable pub entries_left : (count place low : ℕ) (so_far : Entries X) (text : List ℕ)
      → Result (Entries X × List ℕ) Malformed
  entries_left count place low so_far text = behind so_far (entries_from (count - place) low text)

  -- before the loop reads an entry, its result is the result of reading all entries
  pub entries_begun : (count : ℕ) (so_far : Entries X) (text : List ℕ) → so_far ≡ []
      → entries_left count 0 0 so_far text ≡ passing (ascend_from 0) (many_at at count) text
  unfolding entries_left
  entries_begun count so_far text none =
      let all : count - 0 ≡ count = omega arith in
      rw (none, all) (behind_none (entries_from count 0 text) ∙ sym (entries_are count 0 text))

  -- reading one more entry does not change the result of the whole loop
  pub entries_more : (count place low next : ℕ) (so_far new : Entries X) (e : ℕ × X)
      (text rest : List ℕ) → place < count → at text ≡ Ok (e, rest) → low ≤ e.0 → next ≡ e.0 + 1
      → new ≡ so_far ++ e ∷ [] → entries_left count (place + 1) next new rest
      ≡ entries_left count place low so_far text
  unfolding entries_left entries_from
  entries_more count place low next so_far new e text rest below is up after more =
      let left : count - place ≡ suc (count - (place + 1)) = omega (arith, below) in
      rw (more, after, left, is, le-leb low e.0 up)
      (moved so_far e (entries_from (count - (place + 1)) (e.0 + 1) rest))

  -- after all entries are read, the result of the loop consists of these entries
  pub entries_done : (count place low : ℕ) (so_far : Entries X) (text : List ℕ) → place ≡ count
      → entries_left count place low so_far text ≡ Ok (so_far, text)
  unfolding entries_left entries_from
  entries_done count place low so_far text whole =
      let none : count - place ≡ 0 = omega (arith, whole) in
      rw none (ap (λ (l : Entries X). let done : Result (Entries X × List ℕ) Malformed =
      Ok (l, text) in done) (append-nil so_far))

  -- if an entry is malformed, or its key is too low, the result of the whole loop is Malformed
  pub entries_cut : (count place low : ℕ) (so_far : Entries X) (text : List ℕ) → place < count
      → IfOk (at text) (λ x. x.0.0 < low) → entries_left count place low so_far text
      ≡ Err malformed_fault
  unfolding entries_left entries_from
  entries_cut count place low so_far text below misfits = by (at text) refl misfits
    where
      left : count - place ≡ suc (count - (place + 1))
      left = omega (arith, below)

      by : (r : Result ((ℕ × X) × List ℕ) Malformed) → at text ≡ r → IfOk r (λ x. x.0.0 < low)
          → behind so_far (entries_from (count - place) low text) ≡ Err malformed_fault
      by (Err fault) is under = rw (left, is) refl
      by (Ok x) is under = rw (left, is, lt-leb low x.0.0 under) refl

  -- if reading an entry fails, the whole call returns the same fault
  pub filled_cut : (can : Bool) (low : ℕ) (so_far new filled : Entries X)
      (text rest behind : List ℕ) (whole : Result (Entries X × List ℕ) Malformed)
      (fault : FillFault) → (IfOk (at text) (λ x. x.0.0 < low) → whole ≡ Err malformed_fault)
      → Appends can (at text) low (λ e. e.0 < low) so_far (Err fault) new rest
      → Fills can whole filled (Err fault) behind
  filled_cut can low so_far new filled text rest behind whole unfilled.Malformed ends misfits =
      ends misfits
  filled_cut can low so_far new filled text rest behind whole unfilled.NoMemory ends may = may
