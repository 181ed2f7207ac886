-- Every list of bytes begins with an entry, is torn, or is damaged, and only one of these is true.
use Rattle.std.proofs.Common.{◌≡◌, ℕ, ◌≤◌, Bool, true, false, List, ◌++◌, length, take, drop, Option, Some, None, refl, ap, sym, ◌∙◌}
use Rattle.std.proofs.lemmas.Bool.{false_from_ne_true}
use Rattle.std.proofs.lemmas.List.{length-take-le, take-append-drop}
use Rattle.tpm_journal_text.specs.Entry.{IsEntry, PlainEntry, entry_text, plain_entry}
use Rattle.tpm_journal_text.specs.Journal.{Finds, IsDamaged, IsTorn}
use Rattle.tpm_journal_text.specs.declared.reading.Next.{Next}
use Rattle.tpm_journal_text.specs.declared.reading.Next.TheVariants as next
use Rattle.tpm_journal_text.proofs.Damage.{torn_is_no_entry}
use Rattle.tpm_kept_journal.specs.texts.EntryAt.{entry_at}
use Rattle.tpm_kept_journal.specs.texts.NextAt.{Damaged, IsNext, PlainNext, Torn, Whole, next_at, next_by, plain_next}
use Rattle.tpm_kept_journal.specs.texts.TornText.{is_torn_text}
use Rattle.tpm_kept_journal.proofs.texts.EntryAt.{entry_at_front, entry_found, no_entry}
use Rattle.tpm_kept_journal.proofs.texts.TornText.{is_torn_text-Decides}

-- ---- each of the three cases

pub whole_tells : (sum : ℕ) (e : PlainEntry) (rest text : List ℕ) → IsEntry e
    → text ≡ entry_text sum e ++ rest
    → (entry_at sum text ≡ Some e) × (is_torn_text sum text ≡ false)
whole_tells sum e rest text is t = (
  entry_at_front sum e rest text is t,
  false_from_ne_true (is_torn_text sum text)
      (λ so. torn_is_no_entry sum e rest text is t ((is_torn_text-Decides sum text).0 so)),
)

pub torn_tells : (sum : ℕ) (text : List ℕ) → IsTorn sum text → (entry_at sum text ≡ None)
    × (is_torn_text sum text ≡ true)
torn_tells sum text torn = (
  no_entry sum text (λ e rest is t. torn_is_no_entry sum e rest text is t torn),
  (is_torn_text-Decides sum text).1 torn,
)

pub damage_tells : (sum : ℕ) (text : List ℕ) → IsDamaged sum text → (entry_at sum text ≡ None)
    × (is_torn_text sum text ≡ false)
damage_tells sum text damaged = (
  no_entry sum text damaged.no_entry,
  false_from_ne_true (is_torn_text sum text)
      (λ so. damaged.not_torn ((is_torn_text-Decides sum text).0 so)),
)

-- ---- what `next_at` returns

next_of : (sum : ℕ) (text : List ℕ) (found : Option PlainEntry) (is_torn : Bool)
    → (entry_at sum text ≡ found) × (is_torn_text sum text ≡ is_torn)
    → next_at sum text ≡ next_by found is_torn
unfolding next_at
next_of sum text found is_torn are =
    ap (λ (o : Option PlainEntry). next_by o (is_torn_text sum text)) are.0
    ∙ ap (next_by found) are.1

pub next_only : (sum : ℕ) (text : List ℕ) (n : PlainNext) → IsNext sum text n → next_at sum text ≡ n
next_only sum text (Whole e) is =
    next_of sum text (Some e) false
    (whole_tells sum e (drop (length (entry_text sum e)) text) text is.0 is.1)
next_only sum text Torn is = next_of sum text None true (torn_tells sum text is)
next_only sum text Damaged is = next_of sum text None false (damage_tells sum text is)

next_by_is : (sum : ℕ) (text : List ℕ) (found : Option PlainEntry) (is_torn : Bool)
    → entry_at sum text ≡ found → is_torn_text sum text ≡ is_torn
    → IsNext sum text (next_by found is_torn)
next_by_is sum text (Some e) is_torn is so = entry_found sum text e is
next_by_is sum text None true is so = (is_torn_text-Decides sum text).0 so
next_by_is sum text None false is not = record {
  not_torn = λ torn. (
      let both : true ≡ false = sym ((is_torn_text-Decides sum text).1 torn) ∙ not in
      absurd cc
      );
  no_entry = λ e rest is_entry t. (
      let both : Some e ≡ None = sym (entry_at_front sum e rest text is_entry t) ∙ is in
      absurd cc
      );
}

pub next_is : (sum : ℕ) (text : List ℕ) → IsNext sum text (next_at sum text)
unfolding next_at
next_is sum text = next_by_is sum text (entry_at sum text) (is_torn_text sum text) refl refl

-- ---- what the code finds

pub whole_size : (sum : ℕ) (text : List ℕ) (e : PlainEntry) (size : ℕ) → size ≤ length text
    → take size text ≡ entry_text sum e
    → size ≡ length (entry_text sum e)
whole_size sum text e size within front = sym (length-take-le size text within) ∙ ap length front

found_is : (sum : ℕ) (text : List ℕ) (n : Next) → Finds sum text n → IsNext sum text (plain_next n)
found_is sum text (next.Whole entry size after) finds =
    let e = plain_entry entry in
    let many = whole_size sum text e size finds.1 finds.2 in (
      finds.0,
      sym (take-append-drop size text) ∙ ap (λ (l : List ℕ). l ++ drop size text) finds.2
          ∙ ap (λ (n : ℕ). entry_text sum e ++ drop n text) many,
    )
found_is sum text next.Torn finds = finds
found_is sum text next.Damaged finds = finds

pub found_next : (sum : ℕ) (text : List ℕ) (n : Next) → Finds sum text n
    → next_at sum text ≡ plain_next n
found_next sum text n finds = next_only sum text (plain_next n) (found_is sum text n finds)
