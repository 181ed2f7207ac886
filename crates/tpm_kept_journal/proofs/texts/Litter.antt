-- The remains of an incomplete entry are torn, and stay torn if zeros follow them.
use Rattle.std.proofs.Common.{◌≡◌, ℕ, ◌<◌, true, List, [], ◌++◌, length, take, refl, sym, subst}
use Rattle.std.proofs.lemmas.List.{append-nil}
use Rattle.tpm_journal_text.specs.Entry.{IsEntry, PlainEntry, entry_text}
use Rattle.tpm_journal_text.specs.Journal.{IsTorn}
use Rattle.tpm_journal_text.proofs.Tails.{torn_again, torn_entry, torn_nothing}
use Rattle.tpm_kept_journal.specs.texts.TornText.{is_litter, is_torn_text}
use Rattle.tpm_kept_journal.proofs.texts.TornText.{is_torn_text-Decides, zeros_are}

pub nothing_torn : (sum : ℕ) → is_torn_text sum [] ≡ true
nothing_torn sum = (is_torn_text-Decides sum []).1 (torn_nothing sum)

pub front_torn : (sum : ℕ) (e : PlainEntry) (k : ℕ) → IsEntry e → k < length (entry_text sum e)
    → is_torn_text sum (take k (entry_text sum e)) ≡ true
front_torn sum e k is less =
    let front = take k (entry_text sum e) in
    (is_torn_text-Decides sum front).1
    (subst (IsTorn sum) (append-nil front) (torn_entry sum e k 0 is less))

pub littered_torn : (sum : ℕ) (tail : List ℕ) (k : ℕ) (litter : List ℕ)
    → is_torn_text sum tail ≡ true → is_litter litter ≡ true
    → is_torn_text sum (take k tail ++ litter) ≡ true
littered_torn sum tail k litter torn zeros =
    let after = torn_again sum tail k (length litter) ((is_torn_text-Decides sum tail).0 torn) in
    (is_torn_text-Decides sum (take k tail ++ litter)).1
    (subst (λ (l : List ℕ). IsTorn sum (take k tail ++ l)) (sym (zeros_are litter zeros)) after)

pub nothing_litter : is_litter [] ≡ true
nothing_litter = refl
