-- The journal of a kept device satisfies what a keeper requires.
use Rattle.std.proofs.Common.{◌≡◌, ◌<◌, ◌+◌, ℕ, true, List, [], ◌++◌, length, take, replicate, Some, refl, sym, ap, ◌∙◌, append-nil, arith}
use Rattle.tpm_journal_text.specs.Entry.{entry_text}
use Rattle.tpm_journal_text.specs.Journal.{IsTorn}
use Rattle.tpm_journal_text.proofs.Tails.{torn_again, torn_entry, torn_nothing}
use Rattle.tpm_keeping.specs.Journal.{Entered, IsJournal, Spot}
use Rattle.tpm_kept_journal.specs.DeviceJournal.{device_journal}
use Rattle.tpm_kept_journal.specs.texts.TornText.{are_zeros, is_torn_text}
use Rattle.tpm_kept_journal.proofs.Heads.{heads, opened_after}
use Rattle.tpm_kept_journal.proofs.Salvaging.{salvages}
use Rattle.tpm_kept_journal.proofs.Walks.{Further, Leads, Nowhere, all, end_of, leads, walked_all}
use Rattle.tpm_kept_journal.proofs.texts.TornText.{is_torn_text-Decides, zeros_are}

torn_so : (sum : ℕ) (text : List ℕ) → IsTorn sum text → is_torn_text sum text ≡ true
torn_so sum text torn = (is_torn_text-Decides sum text).1 torn

front_torn : (p : Spot) (c : List ℕ) (k : ℕ) → Leads p c → k < length (device_journal.entry p c)
    → is_torn_text p.chain (take k (device_journal.entry p c)) ≡ true
front_torn p c k (Nowhere none still) less = absurd (omega (arith, less, ap length none))
front_torn p c k (Further e is text performed) less =
    let own : List ℕ = entry_text p.chain e in
    ap (λ (l : List ℕ). is_torn_text p.chain (take k l)) text
    ∙ ap (is_torn_text p.chain) (sym (append-nil (take k own)))
    ∙ torn_so p.chain (take k own ++ replicate 0 0)
    (torn_entry p.chain e k 0 is (omega (arith, less, ap length text)))

littered : (sum : ℕ) (tail : List ℕ) (k : ℕ) (litter : List ℕ) → is_torn_text sum tail ≡ true
    → are_zeros litter ≡ true
    → is_torn_text sum (take k tail ++ litter) ≡ true
littered sum tail k litter torn zeros =
    ap (λ (l : List ℕ). is_torn_text sum (take k tail ++ l)) (zeros_are litter zeros)
    ∙ torn_so sum _ (torn_again sum tail k (length litter) ((is_torn_text-Decides sum tail).0 torn))

opens : (head : List ℕ) (p : Spot) (cs : List (List ℕ)) (tail : List ℕ)
    → device_journal.after_head head ≡ Some p
    → Entered device_journal cs → is_torn_text (end_of p cs).chain tail ≡ true
    → device_journal.opened (head ++ (all p cs ++ tail))
    ≡ Some (end_of p cs, length head + length (all p cs))
opens head p cs tail starts are torn =
    opened_after head (all p cs ++ tail) p starts ∙ walked_all p cs (length head) tail are torn

follows : (p : Spot) (cs : List (List ℕ)) (tail : List ℕ) → Entered device_journal cs
    → is_torn_text (end_of p cs).chain tail ≡ true
    → device_journal.followed p (all p cs ++ tail) ≡ Some (end_of p cs, length (all p cs))
follows p cs tail are torn =
    let none : 0 + length (all p cs) ≡ length (all p cs) = omega arith in
    walked_all p cs 0 tail are torn ∙ ap (λ (n : ℕ). Some (end_of p cs, n)) none

pub device_is_a_journal : IsJournal device_journal
device_is_a_journal = record {
  begins = λ seed s is. refl;
  leads = λ s c is. refl;
  heads = λ s is. heads s;
  opens = λ head p cs tail starts is are torn. opens head p cs tail starts are torn;
  follows = λ p cs tail is are torn. follows p cs tail are torn;
  salvages = λ text p size is. salvages text p size is;
  nothing = λ p. torn_so p.chain [] (torn_nothing p.chain);
  front = λ p c k is entered less. front_torn p c k (leads p c entered) less;
  littered = λ p tail k litter torn is. littered p.chain tail k litter torn is;
  clean = refl;
}
