-- Lemmas about entries that are executed one after another.
use Rattle.std.proofs.Common.{◌≡◌, ◌≢◌, ℕ, ◌+◌, ◌≤◌, ◌<◌, Bool, List, [], ◌∷◌, ◌++◌, length, map, take, drop, Option, Some, None, refl, ap, sym, subst, ◌∙◌, append_assoc, arith, length-drop}
use Rattle.std.specs.List.{AllByRecursion}
use Rattle.std.proofs.lemmas.List.{drop-take, length-take-le, map-append, take-append-drop, take-append-le}
use Rattle.tpm_record.specs.Record.{Record}
use Rattle.tpm_journal_text.specs.Entry.{IsEntry, PlainEntry, entry_text, sum_after}
use Rattle.tpm_journal_text.specs.Journal.{IsTorn, IsDamaged, entries_text, sum_after_all}
use Rattle.tpm_journal_text.proofs.Standing.{entry_text_some}
use Rattle.tpm_journal.specs.Command.{IsPerformed}
use Rattle.tpm_journal.specs.Replay.{AnswersAre, LeadsBy, Performance, Performs, Repeats, Replays, answer_said, entry_in, response_sum}
use Rattle.tpm_journal.specs.State.{journal_after}
use Rattle.tpm_journal.specs.declared.following.FollowFault.{FollowFault}
use Rattle.tpm_journal.specs.declared.following.FollowFault.TheVariants.{Damaged, Otherwise}
use Rattle.tpm_journal.specs.declared.journal.Journal.{Journal}

-- ---- one entry after the others

append_none : (text : List ℕ) → text ++ [] ≡ text
append_none [] = refl
append_none (byte ∷ text) = ap (λ (l : List ℕ). byte ∷ l) (append_none text)

pub entries_more : (sum : ℕ) (entries : List PlainEntry) (e : PlainEntry)
    → entries_text sum (entries ++ e ∷ []) ≡ entries_text sum entries
    ++ entry_text (sum_after_all sum entries) e
entries_more sum [] e = append_none (entry_text sum e)
entries_more sum (x ∷ entries) e =
    ap (λ (l : List ℕ). entry_text sum x ++ l) (entries_more (sum_after sum x) entries e)
    ∙ sym (append_assoc (entry_text sum x) (entries_text (sum_after sum x) entries)
    (entry_text (sum_after_all (sum_after sum x) entries) e))

pub are_more : (entries : List PlainEntry) (e : PlainEntry) → AllByRecursion IsEntry entries
    → IsEntry e → AllByRecursion IsEntry (entries ++ e ∷ [])
are_more [] e are is = (is, tt)
are_more (x ∷ entries) e are is = (are.0, are_more entries e are.1 is)

take_further : (n m : ℕ) (text : List ℕ) → n + m ≤ length text
    → take (n + m) text ≡ take n text ++ take m (drop n text)
take_further n m text within =
    let short : n ≤ length (take (n + m) text) =
    omega (arith, length-take-le (n + m) text within) in
    let front : take n (take (n + m) text) ≡ take n text =
    sym (take-append-le n (take (n + m) text) (drop (n + m) text) short)
    ∙ ap (take n) (take-append-drop (n + m) text) in
    sym (take-append-drop n (take (n + m) text))
    ∙ ap (λ (l : List ℕ). l ++ drop n (take (n + m) text)) front
    ∙ ap (λ (l : List ℕ). take n text ++ l) (drop-take n m text)

-- if two inputs are equal, executing an entry from one is the same as executing it from the other
pub performs_at : (can : Bool) (before : Journal) (old : Record) (left text : List ℕ) (size : ℕ)
    (one : Performance) (after : Journal)
    (Holds : ℕ → ℕ → Type 0) → left ≡ text → Performs can before old left size one after Holds
    → Performs can before old text size one after Holds
performs_at can before old left text size one after Holds is p = rw (← is) p

-- executing entries again adds their marks to the journal's checksum
pub journal_sum : (can : Bool) (before : Journal) (old : Record) (performances : List Performance)
    (after : Journal) (new : Record)
    → LeadsBy can before old performances after new
    → after.sum ≡ sum_after_all before.sum (map entry_in performances)
journal_sum can before old [] after new leads = ap (λ (j : Journal). j.sum) leads.0
journal_sum can before old (one ∷ performances) after new leads =
    journal_sum can (journal_after before one.entry one.seen.layer) one.seen.step.after performances
    after new leads.1

-- executing a list of entries, and then one more entry, is an execution of the longer list
pub leads_more : (can : Bool) (before : Journal) (old : Record) (performances : List Performance)
    (mid : Journal) (here : Record)
    (one : Performance) (after : Journal) (new : Record)
    → LeadsBy can before old performances mid here
    → IsPerformed can mid.layer here one.entry one.seen
    → after ≡ journal_after mid one.entry one.seen.layer → new ≡ one.seen.step.after
    → LeadsBy can before old (performances ++ one ∷ []) after new
leads_more can before old [] mid here one after new leads performed journal leaves = (
  subst (λ (j : Journal). IsPerformed can j.layer old one.entry one.seen) leads.0
      (subst (λ (r : Record). IsPerformed can mid.layer r one.entry one.seen) leads.1 performed),
  (journal ∙ ap (λ (j : Journal). journal_after j one.entry one.seen.layer) leads.0, leaves),
)
leads_more can before old (first ∷ performances) mid here one after new leads performed journal
    leaves = (
      leads.0,
      leads_more can (journal_after before first.entry first.seen.layer) first.seen.step.after
          performances mid here one after new leads.1 performed
          journal leaves,
    )

-- ---- executing one more entry

module _ (can : Bool) (before : Journal) (old : Record) (text : List ℕ) (taken : ℕ) (mid : Journal)
    (here : Record)
    (size : ℕ) (one : Performance) (after : Journal) (Holds : ℕ → ℕ → Type 0)
    (r : Repeats can before old text taken None mid here)
    (p : Performs can mid here (drop taken text) size one after Holds) where
  abbrev entries : List PlainEntry
  entries = map entry_in r.performances

  pub sums_are : map response_sum (r.performances ++ one ∷ []) ≡ map answer_said r.performances
      ++ response_sum one ∷ []
  sums_are = map-append response_sum r.performances (one ∷ [])
      ∙ ap (λ (l : List ℕ). l ++ response_sum one ∷ []) r.answers

  pub said_are : map answer_said (r.performances ++ one ∷ []) ≡ map answer_said r.performances
      ++ answer_said one ∷ []
  said_are = map-append answer_said r.performances (one ∷ [])

  pub entries_are : map entry_in (r.performances ++ one ∷ []) ≡ entries ++ one.entry ∷ []
  entries_are = map-append entry_in r.performances (one ∷ [])

  pub front_is : take (taken + size) text ≡ entries_text before.sum (entries ++ one.entry ∷ [])
  front_is =
      take_further taken size text (omega (arith, r.within, p.within, length-drop taken text))
      ∙ ap (λ (l : List ℕ). l ++ take size (drop taken text)) r.front
      ∙ ap (λ (l : List ℕ). entries_text before.sum entries ++ l)
      (p.front ∙ ap (λ (s : ℕ). entry_text s one.entry)
      (journal_sum can before old r.performances mid here r.leads))
      ∙ sym (entries_more before.sum entries one.entry)

  unfoldable pub joined : (fault : Option FollowFault)
      → AnswersAre fault (map response_sum (r.performances ++ one ∷ []))
      (map answer_said (r.performances ++ one ∷ []))
      → Repeats can before old text (taken + size) fault after one.seen.step.after
  joined fault answers = record {
    performances = r.performances ++ one ∷ [];
    are = subst (AllByRecursion IsEntry) (sym entries_are) (are_more entries one.entry r.are p.is);
    within = omega (arith, r.within, p.within, length-drop taken text);
    front = front_is ∙ ap (entries_text before.sum) (sym entries_are);
    leads = leads_more can before old r.performances mid here one after _ r.leads p.performed
        p.journal refl;
    answers = answers;
  }

unfoldable pub repeats_more : (can : Bool) (before : Journal) (old : Record) (text : List ℕ)
    (taken : ℕ) (mid : Journal) (here : Record)
    (size : ℕ) (one : Performance) (after : Journal)
    → Repeats can before old text taken None mid here
    → Performs can mid here (drop taken text) size one after (λ sum said. sum ≡ said)
    → Repeats can before old text (taken + size) None after one.seen.step.after
repeats_more can before old text taken mid here size one after r p =
    joined can before old text taken mid here size one after _ r p None
    (sums_are can before old text taken mid here size one after _ r p
    ∙ ap (λ (n : ℕ). map answer_said r.performances ++ n ∷ []) p.answer
    ∙ sym (said_are can before old text taken mid here size one after _ r p))

unfoldable pub repeats_otherwise : (can : Bool) (before : Journal) (old : Record) (text : List ℕ)
    (taken : ℕ) (mid : Journal) (here : Record)
    (size : ℕ) (one : Performance) (after : Journal)
    → Repeats can before old text taken None mid here
    → Performs can mid here (drop taken text) size one after (λ sum said. sum ≢ said)
    → Replays can before old text (record { taken = taken + size; fault = Some Otherwise }) after
    one.seen.step.after
repeats_otherwise can before old text taken mid here size one after r p = record {
  repeats = joined can before old text taken mid here size one after _ r p (Some Otherwise) (
    map answer_said r.performances,
    response_sum one,
    answer_said one,
    sums_are can before old text taken mid here size one after _ r p,
    said_are can before old text taken mid here size one after _ r p,
    p.answer,
  );
  ends = tt;
}

-- ---- the beginning and the end

unfoldable pub repeats_none : (can : Bool) (before : Journal) (old : Record) (text : List ℕ)
    → Repeats can before old text 0 None before old
repeats_none can before old text = record {
  performances = [];
  are = tt;
  within = omega arith;
  front = refl;
  leads = (refl, refl);
  answers = refl;
}

pub performs_some : (can : Bool) (before : Journal) (old : Record) (text : List ℕ) (size : ℕ)
    (one : Performance) (after : Journal)
    (Holds : ℕ → ℕ → Type 0) → Performs can before old text size one after Holds → 0 < size
performs_some can before old text size one after Holds p =
    omega (
      arith,
      length-take-le size text p.within,
      ap length p.front,
      entry_text_some before.sum one.entry,
    )

pub ends_torn : (can : Bool) (before : Journal) (old : Record) (text : List ℕ) (taken : ℕ)
    (mid : Journal) (here : Record)
    (after : Journal) (new : Record) → Repeats can before old text taken None mid here
    → IsTorn mid.sum (drop taken text) × (after ≡ mid) × (new ≡ here)
    → Replays can before old text (record { taken = taken; fault = None }) after new
ends_torn can before old text taken mid here after new r end =
    rw (end.1, end.2) (record { repeats = r; ends = end.0 })

unfoldable pub repeats_so : (can : Bool) (before : Journal) (old : Record) (text : List ℕ)
    (taken : ℕ) (mid : Journal) (here : Record)
    → Repeats can before old text taken None mid here
    → Repeats can before old text taken (Some Damaged) mid here
repeats_so can before old text taken mid here r = record {
  performances = r.performances;
  are = r.are;
  within = r.within;
  front = r.front;
  leads = r.leads;
  answers = r.answers;
}

pub ends_damaged : (can : Bool) (before : Journal) (old : Record) (text : List ℕ) (taken : ℕ)
    (mid : Journal) (here : Record)
    (after : Journal) (new : Record) → Repeats can before old text taken None mid here
    → IsDamaged mid.sum (drop taken text) × (after ≡ mid) × (new ≡ here)
    → Replays can before old text (record { taken = taken; fault = Some Damaged }) after new
ends_damaged can before old text taken mid here after new r end =
    rw (end.1, end.2)
    (record { repeats = repeats_so can before old text taken mid here r; ends = end.0 })
