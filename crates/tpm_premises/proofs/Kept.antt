-- Proves that folders without a journal, and with any journal, are starts.
use Rattle.std.proofs.Common.{◌≡◌, ◌++◌, List, ℕ, [], true, refl, sym, ap, arith, append-nil}
use Rattle.tpm_keeping.specs.Journal.{entries, first_spot, trail}
use Rattle.tpm_premises.specs.Kept.{StartsEmpty, StartsWithJournal}

pub starts_empty : StartsEmpty
starts_empty j force limit = record {
  found = λ some. absurd (omega (arith, some));
  none = λ is. refl;
  history = refl;
  before = refl;
  past = refl;
  older = refl;
  next = omega arith;
  unlocked = refl;
  promised = omega arith;
  lasting = λ lasts. cc lasts;
  answers = refl;
  holders = λ p. refl;
}

pub starts_with_journal : StartsWithJournal
starts_with_journal j state commands force limit journal is entered = record {
  found = λ some. (
    record {
      after = journal.heads state is;
      lives = is;
      entered = entered;
      tail = [];
      torn = journal.nothing (trail j (first_spot j state) commands);
      text = ap (λ (l : List ℕ). j.head state ++ l)
          (sym (append-nil (entries j (first_spot j state) commands)));
      forced = refl;
    },
    refl,
  );
  none = λ is. absurd (omega (arith, is));
  history = refl;
  before = refl;
  past = refl;
  older = refl;
  next = omega arith;
  unlocked = refl;
  promised = omega arith;
  lasting = λ lasts. omega arith;
  answers = refl;
  holders = λ p. refl;
}
