-- A keeper restarts a journal exactly at its limit.
use Rattle.std.proofs.Common.{◌≡◌, ◌⊎◌, ◌+◌, ◌*◌, ◌/◌, ◌==◌, ◌<◌, ◌≤◌, ℕ, Bool, true, false, cond, [], ◌++◌, length, Some, refl, sym, ap, ◌∙◌, arith, inl, inr, le-leb, eq-eqb}
use Rattle.std.specs.Prelude.{nat_le, ◌&&◌}
use Rattle.std.proofs.lemmas.Bool.{lt-leb}
use Rattle.tpm_keeping.specs.Holder.{Holder, Stands, acts, caught_up, enters, executes, finishes, found_spot, goes, holder_after_look, is_grown, leaps, newborn, next_in, reads_on, refuses}
use Rattle.tpm_keeping.specs.Journal.{IsJournal, Journal, Spot}
use Rattle.tpm_keeping.specs.declared.holder.Job.{Job}
use Rattle.tpm_keeping.specs.declared.holder.Phase.{Phase}
use Rattle.tpm_keeping.specs.declared.holder.Phase.TheVariants.{Reading}
use Rattle.tpm_kept_laws.specs.Limits.{AddsBelowLimit, IsAboutToEnter, RestartsAtLimit, looked}

module _ (j : Journal) (k : Holder) (p : Spot) (journal : IsJournal j) (is : IsAboutToEnter j k p)
  where
    -- the holder before it executes what it read, which is nothing
    abbrev here : Holder
    here = record k { size = k.place; seen = k.place; read = [] }

    -- the holder that opens the file again
    abbrev other : Holder
    other = record (newborn k.force k.limit) {
      job = k.job;
      command = k.command;
      file = k.file;
      size = k.place;
    }

    -- the holder before it executes the command
    abbrev there : Holder
    there = caught_up here 0

    known : looked j k ≡ reads_on j here
    known =
        ap (λ (phase : Phase). next_in j phase k (Stands k.file k.place)) is.phase
        ∙ ap (λ (b : Bool). cond (b && nat_le k.place k.place) (reads_on j here) (reads_on j other))
        (eq-eqb k.file k.file refl)
        ∙ ap (λ (b : Bool). cond b (reads_on j here) (reads_on j other))
        (le-leb k.place k.place (omega arith))

    read : reads_on j here ≡ finishes j here (Some (p, 0))
    read =
        ap (λ (b : Bool). cond b (finishes j here (found_spot j k.device [])) (goes Reading here))
        (le-leb k.place k.place (omega arith))
        ∙ ap (λ d. finishes j here (found_spot j d [])) is.device
        ∙ ap (finishes j here) (journal.follows p [] [] is.is_state tt (journal.nothing p))

    executed : finishes j here (Some (p, 0)) ≡ enters j there p (is_grown j there p)
    executed =
        ap (λ (job : Job). acts j job there p) is.job
        ∙ ap (λ (b : Bool). cond b (cond (j.is_entered k.command)
        (enters j there p (is_grown j there p)) (leaps j there p)) (refuses there p)) is.command
        ∙ ap (λ (b : Bool). cond b (enters j there p (is_grown j there p)) (leaps j there p))
        is.entered

    pub entered : (grown : Bool) → is_grown j there p ≡ grown → looked j k ≡ enters j there p grown
    entered grown is_so = known ∙ read ∙ executed ∙ ap (enters j there p) is_so

both : (a b : Bool) → a ≡ true → b ≡ true → (a && b) ≡ true
both a b x y = rw (x, y) refl

not_first : (a b : Bool) → a ≡ false → (a && b) ≡ false
not_first a b x = rw x refl

not_second : (a b : Bool) → b ≡ false → (a && b) ≡ false
not_second true b x = x
not_second false b x = refl

pub restarts_at_limit : RestartsAtLimit
restarts_at_limit j k p journal is reached twice =
    let grown = both (nat_le k.limit (k.place + 0))
    (nat_le (length (j.head p.state)) ((k.place + 0) / 2))
    (le-leb k.limit (k.place + 0) (omega (arith, reached)))
    (le-leb (length (j.head p.state)) ((k.place + 0) / 2) (omega (arith, twice))) in
    let so = entered j k p journal is true grown in
    (ap (λ (h : Holder). h.phase) so, ap (λ (h : Holder). h.out) so)

pub adds_below_limit : AddsBelowLimit
adds_below_limit j k p journal is less =
    ap (λ (h : Holder). h.phase) (entered j k p journal is false (small less))
  where
    small : (k.place < k.limit) ⊎ (k.place < 2 * length (j.head p.state))
        → is_grown j (there j k p journal is) p ≡ false
    small (inl below) =
        not_first (nat_le k.limit (k.place + 0))
        (nat_le (length (j.head p.state)) ((k.place + 0) / 2))
        (lt-leb k.limit (k.place + 0) (omega (arith, below)))
    small (inr below) =
        not_second (nat_le k.limit (k.place + 0))
        (nat_le (length (j.head p.state)) ((k.place + 0) / 2))
        (lt-leb (length (j.head p.state)) ((k.place + 0) / 2) (omega (arith, below)))
