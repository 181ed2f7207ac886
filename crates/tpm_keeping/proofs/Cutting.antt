-- The job `Cut` begins a new journal, in the state after a prefix of the damaged journal.
use Rattle.std.proofs.Common.{◌≡◌, ℕ, ◌+◌, ◌<◌, ◌||◌, Bool, true, false, cond, List, [], ◌∷◌, ◌++◌, length, take, Some, None, Option, refl, sym, subst, arith}
use Rattle.tpm_keeping.specs.Journal.{Journal, IsJournal, Spot}
use Rattle.tpm_keeping.specs.Holder.{Holder, Told, Done, Stands, Gone, Bytes, acts, begins, caught_up, finishes, found_spot, goes, holder_after_look, is_always, is_never, is_read, knows_file, newborn, next_in, next_of, reads_on, salvages, salvages_of}
use Rattle.tpm_keeping.specs.Kept.{KeepsFront, rank, text_read}
use Rattle.tpm_keeping.specs.declared.holder.Job.{Job}
use Rattle.tpm_keeping.specs.declared.holder.Job.TheVariants.{Execute, Renew, Show, Begin, Cut}
use Rattle.tpm_keeping.specs.declared.holder.End.TheVariants as ending
use Rattle.tpm_keeping.specs.declared.holder.Phase.{Phase}
use Rattle.tpm_keeping.specs.declared.holder.Phase.TheVariants.{Ended, Locking, Looking, Reading, Putting, Forcing, Making, Naming, Settling, Leaving}

-- A holder without a device reads the file from the beginning.
abbrev Opens : Holder → Type 0
Opens k = k.device ≡ None → k.place ≡ 0

-- If the holder has to make a new journal, that journal begins in the state after a prefix of the
-- bytes.
abbrev IsCut : Journal → (text : List ℕ) → Holder → Type 0
IsCut j text k = k.phase ≡ Making → KeepsFront j text k

salvages_cuts : (job : Job) (device : Option Spot) (j : Journal) (k : Holder) → IsJournal j
    → job ≡ Cut → (device ≡ None → k.place ≡ 0)
    → IsCut j k.read (salvages j job device k)
salvages_cuts Cut None j k laws is opens = by (j.salvaged k.read) refl
  where
    by : (o : Option (Spot × ℕ)) → j.salvaged k.read ≡ o → IsCut j k.read (salvages_of j k o)
    by None from = λ e. absurd cc
    by (Some salvaged) from =
        let all : k.place + salvaged.1 ≡ salvaged.1 = omega (arith, opens refl) in
        let front : j.opened (take salvaged.1 k.read) ≡ Some (salvaged.0, salvaged.1) =
        laws.salvages k.read salvaged.0 salvaged.1 from in
        λ _. record {
          spot = salvaged.0;
          is = subst (λ (n : ℕ). j.opened (take n k.read) ≡ Some (salvaged.0, n)) (sym all) front;
          out = refl;
        }
salvages_cuts Cut (Some p) j k laws is opens = λ e. absurd cc
salvages_cuts Execute device j k laws is opens = absurd cc
salvages_cuts Renew device j k laws is opens = absurd cc
salvages_cuts Show device j k laws is opens = absurd cc
salvages_cuts Begin device j k laws is opens = absurd cc

-- if the journal is not damaged, the job `Cut` begins no new journal
acts_cuts : (job : Job) (j : Journal) (k : Holder) (p : Spot) (text : List ℕ) → job ≡ Cut
    → IsCut j text (acts j job k p)
acts_cuts Cut j k p text is = by (is_always k.force) (k.settled || is_never k.force)
  where
    by : (a b : Bool) → cond a Putting (cond b (Leaving ending.Done) Settling) ≡ Making
        → KeepsFront j text (acts j Cut k p)
    by true b e = absurd cc
    by false true e = absurd cc
    by false false e = absurd cc
acts_cuts Execute j k p text is = absurd cc
acts_cuts Renew j k p text is = absurd cc
acts_cuts Show j k p text is = absurd cc
acts_cuts Begin j k p text is = absurd cc

reads_on_cuts : (j : Journal) (k : Holder) → IsJournal j → k.job ≡ Cut → Opens k
    → IsCut j k.read (reads_on j k)
reads_on_cuts j k laws is opens = by (is_read k)
  where
    finished : (o : Option (Spot × ℕ)) → IsCut j k.read (finishes j k o)
    finished None = salvages_cuts k.job k.device j k laws is opens
    finished (Some found) = acts_cuts k.job j (caught_up k found.1) found.0 k.read is

    by : (b : Bool)
        → IsCut j k.read (cond b (finishes j k (found_spot j k.device k.read)) (goes Reading k))
    by true = finished (found_spot j k.device k.read)
    by false = λ e. absurd cc

looked_cuts : (j : Journal) (k : Holder) (file size : ℕ) → IsJournal j → k.job ≡ Cut → Opens k
    → IsCut j [] (holder_after_look j k file size)
looked_cuts j k file size laws is opens = by (knows_file k file size)
  where
    known : Holder
    known = record k { size = size; seen = k.place; read = [] }

    other : Holder
    other = record (newborn k.force k.limit) {
      job = k.job;
      command = k.command;
      file = file;
      size =
          size;
    }

    by : (b : Bool) → IsCut j [] (cond b (reads_on j known) (reads_on j other))
    by true = reads_on_cuts j known laws is opens
    by false = reads_on_cuts j other laws is (λ _. refl)

begins_cuts : (job : Job) (j : Journal) (k : Holder) (text : List ℕ) → job ≡ Cut
    → IsCut j text (begins j job k)
begins_cuts Cut j k text is = λ e. absurd cc
begins_cuts Execute j k text is = absurd cc
begins_cuts Renew j k text is = absurd cc
begins_cuts Show j k text is = absurd cc
begins_cuts Begin j k text is = absurd cc

next_cuts : (phase : Phase) (told : Told) (j : Journal) (k : Holder) → IsJournal j → k.job ≡ Cut
    → rank phase < 3 → Opens k
    → IsCut j (text_read phase k told) (next_in j phase k told)
next_cuts Locking Done j k laws is before opens = λ e. absurd cc
next_cuts Locking told j k laws is before opens = λ e. absurd cc
next_cuts Looking (Stands file size) j k laws is before opens =
    looked_cuts j k file size laws is opens
next_cuts Looking Gone j k laws is before opens = begins_cuts k.job j k [] is
next_cuts Looking told j k laws is before opens = λ e. absurd cc
next_cuts Reading (Bytes []) j k laws is before opens = λ e. absurd cc
next_cuts Reading (Bytes (b ∷ bs)) j k laws is before opens =
    reads_on_cuts j (record k { seen = k.seen + length (b ∷ bs); read = k.read ++ b ∷ bs }) laws is
    opens
next_cuts Reading told j k laws is before opens = λ e. absurd cc
next_cuts Putting told j k laws is before opens = absurd (omega (arith, before))
next_cuts Forcing told j k laws is before opens = absurd (omega (arith, before))
next_cuts Making told j k laws is before opens = absurd (omega (arith, before))
next_cuts Naming told j k laws is before opens = absurd (omega (arith, before))
next_cuts Settling told j k laws is before opens = absurd (omega (arith, before))
next_cuts (Leaving e) told j k laws is before opens = absurd (omega (arith, before))
next_cuts (Ended e) told j k laws is before opens = absurd (omega (arith, before))

pub cuts_keep_a_front : (j : Journal) (k : Holder) (told : Told) → IsJournal j → k.job ≡ Cut
    → rank k.phase < 3 → Opens k
    → (next_of j k told).phase ≡ Making → KeepsFront j (text_read k.phase k told) (next_of j k told)
cuts_keep_a_front j k told laws is before opens = next_cuts k.phase told j k laws is before opens
