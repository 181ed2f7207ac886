-- Promised commands remain at the beginning of the history.
use Rattle.std.proofs.Common.{◌≡◌, ℕ, ◌-◌, ◌≤◌, ◌==◌, Bool, true, false, cond, List, [], ◌++◌, length, max, take, refl, sym, ap, ◌∙◌, subst, arith, append_assoc}
use Rattle.std.proofs.lemmas.List.{append-nil, take-append-le}
use Rattle.tpm_keeping.specs.Journal.{Journal, IsJournal, run, whole_in}
use Rattle.tpm_keeping.specs.Holder.{Holder, Told, Starved, Failed}
use Rattle.tpm_keeping.specs.World.{Effect, File, Part, All, Event, Starts, Asks, Does, Fails, Dies, Forks, Drops, Crashes, IsStart, Shared, World, content_at, crashed_to, does, does_in, fails_in, file_at, folder_after_crash, folder_after_leaving, happens, world_after}
use Rattle.tpm_keeping.specs.Kept.{KeepsPromises}
use Rattle.tpm_keeping.proofs.Entries.{IsFront, is_front}
use Rattle.tpm_keeping.proofs.Invariant.{Fine, In, IsContent, IsDone, IsFile, LastIf, Still, sight}
use Rattle.tpm_keeping.proofs.Folder.{promised_within}
use Rattle.tpm_keeping.proofs.Answers.{promise_bounds}
use Rattle.tpm_keeping.proofs.Crash.{content_there, crash_still, file_there}
use Rattle.tpm_keeping.proofs.Runs.{run_is_fine}
use Rattle.tpm_keeping.specs.declared.holder.Job.{Job}
use Rattle.tpm_keeping.specs.declared.holder.Job.TheVariants.{Show}
use Rattle.tpm_keeping.specs.declared.holder.End.{End}
use Rattle.tpm_keeping.specs.declared.holder.End.TheVariants as ending
use Rattle.tpm_keeping.specs.declared.holder.Phase.{Phase}
use Rattle.tpm_keeping.specs.declared.holder.Phase.TheVariants.{Ended, Locking, Looking, Reading, Putting, Forcing, Making, Naming, Settling, Leaving}

-- Commands may have been added to the history, and at least as many commands are promised as
-- before.
pub record Longer (s t : Shared) : Type 0 where
  pub more : List (List ℕ)
  pub is : t.history ≡ s.history ++ more
  pub promised : s.promised ≤ t.promised

same_longer : (s t : Shared) → t.history ≡ s.history → s.promised ≤ t.promised → Longer s t
same_longer s t is le = record { more = []; is = is ∙ sym (append-nil s.history); promised = le }

does_longer : (phase : Phase) (effect : Effect) (j : Journal) (s : Shared) (k : Holder)
    → Longer s (does j phase s k effect)
does_longer Putting (Part count) j s k = record { more = _; is = refl; promised = omega arith }
does_longer Putting All j s k = record { more = _; is = refl; promised = omega arith }
does_longer Forcing (Part count) j s k =
    same_longer s (does j Forcing s k (Part count)) refl (omega arith)
does_longer Forcing All j s k = same_longer s (does j Forcing s k All) refl (omega arith)
does_longer Making (Part count) j s k =
    same_longer s (does j Making s k (Part count)) refl (omega arith)
does_longer Making All j s k = same_longer s (does j Making s k All) refl (omega arith)
does_longer Naming All j s k =
    record { more = _; is = append_assoc s.history _ _; promised = omega arith }
does_longer Settling All j s k = same_longer s (does j Settling s k All) refl (omega arith)
does_longer phase effect j s k = same_longer s s refl (omega arith)

left_longer : (e : End) (j : Journal) (s : Shared) (k : Holder) → s.promised ≤ length s.history
    → Longer s (folder_after_leaving j e s k)
left_longer ending.Done j s k le =
    same_longer s (folder_after_leaving j ending.Done s k)
    refl (promise_bounds j k.force k.job k.command s le).0
left_longer (ending.Failed f) j s k le =
    same_longer s (folder_after_leaving j (ending.Failed f) s k) refl (omega arith)

locks_longer : (w new : World) (b : Bool) → Longer w.shared new.shared
    → Longer w.shared (cond b w new).shared
locks_longer w new true h = same_longer w.shared w.shared refl (omega arith)
locks_longer w new false h = h

does_in_longer : (phase : Phase) (j : Journal) (w : World) (p more : ℕ)
    → w.shared.promised ≤ length w.shared.history
    → Longer w.shared (does_in j phase w p (w.holders p) more).shared
does_in_longer (Ended e) j w p more le = same_longer w.shared w.shared refl (omega arith)
does_in_longer Locking j w p more le =
    let s : Shared = record w.shared { locked = true; locker = p } in
    locks_longer w (does_in j Locking (record w { shared = record w.shared { locked = false } }) p
    (w.holders p) more) w.shared.locked
    (same_longer w.shared s refl (omega arith))
does_in_longer (Leaving e) j w p more le = left_longer e j w.shared (w.holders p) le
does_in_longer Looking j w p more le = does_longer Looking All j w.shared (w.holders p)
does_in_longer Reading j w p more le = does_longer Reading All j w.shared (w.holders p)
does_in_longer Putting j w p more le = does_longer Putting All j w.shared (w.holders p)
does_in_longer Forcing j w p more le = does_longer Forcing All j w.shared (w.holders p)
does_in_longer Making j w p more le = does_longer Making All j w.shared (w.holders p)
does_in_longer Naming j w p more le = does_longer Naming All j w.shared (w.holders p)
does_in_longer Settling j w p more le = does_longer Settling All j w.shared (w.holders p)

fails_in_longer : (phase : Phase) (j : Journal) (w : World) (p : ℕ) (effect : Effect) (told : Told)
    → w.shared.promised ≤ length w.shared.history
    → Longer w.shared (fails_in j phase w p (w.holders p) effect told).shared
fails_in_longer (Ended e) j w p effect told le = same_longer w.shared w.shared refl (omega arith)
fails_in_longer (Leaving e) j w p effect told le = left_longer e j w.shared (w.holders p) le
fails_in_longer Locking j w p effect told le = does_longer Locking effect j w.shared (w.holders p)
fails_in_longer Looking j w p effect told le = does_longer Looking effect j w.shared (w.holders p)
fails_in_longer Reading j w p effect told le = does_longer Reading effect j w.shared (w.holders p)
fails_in_longer Putting j w p effect told le = does_longer Putting effect j w.shared (w.holders p)
fails_in_longer Forcing j w p effect told le = does_longer Forcing effect j w.shared (w.holders p)
fails_in_longer Making j w p effect told le = does_longer Making effect j w.shared (w.holders p)
fails_in_longer Naming j w p effect told le = does_longer Naming effect j w.shared (w.holders p)
fails_in_longer Settling j w p effect told le = does_longer Settling effect j w.shared (w.holders p)

longer_keeps : (s t : Shared) → s.promised ≤ length s.history → Longer s t → KeepsPromises s t
longer_keeps s t le h =
    (h.promised, ap (take s.promised) h.is ∙ take-append-le s.promised s.history h.more le)

-- a crash leaves a prefix of the history
crash_front : (j : Journal) (s : Shared) (f : File) (content far : ℕ) (litter : List ℕ)
    → IsFile j s.origin s.history s.promised s.lasting s.next f
    → IsFront (crashed_to j s f content far litter).history s.history
crash_front j s f content far litter h =
    let c = content_at f.now f.past content in
    let is = content_there (IsContent j f.head f.start f.number s.history f.before h.surely) f.now
    f.past content h.now h.past in
    let count = max f.forced far in
    let inside = whole_in j f.start c.commands (count - length f.head) in
    let front = is_front j f.start c.commands (count - length f.head) in
    record {
      more = front.more ++ is.more;
      is = is.of
          ∙ (ap (λ (x : List (List ℕ)). f.before ++ (x ++ is.more)) front.is
          ∙ (ap (λ (x : List (List ℕ)). f.before ++ x) (append_assoc inside front.more is.more)
          ∙ sym (append_assoc f.before inside (front.more ++ is.more))));
    }

pub crash_is_front : (j : Journal) (s : Shared) (file content far : ℕ) (litter : List ℕ) → Still j s
    → IsFront (folder_after_crash j s file content far litter).history s.history
crash_is_front j s file content far litter still =
    crash_front j s (file_at s.file s.older file) content far litter
    (file_there (IsFile j s.origin s.history s.promised s.lasting s.next) s.file s.older file
    still.file still.older)

crash_keeps : (j : Journal) (s : Shared) (file content far : ℕ) (litter : List ℕ) → IsJournal j
    → Still j s → KeepsPromises s (folder_after_crash j s file content far litter)
crash_keeps j s file content far litter laws still =
    let t = folder_after_crash j s file content far litter in
    let front = crash_is_front j s file content far litter still in
    let le : s.promised ≤ length t.history =
    promised_within j t (crash_still j s file content far litter laws still) in (
      omega arith,
      sym (ap (take s.promised) front.is ∙ take-append-le s.promised t.history front.more le),
    )

dies_longer : (s : Shared) (t : Shared) → Longer s t → (b : Bool)
    → Longer s (record t { locked = cond b false t.locked })
dies_longer s t h b = record { more = h.more; is = h.is; promised = h.promised }

event_keeps : (j : Journal) (w : World) (e : Event) → IsJournal j → Fine j w
    → KeepsPromises w.shared (happens j w e).shared
event_keeps j w (Starts p force limit) laws h = (omega arith, refl)
event_keeps j w (Asks p job command) laws h = (omega arith, refl)
event_keeps j w (Does p more) laws h =
    let le = promised_within j w.shared h.still in
    longer_keeps w.shared (happens j w (Does p more)).shared le
    (does_in_longer (w.holders p).phase j w p more le)
event_keeps j w (Fails p effect starved) laws h =
    let le = promised_within j w.shared h.still in
    longer_keeps w.shared (happens j w (Fails p effect starved)).shared le
    (fails_in_longer (w.holders p).phase j w p effect (cond starved Starved Failed) le)
event_keeps j w (Dies p effect) laws h =
    let le = promised_within j w.shared h.still in
    let t = does j (w.holders p).phase w.shared (w.holders p) effect in
    longer_keeps w.shared (happens j w (Dies p effect)).shared le
    (dies_longer w.shared t (does_longer (w.holders p).phase effect j w.shared (w.holders p))
    (t.locker == p))
event_keeps j w (Forks p child) laws h = (omega arith, refl)
event_keeps j w Drops laws h = by w.shared.locked
  where
    by : (b : Bool) → KeepsPromises w.shared
        (cond b w
        (record w {
          shared =
              record w.shared { file = record w.shared.file { is_dropped = true } };
        })).shared
    by true = (omega arith, refl)
    by false = (omega arith, refl)
event_keeps j w (Crashes file content far litter) laws h =
    crash_keeps j w.shared file content far litter laws h.still

pub promises_are_kept : (j : Journal) (start : World) (events : List Event) (e : Event)
    → IsJournal j → IsStart j start
    → KeepsPromises (world_after j events start).shared
    (happens j (world_after j events start) e).shared
promises_are_kept j start events e laws h =
    event_keeps j (world_after j events start) e laws (run_is_fine j start events laws h)

-- ---- a snapshot

pub snapshots_are_true : (j : Journal) (start : World) (events : List Event) (p : ℕ) → IsJournal j
    → IsStart j start
    → ((world_after j events start).holders p).phase ≡ Leaving ending.Done
    → ((world_after j events start).holders p).job ≡ Show
    → ((world_after j events start).holders p).response
    ≡ j.head (run j (world_after j events start).shared.origin
    (world_after j events start).shared.history)
snapshots_are_true j start events p laws h phase job =
    let w = world_after j events start in
    let s = w.shared in
    let k = w.holders p in
    let fine = run_is_fine j start events laws h in
    let done : IsDone j (sight s) k =
    subst (λ (x : Phase). In x j (sight s) k) phase (fine.holders p).now in
    subst (λ (x : Job). LastIf x j s.origin s.history s.answers k.command k.response) job
    done.stays.last
