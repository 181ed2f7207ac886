-- If all commands of the journal at the start and all requested commands have a property, all
-- commands of the history have it.
use Rattle.std.proofs.Common.{◌≡◌, ℕ, ◌+◌, ◌==◌, Bool, true, false, cond, List, [], ◌∷◌, ◌++◌, length, Some, None, Option, refl, sym, subst}
use Rattle.std.specs.List.{AllByRecursion}
use Rattle.std.specs.Prelude.{nat_le, ◌||◌}
use Rattle.tpm_keeping.specs.Journal.{Journal, IsJournal, Spot}
use Rattle.tpm_keeping.specs.Holder.{Holder, Told, Done, Stands, Gone, Bytes, Failed, Starved, acts, asked_in, begins, begins_of, caught_up, enters, executes, finishes, found_spot, goes, holder_after_look, is_always, is_grown, is_never, is_read, knows_file, leaps, newborn, next_in, reads_on, refuses, rests_in, salvages, salvages_of, settles}
use Rattle.tpm_keeping.specs.World.{Effect, Part, All, Event, Starts, Asks, Does, Fails, Dies, Forks, Drops, Crashes, IsStart, Shared, World, adds, leads, does, does_in, fails_in, folder_after_death, world_after, happens, folder_after_leaving, folder_after_loss, put_more, starts_in, tells, with_holder}
use Rattle.tpm_keeping.specs.Kept.{Pass}
use Rattle.tpm_keeping.proofs.Invariant.{Fine}
use Rattle.tpm_keeping.proofs.Promises.{crash_is_front}
use Rattle.tpm_keeping.proofs.Runs.{start_is_fine, step}
use Rattle.tpm_keeping.specs.declared.holder.Force.{Force}
use Rattle.tpm_keeping.specs.declared.holder.Job.{Job}
use Rattle.tpm_keeping.specs.declared.holder.Job.TheVariants.{Execute, Renew, Show, Begin, Cut}
use Rattle.tpm_keeping.specs.declared.holder.End.{End}
use Rattle.tpm_keeping.specs.declared.holder.End.TheVariants as ending
use Rattle.tpm_keeping.specs.declared.holder.Phase.{Phase}
use Rattle.tpm_keeping.specs.declared.holder.Phase.TheVariants.{Ended, Locking, Looking, Reading, Putting, Forcing, Making, Naming, Settling, Leaving}

abbrev Passing : (List ℕ → Bool) → List (List ℕ) → Type 0
Passing test cs = AllByRecursion (λ c. test c ≡ true) cs

-- The command of the call passes the test, unless the call has ended or only has to release the
-- lock.
abbrev Fair : (List ℕ → Bool) → Phase → List ℕ → Type 0
Fair test (Ended e) c = Unit {0}
Fair test (Leaving e) c = Unit {0}
Fair test phase c = test c ≡ true

abbrev IsFair : (List ℕ → Bool) → Holder → Type 0
IsFair test k = Fair test k.phase k.command

-- ---- a holder

chosen : (test : List ℕ → Bool) (c : List ℕ) (b : Bool) (x y : Phase) → Fair test x c
    → Fair test y c → Fair test (cond b x y) c
chosen test c true x y hx hy = hx
chosen test c false x y hx hy = hy

settles_fair : (test : List ℕ → Bool) (k : Holder) → test k.command ≡ true
    → Fair test (settles k) k.command
settles_fair test k ok = chosen test k.command (k.settled || is_never k.force) (Leaving ending.Done)
    Settling tt ok

enters_fair : (test : List ℕ → Bool) (j : Journal) (k : Holder) (s : Spot) (b : Bool)
    → test k.command ≡ true → IsFair test (enters j k s b)
enters_fair test j k s true ok = ok
enters_fair test j k s false ok = ok

executes_fair : (test : List ℕ → Bool) (j : Journal) (k : Holder) (s : Spot) → test k.command ≡ true
    → IsFair test (executes j k s)
executes_fair test j k s ok = by (j.is_command k.command) (j.is_entered k.command)
  where
    by : (a b : Bool)
        → IsFair test (cond a (cond b (enters j k s (is_grown j k s)) (leaps j k s)) (refuses k s))
    by false b = tt
    by true true = enters_fair test j k s (is_grown j k s) ok
    by true false = ok

acts_fair : (job : Job) (test : List ℕ → Bool) (j : Journal) (k : Holder) (s : Spot)
    → test k.command ≡ true → IsFair test (acts j job k s)
acts_fair Execute test j k s ok = executes_fair test j k s ok
acts_fair Renew test j k s ok = ok
acts_fair Show test j k s ok =
    chosen test k.command (is_always k.force) Putting (settles k) ok (settles_fair test k ok)
acts_fair Begin test j k s ok =
    chosen test k.command (is_always k.force) Putting (settles k) ok (settles_fair test k ok)
acts_fair Cut test j k s ok =
    chosen test k.command (is_always k.force) Putting (settles k) ok (settles_fair test k ok)

salvages_fair : (job : Job) (device : Option Spot) (test : List ℕ → Bool) (j : Journal) (k : Holder)
    → test k.command ≡ true → IsFair test (salvages j job device k)
salvages_fair Cut None test j k ok = by (j.salvaged k.read)
  where
    by : (o : Option (Spot × ℕ)) → IsFair test (salvages_of j k o)
    by None = tt
    by (Some salvaged) = ok
salvages_fair Cut (Some p) test j k ok = tt
salvages_fair Execute device test j k ok = tt
salvages_fair Renew device test j k ok = tt
salvages_fair Show device test j k ok = tt
salvages_fair Begin device test j k ok = tt

finishes_fair : (o : Option (Spot × ℕ)) (test : List ℕ → Bool) (j : Journal) (k : Holder)
    → test k.command ≡ true → IsFair test (finishes j k o)
finishes_fair None test j k ok = salvages_fair k.job k.device test j k ok
finishes_fair (Some found) test j k ok =
    acts_fair k.job test j (caught_up k found.1) found.0 ok

reads_on_fair : (test : List ℕ → Bool) (j : Journal) (k : Holder) → test k.command ≡ true
    → IsFair test (reads_on j k)
reads_on_fair test j k ok = by (is_read k)
  where
    by : (b : Bool)
        → IsFair test (cond b (finishes j k (found_spot j k.device k.read)) (goes Reading k))
    by true = finishes_fair (found_spot j k.device k.read) test j k ok
    by false = ok

looked_fair : (test : List ℕ → Bool) (j : Journal) (k : Holder) (file size : ℕ)
    → test k.command ≡ true → IsFair test (holder_after_look j k file size)
looked_fair test j k file size ok = by (knows_file k file size)
  where
    by : (b : Bool)
        → IsFair test (cond b (reads_on j (record k { size = size; seen = k.place; read = [] }))
        (reads_on j
        (record (newborn k.force k.limit) {
          job = k.job;
          command = k.command;
          file =
              file;
          size = size;
        })))
    by true = reads_on_fair test j (record k { size = size; seen = k.place; read = [] }) ok
    by false =
        reads_on_fair test j
        (record (newborn k.force k.limit) {
          job = k.job;
          command = k.command;
          file = file;
          size =
              size;
        }) ok

begins_fair : (job : Job) (test : List ℕ → Bool) (j : Journal) (k : Holder) → test k.command ≡ true
    → IsFair test (begins j job k)
begins_fair Begin test j k ok = by (j.begun k.command)
  where
    by : (o : Option (List ℕ)) → IsFair test (begins_of j k o)
    by None = tt
    by (Some s) = ok
begins_fair Execute test j k ok = tt
begins_fair Renew test j k ok = tt
begins_fair Show test j k ok = tt
begins_fair Cut test j k ok = tt

next_fair : (phase : Phase) (told : Told) (test : List ℕ → Bool) (j : Journal) (k : Holder)
    → k.phase ≡ phase → Fair test phase k.command → IsFair test (next_in j phase k told)
next_fair (Ended e) told test j k is ok = subst (λ (x : Phase). Fair test x k.command) (sym is) tt
next_fair (Leaving e) told test j k is ok = tt
next_fair Locking Done test j k is ok = ok
next_fair Locking told test j k is ok = tt
next_fair Looking (Stands file size) test j k is ok = looked_fair test j k file size ok
next_fair Looking Gone test j k is ok = begins_fair k.job test j k ok
next_fair Looking told test j k is ok = tt
next_fair Reading (Bytes []) test j k is ok = tt
next_fair Reading (Bytes (b ∷ bs)) test j k is ok =
    reads_on_fair test j (record k { seen = k.seen + length (b ∷ bs); read = k.read ++ b ∷ bs }) ok
next_fair Reading told test j k is ok = tt
next_fair Putting Done test j k is ok =
    chosen test k.command (is_always k.force) Forcing (settles k) ok (settles_fair test k ok)
next_fair Putting told test j k is ok = tt
next_fair Forcing Done test j k is ok = settles_fair test k ok
next_fair Forcing told test j k is ok = tt
next_fair Making Done test j k is ok = ok
next_fair Making told test j k is ok = tt
next_fair Naming (Stands file size) test j k is ok =
    chosen test k.command (is_never k.force) (Leaving ending.Done) Settling tt ok
next_fair Naming told test j k is ok = tt
next_fair Settling told test j k is ok = settled_fair told
  where
    settled_fair : (told : Told) → IsFair test (next_in j Settling k told)
    settled_fair Done = tt
    settled_fair told = tt

-- ---- the folder

both_pass : (test : List ℕ → Bool) (cs ds : List (List ℕ)) → Passing test cs → Passing test ds
    → Passing test (cs ++ ds)
both_pass test [] ds hc hd = hd
both_pass test (c ∷ cs) ds hc hd = (hc.0, both_pass test cs ds hc.1 hd)

front_passes : (test : List ℕ → Bool) (cs ds : List (List ℕ)) → Passing test (cs ++ ds)
    → Passing test cs
front_passes test [] ds h = tt
front_passes test (c ∷ cs) ds h = (h.0, front_passes test cs ds h.1)

one_passes : (test : List ℕ → Bool) (c : List ℕ) (b : Bool) → test c ≡ true
    → Passing test (cond b (c ∷ []) [])
one_passes test c true ok = (ok, tt)
one_passes test c false ok = tt

other_passes : (test : List ℕ → Bool) (c : List ℕ) (b : Bool) → test c ≡ true
    → Passing test (cond b [] (c ∷ []))
other_passes test c true ok = tt
other_passes test c false ok = (ok, tt)

adds_pass : (job : Job) (test : List ℕ → Bool) (j : Journal) (c : List ℕ) → test c ≡ true
    → Passing test (adds j job c)
adds_pass Execute test j c ok = one_passes test c (j.is_entered c) ok
adds_pass Renew test j c ok = tt
adds_pass Show test j c ok = tt
adds_pass Begin test j c ok = tt
adds_pass Cut test j c ok = tt

leads_pass : (job : Job) (test : List ℕ → Bool) (j : Journal) (c : List ℕ) → test c ≡ true
    → Passing test (leads j job c)
leads_pass Execute test j c ok = other_passes test c (j.is_entered c) ok
leads_pass Renew test j c ok = tt
leads_pass Show test j c ok = tt
leads_pass Begin test j c ok = tt
leads_pass Cut test j c ok = tt

put_passes : (test : List ℕ → Bool) (j : Journal) (s : Shared) (k : Holder) (count : ℕ)
    → test k.command ≡ true → Passing test s.history
    → Passing test (s.history ++ put_more j k count)
put_passes test j s k count ok h =
    both_pass test s.history (put_more j k count) h (by (nat_le (length k.out) count))
  where
    by : (b : Bool) → Passing test (cond b (adds j k.job k.command) [])
    by true = adds_pass k.job test j k.command ok
    by false = tt

does_passes : (phase : Phase) (effect : Effect) (test : List ℕ → Bool) (j : Journal) (s : Shared)
    (k : Holder) → Fair test phase k.command → Passing test s.history
    → Passing test (does j phase s k effect).history
does_passes Putting (Part count) test j s k ok h = put_passes test j s k count ok h
does_passes Putting All test j s k ok h = put_passes test j s k (length k.out) ok h
does_passes Forcing (Part count) test j s k ok h = h
does_passes Forcing All test j s k ok h = h
does_passes Making (Part count) test j s k ok h = h
does_passes Making All test j s k ok h = h
does_passes Naming All test j s k ok h =
    both_pass test (s.history ++ leads j k.job k.command) (adds j k.job k.command)
    (both_pass test s.history (leads j k.job k.command) h (leads_pass k.job test j k.command ok))
    (adds_pass k.job test j k.command ok)
does_passes Settling All test j s k ok h = h
does_passes phase effect test j s k ok h = h

left_passes : (e : End) (test : List ℕ → Bool) (j : Journal) (s : Shared) (k : Holder)
    → Passing test s.history → Passing test (folder_after_leaving j e s k).history
left_passes ending.Done test j s k h = h
left_passes (ending.Failed f) test j s k h = h

-- ---- a run

record AllFair (test : List ℕ → Bool) (w : World) : Type 0 where
  history : Passing test w.shared.history
  holders : (p : ℕ) → IsFair test (w.holders p)

pick : (test : List ℕ → Bool) (b : Bool) (new old : Holder) → IsFair test new → IsFair test old
    → IsFair test (cond b new old)
pick test true new old hn ho = hn
pick test false new old hn ho = ho

with_fair : (test : List ℕ → Bool) (w : World) (s : Shared) (p : ℕ) (new : Holder) → AllFair test w
    → Passing test s.history → IsFair test new → AllFair test (with_holder s w.holders p new)
with_fair test w s p new h history mine =
    record {
      history = history;
      holders =
          λ q. pick test (q == p) new (w.holders q) mine (h.holders q);
    }

choice : (test : List ℕ → Bool) (b : Bool) (v w : World) → AllFair test v → AllFair test w
    → AllFair test (cond b v w)
choice test true v w hv hw = hv
choice test false v w hv hw = hw

-- After a step that neither takes nor releases the lock, all commands still pass the test.
moves_fair : (phase : Phase) (effect : Effect) (told : Told) (test : List ℕ → Bool) (j : Journal)
    (w : World) (p : ℕ) → AllFair test w → (w.holders p).phase ≡ phase
    → Fair test phase (w.holders p).command
    → AllFair test (with_holder (does j phase w.shared (w.holders p) effect) w.holders p
    (next_in j phase (w.holders p) told))
moves_fair phase effect told test j w p h is ok =
    let k = w.holders p in
    with_fair test w (does j phase w.shared k effect) p (next_in j phase k told) h
    (does_passes phase effect test j w.shared k ok h.history)
    (next_fair phase told test j k is ok)

does_fair : (phase : Phase) (test : List ℕ → Bool) (j : Journal) (w : World) (p more : ℕ)
    → AllFair test w → (w.holders p).phase ≡ phase → Fair test phase (w.holders p).command
    → AllFair test (does_in j phase w p (w.holders p) more)
does_fair (Ended e) test j w p more h is ok = h
does_fair Locking test j w p more h is ok =
    let s : Shared = record w.shared { locked = true; locker = p } in
    let new = with_holder s w.holders p (next_in j Locking (w.holders p) Done) in
    choice test w.shared.locked w new h
    (with_fair test w s p (next_in j Locking (w.holders p) Done) h h.history ok)
does_fair (Leaving e) test j w p more h is ok =
    with_fair test w (folder_after_leaving j e w.shared (w.holders p)) p
    (next_in j (Leaving e) (w.holders p) Done) h
    (left_passes e test j w.shared (w.holders p) h.history) tt
does_fair Looking test j w p more h is ok =
    moves_fair Looking All (tells Looking w.shared (w.holders p) more) test j w p h is ok
does_fair Reading test j w p more h is ok =
    moves_fair Reading All (tells Reading w.shared (w.holders p) more) test j w p h is ok
does_fair Putting test j w p more h is ok = moves_fair Putting All Done test j w p h is ok
does_fair Forcing test j w p more h is ok = moves_fair Forcing All Done test j w p h is ok
does_fair Making test j w p more h is ok = moves_fair Making All Done test j w p h is ok
does_fair Naming test j w p more h is ok =
    moves_fair Naming All
    (tells Naming (does j Naming w.shared (w.holders p) All) (w.holders p) more) test j w p h is ok
does_fair Settling test j w p more h is ok = moves_fair Settling All Done test j w p h is ok

fails_fair : (phase : Phase) (effect : Effect) (told : Told) (test : List ℕ → Bool) (j : Journal)
    (w : World) (p : ℕ) → AllFair test w → (w.holders p).phase ≡ phase
    → Fair test phase (w.holders p).command
    → AllFair test (fails_in j phase w p (w.holders p) effect told)
fails_fair (Ended e) effect told test j w p h is ok = h
fails_fair (Leaving e) effect told test j w p h is ok =
    with_fair test w (folder_after_leaving j e w.shared (w.holders p)) p
    (next_in j (Leaving e) (w.holders p) told) h
    (left_passes e test j w.shared (w.holders p) h.history) tt
fails_fair Locking effect told test j w p h is ok =
    moves_fair Locking effect told test j w p h is ok
fails_fair Looking effect told test j w p h is ok =
    moves_fair Looking effect told test j w p h is ok
fails_fair Reading effect told test j w p h is ok =
    moves_fair Reading effect told test j w p h is ok
fails_fair Putting effect told test j w p h is ok =
    moves_fair Putting effect told test j w p h is ok
fails_fair Forcing effect told test j w p h is ok =
    moves_fair Forcing effect told test j w p h is ok
fails_fair Making effect told test j w p h is ok = moves_fair Making effect told test j w p h is ok
fails_fair Naming effect told test j w p h is ok = moves_fair Naming effect told test j w p h is ok
fails_fair Settling effect told test j w p h is ok =
    moves_fair Settling effect told test j w p h is ok

starts_fair : (phase : Phase) (test : List ℕ → Bool) (k : Holder) (force : Force) (limit : ℕ)
    → IsFair test k → IsFair test (starts_in phase k force limit)
starts_fair (Ended e) test k force limit h = tt
starts_fair phase test k force limit h = h

asked_fair : (phase : Phase) (test : List ℕ → Bool) (k : Holder) (job : Job) (command : List ℕ)
    → test command ≡ true → IsFair test k → IsFair test (asked_in phase k job command)
asked_fair (Ended e) test k job command ok h = ok
asked_fair phase test k job command ok h = h

rests_fair : (phase : Phase) (test : List ℕ → Bool) (k : Holder) → IsFair test k
    → IsFair test (rests_in phase k)
rests_fair (Ended e) test k h = h
rests_fair phase test k h = tt

event_fair : (test : List ℕ → Bool) (j : Journal) (w : World) (e : Event) → Fine j w
    → Pass test (e ∷ []) → AllFair test w → AllFair test (happens j w e)
event_fair test j w (Starts p force limit) fine ok h =
    with_fair test w w.shared p (starts_in (w.holders p).phase (w.holders p) force limit) h
    h.history (starts_fair (w.holders p).phase test (w.holders p) force limit (h.holders p))
event_fair test j w (Asks p job command) fine ok h =
    with_fair test w w.shared p (asked_in (w.holders p).phase (w.holders p) job command) h h.history
    (asked_fair (w.holders p).phase test (w.holders p) job command ok.0 (h.holders p))
event_fair test j w (Does p more) fine ok h =
    does_fair (w.holders p).phase test j w p more h refl (h.holders p)
event_fair test j w (Fails p effect starved) fine ok h =
    fails_fair (w.holders p).phase effect (cond starved Starved Failed) test j w p h
    refl (h.holders p)
event_fair test j w (Dies p effect) fine ok h =
    let k = w.holders p in
    with_fair test w (folder_after_death (does j k.phase w.shared k effect) p) p
    (newborn k.force k.limit) h
    (does_passes k.phase effect test j w.shared k (h.holders p) h.history) tt
event_fair test j w (Forks p child) fine ok h =
    with_fair test w w.shared child (rests_in (w.holders p).phase (w.holders p)) h h.history
    (rests_fair (w.holders p).phase test (w.holders p) (h.holders p))
event_fair test j w Drops fine ok h =
    choice test w.shared.locked w (record w { shared = folder_after_loss w.shared }) h
    (record { history = h.history; holders = h.holders })
event_fair test j w (Crashes file content far litter) fine ok h =
    let front = crash_is_front j w.shared file content far litter fine.still in
    record {
      history = front_passes test (happens j w (Crashes file content far litter)).shared.history
          front.more (subst (Passing test) front.is h.history);
      holders = λ q. tt;
    }

event_passes : (test : List ℕ → Bool) (e : Event) (es : List Event) → Pass test (e ∷ es)
    → Pass test (e ∷ []) × Pass test es
event_passes test (Asks p job command) es ok = ((ok.0, tt), ok.1)
event_passes test (Starts p force limit) es ok = (tt, ok)
event_passes test (Does p more) es ok = (tt, ok)
event_passes test (Fails p effect starved) es ok = (tt, ok)
event_passes test (Dies p effect) es ok = (tt, ok)
event_passes test (Forks p child) es ok = (tt, ok)
event_passes test Drops es ok = (tt, ok)
event_passes test (Crashes file content far litter) es ok = (tt, ok)

run_fair : (test : List ℕ → Bool) (j : Journal) (es : List Event) (w : World) → IsJournal j
    → Fine j w → Pass test es → AllFair test w → AllFair test (world_after j es w)
run_fair test j [] w laws fine ok h = h
run_fair test j (e ∷ es) w laws fine ok h =
    let x = event_passes test e es ok in
    run_fair test j es (happens j w e) laws (step j w e laws fine) x.1
    (event_fair test j w e fine x.0 h)

pub only_what_was_asked : (j : Journal) (start : World) (events : List Event) (test : List ℕ → Bool)
    → IsJournal j → IsStart j start
    → AllByRecursion (λ c. test c ≡ true) start.shared.history → Pass test events
    → AllByRecursion (λ c. test c ≡ true) (world_after j events start).shared.history
only_what_was_asked j start events test laws h was ok =
    let fair : AllFair test start = record {
      history = was;
      holders = λ p. subst (λ (k : Holder). IsFair test k) (sym (h.holders p)) tt;
    } in
    (run_fair test j events start laws (start_is_fine j start h) ok fair).history
