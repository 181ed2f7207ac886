-- Each event preserves the invariant of the folder and of all holders, and so does every run.
use Rattle.std.proofs.Common.{◌≡◌, ℕ, suc, ◌+◌, ◌<◌, ◌==◌, Bool, true, false, cond, List, [], ◌∷◌, ◌++◌, length, take, drop, refl, sym, ap, ◌∙◌, subst, arith, append_assoc, length-append}
use Rattle.std.specs.List.{AllByRecursion}
use Rattle.tpm_keeping.specs.Journal.{Entered, Journal, IsJournal, entries, run}
use Rattle.tpm_keeping.specs.Holder.{Holder, Told, Done, Bytes, Failed, Starved, asked_in, fault_told, forgets, goes, holder_after_ask, holder_after_fault, newborn, next_in, rests, rests_in}
use Rattle.std.proofs.lemmas.Bool.Decides.{nat_tests}
use Rattle.std.proofs.lemmas.List.{append-nil}
use Rattle.tpm_keeping.specs.World.{Effect, All, Event, Starts, Asks, Does, Fails, Dies, Forks, Drops, Crashes, IsStart, Shared, World, does, does_in, fails_in, folder_after_death, folder_after_leaving, happens, starts_in, tells, with_holder, world_after}
use Rattle.tpm_keeping.specs.Kept.{Ascend, IsKept}
use Rattle.tpm_keeping.proofs.Invariant.{spot_of, Each, Fine, IsFile, Safe, Fits, In, IsContent, KnowsOf, StaysOf, Still, holds, sight}
use Rattle.tpm_keeping.proofs.Folder.{drop_moves, promised_within, same_grows, same_moves, state_is}
use Rattle.tpm_keeping.proofs.Answers.{left_moves}
use Rattle.tpm_keeping.proofs.OneStep.{alone, away_fits, beside, does_moves, dropped_fits, forced_fits, goes_fine, has_read_fits, knows_nothing, looks_fits, named_fits, newborn_fits, put_fits, same_lock, update}
use Rattle.tpm_keeping.proofs.Reading.{has_all_knows}
use Rattle.tpm_keeping.proofs.Crash.{crash_still}
use Rattle.tpm_keeping.specs.declared.holder.Force.{Force}
use Rattle.tpm_keeping.specs.declared.holder.Job.{Job}
use Rattle.tpm_keeping.specs.declared.holder.Fault.TheVariants as fault
use Rattle.tpm_keeping.specs.declared.holder.End.{End}
use Rattle.tpm_keeping.specs.declared.holder.End.TheVariants as ending
use Rattle.tpm_keeping.specs.declared.holder.Phase.{Phase}
use Rattle.tpm_keeping.specs.declared.holder.Phase.TheVariants.{Ended, Locking, Looking, Reading, Putting, Forcing, Making, Naming, Settling, Leaving}

-- ---- the lock

locks_fine : (j : Journal) (w : World) (p : ℕ) → Fine j w → KnowsOf j (sight w.shared) (w.holders p)
    → (b : Bool) → w.shared.locked ≡ b
    → Fine j
    (cond b w (with_holder (record w.shared { locked = true; locker = p }) w.holders p
    (goes Looking (w.holders p))))
locks_fine j w p h knows true is = h
locks_fine j w p h knows false is =
    let s = w.shared in
    let t : Shared = record s { locked = true; locker = p } in
    let still = h.still in
    update j w t p (goes Looking (w.holders p))
    (record {
      told = still.told;
      file = still.file;
      older = still.older;
      alone = still.alone;
      each =
          still.each;
      once = still.once;
      safe = still.safe;
    })
    (λ q apart. away_fits j s t q (w.holders q) (same_grows j s t refl (λ none. none) (omega arith))
    (h.holders q)
    (λ theirs. let a = ((h.holders q).lock theirs).0 in let e : false ≡ true = sym is ∙ a in cc))
    (record {
      lock = λ _. (refl, refl);
      now = knows;
      below = (h.holders p).below;
      calm =
          (h.holders p).calm;
    })

knows_stays : (j : Journal) (s : Shared) (k : Holder) → StaysOf j (sight s) k
    → KnowsOf j (sight s) k
knows_stays j s k h = has_all_knows j s k h.all h.has

leaves_fine : (e : End) (j : Journal) (w : World) (p : ℕ) → Fine j w
    → holds (w.holders p).phase ≡ true → In (Leaving e) j (sight w.shared) (w.holders p)
    → Fine j (with_holder (folder_after_leaving j e w.shared (w.holders p)) w.holders p
    (goes (Ended e) (w.holders p)))
leaves_fine ending.Done j w p h mine now =
    let s = w.shared in
    let k = w.holders p in
    goes_fine j w (folder_after_leaving j ending.Done s k) p (goes (Ended ending.Done) k) h mine
    (left_moves ending.Done j s k h.still now)
    (record {
      lock = λ off. absurd cc;
      now = knows_stays j s k now.stays;
      below =
          (h.holders p).below;
      calm = (h.holders p).calm;
    })
leaves_fine (ending.Failed f) j w p h mine now =
    let s = w.shared in
    let k = w.holders p in
    goes_fine j w (folder_after_leaving j (ending.Failed f) s k) p
    (goes (Ended (ending.Failed f)) k) h mine (left_moves (ending.Failed f) j s k h.still now)
    (record {
      lock = λ off. absurd cc;
      now = now;
      below = (h.holders p).below;
      calm =
          (h.holders p).calm;
    })

-- ---- a task is done

does_fine : (phase : Phase) (j : Journal) (w : World) (p more : ℕ) → IsJournal j → (h : Fine j w)
    → (w.holders p).phase ≡ phase
    → In phase j (sight w.shared) (w.holders p)
    → (holds phase ≡ true → (w.shared.locked ≡ true) × (w.shared.locker ≡ p))
    → Fine j (does_in j phase w p (w.holders p) more)
does_fine (Ended e) j w p more laws h is now lock = h
does_fine Locking j w p more laws h is now lock = locks_fine j w p h now w.shared.locked refl
does_fine (Leaving e) j w p more laws h is now lock = leaves_fine e j w p h (ap holds is) now
does_fine Looking j w p more laws h is now lock =
    let s = w.shared in
    let k = w.holders p in
    let fits = looks_fits j s p k more laws h.still (lock refl) (h.holders p).below
    (h.holders p).calm now in
    goes_fine j w s p (next_in j Looking k (tells Looking s k more)) h (ap holds is)
    (same_moves j s h.still) fits
does_fine Reading j w p more laws h is now lock =
    let s = w.shared in
    let k = w.holders p in
    let bytes = take (suc more) (drop k.seen s.file.now.text) in
    let fits = has_read_fits j s p k bytes (suc more) laws h.still (lock refl) (h.holders p).below
    (h.holders p).calm now refl in
    goes_fine j w s p (next_in j Reading k (Bytes bytes)) h (ap holds is) (same_moves j s h.still)
    fits
does_fine Putting j w p more laws h is now lock =
    let s = w.shared in
    let k = w.holders p in
    goes_fine j w (does j Putting s k All) p (next_in j Putting k Done) h (ap holds is)
    (does_moves Putting All j s k laws h.still now)
    (put_fits j s p k h.still (lock refl) (h.holders p).below (h.holders p).calm now)
does_fine Forcing j w p more laws h is now lock =
    let s = w.shared in
    let k = w.holders p in
    goes_fine j w (does j Forcing s k All) p (next_in j Forcing k Done) h (ap holds is)
    (does_moves Forcing All j s k laws h.still now)
    (forced_fits j s p k h.still (lock refl) (h.holders p).below (h.holders p).calm now.0 now.2)
does_fine Making j w p more laws h is now lock =
    let s = w.shared in
    let k = w.holders p in
    goes_fine j w (does j Making s k All) p (next_in j Making k Done) h (ap holds is)
    (does_moves Making All j s k laws h.still now)
    (record {
      lock = λ _. lock refl;
      now = (now, refl, omega arith);
      below =
          (h.holders p).below;
      calm = (h.holders p).calm;
    })
does_fine Naming j w p more laws h is now lock =
    let s = w.shared in
    let k = w.holders p in
    goes_fine j w (does j Naming s k All) p
    (next_in j Naming k (tells Naming (does j Naming s k All) k more)) h (ap holds is)
    (does_moves Naming All j s k laws h.still now)
    (named_fits j s p k h.still (lock refl) (h.holders p).below now.0 now.2)
does_fine Settling j w p more laws h is now lock =
    let s = w.shared in
    let k = w.holders p in
    goes_fine j w (does j Settling s k All) p (next_in j Settling k Done) h (ap holds is)
    (does_moves Settling All j s k laws h.still now)
    (record {
      lock = λ _. lock refl;
      now = record { stays = now.0; forced = now.1; settled = λ _. refl };
      below = (h.holders p).below;
      calm = λ _ _. refl;
    })

-- ---- a task fails

-- a process that has the lock still has it after its task
lock_after : (j : Journal) (phase : Phase) (effect : Effect) (s : Shared) (k : Holder) (p : ℕ)
    → (s.locked ≡ true) × (s.locker ≡ p)
    → ((does j phase s k effect).locked ≡ true) × ((does j phase s k effect).locker ≡ p)
lock_after j phase effect s k p lock = let same =
    same_lock j phase effect s k in (same.0 ∙ lock.0, same.1 ∙ lock.1)

drops_fine : (phase : Phase) (effect : Effect) (j : Journal) (w : World) (p : ℕ) (told : Told)
    → IsJournal j → (h : Fine j w) → (w.holders p).phase ≡ phase → holds phase ≡ true
    → In phase j (sight w.shared) (w.holders p) → (w.shared.locked ≡ true) × (w.shared.locker ≡ p)
    → Fine j (with_holder (does j phase w.shared (w.holders p) effect) w.holders p
    (holder_after_fault (fault_told phase told) (w.holders p)))
drops_fine phase effect j w p told laws h is mine now lock =
    let s = w.shared in
    let k = w.holders p in
    let moves = does_moves phase effect j s k laws h.still now in
    goes_fine j w (does j phase s k effect) p (holder_after_fault (fault_told phase told) k) h
    (ap holds is ∙ mine) moves
    (dropped_fits j (does j phase s k effect) p k (fault_told phase told)
    (omega (arith, (h.holders p).below, moves.grows.next))
    (lock_after j phase effect s k p lock))

fails_fine : (phase : Phase) (effect : Effect) (starved : Bool) (j : Journal) (w : World) (p : ℕ)
    → IsJournal j → (h : Fine j w) → (w.holders p).phase ≡ phase
    → In phase j (sight w.shared) (w.holders p)
    → (holds phase ≡ true → (w.shared.locked ≡ true) × (w.shared.locker ≡ p))
    → Fine j (fails_in j phase w p (w.holders p) effect (cond starved Starved Failed))
fails_fine (Ended e) effect starved j w p laws h is now lock = h
fails_fine (Leaving e) effect starved j w p laws h is now lock =
    leaves_fine e j w p h (ap holds is) now
fails_fine Locking effect true j w p laws h is now lock =
    beside j w p (forgets (Ended (ending.Failed fault.Memory)) (w.holders p)) h
    (record {
      lock = λ off. absurd cc;
      now = knows_nothing j w.shared.file (w.holders p).force;
      below = omega (arith, (h.holders p).below);
      calm = λ e. absurd cc;
    })
fails_fine Locking effect false j w p laws h is now lock =
    beside j w p (forgets (Ended (ending.Failed fault.Lock)) (w.holders p)) h
    (record {
      lock = λ off. absurd cc;
      now = knows_nothing j w.shared.file (w.holders p).force;
      below = omega (arith, (h.holders p).below);
      calm = λ e. absurd cc;
    })
fails_fine Looking effect true j w p laws h is now lock =
    drops_fine Looking effect j w p Starved laws h is refl now (lock refl)
fails_fine Looking effect false j w p laws h is now lock =
    drops_fine Looking effect j w p Failed laws h is refl now (lock refl)
fails_fine Reading effect true j w p laws h is now lock =
    drops_fine Reading effect j w p Starved laws h is refl now (lock refl)
fails_fine Reading effect false j w p laws h is now lock =
    drops_fine Reading effect j w p Failed laws h is refl now (lock refl)
fails_fine Putting effect true j w p laws h is now lock =
    drops_fine Putting effect j w p Starved laws h is refl now (lock refl)
fails_fine Putting effect false j w p laws h is now lock =
    drops_fine Putting effect j w p Failed laws h is refl now (lock refl)
fails_fine Forcing effect true j w p laws h is now lock =
    drops_fine Forcing effect j w p Starved laws h is refl now (lock refl)
fails_fine Forcing effect false j w p laws h is now lock =
    drops_fine Forcing effect j w p Failed laws h is refl now (lock refl)
fails_fine Making effect true j w p laws h is now lock =
    drops_fine Making effect j w p Starved laws h is refl now (lock refl)
fails_fine Making effect false j w p laws h is now lock =
    drops_fine Making effect j w p Failed laws h is refl now (lock refl)
fails_fine Naming effect true j w p laws h is now lock =
    drops_fine Naming effect j w p Starved laws h is refl now (lock refl)
fails_fine Naming effect false j w p laws h is now lock =
    drops_fine Naming effect j w p Failed laws h is refl now (lock refl)
fails_fine Settling effect true j w p laws h is now lock =
    drops_fine Settling effect j w p Starved laws h is refl now (lock refl)
fails_fine Settling effect false j w p laws h is now lock =
    drops_fine Settling effect j w p Failed laws h is refl now (lock refl)

-- ---- a process dies

freed_still : (j : Journal) (s : Shared) (p : ℕ) → Still j s → Still j (folder_after_death s p)
freed_still j s p still =
    record {
      told = still.told;
      file = still.file;
      older = still.older;
      alone = still.alone;
      each =
          still.each;
      once = still.once;
      safe = still.safe;
    }

-- if another process dies, a process keeps its lock
freed_fits : (j : Journal) (s : Shared) (p q : ℕ) (k : Holder) → (q == p) ≡ false → Fits j s q k
    → Fits j (folder_after_death s p) q k
freed_fits j s p q k apart h = record {
  lock = λ theirs. (
      let l = h.lock theirs in
      let other : (s.locker == p) ≡ false = ap (λ (x : ℕ). x == p) l.1 ∙ apart in
      (ap (λ (b : Bool). cond b false s.locked) other ∙ l.0, l.1)
      );
  now = h.now;
  below = h.below;
  calm = h.calm;
}

dies_holding : (phase : Phase) (effect : Effect) (j : Journal) (w : World) (p : ℕ) → IsJournal j
    → (h : Fine j w) → (w.holders p).phase ≡ phase → holds phase ≡ true
    → In phase j (sight w.shared) (w.holders p)
    → Fine j (with_holder (folder_after_death (does j phase w.shared (w.holders p) effect) p)
    w.holders p (newborn (w.holders p).force (w.holders p).limit))
dies_holding phase effect j w p laws h is mine now =
    let s = w.shared in
    let k = w.holders p in
    let t = does j phase s k effect in
    let moves = does_moves phase effect j s k laws h.still now in
    update j w (folder_after_death t p) p (newborn k.force k.limit) (freed_still j t p moves.still)
    (λ q apart. freed_fits j t p q (w.holders q) apart
    (away_fits j s t q (w.holders q) moves.grows (h.holders q)
    (alone j w p h (ap holds is ∙ mine) q apart)))
    (newborn_fits j (folder_after_death t p) p k.force k.limit
    (omega (arith, (h.holders p).below, moves.grows.next)))

dies_beside : (j : Journal) (w : World) (p : ℕ) → (h : Fine j w)
    → Fine j (with_holder (folder_after_death w.shared p) w.holders p
    (newborn (w.holders p).force (w.holders p).limit))
dies_beside j w p h =
    let s = w.shared in
    let k = w.holders p in
    update j w (folder_after_death s p) p (newborn k.force k.limit) (freed_still j s p h.still)
    (λ q apart. freed_fits j s p q (w.holders q) apart (h.holders q))
    (newborn_fits j (folder_after_death s p) p k.force k.limit (omega (arith, (h.holders p).below)))

dies_fine : (phase : Phase) (effect : Effect) (j : Journal) (w : World) (p : ℕ) → IsJournal j
    → (h : Fine j w) → (w.holders p).phase ≡ phase
    → In phase j (sight w.shared) (w.holders p)
    → Fine j (with_holder (folder_after_death (does j phase w.shared (w.holders p) effect) p)
    w.holders p (newborn (w.holders p).force (w.holders p).limit))
dies_fine (Ended e) effect j w p laws h is now = dies_beside j w p h
dies_fine Locking effect j w p laws h is now = dies_beside j w p h
dies_fine Looking effect j w p laws h is now = dies_holding Looking effect j w p laws h is refl now
dies_fine Reading effect j w p laws h is now = dies_holding Reading effect j w p laws h is refl now
dies_fine Putting effect j w p laws h is now = dies_holding Putting effect j w p laws h is refl now
dies_fine Forcing effect j w p laws h is now = dies_holding Forcing effect j w p laws h is refl now
dies_fine Making effect j w p laws h is now = dies_holding Making effect j w p laws h is refl now
dies_fine Naming effect j w p laws h is now = dies_holding Naming effect j w p laws h is refl now
dies_fine Settling effect j w p laws h is now =
    dies_holding Settling effect j w p laws h is refl now
dies_fine (Leaving e) effect j w p laws h is now =
    dies_holding (Leaving e) effect j w p laws h is refl now

-- ---- a process gets a job, begins, or forks

asked_fits : (phase : Phase) (j : Journal) (s : Shared) (p : ℕ) (k : Holder) (job : Job)
    (command : List ℕ) → In phase j (sight s) k → Fits j s p k
    → Fits j s p (asked_in phase k job command)
asked_fits (Ended e) j s p k job command now h =
    record { lock = λ off. absurd cc; now = now; below = h.below; calm = h.calm }
asked_fits phase j s p k job command now h = h

starts_fits : (phase : Phase) (j : Journal) (s : Shared) (p : ℕ) (k : Holder) (force : Force)
    (limit : ℕ) → 0 < s.next → Fits j s p k
    → Fits j s p (starts_in phase k force limit)
starts_fits (Ended e) j s p k force limit next h = newborn_fits j s p force limit next
starts_fits phase j s p k force limit next h = h

rests_fits : (phase : Phase) (j : Journal) (s : Shared) (p child : ℕ) (k : Holder) → k.phase ≡ phase
    → In phase j (sight s) k → Fits j s p k
    → Fits j s child (rests_in phase k)
rests_fits (Ended e) j s p child k is now h = record {
  lock = λ theirs. absurd (let off : holds k.phase ≡ false = ap holds is in let x : false ≡ true =
      sym off ∙ theirs in cc);
  now = h.now;
  below = h.below;
  calm = h.calm;
}
rests_fits phase j s p child k is now h =
    newborn_fits j s child k.force k.limit (omega (arith, h.below))

-- If the system itself drops bytes that are not synced, the invariant still holds.
drops_by_itself : (j : Journal) (w : World) → Fine j w → (b : Bool) → w.shared.locked ≡ b
    → Fine j
    (cond b w
    (record w {
      shared =
          record w.shared { file = record w.shared.file { is_dropped = true } };
    }))
drops_by_itself j w h true is = h
drops_by_itself j w h false is =
    let s = w.shared in
    let t : Shared = record s { file = record s.file { is_dropped = true } } in
    let moves = drop_moves j s h.still in
    record {
      still = moves.still;
      holders = λ p. away_fits j s t p (w.holders p) moves.grows (h.holders p)
          (λ mine. let a = ((h.holders p).lock mine).0 in let e : false ≡ true = sym is ∙ a in cc);
    }

-- ---- a run

pub step : (j : Journal) (w : World) (e : Event) → IsJournal j → Fine j w → Fine j (happens j w e)
step j w (Starts p force limit) laws h =
    beside j w p (starts_in (w.holders p).phase (w.holders p) force limit) h
    (starts_fits (w.holders p).phase j w.shared p (w.holders p) force limit
    (omega (arith, h.still.file.below)) (h.holders p))
step j w (Asks p job command) laws h =
    beside j w p (holder_after_ask (w.holders p) job command) h
    (asked_fits (w.holders p).phase j w.shared p (w.holders p) job command (h.holders p).now
    (h.holders p))
step j w (Does p more) laws h =
    does_fine (w.holders p).phase j w p more laws h refl (h.holders p).now (h.holders p).lock
step j w (Fails p effect starved) laws h =
    fails_fine (w.holders p).phase effect starved j w p laws h refl (h.holders p).now
    (h.holders p).lock
step j w (Dies p effect) laws h =
    dies_fine (w.holders p).phase effect j w p laws h refl (h.holders p).now
step j w (Forks p child) laws h =
    beside j w child (rests (w.holders p)) h
    (rests_fits (w.holders p).phase j w.shared p child (w.holders p) refl (h.holders p).now
    (h.holders p))
step j w Drops laws h = drops_by_itself j w h w.shared.locked refl
step j w (Crashes file content far litter) laws h = record {
  still = crash_still j w.shared file content far litter laws h.still;
  holders = λ p. newborn_fits j (happens j w (Crashes file content far litter)).shared p
      (w.holders p).force (w.holders p).limit (omega (arith, h.still.file.below));
}

pub steps : (j : Journal) (events : List Event) (w : World) → IsJournal j → Fine j w
    → Fine j (world_after j events w)
steps j [] w laws h = h
steps j (e ∷ events) w laws h = steps j events (happens j w e) laws (step j w e laws h)

-- ---- what follows from the invariant

kept : (j : Journal) (w : World) → IsJournal j → Fine j w → IsKept j w.shared
kept j w laws h =
    let s = w.shared in
    let still = h.still in
    let f = s.file in
    let size = length f.head + length (entries j f.start f.now.commands) in
    record {
      opens = λ named. (
          let t = still.file.now.text named in
          let headed = still.file.headed named in (
            spot_of j f,
            size,
            ap j.opened (t.is ∙ append_assoc f.head (entries j f.start f.now.commands) t.tail)
                ∙ laws.opens f.head f.start f.now.commands t.tail headed.after headed.lives
                still.file.now.entered t.torn,
            state_is j s still named,
          )
          );
      each = still.each;
      once = still.once;
      always = still.safe;
      promised = promised_within j s still;
      lasts = still.file.lasts;
    }

-- ---- the invariant at the start

found_entered : (j : Journal) (w : World) → IsStart j w → (b : Bool)
    → (w.shared.file.number == 0) ≡ b → Entered j w.shared.file.now.commands
found_entered j w h true is =
    let none : w.shared.file.number ≡ 0 = grind (arith, nat_tests) in
    subst (Entered j) (sym (h.none none)) tt
found_entered j w h false is =
    let named : 0 < w.shared.file.number = grind (arith, nat_tests) in
    (h.found named).0.entered

pub start_is_fine : (j : Journal) (w : World) → IsStart j w → Fine j w
start_is_fine j w h =
    let s = w.shared in
    let f = s.file in
    let cs = f.now.commands in
    let told : s.history ≡ f.before ++ cs =
    h.history ∙ ap (λ (x : List (List ℕ)). x ++ cs) (sym h.before) in
    record {
      still = record {
        told = told;
        file = record {
          surely = cs;
          enough = λ named. (
              let found = (h.found named).0 in
              omega (
                arith,
                found.forced,
                ap length found.text,
                length-append f.head (entries j f.start cs ++ found.tail),
                length-append f.head (entries j f.start cs),
                length-append (entries j f.start cs) found.tail,
              )
              );
          kept = omega (arith, h.promised, ap length h.history);
          lasts = h.lasting;
          below = h.next;
          unnamed = λ _. h.before;
          headed = λ named. (
              let found = h.found named in
              record {
                after = found.0.after;
                lives = found.0.lives;
                state =
                    sym found.1 ∙ ap (run j s.origin) (sym h.before);
              }
              );
          now = record {
            rest = [];
            has = sym (append-nil cs);
            more = [];
            of = told ∙ ap (λ (x : List (List ℕ)). f.before ++ x) (sym (append-nil cs));
            entered = found_entered j w h (f.number == 0) refl;
            text = λ named. (
                let found = (h.found named).0 in
                record {
                  tail = found.tail;
                  is =
                      found.text ∙ sym (append_assoc f.head (entries j f.start cs) found.tail);
                  torn = found.torn;
                }
                );
            empty = h.none;
          };
          past = subst (AllByRecursion (IsContent j f.head f.start f.number s.history f.before cs))
              (sym h.past) tt;
        };
        older = subst (AllByRecursion (IsFile j s.origin s.history s.promised s.lasting s.next))
            (sym h.older) tt;
        alone = λ _. h.older;
        each = subst (Each j s.origin s.history) (sym h.answers) tt;
        once = subst Ascend (sym h.answers) tt;
        safe = subst (Safe s.promised) (sym h.answers) tt;
      };
      holders = λ p. subst (λ (k : Holder). Fits j s p k) (sym (h.holders p))
          (newborn_fits j s p (w.holders p).force (w.holders p).limit (omega (arith, h.next)));
    }

pub run_is_fine : (j : Journal) (start : World) (events : List Event) → IsJournal j
    → IsStart j start → Fine j (world_after j events start)
run_is_fine j start events laws h = steps j events start laws (start_is_fine j start h)

pub kept_through_crashes : (j : Journal) (start : World) (events : List Event) → IsJournal j
    → IsStart j start → IsKept j (world_after j events start).shared
kept_through_crashes j start events laws h =
    kept j (world_after j events start) laws (run_is_fine j start events laws h)
