-- A device that executes the entries of a journal reaches the position that `walk` defines.
use Rattle.std.proofs.Common.{◌≡◌, ◌<◌, ◌+◌, ◌==◌, ℕ, zero, suc, Bool, true, false, List, [], ◌∷◌, ◌++◌, length, drop, map, get_or, Option, Some, None, Result, Ok, Err, refl, subst, sym, ap, ◌∙◌, append_assoc, arith, length-append, eq-eqb, eqb-true}
use Rattle.std.specs.List.{AllByRecursion}
use Rattle.std.proofs.lemmas.Bool.{false≢true}
use Rattle.std.proofs.lemmas.List.{length-take-le, take-append-drop}
use Rattle.tpm_completion.specs.Execution.{AsksFirst, Completes, CompletesIf, Loads, LoadsOrSends, PlacesIf, Seen, Sends, asked_after, opened_after, sent_after}
use Rattle.tpm_completion.specs.Hiding.{heard}
use Rattle.tpm_completion.specs.declared.completion.Completion.{Completion}
use Rattle.tpm_completion.specs.declared.sending.Sent.{Sent}
use Rattle.tpm_completion.proofs.Exactly.{exactly}
use Rattle.tpm_journal.specs.Command.{IsPerformed, event_of}
use Rattle.tpm_journal.specs.Replay.{AnswersAre, EndsIn, LeadsBy, Performance, Replays, answer_said, entry_in, response_sum}
use Rattle.tpm_journal.specs.State.{journal_after}
use Rattle.tpm_journal.specs.declared.following.FollowFault.{FollowFault}
use Rattle.tpm_journal.specs.declared.following.FollowFault.TheVariants.{Damaged, Otherwise}
use Rattle.tpm_journal.specs.declared.following.Followed.{Followed}
use Rattle.tpm_journal.specs.declared.journal.Journal.{Journal}
use Rattle.tpm_journal_text.specs.Entry.{IsEntry, entry_text, sum_after}
use Rattle.tpm_journal_text.specs.Journal.{IsDamaged, IsTorn, entries_text}
use Rattle.tpm_journal_text.specs.Sum.{sum_of}
use Rattle.tpm_journal_text.proofs.Standing.{entry_text_some}
use Rattle.tpm_keeping.specs.Journal.{Spot}
use Rattle.tpm_context.specs.declared.fault.ContextFault.{ContextFault}
use Rattle.tpm_object.specs.declared.object.Object.{Object}
use Rattle.tpm_record.specs.IsRecord.{IsRecord}
use Rattle.tpm_record.specs.Record.{Record}
use Rattle.tpm_step.specs.step.Events.{Cycled, Given, Placed, PlainEvent}
use Rattle.tpm_kept_journal.specs.Effect.{left_by}
use Rattle.tpm_kept_journal.specs.Opening.{Fails, found_at, found_next, performance, performed_on, spot_after_walk, walk}
use Rattle.tpm_kept_journal.specs.State.{DeviceState, IsDeviceState, bytes_of, spot_of, state_in, state_of_bytes}
use Rattle.tpm_kept_journal.specs.texts.NextAt as next
use Rattle.tpm_kept_journal.specs.texts.Parts.{where_so}
use Rattle.tpm_kept_journal.proofs.Fine.{IsFine}
use Rattle.tpm_kept_journal.proofs.Layers.{completed_fine}
use Rattle.tpm_kept_journal.proofs.States.{state_told}
use Rattle.tpm_kept_journal.proofs.Walks.{found_torn, spot_made, walk_ends, walk_entry, walk_fails, walk_otherwise}
use Rattle.tpm_kept_journal.proofs.texts.NextAt.{next_only}
use Rattle.tpm_kept_journal.proofs.texts.Parts.{so_told}
use Rattle.tpm_kept_journal.proofs.texts.TornText.{is_torn_text-Decides}

-- ---- the record after an effect is valid

content_record : (refused : Bool) (first : Seen) (object : Object) (seen : Seen)
    → IsRecord first.step.after → PlacesIf false refused first object seen
    → IsRecord seen.step.after
content_record false first object seen is (placing, places, same) =
    subst (λ (s : Seen). IsRecord s.step.after) (sym same) places.executes.is_record
content_record true first object seen is (may, same) = absurd (false≢true may)

loads_record : (first : Seen) (content : Result Object ContextFault) (seen : Seen)
    → IsRecord first.step.after → Loads false first content seen
    → IsRecord seen.step.after
loads_record first (Ok object) seen is (refused, places) =
    content_record refused first object seen is places
loads_record first (Err fault) seen is same =
    subst (λ (s : Seen). IsRecord s.step.after) (sym same) is

sends_record : (first : Seen) (buffer : List ℕ) (locality : ℕ) (random : List ℕ)
    (sent : Option Sent) (seen : Seen) → IsRecord first.step.after
    → Sends false first buffer locality random sent seen → IsRecord seen.step.after
sends_record first buffer locality random (Some sent) seen is (second, passes, same) =
    subst (λ (s : Seen). IsRecord s.step.after) (sym same) passes.executes.is_record
sends_record first buffer locality random None seen is same =
    subst (λ (s : Seen). IsRecord s.step.after) (sym same) is

after_record : (first : Seen) (buffer : List ℕ) (locality : ℕ) (random : List ℕ)
    (asked : Option (List ℕ)) (seen : Seen)
    → IsRecord first.step.after → LoadsOrSends false first buffer locality random asked seen
    → IsRecord seen.step.after
after_record first buffer locality random (Some context) seen is loads =
    loads_record first (opened_after first context) seen is loads
after_record first buffer locality random None seen is sends =
    sends_record first buffer locality random (sent_after first buffer) seen is sends

asks_record : (c : Completion) (old : Record) (buffer : List ℕ) (locality elapsed : ℕ)
    (random : List ℕ) (seen : Seen)
    → AsksFirst false c old buffer locality elapsed random seen → IsRecord seen.step.after
asks_record c old buffer locality elapsed random seen (first, passes, rest) =
    after_record first buffer locality random (asked_after first buffer) seen
    passes.executes.is_record rest

completes_record : (c : Completion) (old : Record) (event : PlainEvent) (seen : Seen)
    → Completes false c old event seen → IsRecord seen.step.after
completes_record c old (Given buffer locality elapsed random) seen is =
    asks_record c old buffer locality elapsed random seen is
completes_record c old Cycled seen passes = passes.executes.is_record
completes_record c old (Placed object) seen passes = passes.executes.is_record

pub record_after : (completes : Bool) (c : Completion) (old : Record) (event : PlainEvent)
    (seen : Seen) → CompletesIf false completes c old event seen
    → IsRecord seen.step.after
record_after false c old event seen passes = passes.executes.is_record
record_after true c old event seen is = completes_record c old (heard c event) seen is

-- A device can have the state after an effect.
pub state_after : (s : DeviceState) (completes : Bool) (event : PlainEvent) (elapsed : ℕ)
    (seen : Seen) → IsDeviceState s
    → CompletesIf false completes s.layer s.device event seen
    → IsDeviceState (left_by s elapsed seen)
state_after s completes event elapsed seen is done = record {
  time = omega arith;
  whole = record {
    device = record_after completes s.layer s.device event seen done;
    layer =
        subst (λ (x : Seen). IsFine x.layer)
        (sym (exactly false completes s.layer s.device event seen done refl))
        (completed_fine completes s.layer s.device event is.whole.layer);
  };
}

-- ---- executing one entry again

module _ (before : Journal) (old : Record) (one : Performance)
    (is : IsDeviceState (state_in before old))
    (performed : IsPerformed false before.layer old one.entry one.seen) where
  abbrev here : Spot
  here = spot_of before old

  abbrev there : Spot
  there = spot_of (journal_after before one.entry one.seen.layer) one.seen.step.after

  seen_is : performance (state_in before old) one.entry ≡ one.seen
  seen_is =
      sym (exactly false one.entry.completes before.layer old (event_of one.entry) one.seen
      performed refl)

  pub on_seen : performed_on here.chain one.entry (state_of_bytes here.state)
      ≡ where_so (response_sum one == answer_said one) there
  on_seen =
      ap (performed_on here.chain one.entry) (state_told (state_in before old) is)
      ∙ ap (λ (x : Seen). where_so (sum_of x.step.response == one.entry.answered)
      (spot_made (bytes_of (left_by (state_in before old) one.entry.elapsed x))
      (sum_after before.sum one.entry))) seen_is

  pub next_is : IsDeviceState
      (state_in (journal_after before one.entry one.seen.layer) one.seen.step.after)
  next_is = state_after (state_in before old) one.entry.completes (event_of one.entry)
      one.entry.elapsed one.seen is performed

-- ---- executing several entries again

abbrev text_of : ℕ → List Performance → List ℕ
text_of sum performances = entries_text sum (map entry_in performances)

-- Walking over these entries and further bytes continues with the further bytes, from the position
-- after the entries.
pub record ReadsOn (bound : ℕ) (before : Journal) (old : Record) (performances : List Performance)
    (after : Journal) (new : Record)
    (taken : ℕ) (left : List ℕ) : Type 0 where
  pub more : ℕ
  pub enough : length left < more
  pub is : IsDeviceState (state_in after new)
  pub same : walk bound (spot_of before old) taken (text_of before.sum performances ++ left)
      ≡ walk more (spot_of after new) (taken + length (text_of before.sum performances)) left

abbrev second_of : List ℕ → List ℕ
second_of [] = []
second_of (x ∷ xs) = xs

pub reads_on : (performances : List Performance) (bound : ℕ) (before : Journal) (old : Record)
    (after : Journal) (new : Record) (taken : ℕ) (left : List ℕ)
    → IsDeviceState (state_in before old) → AllByRecursion IsEntry (map entry_in performances)
    → LeadsBy false before old performances after new
    → map response_sum performances ≡ map answer_said performances
    → length (text_of before.sum performances ++ left) < bound
    → ReadsOn bound before old performances after new taken left
reads_on [] bound before old after new taken left is are leads said less = record {
  more = bound;
  enough = less;
  is = subst (λ (r : Record). IsDeviceState (state_in after r)) (sym leads.1)
      (subst (λ (j : Journal). IsDeviceState (state_in j old)) (sym leads.0) is);
  same = (
      let none : taken ≡ taken + 0 = omega arith in
      ap (λ (j : Journal). walk bound (spot_of j old) taken left) (sym leads.0)
      ∙ ap (λ (r : Record). walk bound (spot_of after r) taken left) (sym leads.1)
      ∙ ap (λ (n : ℕ). walk bound (spot_of after new) n left) none
      );
}
reads_on (one ∷ performances) zero before old after new taken left is are leads said less =
    absurd (omega (arith, less))
reads_on (one ∷ performances) (suc bound) before old after new taken left is are leads said less =
    let mid : Journal = journal_after before one.entry one.seen.layer in
    let own : List ℕ = entry_text before.sum one.entry in
    let rest : List ℕ = text_of mid.sum performances in
    let answered : response_sum one ≡ answer_said one = ap (λ (l : List ℕ). get_or l 0 0) said in
    let parts : (own ++ rest) ++ left ≡ own ++ (rest ++ left) = append_assoc own rest left in
    let performed : performed_on before.sum one.entry (state_of_bytes (spot_of before old).state)
    ≡ Some (spot_of mid one.seen.step.after) =
    on_seen before old one is leads.0
    ∙ so_told (response_sum one == answer_said one) (spot_of mid one.seen.step.after)
    (eq-eqb _ _ answered) in
    let less' : length (rest ++ left) < bound =
    omega (
      arith,
      less,
      ap length parts,
      length-append own (rest ++ left),
      entry_text_some before.sum one.entry,
    ) in
    let next = reads_on performances bound mid one.seen.step.after after new (taken + length own)
    left (next_is before old one is leads.0) are.1 leads.1
    (ap second_of said) less' in
    let size : taken + length own + length rest ≡ taken + length (own ++ rest) =
    omega (arith, length-append own rest) in
    record {
      more = next.more;
      enough = next.enough;
      is = next.is;
      same = (
          ap (walk (suc bound) (spot_of before old) taken) parts
          ∙ walk_entry bound (spot_of before old) (spot_of mid one.seen.step.after) one.entry taken
          (rest ++ left) are.0 performed
          ∙ next.same
          ∙ ap (λ (n : ℕ). walk next.more (spot_of after new) n left) size
          );
    }

-- If a device's response differs from the recorded response, the walk fails at this entry or at a
-- later entry.
fails_at : (same : Bool) (one : Performance) (performances : List Performance) (bound : ℕ)
    (before : Journal) (old : Record) (taken : ℕ) (left : List ℕ)
    → IsDeviceState (state_in before old) → IsEntry one.entry
    → IsPerformed false before.layer old one.entry one.seen
    → (response_sum one == answer_said one) ≡ same
    → (response_sum one ≡ answer_said one
    → walk bound (spot_of (journal_after before one.entry one.seen.layer) one.seen.step.after)
    (taken + length (entry_text before.sum one.entry))
    (text_of (sum_after before.sum one.entry) performances ++ left) ≡ None)
    → walk (suc bound) (spot_of before old) taken
    (entry_text before.sum one.entry
    ++ (text_of (sum_after before.sum one.entry) performances ++ left)) ≡ None
fails_at true one performances bound before old taken left is entry performed same later =
    let there : Spot = spot_of (journal_after before one.entry one.seen.layer)
    one.seen.step.after in
    walk_entry bound (spot_of before old) there one.entry taken
    (text_of (sum_after before.sum one.entry) performances ++ left) entry
    (on_seen before old one is performed ∙ ap (λ (b : Bool). where_so b there) same)
    ∙ later (eqb-true _ _ same)
fails_at false one performances bound before old taken left is entry performed same later =
    let there : Spot = spot_of (journal_after before one.entry one.seen.layer)
    one.seen.step.after in
    walk_otherwise bound (spot_of before old) one.entry taken
    (text_of (sum_after before.sum one.entry) performances ++ left) entry
    (on_seen before old one is performed ∙ ap (λ (b : Bool). where_so b there) same)

pub fails : (performances : List Performance) (bound : ℕ) (before : Journal) (old : Record)
    (after : Journal) (new : Record) (taken : ℕ) (left : List ℕ)
    → IsDeviceState (state_in before old) → AllByRecursion IsEntry (map entry_in performances)
    → LeadsBy false before old performances after new
    → (map response_sum performances ≡ map answer_said performances → ⊥)
    → length (text_of before.sum performances ++ left) < bound
    → walk bound (spot_of before old) taken (text_of before.sum performances ++ left) ≡ None
fails [] bound before old after new taken left is are leads differ less = absurd (differ refl)
fails (one ∷ performances) zero before old after new taken left is are leads differ less =
    absurd (omega (arith, less))
fails (one ∷ performances) (suc bound) before old after new taken left is are leads differ less =
    let mid : Journal = journal_after before one.entry one.seen.layer in
    let own : List ℕ = entry_text before.sum one.entry in
    let rest : List ℕ = text_of mid.sum performances in
    let parts : (own ++ rest) ++ left ≡ own ++ (rest ++ left) = append_assoc own rest left in
    let less' : length (rest ++ left) < bound =
    omega (
      arith,
      less,
      ap length parts,
      length-append own (rest ++ left),
      entry_text_some before.sum one.entry,
    ) in
    ap (walk (suc bound) (spot_of before old) taken) parts
    ∙ fails_at (response_sum one == answer_said one) one performances bound before old taken left is
    are.0 leads.0 refl
    (λ answered. fails performances bound mid one.seen.step.after after new (taken + length own)
    left (next_is before old one is leads.0) are.1 leads.1
    (λ others. differ (ap (λ (n : ℕ). n ∷ map response_sum performances) answered
    ∙ ap (λ (l : List ℕ). answer_said one ∷ l) others)) less')

-- ---- the end of the bytes

torn_end : (more : ℕ) (p : Spot) (taken : ℕ) (left : List ℕ) → length left < more
    → IsTorn p.chain left → walk more p taken left ≡ Some (p, taken)
torn_end zero p taken left less torn = absurd (omega (arith, less))
torn_end (suc more) p taken left less torn =
    walk_ends more p taken left (found_torn p left ((is_torn_text-Decides p.chain left).1 torn))

found_damaged : (p : Spot) (text : List ℕ) → IsDamaged p.chain text → found_at p text ≡ Fails
unfolding found_at
found_damaged p text damaged = ap (found_next p) (next_only p.chain text next.Damaged damaged)

damaged_end : (more : ℕ) (p : Spot) (taken : ℕ) (left : List ℕ) → length left < more
    → IsDamaged p.chain left → walk more p taken left ≡ None
damaged_end zero p taken left less damaged = absurd (omega (arith, less))
damaged_end (suc more) p taken left less damaged =
    walk_fails more p taken left (found_damaged p left damaged)

-- the last number of a list, or 0
abbrev last_of : List ℕ → ℕ
last_of [] = 0
last_of (x ∷ []) = x
last_of (x ∷ y ∷ xs) = last_of (y ∷ xs)

last_is : (front : List ℕ) (x : ℕ) → last_of (front ++ x ∷ []) ≡ x
last_is [] x = refl
last_is (y ∷ []) x = refl
last_is (y ∷ z ∷ front) x = last_is (z ∷ front) x

-- ---- the result for all bytes

-- If there is no fault, the walk over the bytes ends at this position after `taken` bytes. If there
-- is a fault, the walk fails.
abbrev pub Tells : Option FollowFault → Option (Spot × ℕ) → Spot → (taken : ℕ) → Type 0
Tells None found p taken = found ≡ Some (p, taken)
Tells (Some fault) found p taken = found ≡ None

-- If there is a fault, the walk over these entries and the bytes after them fails. Otherwise, it
-- ends at the position after the entries.
told_by : (fault : Option FollowFault) (performances : List Performance) (before : Journal)
    (old : Record) (after : Journal) (new : Record) (taken : ℕ)
    (left text : List ℕ) → IsDeviceState (state_in before old)
    → AllByRecursion IsEntry (map entry_in performances)
    → LeadsBy false before old performances after new
    → AnswersAre fault (map response_sum performances) (map answer_said performances)
    → EndsIn fault after.sum left → text ≡ text_of before.sum performances ++ left
    → Tells fault (walk (suc (length text)) (spot_of before old) taken text) (spot_of after new)
    (taken + length (text_of before.sum performances))
told_by None performances before old after new taken left text is are leads answers ends parts =
    let g = reads_on performances (suc (length text)) before old after new taken left is are leads
    answers (omega (arith, ap length parts)) in
    ap (walk (suc (length text)) (spot_of before old) taken) parts ∙ g.same
    ∙ torn_end g.more (spot_of after new) (taken + length (text_of before.sum performances)) left
    g.enough ends
told_by (Some Damaged) performances before old after new taken left text is are leads answers ends
    parts =
    let g = reads_on performances (suc (length text)) before old after new taken left is are leads
    answers (omega (arith, ap length parts)) in
    ap (walk (suc (length text)) (spot_of before old) taken) parts ∙ g.same
    ∙ damaged_end g.more (spot_of after new) (taken + length (text_of before.sum performances)) left
    g.enough ends
told_by (Some Otherwise) performances before old after new taken left text is are leads answers ends
    parts =
    let differ : map response_sum performances ≡ map answer_said performances → ⊥ = λ same.
    answers.5 (sym (last_is answers.0 answers.1) ∙ ap last_of (sym answers.3 ∙ same ∙ answers.4)
    ∙ last_is answers.0 answers.2) in
    ap (walk (suc (length text)) (spot_of before old) taken) parts
    ∙ fails performances (suc (length text)) before old after new taken left is are leads differ
    (omega (arith, ap length parts))

tells_size : (fault : Option FollowFault) (found : Option (Spot × ℕ)) (p : Spot) (n m : ℕ) → n ≡ m
    → Tells fault found p n → Tells fault found p m
tells_size fault found p n m same tells = subst (λ (k : ℕ). Tells fault found p k) same tells

pub followed_so : (before : Journal) (old : Record) (text : List ℕ) (taken : ℕ)
    (followed : Followed) (after : Journal) (new : Record)
    → IsDeviceState (state_in before old) → Replays false before old text followed after new
    → Tells followed.fault (spot_after_walk (spot_of before old) taken text) (spot_of after new)
    (taken + followed.taken)
unfolding spot_after_walk
followed_so before old text taken followed after new is replays =
    let r = replays.repeats in
    let left : List ℕ = drop followed.taken text in
    let parts : text ≡ text_of before.sum r.performances ++ left =
    sym (take-append-drop followed.taken text) ∙ ap (λ (l : List ℕ). l ++ left) r.front in
    let size : length (text_of before.sum r.performances) ≡ followed.taken =
    sym (ap length r.front) ∙ length-take-le followed.taken text r.within in
    tells_size followed.fault _ (spot_of after new) _ _ (ap (λ (n : ℕ). taken + n) size)
    (told_by followed.fault r.performances before old after new taken left text is r.are r.leads
    r.answers replays.ends parts)
