-- If no allocation fails, executing the journal of a running device again yields that device.
use Rattle.std.proofs.Common.{◌≡◌, ℕ, ◌+◌, false, List, [], ◌∷◌, ◌++◌, length, map, drop, Option, Some, None, Result, Ok, Err, refl, ap, sym, subst, ◌∙◌, append_assoc, append-nil}
use Rattle.std.specs.List.{AllByRecursion}
use Rattle.std.proofs.lemmas.List.{length-take-le, take-append-drop}
use Rattle.tpm_record.specs.Record.{Record}
use Rattle.tpm_completion.specs.Execution.{Seen}
use Rattle.tpm_completion.specs.declared.completion.Completion.{Completion}
use Rattle.tpm_completion.proofs.Exactly.{exactly}
use Rattle.tpm_bytes.proofs.Fields.{ok_is}
use Rattle.tpm_journal_text.specs.Entry.{IsEntry, PlainEntry, entry_text, sum_after}
use Rattle.tpm_journal_text.specs.Head.{HasHead, head_text}
use Rattle.tpm_journal_text.specs.declared.head.HeadKind.{HeadKind}
use Rattle.tpm_journal_text.specs.Journal.{IsTorn, entries_text, sum_after_all}
use Rattle.tpm_journal_text.specs.Sum.{sum_of}
use Rattle.tpm_journal_text.proofs.HeadStanding.{same_head, same_kind}
use Rattle.tpm_journal_text.proofs.Damage.{torn_is_no_entry}
use Rattle.tpm_journal_text.proofs.Parsing.{behind_front, others_are_more}
use Rattle.tpm_journal.specs.Command.{IsPerformed, entry_of, event_of}
use Rattle.tpm_journal.specs.Living.{Answers, IgnoresUndrawn, Lives}
use Rattle.tpm_journal.specs.Opening.{IsOpenedAgain, OpensJournal, Reads}
use Rattle.tpm_journal.specs.Replay.{AnswersAre, EndsIn, IsFollowedWhole, LeadsBy, Performance, Replays, answer_said, entry_in, response_sum}
use Rattle.tpm_journal.specs.Starting.{BeginsWith, HoldsFault, Start, start_by}
use Rattle.tpm_journal.specs.State.{journal_after, journal_after_all}
use Rattle.tpm_journal.specs.declared.following.FollowFault.{FollowFault}
use Rattle.tpm_journal.specs.declared.following.FollowFault.TheVariants.{Damaged, Otherwise}
use Rattle.tpm_journal.specs.declared.following.Followed.{Followed}
use Rattle.tpm_journal.specs.declared.journal.Journal.{Journal}
use Rattle.tpm_journal.specs.declared.opening.OpenFault.{OpenFault}
use Rattle.tpm_journal.specs.declared.opening.OpenFault.TheVariants as fault
use Rattle.tpm_journal.specs.declared.opening.Opened.{Opened}
use Rattle.tpm_journal.proofs.Repeating.{journal_sum}

-- ---- the entries of a running device

pub lives_again : IgnoresUndrawn → (layer : Completion) (old : Record) (entries : List PlainEntry)
    (after : Completion) (new : Record)
    → Lives layer old entries after new → Answers layer old entries after new
lives_again ignores layer old [] after new lives = lives
lives_again ignores layer old (e ∷ entries) after new lives =
    let c = lives.0 in
    let seen = lives.1 in
    let same : e ≡ entry_of c seen = lives.4 in (
      seen,
      subst (λ (f : PlainEntry). IsPerformed false layer old f seen) (sym same)
          (ignores layer old c seen lives.2),
      sym (ap (λ (f : PlainEntry). f.answered) same),
      lives_again ignores seen.layer seen.step.after entries after new lives.5,
    )

answers_parts : (layer : Completion) (old : Record) (front back : List PlainEntry)
    (after : Completion) (new : Record)
    → Answers layer old (front ++ back) after new
    → (mid : Completion) × (here : Record) × Answers layer old front mid here
    × Answers mid here back after new
answers_parts layer old [] back after new answers = (layer, old, (refl, refl), answers)
answers_parts layer old (e ∷ front) back after new answers =
    let parts = answers_parts answers.0.layer answers.0.step.after front back after new answers.3 in
    (parts.0, parts.1, (answers.0, answers.1, answers.2, parts.2), parts.3)

-- ---- lists

first_or : {A : Type 0} → A → List A → A
first_or other [] = other
first_or other (x ∷ xs) = x

last_same : (front : List ℕ) (a b : ℕ) → front ++ a ∷ [] ≡ front ++ b ∷ [] → a ≡ b
unfolding first_or
last_same front a b e = ap (first_or 0) (behind_front front (a ∷ []) (b ∷ []) e)

sum_parts : (sum : ℕ) (front back : List PlainEntry)
    → sum_after_all sum (front ++ back) ≡ sum_after_all (sum_after_all sum front) back
sum_parts sum [] back = refl
sum_parts sum (e ∷ front) back = sum_parts (sum_after sum e) front back

-- ---- executing entries again

-- if no allocation fails, executing an entry again has only one possible effect
seen_once : (layer : Completion) (old : Record) (e : PlainEntry) (a b : Seen)
    → IsPerformed false layer old e a → IsPerformed false layer old e b → a ≡ b
seen_once layer old e a b is also =
    exactly false e.completes layer old (event_of e) a is
    refl ∙ sym (exactly false e.completes layer old (event_of e) b also refl)

-- if one execution of the entries gives the recorded answers, so does every other execution, and
-- all of them lead to the same journal and record
same_run : (before : Journal) (old : Record) (performances : List Performance) (after : Journal)
    (new : Record) (layer : Completion) (mid : Record)
    → LeadsBy false before old performances after new
    → Answers before.layer old (map entry_in performances) layer mid
    → (after ≡ journal_after_all before (map entry_in performances) layer) × (new ≡ mid)
    × (map response_sum performances ≡ map answer_said performances)
same_run before old [] after new layer mid leads answers = (
  leads.0 ∙ ap (λ (l : Completion). record before { layer = l }) (sym answers.0),
  leads.1 ∙ sym answers.1,
  refl,
)
same_run before old (one ∷ performances) after new layer mid leads answers =
    let seen : one.seen ≡ answers.0 =
    seen_once before.layer old one.entry one.seen answers.0 leads.0 answers.1 in
    let next = same_run (journal_after before one.entry one.seen.layer) one.seen.step.after
    performances after new layer mid leads.1
    (subst (λ (s : Seen). Answers s.layer s.step.after (map entry_in performances) layer mid)
    (sym seen) answers.3) in (
      next.0,
      next.1,
      ap (λ (n : ℕ). n ∷ map response_sum performances)
          (ap (λ (s : Seen). sum_of s.step.response) seen ∙ answers.2)
          ∙ ap (λ (l : List ℕ). one.entry.answered ∷ l) next.2,
    )

-- if the device gives the recorded answers, all complete entries are executed without a fault, even
-- if a torn entry follows them
ended : (fault : Option FollowFault) (sum : ℕ) (sums said : List ℕ) (more : List PlainEntry)
    (rest left : List ℕ)
    → AnswersAre fault sums said → sums ≡ said → EndsIn fault sum left
    → left ≡ entries_text sum more ++ rest
    → AllByRecursion IsEntry more → IsTorn (sum_after_all sum more) rest
    → (fault ≡ None) × (more ≡ [])
ended None sum sums said [] rest left answers same ends l are cut = (refl, refl)
ended None sum sums said (e ∷ more) rest left answers same ends l are cut =
    absurd (torn_is_no_entry sum e (entries_text (sum_after sum e) more ++ rest) left are.0
    (l ∙ append_assoc (entry_text sum e) (entries_text (sum_after sum e) more) rest) ends)
ended (Some Damaged) sum sums said [] rest left answers same ends l are cut =
    absurd (ends.not_torn (subst (λ (t : List ℕ). IsTorn sum t) (sym l) cut))
ended (Some Damaged) sum sums said (e ∷ more) rest left answers same ends l are cut =
    absurd (ends.no_entry e (entries_text (sum_after sum e) more ++ rest) are.0
    (l ∙ append_assoc (entry_text sum e) (entries_text (sum_after sum e) more) rest))
ended (Some Otherwise) sum sums said more rest left answers same ends l are cut =
    absurd (answers.5 (last_same answers.0 answers.1 answers.2 (sym answers.3 ∙ same ∙ answers.4)))

pub followed_again : (before : Journal) (old : Record) (layer : Completion) (final new : Record)
    (entries : List PlainEntry) (rest text : List ℕ)
    (followed : Followed) (after : Journal) → Replays false before old text followed after new
    → AllByRecursion IsEntry entries
    → text ≡ entries_text before.sum entries ++ rest
    → IsTorn (sum_after_all before.sum entries) rest
    → Answers before.layer old entries layer final
    → IsFollowedWhole before entries layer final followed after new
followed_again before old layer final new entries rest text followed after replays are t cut
    answers =
    let r = replays.repeats in
    let mine : List PlainEntry = map entry_in r.performances in
    let left = drop followed.taken text in
    let whole : entries_text before.sum entries ++ rest ≡ entries_text before.sum mine ++ left =
    sym t ∙ sym (take-append-drop followed.taken text) ∙ ap (λ (l : List ℕ). l ++ left) r.front in
    let found = others_are_more before.sum entries mine rest left are r.are whole cut in
    let more = found.0 in
    let parts = answers_parts before.layer old mine more layer final
    (subst (λ (l : List PlainEntry). Answers before.layer old l layer final) found.2 answers) in
    let run = same_run before old r.performances after new parts.0 parts.1 r.leads parts.2 in
    let sum_is : after.sum ≡ sum_after_all before.sum mine =
    journal_sum false before old r.performances after new r.leads in
    let end = ended followed.fault (sum_after_all before.sum mine) (map response_sum r.performances)
    (map answer_said r.performances) more rest left
    r.answers run.2 (subst (λ (s : ℕ). EndsIn followed.fault s left) sum_is replays.ends) found.3
    found.1
    (subst (λ (s : ℕ). IsTorn s rest)
    (ap (sum_after_all before.sum) found.2 ∙ sum_parts before.sum mine more) cut) in
    let all : entries ≡ mine = found.2 ∙ ap (λ (l : List PlainEntry). mine ++ l) end.1
    ∙ append-nil mine in
    let last : (layer ≡ parts.0) × (final ≡ parts.1) =
    subst (λ (l : List PlainEntry). Answers parts.0 parts.1 l layer final) end.1 parts.3 in
    record {
      whole = end.0;
      taken = sym (length-take-le followed.taken text r.within) ∙ ap length r.front
          ∙ ap (λ (l : List PlainEntry). length (entries_text before.sum l)) (sym all);
      leads = run.1 ∙ sym last.1;
      journal = run.0 ∙ ap (λ (l : List PlainEntry). journal_after_all before l parts.0) (sym all)
          ∙ ap (λ (c : Completion). journal_after_all before entries c) (sym last.0);
    }

-- ---- opening a journal again

-- two heads with which the same input begins are equal
one_head : (text : List ℕ) (kind other : HeadKind) (clock time : ℕ)
    (content bytes rest behind : List ℕ) → BeginsWith text kind clock content rest
    → BeginsWith text other time bytes behind → (kind ≡ other) × (clock ≡ time) × (content ≡ bytes)
one_head text kind other clock time content bytes rest behind begins others =
    let same = sym begins.is ∙ others.is in
    let kinds : kind ≡ other = same_kind kind other clock time content bytes rest behind begins.has.named
    others.has.named same in
    let head = same_head kind clock time content bytes rest behind begins.has
    (subst (λ (k : HeadKind). HasHead k time bytes) (sym kinds) others.has)
    (same ∙ ap (λ (k : HeadKind). head_text k time bytes ++ behind) (sym kinds)) in
    (kinds, head.0, head.1)

module _ (kind : HeadKind) (clock : ℕ) (content : List ℕ) (start : Start)
    (entries : List PlainEntry) (rest : List ℕ) (layer : Completion) (final : Record)
    (text : List ℕ) (starts : start_by kind clock content ≡ Ok start)
    (begins : BeginsWith text kind clock content (entries_text start.journal.sum entries ++ rest))
    (are : AllByRecursion IsEntry entries)
    (cut : IsTorn (sum_after_all start.journal.sum entries) rest)
    (answers : Answers start.journal.layer start.device entries layer final) where
  -- if the same input also begins with another head, every function of a head has the same value
  -- for both heads
  same_of : {X : Type 0} (f : HeadKind → ℕ → List ℕ → X) (other : HeadKind) (time : ℕ)
      (bytes behind : List ℕ) → BeginsWith text other time bytes behind
      → f kind clock content ≡ f other time bytes
  same_of f other time bytes behind others =
      let same = one_head text kind other clock time content bytes _ behind begins others in
      ap (λ (k : HeadKind). f k clock content) same.0 ∙ ap (λ (n : ℕ). f other n content) same.1
      ∙ ap (f other time) same.2

  read_again : (followed : Followed) (journal : Journal) (new : Record)
      (reads : Reads text followed journal new)
      → IsFollowedWhole start.journal entries layer final followed journal new
  read_again followed journal new reads =
      let s = reads.starts in
      let one : reads.start ≡ start =
      ok_is {E = OpenFault} reads.start start
      (sym s.is ∙ sym (same_of start_by s.kind s.clock s.content reads.rest s.begins)
      ∙ starts) in
      let behind : reads.rest ≡ entries_text start.journal.sum entries ++ rest =
      behind_front (head_text kind clock content) reads.rest _
      (ap (λ (l : List ℕ). l ++ reads.rest)
      (same_of head_text s.kind s.clock s.content reads.rest s.begins) ∙ sym s.begins.is
      ∙ begins.is) in
      let replays : Replays false start.journal start.device reads.rest followed journal new =
      subst (λ (x : Start). Replays false x.journal x.device reads.rest followed journal new) one
      reads.replays in
      followed_again start.journal start.device layer final new entries rest reads.rest followed
      journal replays are behind cut answers

  holds_none : (why : OpenFault) → HoldsFault text why → ⊥
  holds_none why holds =
      let no : Ok start ≡ Err why = sym starts
      ∙ same_of start_by holds.0 holds.1 holds.2 holds.3 holds.4 ∙ holds.5 in
      absurd cc

  pub opened_again : (result : Result Opened OpenFault) (new : Record)
      → OpensJournal text result new
      → IsOpenedAgain (head_text kind clock content) start.journal entries layer final result new
  opened_again (Ok opened) new opens =
      let again = read_again opens.followed opened.journal new opens.reads in
      let s = opens.reads.starts in (
        again.leads,
        opens.size
            ∙ ap (λ (l : List ℕ). length l + opens.followed.taken)
            (sym (same_of head_text s.kind s.clock s.content opens.reads.rest s.begins))
            ∙ ap (λ (n : ℕ). length (head_text kind clock content) + n) again.taken,
        again.journal,
      )
  opened_again (Err fault.NoJournal) new opens = absurd (opens _ _ _ _ begins)
  opened_again (Err (fault.Image why)) new opens = absurd (holds_none (fault.Image why) opens)
  opened_again (Err (fault.State why)) new opens = absurd (holds_none (fault.State why) opens)
  opened_again (Err (fault.Follow why)) new opens =
      let again = read_again opens.0 opens.1 new opens.2 in
      let no = sym opens.3 ∙ again.whole in
      absurd cc
