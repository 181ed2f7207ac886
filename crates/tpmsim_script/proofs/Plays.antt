-- A run plays its script line by line.
use Rattle.std.proofs.Common.{◌≡◌, ℕ, zero, suc, ◌+◌, ◌*◌, ◌-◌, ◌<◌, ◌≤◌, ◌==◌, List, [], ◌∷◌, ◌++◌, length, Bool, true, false, cond, Option, Some, None, IfSome, refl, sym, ap, subst, ◌∙◌, append_assoc, append-nil, arith}
use Rattle.std.proofs.lemmas.Bool.{false≢true}
use Rattle.std.specs.Io.KnownBytes.{Appends, Keeps, append_known, prepend_known}
use Rattle.tpmsim_script.proofs.Doing.{lt_none}
use Rattle.tpmsim_script.specs.Line.{lines_of}
use Rattle.tpmsim_script.specs.Lines.{BeginsTooLong, IsUnbroken, LosesFirstLine, LosesStart}
use Rattle.std.specs.Prelude.{Result, Ok, Err}
use Rattle.tpmsim_script.specs.LineFault.{fault_at}
use Rattle.tpmsim_script.specs.Player.{Did}
use Rattle.tpmsim_script.specs.declared.line_fault.LineFault.{LineFault}
use Rattle.tpmsim_script.specs.declared.line_fault.LineFault.TheVariants as stop
use Rattle.tpm_bytes.specs.Tap.{Marks}
use Rattle.tpmsim_script.specs.Run.{AreTheirs, NextFound, OnNoMemory, OnTooMany, OnUnread, PlaysAllAllowed, PlaysToFailure, PlaysUpTo, UnlessFailed, Ran, end_at_limit}
use Rattle.tpmsim_script.specs.declared.fault.RunFault.{RunFault}
use Rattle.tpmsim_script.specs.declared.fault.RunFault.TheVariants.{Line, Read, TooManyLines, Write, Save, NoMemory}
use Rattle.tpmsim_script.specs.Script.{IsOutput, Output, Playing, Plays, Effect, output_with, perform_line, play}

appended : (a b c d : Option (List ℕ)) (first more : List ℕ) → Keeps a b → Appends b c first
    → Appends c d more → Appends a d (first ++ more)
appended None b c d first more h k m = tt
appended (Some a) None c d first more h k m = absurd h
appended (Some a) (Some b) None d first more h k m = absurd k
appended (Some a) (Some b) (Some c) None first more h k m = absurd m
appended (Some a) (Some b) (Some c) (Some d) first more h k m =
    m ∙ ap (λ (l : List ℕ). l ++ more) (k ∙ ap (λ (l : List ℕ). l ++ first) h)
    ∙ append_assoc a first more

kept : (a b : Option (List ℕ)) → Keeps a b → Appends a b []
kept None b h = tt
kept (Some a) None h = absurd h
kept (Some a) (Some b) h = h ∙ sym (append-nil a)

went_on : (left rest old held mid new : Option (List ℕ)) (p : Playing) (number : ℕ) (line : List ℕ)
    (did : Effect) (bad : Option ℕ)
    → LosesFirstLine left line rest → Keeps old held → perform_line p line ≡ Some did
    → Appends held mid did.text → Plays rest mid new did.next (number + 1) bad
    → Plays left old new p number bad
went_on None rest old held mid new p number line did bad t k e a h = tt
went_on (Some text) None old held mid new p number line did bad t k e a h = absurd t
went_on (Some text) (Some rest) old held mid new p number line did bad t k e a h =
    let after : Output = play did.next (number + 1) (lines_of rest) in
    let whole : play p number (lines_of text)
    ≡ record { text = did.text ++ after.text; bad = after.bad } =
    ap (play p number) t
    ∙ ap (λ d. output_with d number (λ next. play next (number + 1) (lines_of rest))) e in
    subst (IsOutput old new bad) (sym whole)
    (appended old held mid new did.text after.text k a h.0, h.1)

-- If no text remains, the script was played to its end.
pub ended : (left old new : Option (List ℕ)) (p : Playing) (number : ℕ)
    → IfSome left (λ text. text ≡ []) → Keeps old new → Plays left old new p number None
ended None old new p number e k = tt
ended (Some text) old new p number e k =
    subst (λ text. IsOutput old new None (play p number (lines_of text))) (sym e)
    (kept old new k, refl)

-- A bad line stops the script.
stopped : (text line : List ℕ) (rest : List (List ℕ)) (old new : Option (List ℕ)) (p : Playing)
    (number : ℕ) → lines_of text ≡ line ∷ rest → perform_line p line ≡ None → Keeps old new
    → Plays (Some text) old new p number (Some number)
stopped text line rest old new p number t e k =
    let whole : play p number (lines_of text) ≡ record { text = []; bad = Some number } =
    ap (play p number) t ∙ ap (λ d. output_with d number (λ next. play next (number + 1) rest)) e in
    subst (IsOutput old new (Some number)) (sym whole) (kept old new k, refl)

stopped_by_line : (left rest old held new : Option (List ℕ)) (p : Playing) (number : ℕ)
    (line : List ℕ) → LosesFirstLine left line rest → Keeps old held → perform_line p line ≡ None
    → new ≡ held
    → Plays left old new p number (Some number)
stopped_by_line None rest old held new p number line t k e n = tt
stopped_by_line (Some text) None old held new p number line t k e n = absurd t
stopped_by_line (Some text) (Some rest) old held new p number line t k e n =
    stopped text line (lines_of rest) old new p number t e (subst (Keeps old) (sym n) k)

-- The effect of a line depends only on the line's text and the player's state.
pub did_there : (p q : Playing) (line said : List ℕ) (held : Option (List ℕ))
    (result : Result (Unit {0}) LineFault) (new : Option (List ℕ)) (next : Playing)
    → q ≡ p → said ≡ line → Did (perform_line q said) held q result new next
    → Did (perform_line p line) held p result new next
did_there p q line said held result new next e f did =
    subst (λ l. Did (perform_line p l) held p result new next) f
    (subst (λ player. Did (perform_line player said) held player result new next) e did)

-- If a line had its effect, and then all lines after it were played, the whole text was played.
pub did_and_went_on : (left rest old held mid new : Option (List ℕ)) (p next : Playing) (number : ℕ)
    (line : List ℕ) (done : Unit {0}) (bad : Option ℕ)
    → LosesFirstLine left line rest → Keeps old held
    → Did (perform_line p line) held p (Ok done) mid next
    → Plays rest mid new next (number + 1) bad → Plays left old new p number bad
did_and_went_on left rest old held mid new p next number line done bad t k did h =
    went_on left rest old held mid new p number line did.0 bad t k did.1 did.2
    (subst (λ q. Plays rest mid new q (number + 1) bad) did.3 h)

-- If a fault occurs at a line, the run ends there.
pub ran_to_line : (left rest old held new : Option (List ℕ)) (p next : Playing) (number : ℕ)
    (line : List ℕ) (fault : LineFault) (P : Option ℕ → Type 0)
    → LosesFirstLine left line rest → Keeps old held
    → Did (perform_line p line) held p (Err fault) new next
    → ((bad : Option ℕ) → Plays left old new p number bad → P bad)
    → Ran P (Err (fault_at number fault))
ran_to_line left rest old held new p next number line stop.Bad P t k did whole =
    whole (Some number) (stopped_by_line left rest old held new p number line t k did.0 did.1)
ran_to_line left rest old held new p next number line stop.Write P t k did whole = tt
ran_to_line left rest old held new p next number line stop.Save P t k did whole = tt

pub stopped_by_length : (left old new : Option (List ℕ)) (p : Playing) (number : ℕ)
    → IfSome left BeginsTooLong → Keeps old new → Plays left old new p number (Some number)
stopped_by_length None old new p number t k = tt
stopped_by_length (Some text) old new p number t k =
    stopped text t.0 t.1 old new p number t.2 (lt_none p t.0 t.3) k

-- If a fault occurs before the next line is found, the run ends there.
pub ran_to_fault : (left old new rest : Option (List ℕ)) (p : Playing) (number : ℕ)
    (fault : RunFault) (line : List ℕ) (P : Option ℕ → Type 0)
    → NextFound number left (Err fault) line rest
    → UnlessFailed {X = Bool} (Err fault) (Keeps old new)
    → ((bad : Option ℕ) → Plays left old new p number bad → P bad) → Ran P (Err fault)
ran_to_fault left old new rest p number (Line bad) line P found kept whole =
    whole (Some bad) (subst (λ n. Plays left old new p number (Some n)) (sym found.0)
    (stopped_by_length left old new p number found.1 kept))
ran_to_fault left old new rest p number Read line P found kept whole = tt
ran_to_fault left old new rest p number TooManyLines line P found kept whole = tt
ran_to_fault left old new rest p number Write line P found kept whole = tt
ran_to_fault left old new rest p number Save line P found kept whole = tt
ran_to_fault left old new rest p number NoMemory line P found kept whole = tt

-- ---- a run up to a line

reached_next : (left rest old held mid new : Option (List ℕ)) (p : Playing) (number : ℕ)
    (line : List ℕ) (did : Effect) (next : ℕ) (behind : List (List ℕ))
    → LosesFirstLine left line rest → Keeps old held → perform_line p line ≡ Some did
    → Appends held mid did.text → PlaysUpTo rest mid new did.next (number + 1) next behind
    → PlaysUpTo left old new p number next behind
reached_next None rest old held mid new p number line did next behind t k e a h = tt
reached_next (Some text) None old held mid new p number line did next behind t k e a h = absurd t
reached_next (Some text) (Some rest) old held mid new p number line did next behind t k e a h =
    let after : Output = play did.next (number + 1) h.0 in
    let whole : play p number (line ∷ h.0)
    ≡ record { text = did.text ++ after.text; bad = after.bad } =
    ap (λ d. output_with d number (λ q. play q (number + 1) h.0)) e in
    let place : next ≡ number + length (line ∷ h.0) = omega (arith, h.2) in (
      line ∷ h.0,
      t ∙ ap (λ (lines : List (List ℕ)). line ∷ lines) h.1,
      place,
      subst (IsOutput old new None) (sym whole)
          (appended old held mid new did.text after.text k a h.3.0, h.3.1),
    )

pub reached_on : (left rest old held mid new : Option (List ℕ)) (p q : Playing) (number : ℕ)
    (line : List ℕ) (done : Unit {0}) (next : ℕ) (behind : List (List ℕ))
    → LosesFirstLine left line rest → Keeps old held
    → Did (perform_line p line) held p (Ok done) mid q
    → PlaysUpTo rest mid new q (number + 1) next behind
    → PlaysUpTo left old new p number next behind
reached_on left rest old held mid new p q number line done next behind t k did h =
    reached_next left rest old held mid new p number line did.0 next behind t k did.1 did.2
    (subst (λ x. PlaysUpTo rest mid new x (number + 1) next behind) did.3 h)

-- Suppose that the lines from `here` up to some later line were played. Then all lines from `start`
-- up to that line were played.
abbrev pub Leads : Option (List ℕ) → Option (List ℕ) → Playing → ℕ → Option (List ℕ)
    → Option (List ℕ) → Playing → Option (List ℕ) → Type 0
Leads here old p number start first q new = (next : ℕ) (behind : List (List ℕ))
    → PlaysUpTo here old new p number next behind → PlaysUpTo start first new q 1 next behind

stopped_by_reader : (here left old new start first : Option (List ℕ)) (p q : Playing) (number : ℕ)
    → LosesStart here left → Keeps old new → Leads here old p number start first q new
    → PlaysToFailure start left first new q
stopped_by_reader here left old new None first p q number t k leads = tt
stopped_by_reader None left old new (Some text) first p q number t k leads =
    absurd (let never : ⊥ = omega (arith, (leads 0 [] tt).2) in never)
stopped_by_reader (Some rest) None old new (Some text) first p q number t k leads = absurd t.2
stopped_by_reader (Some rest) (Some left) old new (Some text) first p q number t k leads = (
  t.0,
  number,
  t.1,
  leads number (lines_of (t.0 ++ left))
      ([], ap lines_of t.2, omega arith, (kept old new k, refl)),
)

-- If no line was found because the reader failed, the script was played up to the reader's failure.
pub failed_read : (here left old new start first : Option (List ℕ)) (p q : Playing) (number : ℕ)
    (fault : RunFault) → OnUnread {X = Bool} (Err fault) (LosesStart here left)
    → UnlessFailed {X = Bool} (Err fault) (Keeps old new)
    → Leads here old p number start first q new
    → OnUnread {X = Unit {0}} (Err fault) (PlaysToFailure start left first new q)
failed_read here left old new start first p q number (Line bad) t k leads = tt
failed_read here left old new start first p q number Read t k leads =
    stopped_by_reader here left old new start first p q number t k leads
failed_read here left old new start first p q number TooManyLines t k leads = tt
failed_read here left old new start first p q number Write t k leads = tt
failed_read here left old new start first p q number Save t k leads = tt
failed_read here left old new start first p q number NoMemory t k leads = tt

pub failed_few : (here rest : Option (List ℕ)) (number : ℕ) (fault : RunFault) (line : List ℕ)
    (fact : Type 0) → NextFound number here (Err fault) line rest
    → OnTooMany {X = Unit {0}} (Err fault) fact
failed_few here rest number (Line bad) line fact found = tt
failed_few here rest number Read line fact found = tt
failed_few here rest number TooManyLines line fact found = absurd found
failed_few here rest number Write line fact found = tt
failed_few here rest number Save line fact found = tt
failed_few here rest number NoMemory line fact found = tt

pub failed_with_memory : (here rest : Option (List ℕ)) (number : ℕ) (fault : RunFault)
    (line : List ℕ) → NextFound number here (Err fault) line rest
    → OnNoMemory {X = Unit {0}} (Err fault) ⊥
failed_with_memory here rest number (Line bad) line found = tt
failed_with_memory here rest number Read line found = tt
failed_with_memory here rest number TooManyLines line found = absurd found
failed_with_memory here rest number Write line found = tt
failed_with_memory here rest number Save line found = tt
failed_with_memory here rest number NoMemory line found = absurd found

-- A fault at a line is never the fault Read.
pub stopped_read : (number : ℕ) (fault : LineFault) (fact : Type 0)
    → OnUnread {X = Unit {0}} (Err (fault_at number fault)) fact
stopped_read number stop.Bad fact = tt
stopped_read number stop.Write fact = tt
stopped_read number stop.Save fact = tt

pub stopped_few : (number : ℕ) (fault : LineFault) (fact : Type 0)
    → OnTooMany {X = Unit {0}} (Err (fault_at number fault)) fact
stopped_few number stop.Bad fact = tt
stopped_few number stop.Write fact = tt
stopped_few number stop.Save fact = tt

pub stopped_with_memory : (number : ℕ) (fault : LineFault) (fact : Type 0)
    → OnNoMemory {X = Unit {0}} (Err (fault_at number fault)) fact
stopped_with_memory number stop.Bad fact = tt
stopped_with_memory number stop.Write fact = tt
stopped_with_memory number stop.Save fact = tt

-- ---- the end of a script with the maximum number of lines

abbrev HasLine : Option (List ℕ) → Type 0
HasLine left =
    IfSome left (λ text. (line : List ℕ) × (rest : List (List ℕ)) × (lines_of text ≡ line ∷ rest))

line_lost : (left rest : Option (List ℕ)) (line : List ℕ) → LosesFirstLine left line rest
    → HasLine left
line_lost None rest line t = tt
line_lost (Some text) None line t = absurd t
line_lost (Some text) (Some rest) line t = (line, lines_of rest, t)

line_long : (left : Option (List ℕ)) → IfSome left BeginsTooLong → HasLine left
line_long None t = tt
line_long (Some text) t = (t.0, t.1, t.2)

one_more : (here old new start first : Option (List ℕ)) (p q : Playing) (number : ℕ)
    → number ≡ 1048577 → HasLine here → Keeps old new → Leads here old p number start first q new
    → PlaysAllAllowed start first new q
one_more None old new start first p q number e t k leads = ([], [], leads 1048577 ([] ∷ []) tt)
one_more (Some text) old new start first p q number e t k leads =
    (t.0, t.1, leads 1048577 (t.0 ∷ t.1) ([], t.2, omega arith, (kept old new k, refl)))

pub ended_played : (here rest old new : Option (List ℕ)) (p : Playing) (number known : ℕ)
    (next : Result Bool RunFault) (line : List ℕ) (P : Option ℕ → Type 0)
    → NextFound known here next line rest → UnlessFailed next (Keeps old new)
    → ((bad : Option ℕ) → Plays here old new p number bad → P bad) → Ran P (end_at_limit next)
ended_played here rest old new p number known (Ok true) line P found k whole = tt
ended_played here rest old new p number known (Ok false) line P found k whole =
    whole None (ended here old new p number found k)
ended_played here rest old new p number known (Err (Line bad)) line P found k whole = tt
ended_played here rest old new p number known (Err Read) line P found k whole = tt
ended_played here rest old new p number known (Err TooManyLines) line P found k whole = tt
ended_played here rest old new p number known (Err Write) line P found k whole = tt
ended_played here rest old new p number known (Err Save) line P found k whole = tt
ended_played here rest old new p number known (Err NoMemory) line P found k whole = tt

pub ended_read : (here left old new start first : Option (List ℕ)) (p q : Playing) (number : ℕ)
    (next : Result Bool RunFault)
    → OnUnread next (LosesStart here left) → UnlessFailed next (Keeps old new)
    → Leads here old p number start first q new
    → OnUnread (end_at_limit next) (PlaysToFailure start left first new q)
ended_read here left old new start first p q number (Ok true) t k leads = tt
ended_read here left old new start first p q number (Ok false) t k leads = tt
ended_read here left old new start first p q number (Err (Line bad)) t k leads = tt
ended_read here left old new start first p q number (Err Read) t k leads =
    stopped_by_reader here left old new start first p q number t k leads
ended_read here left old new start first p q number (Err TooManyLines) t k leads = tt
ended_read here left old new start first p q number (Err Write) t k leads = tt
ended_read here left old new start first p q number (Err Save) t k leads = tt
ended_read here left old new start first p q number (Err NoMemory) t k leads = tt

pub ended_many : (here rest old new start first : Option (List ℕ)) (p q : Playing)
    (number known : ℕ) (next : Result Bool RunFault) (line : List ℕ)
    → number ≡ 1048577 → NextFound known here next line rest → UnlessFailed next (Keeps old new)
    → Leads here old p number start first q new
    → OnTooMany (end_at_limit next) (PlaysAllAllowed start first new q)
ended_many here rest old new start first p q number known (Ok true) line e found k leads =
    one_more here old new start first p q number e (line_lost here rest line found) k leads
ended_many here rest old new start first p q number known (Ok false) line e found k leads = tt
ended_many here rest old new start first p q number known (Err (Line bad)) line e found k leads =
    one_more here old new start first p q number e (line_long here found.1) k leads
ended_many here rest old new start first p q number known (Err Read) line e found k leads = tt
ended_many here rest old new start first p q number known (Err TooManyLines) line e found k leads =
    absurd found
ended_many here rest old new start first p q number known (Err Write) line e found k leads = tt
ended_many here rest old new start first p q number known (Err Save) line e found k leads = tt
ended_many here rest old new start first p q number known (Err NoMemory) line e found k leads = tt

pub ended_with_memory : (here rest : Option (List ℕ)) (known : ℕ) (next : Result Bool RunFault)
    (line : List ℕ) → NextFound known here next line rest → OnNoMemory (end_at_limit next) ⊥
ended_with_memory here rest known (Ok true) line found = tt
ended_with_memory here rest known (Ok false) line found = tt
ended_with_memory here rest known (Err (Line bad)) line found = tt
ended_with_memory here rest known (Err Read) line found = tt
ended_with_memory here rest known (Err TooManyLines) line found = absurd found
ended_with_memory here rest known (Err Write) line found = tt
ended_with_memory here rest known (Err Save) line found = tt
ended_with_memory here rest known (Err NoMemory) line found = absurd found

-- ---- the start of a line at which the reader failed

pub start_lost : (left before after : Option (List ℕ)) (line rest start : List ℕ)
    → Keeps left (prepend_known (line ++ rest) before) → Keeps before after → start ≡ line ++ rest
    → IsUnbroken start → LosesStart left after
start_lost None before after line rest start h k e unbroken = (start, unbroken, tt)
start_lost (Some text) None after line rest start h k e unbroken = absurd h
start_lost (Some text) (Some more) None line rest start h k e unbroken = absurd k
start_lost (Some text) (Some more) (Some last) line rest start h k e unbroken = (
  start,
  unbroken,
  sym h ∙ ap (λ (l : List ℕ). l ++ more) (sym e)
      ∙ ap (λ (l : List ℕ). start ++ l) (sym k),
)

-- Each read returns some bytes or is the last read, and therefore decreases the measure of the
-- loop.
pub reads_on : (was now : Bool) (line rest longer more : ℕ) → was ≡ false → longer ≡ line + rest
    → longer ≤ 65536 → now ≡ (more == 0) → cond now 0 (1 + (2 * (65536 - longer) + (1 - more)))
    < cond was 0 (1 + (2 * (65536 - line) + (1 - rest)))
reads_on true now line rest longer more w e limit n = absurd (false≢true (sym w))
reads_on false true line rest longer more w e limit n = omega arith
reads_on false false line rest longer zero w e limit n = absurd (false≢true n)
reads_on false false line rest longer (suc more) w e limit n = omega arith

-- ---- a whole run, which begins and ends with an empty buffer

pub nothing_before : (known : Option (List ℕ)) (read : List ℕ) → read ≡ []
    → prepend_known read known ≡ known
nothing_before None read e = refl
nothing_before (Some text) read e = ap (λ (l : List ℕ). Some (l ++ text)) e

pub nothing_behind : (known : Option (List ℕ)) (held : List ℕ) → held ≡ []
    → append_known known held ≡ known
nothing_behind None held e = refl
nothing_behind (Some text) held e = ap (λ (l : List ℕ). Some (text ++ l)) e
    ∙ ap (λ (l : List ℕ). Some l) (append-nil text)

appends_kept : (a b c : Option (List ℕ)) (more : List ℕ) → Appends a b more → Keeps b c
    → Appends a c more
appends_kept None b c more h k = tt
appends_kept (Some a) None c more h k = absurd h
appends_kept (Some a) (Some b) None more h k = absurd k
appends_kept (Some a) (Some b) (Some c) more h k = k ∙ h

up_to_kept : (text old mid new : Option (List ℕ)) (p : Playing) (number next : ℕ)
    (rest : List (List ℕ)) → PlaysUpTo text old mid p number next rest → Keeps mid new
    → PlaysUpTo text old new p number next rest
up_to_kept None old mid new p number next rest h k = tt
up_to_kept (Some text) old mid new p number next rest h k =
    (h.0, h.1, h.2, (appends_kept old mid new (play p number h.0).text h.3.0 k, h.3.1))

failure_kept : (text left old mid new : Option (List ℕ)) (p : Playing)
    → PlaysToFailure text left old mid p → Keeps mid new → PlaysToFailure text left old new p
failure_kept None left old mid new p h k = tt
failure_kept (Some text) None old mid new p h k = absurd h
failure_kept (Some text) (Some left) old mid new p h k =
    (h.0, h.1, h.2, up_to_kept (Some text) old mid new p 1 h.1 (lines_of (h.0 ++ left)) h.3 k)

pub ran_unread : (start text left before old mid written new : Option (List ℕ)) (q p : Playing)
    (result : Result (Unit {0}) RunFault) → start ≡ text → before ≡ old → q ≡ p
    → Keeps mid written → written ≡ new
    → OnUnread result (PlaysToFailure start left before mid q)
    → OnUnread result (PlaysToFailure text left old new p)
ran_unread start text left before old mid written new q p (Ok done) a b c k d h = tt
ran_unread start text left before old mid written new q p (Err (Line bad)) a b c k d h = tt
ran_unread start text left before old mid written new q p (Err Read) a b c k d h =
    failure_kept text left old mid new p
    (subst (λ x. PlaysToFailure x left old mid p) a
    (subst (λ x. PlaysToFailure start left x mid p) b
    (subst (λ x. PlaysToFailure start left before mid x) c h))) (subst (Keeps mid) d k)
ran_unread start text left before old mid written new q p (Err TooManyLines) a b c k d h = tt
ran_unread start text left before old mid written new q p (Err Write) a b c k d h = tt
ran_unread start text left before old mid written new q p (Err Save) a b c k d h = tt
ran_unread start text left before old mid written new q p (Err NoMemory) a b c k d h = tt

pub ran_too_many : (start text before old mid written new : Option (List ℕ)) (q p : Playing)
    (result : Result (Unit {0}) RunFault) → start ≡ text → before ≡ old → q ≡ p
    → Keeps mid written → written ≡ new
    → OnTooMany result (PlaysAllAllowed start before mid q)
    → OnTooMany result (PlaysAllAllowed text old new p)
ran_too_many start text before old mid written new q p (Ok done) a b c k d h = tt
ran_too_many start text before old mid written new q p (Err (Line bad)) a b c k d h = tt
ran_too_many start text before old mid written new q p (Err Read) a b c k d h = tt
ran_too_many start text before old mid written new q p (Err TooManyLines) a b c k d h =
    let all : PlaysAllAllowed text old mid p =
    subst (λ x. PlaysAllAllowed x old mid p) a
    (subst (λ x. PlaysAllAllowed start x mid p) b
    (subst (λ x. PlaysAllAllowed start before mid x) c h)) in (
      all.0,
      all.1,
      up_to_kept text old mid new p 1 1048577 (all.0 ∷ all.1) all.2
          (subst (Keeps mid) d k),
    )
ran_too_many start text before old mid written new q p (Err Write) a b c k d h = tt
ran_too_many start text before old mid written new q p (Err Save) a b c k d h = tt
ran_too_many start text before old mid written new q p (Err NoMemory) a b c k d h = tt

-- Suppose that a fault names the part that failed. The fault still names this part if the writer's
-- flags are unchanged, and a saver that had failed still counts as failed.
pub theirs_yet : (result : Result (Unit {0}) RunFault) (reader old new : Marks)
    (unsaved still : Bool) → new ≡ old → (unsaved ≡ true → still ≡ true)
    → AreTheirs result reader old unsaved → AreTheirs result reader new still
theirs_yet (Ok done) reader old new unsaved still e stays h = tt
theirs_yet (Err (Line bad)) reader old new unsaved still e stays h = tt
theirs_yet (Err Read) reader old new unsaved still e stays h = h
theirs_yet (Err TooManyLines) reader old new unsaved still e stays h = tt
theirs_yet (Err Write) reader old new unsaved still e stays h =
    ap (λ (marks : Marks). marks.failed) e ∙ h
theirs_yet (Err Save) reader old new unsaved still e stays h = stays h
theirs_yet (Err NoMemory) reader old new unsaved still e stays h = tt
