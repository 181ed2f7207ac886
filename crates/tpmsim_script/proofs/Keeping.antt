-- A run that plays a script line by line satisfies `KeepsDevice`: the saver is notified after each
-- command and power cycle, and only the output of played lines is written.
use Rattle.std.proofs.Common.{◌≡◌, ℕ, ◌+◌, ◌<◌, List, [], ◌∷◌, ◌++◌, length, Bool, true, false, Option, Some, None, IfSome, refl, sym, ap, subst, ◌∙◌, append_assoc, append-nil, length-append, arith}
use Rattle.std.proofs.lemmas.Bool.{false≢true}
use Rattle.std.specs.Prelude.{Result, Ok, Err, OnOk, OnErr}
use Rattle.std.specs.Io.KnownBytes.{Appends, Keeps, Consumes, append_known}
use Rattle.tpm_bytes.specs.Tap.{Marks}
use Rattle.tpm_record.specs.Record.{Record}
use Rattle.tpmsim_script.specs.Answers.{CutOff}
use Rattle.tpmsim_script.specs.Keeping.{Kept, kept_playing, Tells, PlaysLine, PlaysLines, Counts, Leaves, Writes, Played, KeepsDevice}
use Rattle.tpmsim_script.specs.Line.{Meaning, line_meaning, lines_of}
use Rattle.tpmsim_script.specs.LineFault.{fault_at}
use Rattle.tpmsim_script.specs.Lines.{BeginsTooLong, IsUnbroken, LosesFirstLine, LosesStart}
use Rattle.tpmsim_script.specs.Player.{Did, Told}
use Rattle.tpmsim_script.specs.Run.{AreTheirs, NextFound, OnNoMemory, OnUnread, OnUnwritten, UnlessFailed, end_at_limit, is_unsaved}
use Rattle.tpmsim_script.specs.Script.{Effect, Playing, perform_line}
use Rattle.tpmsim_script.specs.declared.fault.RunFault.{RunFault}
use Rattle.tpmsim_script.specs.declared.fault.RunFault.TheVariants as fault
use Rattle.tpmsim_script.specs.declared.line_fault.LineFault.{LineFault}
use Rattle.tpmsim_script.specs.declared.line_fault.LineFault.TheVariants as stop
use Rattle.tpmsim_script.proofs.CutText.{cut_behind, cut_then_kept, cut_twice, cut_within, nothing_printed_yet, printed_on, printed_yet}
use Rattle.tpmsim_script.proofs.Doing.{lt_none}

-- ---- playing one more line

-- These lines, the first lines of a text, were read.
abbrev pub LosesLines : Option (List ℕ) → List (List ℕ) → Option (List ℕ) → Type 0
LosesLines None lines new = Unit {0}
LosesLines (Some text) lines None = ⊥
LosesLines (Some text) lines (Some rest) = lines_of text ≡ lines ++ lines_of rest

-- A run has reached the line with this number: the lines before it were played and their output was
-- printed. `here` is the rest of the text.
pub record SoFar {S : Type 0} (saves saves_change : S → Record → S → Type 0)
    (text here first now : Option (List ℕ)) (number : ℕ) (start at : Kept S) : Type 0 where
  pub lines : List (List ℕ)
  pub print : List ℕ
  pub played : PlaysLines saves saves_change start lines print at
  pub place : number ≡ length lines + 1
  pub lost : LosesLines text lines here
  pub printed : Appends first now print

lost_nothing : (text : Option (List ℕ)) → LosesLines text [] text
lost_nothing None = tt
lost_nothing (Some text) = refl

pub begun : {S : Type 0} (saves saves_change : S → Record → S → Type 0)
    (text first : Option (List ℕ)) (start : Kept S)
    → SoFar saves saves_change text text first first 1 start start
begun saves saves_change text first start = record {
  lines = [];
  print = [];
  played = (refl, refl);
  place = refl;
  lost = lost_nothing text;
  printed = nothing_printed_yet first;
}

plays_on : {S : Type 0} (saves saves_change : S → Record → S → Type 0) (old : Kept S)
    (lines : List (List ℕ)) (text : List ℕ) (mid : Kept S) (line more : List ℕ) (new : Kept S)
    → PlaysLines saves saves_change old lines text mid
    → PlaysLine saves saves_change mid line more new
    → PlaysLines saves saves_change old (lines ++ line ∷ []) (text ++ more) new
plays_on saves saves_change old [] text mid line more new h one = (
  more,
  new,
  [],
  ap (λ (l : List ℕ). l ++ more) h.0 ∙ sym (append-nil more),
  subst (λ q. PlaysLine saves saves_change q line more new) h.1 one,
  (refl, refl),
)
plays_on saves saves_change old (first ∷ lines) text mid line more new h one = (
  h.0,
  h.1,
  h.2 ++ more,
  ap (λ (l : List ℕ). l ++ more) h.3 ∙ append_assoc h.0 h.2 more,
  h.4,
  plays_on saves saves_change h.1 lines h.2 mid line more new h.5 one,
)

lost_line : (text here rest : Option (List ℕ)) (lines : List (List ℕ)) (line : List ℕ)
    → LosesLines text lines here → LosesFirstLine here line rest
    → LosesLines text (lines ++ line ∷ []) rest
lost_line None here rest lines line h k = tt
lost_line (Some text) None rest lines line h k = absurd h
lost_line (Some text) (Some here) None lines line h k = absurd k
lost_line (Some text) (Some here) (Some rest) lines line h k =
    h ∙ ap (λ (l : List (List ℕ)). lines ++ l) k
    ∙ sym (append_assoc lines (line ∷ []) (lines_of rest))

-- A line was played if it had its effect and the saver was notified.
played_line : {S : Type 0} (saves saves_change : S → Record → S → Type 0) (at : Kept S)
    (line : List ℕ) (effect : Effect) (q : Playing) (t : S)
    → perform_line at.playing line ≡ Some effect → q ≡ effect.next
    → Tells saves saves_change (line_meaning line) q.device at.saver t
    → PlaysLine saves saves_change at line effect.text (kept_playing q t)
played_line saves saves_change at line effect q t did next told = record {
  performed = did ∙ ap (λ (p : Playing). Some (record { text = effect.text; next = p })) (sym next);
  told = told;
}

count_on : (lines : List (List ℕ)) (line : List ℕ) (number : ℕ) → number ≡ length lines + 1
    → number + 1 ≡ length (lines ++ line ∷ []) + 1
count_on lines line number e = omega (arith, e, length-append lines (line ∷ []))

pub went_on : {S : Type 0} (saves saves_change : S → Record → S → Type 0)
    (text here rest first now held mid : Option (List ℕ)) (number : ℕ) (start at : Kept S)
    (q : Playing) (t : S) (line : List ℕ) (done : Unit {0})
    → SoFar saves saves_change text here first now number start at → LosesFirstLine here line rest
    → Keeps now held → Did (perform_line at.playing line) held at.playing (Ok done) mid q
    → Told (Tells saves saves_change (line_meaning line) q.device at.saver) at.saver (Ok done) t
    → SoFar saves saves_change text rest first mid (number + 1) start (kept_playing q t)
went_on saves saves_change text here rest first now held mid number start at q t line done so lost
    same did told = record {
      lines = so.lines ++ line ∷ [];
      print = so.print ++ did.0.text;
      played = plays_on saves saves_change start so.lines so.print at line did.0.text
          (kept_playing q t)
          so.played (played_line saves saves_change at line did.0 q t did.1 did.3 told);
      place = count_on so.lines line number so.place;
      lost = lost_line text here rest so.lines line so.lost lost;
      printed = printed_on first now held mid so.print did.0.text so.printed same did.2;
    }

-- ---- a run that ends at a line

left_from : (text here rest : Option (List ℕ)) (lines : List (List ℕ)) (line : List ℕ)
    (P : List (List ℕ) → Type 0) → LosesLines text lines here → LosesFirstLine here line rest
    → ((others : List (List ℕ)) → P (line ∷ others))
    → IfSome text (λ text. (rest : List (List ℕ)) × (lines_of text ≡ lines ++ rest) × P rest)
left_from None here rest lines line P h k p = tt
left_from (Some text) None rest lines line P h k p = absurd h
left_from (Some text) (Some here) None lines line P h k p = absurd k
left_from (Some text) (Some here) (Some rest) lines line P h k p =
    (line ∷ lines_of rest, h ∙ ap (λ (l : List (List ℕ)). lines ++ l) k, p (lines_of rest))

left_any : (text here : Option (List ℕ)) (lines : List (List ℕ)) (P : List (List ℕ) → Type 0)
    → LosesLines text lines here → ((rest : List (List ℕ)) → P rest)
    → IfSome text (λ text. (rest : List (List ℕ)) × (lines_of text ≡ lines ++ rest) × P rest)
left_any None here lines P h p = tt
left_any (Some text) None lines P h p = absurd h
left_any (Some text) (Some here) lines P h p = (lines_of here, h, p (lines_of here))

same_end : {S : Type 0} (at : Kept S) (q : Playing) (t : S) → q ≡ at.playing → t ≡ at.saver
    → at ≡ kept_playing q t
same_end at q t e f = λ i. record { playing = sym e i; saver = sym f i }

pub stopped : {S : Type 0} (saves saves_change : S → Record → S → Type 0)
    (text left here rest first now held new : Option (List ℕ)) (writer : Marks) (number : ℕ)
    (start at : Kept S) (q : Playing) (t : S) (line : List ℕ) (why : LineFault)
    → SoFar saves saves_change text here first now number start at → LosesFirstLine here line rest
    → Keeps now held → Did (perform_line at.playing line) held at.playing (Err why) new q
    → Told (Tells saves saves_change (line_meaning line) q.device at.saver) at.saver (Err why) t
    → KeepsDevice saves saves_change text left first new writer start (Err (fault_at number why))
    (λ end. end ≡ kept_playing q t)
stopped saves saves_change text left here rest first now held new writer number start at q t line
    stop.Bad so lost same did told = record {
      lines = so.lines;
      print = so.print;
      end = at;
      played = so.played;
      count = so.place;
      others = left_from text here rest so.lines line
          (Leaves (Err (fault.Line number)) left at.playing)
          so.lost lost (λ others. (line, others, refl, did.0));
      written = printed_yet first now new so.print so.printed (subst (Keeps now) (sym did.1) same);
      last = same_end at q t did.2 told;
    }
stopped saves saves_change text left here rest first now held new writer number start at q t line
    stop.Write so lost same did told = record {
      lines = so.lines ++ line ∷ [];
      print = so.print ++ did.0.text;
      end = kept_playing q t;
      played = plays_on saves saves_change start so.lines so.print at line did.0.text
          (kept_playing q t)
          so.played (played_line saves saves_change at line did.0 q t did.1 did.3 told);
      count = tt;
      others = left_any text rest (so.lines ++ line ∷ []) (Leaves (Err fault.Write) left q)
          (lost_line text here rest so.lines line so.lost lost) (λ rest. tt);
      written = cut_within first now held new so.print did.0.text so.printed same did.2;
      last = refl;
    }
stopped saves saves_change text left here rest first now held new writer number start at q t line
    stop.Save so lost same did told = λ well. record {
      lines = so.lines;
      print = so.print;
      end = at;
      played = so.played;
      count = tt;
      others = left_from text here rest so.lines line (Leaves (Err fault.Save) left at.playing)
          so.lost
          lost (λ others. tt);
      written = printed_yet first now new so.print so.printed (subst (Keeps now) (sym did) same);
      last = tt;
    }

-- ---- a run that ends because no next line was found

-- If the first remaining line is too long, then neither this line nor any later line was played.
left_long : (text here left : Option (List ℕ)) (lines : List (List ℕ)) (p : Playing) (number : ℕ)
    → LosesLines text lines here → IfSome here BeginsTooLong
    → IfSome text (λ text. (rest : List (List ℕ)) × (lines_of text ≡ lines ++ rest)
    × Leaves (Err (fault.Line number)) left p rest)
left_long None here left lines p number h k = tt
left_long (Some text) None left lines p number h k = absurd h
left_long (Some text) (Some here) left lines p number h k =
    (lines_of here, h, (k.0, k.1, k.2, lt_none p k.0 k.3))

left_start : (here left : Option (List ℕ)) (start : List ℕ) → Consumes here left start
    → IfSome here (λ here. IfSome left (λ more. lines_of here ≡ lines_of (start ++ more)))
left_start None left start h = tt
left_start (Some here) None start h = absurd h
left_start (Some here) (Some left) start h = ap lines_of h

-- If the reader failed within a line, neither that line nor any later line was played.
left_unread : (text here left : Option (List ℕ)) (lines : List (List ℕ)) (p : Playing)
    → LosesLines text lines here → LosesStart here left
    → IfSome text (λ text. (rest : List (List ℕ)) × (lines_of text ≡ lines ++ rest)
    × Leaves (Err fault.Read) left p rest)
left_unread None here left lines p h k = tt
left_unread (Some text) None left lines p h k = absurd h
left_unread (Some text) (Some here) left lines p h k =
    (lines_of here, h, (k.0, k.1, left_start (Some here) left k.0 k.2))

-- If no line is left, all lines were played.
left_none : (text here left : Option (List ℕ)) (lines : List (List ℕ)) (p : Playing)
    → LosesLines text lines here → IfSome here (λ text. text ≡ [])
    → IfSome text (λ text. (rest : List (List ℕ)) × (lines_of text ≡ lines ++ rest)
    × Leaves (Ok tt) left p rest)
left_none None here left lines p h k = tt
left_none (Some text) None left lines p h k = absurd h
left_none (Some text) (Some here) left lines p h k = (lines_of here, h, ap lines_of k)

pub ended : {S : Type 0} (saves saves_change : S → Record → S → Type 0)
    (text left here first now new : Option (List ℕ)) (number : ℕ) (start at : Kept S) (q : Playing)
    → SoFar saves saves_change text here first now number start at → IfSome here (λ text. text ≡ [])
    → Keeps now new → q ≡ at.playing
    → Played saves saves_change text left first new start (Ok tt)
    (λ end. end ≡ kept_playing q at.saver)
ended saves saves_change text left here first now new number start at q so empty same e = record {
  lines = so.lines;
  print = so.print;
  end = at;
  played = so.played;
  count = tt;
  others = left_none text here left so.lines at.playing so.lost empty;
  written = printed_yet first now new so.print so.printed same;
  last = same_end at q at.saver e refl;
}

ended_long : {S : Type 0} (saves saves_change : S → Record → S → Type 0)
    (text left here first now new : Option (List ℕ)) (number : ℕ) (start at : Kept S) (q : Playing)
    → SoFar saves saves_change text here first now number start at → IfSome here BeginsTooLong
    → Keeps now new → q ≡ at.playing
    → Played saves saves_change text left first new start (Err (fault.Line number))
    (λ end. end ≡ kept_playing q at.saver)
ended_long saves saves_change text left here first now new number start at q so long same e =
    record {
      lines = so.lines;
      print = so.print;
      end = at;
      played = so.played;
      count = so.place;
      others = left_long text here left so.lines at.playing number so.lost long;
      written = printed_yet first now new so.print so.printed same;
      last = same_end at q at.saver e refl;
    }

ended_unread : {S : Type 0} (saves saves_change : S → Record → S → Type 0)
    (text left here first now new : Option (List ℕ)) (number : ℕ) (start at : Kept S) (q : Playing)
    → SoFar saves saves_change text here first now number start at → LosesStart here left
    → Keeps now new → q ≡ at.playing
    → Played saves saves_change text left first new start (Err fault.Read)
    (λ end. end ≡ kept_playing q at.saver)
ended_unread saves saves_change text left here first now new number start at q so lost same e =
    record {
      lines = so.lines;
      print = so.print;
      end = at;
      played = so.played;
      count = tt;
      others = left_unread text here left so.lines at.playing so.lost lost;
      written = printed_yet first now new so.print so.printed same;
      last = same_end at q at.saver e refl;
    }

ended_unwritten : {S : Type 0} (saves saves_change : S → Record → S → Type 0)
    (text left here first now new : Option (List ℕ)) (number : ℕ) (start at : Kept S) (q : Playing)
    → SoFar saves saves_change text here first now number start at → CutOff now new → q ≡ at.playing
    → Played saves saves_change text left first new start (Err fault.Write)
    (λ end. end ≡ kept_playing q at.saver)
ended_unwritten saves saves_change text left here first now new number start at q so cut e =
    record {
      lines = so.lines;
      print = so.print;
      end = at;
      played = so.played;
      count = tt;
      others = left_any text here so.lines (Leaves (Err fault.Write) left at.playing) so.lost
          (λ rest. tt);
      written = cut_behind first now new so.print so.printed cut;
      last = same_end at q at.saver e refl;
    }

pub failed : {S : Type 0} (saves saves_change : S → Record → S → Type 0)
    (text left here rest first now new : Option (List ℕ)) (writer : Marks) (number : ℕ)
    (start at : Kept S) (q : Playing) (why : RunFault) (line : List ℕ)
    → SoFar saves saves_change text here first now number start at
    → NextFound number here (Err why) line rest
    → UnlessFailed {X = Bool} (Err why) (Keeps now new)
    → OnUnread {X = Bool} (Err why) (LosesStart here left)
    → OnUnwritten {X = Bool} (Err why) (CutOff now new) → q ≡ at.playing
    → KeepsDevice saves saves_change text left first new writer start (Err why)
    (λ end. end ≡ kept_playing q at.saver)
failed saves saves_change text left here rest first now new writer number start at q
    (fault.Line bad) line so found same lost cut e =
    subst (λ n. Played saves saves_change text left first new start (Err (fault.Line n))
    (λ end. end ≡ kept_playing q at.saver)) (sym found.0)
    (ended_long saves saves_change text left here first now new number start at q so found.1 same e)
failed saves saves_change text left here rest first now new writer number start at q fault.Read line
    so found same lost cut e =
    ended_unread saves saves_change text left here first now new number start at q so lost same e
failed saves saves_change text left here rest first now new writer number start at q
    fault.TooManyLines line so found same lost cut e = absurd found
failed saves saves_change text left here rest first now new writer number start at q fault.Write
    line so found same lost cut e =
    ended_unwritten saves saves_change text left here first now new number start at q so cut e
failed saves saves_change text left here rest first now new writer number start at q fault.Save line
    so found same lost cut e = absurd found
failed saves saves_change text left here rest first now new writer number start at q fault.NoMemory
    line so found same lost cut e = absurd found

-- ---- the end after the last line that a script may have

-- If a line remains after the maximum number of lines, at least one line was not played.
left_more : (text here rest left : Option (List ℕ)) (lines : List (List ℕ)) (line : List ℕ)
    (p : Playing) → LosesLines text lines here → LosesFirstLine here line rest
    → IfSome text (λ text. (rest : List (List ℕ)) × (lines_of text ≡ lines ++ rest)
    × Leaves (Err fault.TooManyLines) left p rest)
left_more text here rest left lines line p h k =
    left_from text here rest lines line (Leaves (Err fault.TooManyLines) left p) h k
    (λ others. (line, others, refl))

left_more_long : (text here left : Option (List ℕ)) (lines : List (List ℕ)) (p : Playing)
    → LosesLines text lines here → IfSome here BeginsTooLong
    → IfSome text (λ text. (rest : List (List ℕ)) × (lines_of text ≡ lines ++ rest)
    × Leaves (Err fault.TooManyLines) left p rest)
left_more_long None here left lines p h k = tt
left_more_long (Some text) None left lines p h k = absurd h
left_more_long (Some text) (Some here) left lines p h k = (lines_of here, h, (k.0, k.1, k.2))

ended_full : {S : Type 0} (saves saves_change : S → Record → S → Type 0)
    (text left here first now new : Option (List ℕ)) (number : ℕ) (start at : Kept S) (q : Playing)
    → (so : SoFar saves saves_change text here first now number start at) → number ≡ 1048577
    → IfSome text (λ text. (rest : List (List ℕ)) × (lines_of text ≡ so.lines ++ rest)
    × Leaves (Err fault.TooManyLines) left at.playing rest) → Keeps now new → q ≡ at.playing
    → Played saves saves_change text left first new start (Err fault.TooManyLines)
    (λ end. end ≡ kept_playing q at.saver)
ended_full saves saves_change text left here first now new number start at q so limit more same e =
    record {
      lines = so.lines;
      print = so.print;
      end = at;
      played = so.played;
      count = (let place : number ≡ length so.lines + 1 = so.place in omega (arith, place, limit));
      others = more;
      written = printed_yet first now new so.print so.printed same;
      last = same_end at q at.saver e refl;
    }

pub ended_at_limit : {S : Type 0} (saves saves_change : S → Record → S → Type 0)
    (text left here rest first now new : Option (List ℕ)) (writer : Marks) (number known : ℕ)
    (start at : Kept S) (q : Playing) (next : Result Bool RunFault) (line : List ℕ)
    → number ≡ 1048577 → SoFar saves saves_change text here first now number start at
    → NextFound known here next line rest
    → UnlessFailed next (Keeps now new) → OnUnread next (LosesStart here left)
    → OnUnwritten next (CutOff now new) → q ≡ at.playing
    → KeepsDevice saves saves_change text left first new writer start (end_at_limit next)
    (λ end. end ≡ kept_playing q at.saver)
ended_at_limit saves saves_change text left here rest first now new writer number known start at q
    (Ok true) line limit so found same lost cut e =
    ended_full saves saves_change text left here first now new number start at q so limit
    (left_more text here rest left so.lines line at.playing so.lost found) same e
ended_at_limit saves saves_change text left here rest first now new writer number known start at q
    (Ok false) line limit so found same lost cut e =
    ended saves saves_change text left here first now new number start at q so found same e
ended_at_limit saves saves_change text left here rest first now new writer number known start at q
    (Err (fault.Line bad)) line limit so found same lost cut e =
    ended_full saves saves_change text left here first now new number start at q so limit
    (left_more_long text here left so.lines at.playing so.lost found.1) same e
ended_at_limit saves saves_change text left here rest first now new writer number known start at q
    (Err fault.Read) line limit so found same lost cut e =
    ended_unread saves saves_change text left here first now new number start at q so lost same e
ended_at_limit saves saves_change text left here rest first now new writer number known start at q
    (Err fault.TooManyLines) line limit so found same lost cut e = absurd found
ended_at_limit saves saves_change text left here rest first now new writer number known start at q
    (Err fault.Write) line limit so found same lost cut e =
    ended_unwritten saves saves_change text left here first now new number start at q so cut e
ended_at_limit saves saves_change text left here rest first now new writer number known start at q
    (Err fault.Save) line limit so found same lost cut e = absurd found
ended_at_limit saves saves_change text left here rest first now new writer number known start at q
    (Err fault.NoMemory) line limit so found same lost cut e = absurd found

-- ---- the saver's notification of a line

pub told_said : {S : Type 0} (saves saves_change : S → Record → S → Type 0) (line : List ℕ)
    (said : Meaning) (device : Record) (old : S) (result : Result (Unit {0}) LineFault) (new : S)
    → line_meaning line ≡ Some said
    → Told (Tells saves saves_change (Some said) device old) old result new
    → Told (Tells saves saves_change (line_meaning line) device old) old result new
told_said saves saves_change line said device old result new e told =
    subst (λ m. Told (Tells saves saves_change m device old) old result new) (sym e) told

-- How the saver was notified of a line depends only on the text of the line.
pub told_there : {S : Type 0} (saves saves_change : S → Record → S → Type 0) (line said : List ℕ)
    (device : Record) (old : S) (result : Result (Unit {0}) LineFault) (new : S)
    → said ≡ line → Told (Tells saves saves_change (line_meaning said) device old) old result new
    → Told (Tells saves saves_change (line_meaning line) device old) old result new
told_there saves saves_change line said device old result new e told =
    subst (λ l. Told (Tells saves saves_change (line_meaning l) device old) old result new) e told

-- ---- a whole run, which begins with an empty buffer, and ends by writing the last lines and
-- saving the device

-- Whether a run satisfies `KeepsDevice` depends only on the text, the output and the script at its
-- start.
pub begun_at : {S : Type 0} (saves saves_change : S → Record → S → Type 0)
    (before text left held old new : Option (List ℕ)) (writer : Marks) (q p : Playing) (saver : S)
    (result : Result (Unit {0}) RunFault) (Last : Kept S → Type 0)
    → before ≡ text → held ≡ old → q ≡ p
    → KeepsDevice saves saves_change before left held new writer (kept_playing q saver) result
    Last → KeepsDevice saves saves_change text left old new writer (kept_playing p saver) result
    Last
begun_at saves saves_change before text left held old new writer q p saver result Last a b c h =
    subst (λ x. KeepsDevice saves saves_change text left old new writer (kept_playing x saver)
    result Last) c
    (subst (λ x. KeepsDevice saves saves_change text left x new writer (kept_playing q saver) result
    Last) b
    (subst (λ x. KeepsDevice saves saves_change x left held new writer (kept_playing q saver) result
    Last) a h))

others_yet : (text : Option (List ℕ)) (lines : List (List ℕ)) (P Q : List (List ℕ) → Type 0)
    → ((rest : List (List ℕ)) → Q rest)
    → IfSome text (λ text. (rest : List (List ℕ)) × (lines_of text ≡ lines ++ rest) × P rest)
    → IfSome text (λ text. (rest : List (List ℕ)) × (lines_of text ≡ lines ++ rest) × Q rest)
others_yet None lines P Q q h = tt
others_yet (Some text) lines P Q q h = (h.0, h.1, q h.0)

-- If `Played` holds for a run with one result, it also holds for any other result that allows the
-- same lines and the same output.
recast : {S : Type 0} (saves saves_change : S → Record → S → Type 0)
    (text left old mid new : Option (List ℕ)) (start : Kept S)
    (result other : Result (Unit {0}) RunFault) (Last Next : Kept S → Type 0)
    → (h : Played saves saves_change text left old mid start result Last)
    → Counts other (length h.lines)
    → ((rest : List (List ℕ)) → Leaves other left h.end.playing rest)
    → Writes other old new h.print → Next h.end
    → Played saves saves_change text left old new start other Next
recast saves saves_change text left old mid new start result other Last Next h count leaves written
    last = record {
      lines = h.lines;
      print = h.print;
      end = h.end;
      played = h.played;
      count = count;
      others = others_yet text h.lines (Leaves result left h.end.playing)
          (Leaves other left h.end.playing) leaves h.others;
      written = written;
      last = last;
    }

renewed : {S : Type 0} (saves saves_change : S → Record → S → Type 0)
    (text left old mid new : Option (List ℕ)) (start : Kept S)
    (result : Result (Unit {0}) RunFault) (Last Next : Kept S → Type 0)
    → (h : Played saves saves_change text left old mid start result Last)
    → Writes result old new h.print → Next h.end
    → Played saves saves_change text left old new start result Next
renewed saves saves_change text left old mid new start result Last Next h written last = record {
  lines = h.lines;
  print = h.print;
  end = h.end;
  played = h.played;
  count = h.count;
  others = h.others;
  written = written;
  last = last;
}

-- If all responses were written and the device was saved, the run satisfies `KeepsDevice`.
pub ran_well : {S : Type 0} (saves saves_change : S → Record → S → Type 0)
    (text left old mid new : Option (List ℕ)) (was writer : Marks) (start at : Kept S)
    (result : Result (Unit {0}) RunFault) (Last : Kept S → Type 0)
    → KeepsDevice saves saves_change text left old mid was start result (λ end. end ≡ at)
    → Keeps mid new → writer ≡ was → Last at
    → KeepsDevice saves saves_change text left old new writer start result Last
ran_well saves saves_change text left old mid new was writer start at (Ok done) Last h same marks
    last =
    renewed saves saves_change text left old mid new start (Ok done) (λ end. end ≡ at) Last h
    (printed_yet old mid new h.print h.written same) (subst Last (sym h.last) last)
ran_well saves saves_change text left old mid new was writer start at (Err (fault.Line number)) Last
    h same marks last =
    renewed saves saves_change text left old mid new start (Err (fault.Line number))
    (λ end. end ≡ at) Last h (printed_yet old mid new h.print h.written same)
    (subst Last (sym h.last) last)
ran_well saves saves_change text left old mid new was writer start at (Err fault.Read) Last h same
    marks last =
    renewed saves saves_change text left old mid new start (Err fault.Read) (λ end. end ≡ at) Last h
    (printed_yet old mid new h.print h.written same) (subst Last (sym h.last) last)
ran_well saves saves_change text left old mid new was writer start at (Err fault.TooManyLines) Last
    h same marks last =
    renewed saves saves_change text left old mid new start (Err fault.TooManyLines)
    (λ end. end ≡ at) Last h (printed_yet old mid new h.print h.written same)
    (subst Last (sym h.last) last)
ran_well saves saves_change text left old mid new was writer start at (Err fault.Write) Last h same
    marks last =
    renewed saves saves_change text left old mid new start (Err fault.Write) (λ end. end ≡ at) Last
    h (cut_then_kept (append_known old h.print) mid new h.written same)
    (subst Last (sym h.last) last)
ran_well saves saves_change text left old mid new was writer start at (Err fault.Save) Last h same
    marks last = λ well.
    let all = h (sym (ap (λ (m : Marks). m.failed) marks) ∙ well) in
    renewed saves saves_change text left old mid new start (Err fault.Save) (λ end. Unit {0})
    (λ end. Unit {0}) all (printed_yet old mid new all.print all.written same) tt
ran_well saves saves_change text left old mid new was writer start at (Err fault.NoMemory) Last h
    same marks last = tt

-- If the last responses were not written but the device was saved, the run satisfies `KeepsDevice`
-- with the fault `Write`.
last_unwritten : {S : Type 0} (saves saves_change : S → Record → S → Type 0)
    (text left old mid new : Option (List ℕ)) (was writer : Marks) (start at : Kept S)
    (result : Result (Unit {0}) RunFault) (Last : Kept S → Type 0)
    → KeepsDevice saves saves_change text left old mid was start result (λ end. end ≡ at)
    → is_unsaved result ≡ false → OnNoMemory result ⊥ → CutOff mid new → Last at
    → KeepsDevice saves saves_change text left old new writer start (Err fault.Write) Last
last_unwritten saves saves_change text left old mid new was writer start at (Ok done) Last h
    was_saved memory cut last =
    recast saves saves_change text left old mid new start (Ok done) (Err fault.Write)
    (λ end. end ≡ at) Last h tt (λ rest. tt) (cut_behind old mid new h.print h.written cut)
    (subst Last (sym h.last) last)
last_unwritten saves saves_change text left old mid new was writer start at
    (Err (fault.Line number)) Last h was_saved memory cut last =
    recast saves saves_change text left old mid new start (Err (fault.Line number))
    (Err fault.Write) (λ end. end ≡ at) Last h tt (λ rest. tt)
    (cut_behind old mid new h.print h.written cut) (subst Last (sym h.last) last)
last_unwritten saves saves_change text left old mid new was writer start at (Err fault.Read) Last h
    was_saved memory cut last =
    recast saves saves_change text left old mid new start (Err fault.Read) (Err fault.Write)
    (λ end. end ≡ at) Last h tt (λ rest. tt) (cut_behind old mid new h.print h.written cut)
    (subst Last (sym h.last) last)
last_unwritten saves saves_change text left old mid new was writer start at (Err fault.TooManyLines)
    Last h was_saved memory cut last =
    recast saves saves_change text left old mid new start (Err fault.TooManyLines) (Err fault.Write)
    (λ end. end ≡ at) Last h tt (λ rest. tt) (cut_behind old mid new h.print h.written cut)
    (subst Last (sym h.last) last)
last_unwritten saves saves_change text left old mid new was writer start at (Err fault.Write) Last h
    was_saved memory cut last =
    recast saves saves_change text left old mid new start (Err fault.Write) (Err fault.Write)
    (λ end. end ≡ at) Last h tt (λ rest. tt)
    (cut_twice (append_known old h.print) mid new h.written cut) (subst Last (sym h.last) last)
last_unwritten saves saves_change text left old mid new was writer start at (Err fault.Save) Last h
    was_saved memory cut last = absurd (false≢true (sym was_saved))
last_unwritten saves saves_change text left old mid new was writer start at (Err fault.NoMemory)
    Last h was_saved memory cut last = absurd memory

pub ran_unwritten : {S : Type 0} (saves saves_change : S → Record → S → Type 0)
    (text left old mid new : Option (List ℕ)) (was writer : Marks) (start at : Kept S)
    (result other : Result (Unit {0}) RunFault) (Last : Kept S → Type 0)
    → other ≡ Err fault.Write → KeepsDevice saves saves_change text left old mid was start result
    (λ end. end ≡ at) → is_unsaved result ≡ false → OnNoMemory result ⊥ → CutOff mid new
    → Last at
    → KeepsDevice saves saves_change text left old new writer start other Last
ran_unwritten saves saves_change text left old mid new was writer start at result other Last e h
    was_saved memory cut last =
    subst (λ r. KeepsDevice saves saves_change text left old new writer start r Last) (sym e)
    (last_unwritten saves saves_change text left old mid new was writer start at result Last h
    was_saved memory cut last)

-- If all responses were written but a save failed, the run satisfies `KeepsDevice` with the fault
-- `Save`.
written_unsaved : {S : Type 0} (saves saves_change : S → Record → S → Type 0)
    (text left old mid new : Option (List ℕ)) (reader was writer : Marks) (unsaved : Bool)
    (start at : Kept S) (result : Result (Unit {0}) RunFault) (Last : Kept S → Type 0)
    → KeepsDevice saves saves_change text left old mid was start result (λ end. end ≡ at)
    → AreTheirs result reader was unsaved → OnNoMemory result ⊥ → Keeps mid new → writer ≡ was
    → KeepsDevice saves saves_change text left old new writer start (Err fault.Save) Last
written_unsaved saves saves_change text left old mid new reader was writer unsaved start at
    (Ok done) Last h theirs memory same marks = λ well.
    recast saves saves_change text left old mid new start (Ok done) (Err fault.Save)
    (λ end. end ≡ at) (λ end. Unit {0}) h tt (λ rest. tt)
    (printed_yet old mid new h.print h.written same) tt
written_unsaved saves saves_change text left old mid new reader was writer unsaved start at
    (Err (fault.Line number)) Last h theirs memory same marks = λ well.
    recast saves saves_change text left old mid new start (Err (fault.Line number)) (Err fault.Save)
    (λ end. end ≡ at) (λ end. Unit {0}) h tt (λ rest. tt)
    (printed_yet old mid new h.print h.written same) tt
written_unsaved saves saves_change text left old mid new reader was writer unsaved start at
    (Err fault.Read) Last h theirs memory same marks = λ well.
    recast saves saves_change text left old mid new start (Err fault.Read) (Err fault.Save)
    (λ end. end ≡ at) (λ end. Unit {0}) h tt (λ rest. tt)
    (printed_yet old mid new h.print h.written same) tt
written_unsaved saves saves_change text left old mid new reader was writer unsaved start at
    (Err fault.TooManyLines) Last h theirs memory same marks = λ well.
    recast saves saves_change text left old mid new start (Err fault.TooManyLines) (Err fault.Save)
    (λ end. end ≡ at) (λ end. Unit {0}) h tt (λ rest. tt)
    (printed_yet old mid new h.print h.written same) tt
written_unsaved saves saves_change text left old mid new reader was writer unsaved start at
    (Err fault.Write) Last h theirs memory same marks = λ well.
    absurd (false≢true (sym well ∙ ap (λ (m : Marks). m.failed) marks ∙ theirs))
written_unsaved saves saves_change text left old mid new reader was writer unsaved start at
    (Err fault.Save) Last h theirs memory same marks = λ well.
    let all = h (sym (ap (λ (m : Marks). m.failed) marks) ∙ well) in
    renewed saves saves_change text left old mid new start (Err fault.Save) (λ end. Unit {0})
    (λ end. Unit {0}) all (printed_yet old mid new all.print all.written same) tt
written_unsaved saves saves_change text left old mid new reader was writer unsaved start at
    (Err fault.NoMemory) Last h theirs memory same marks = absurd memory

-- If a save failed, the run satisfies `KeepsDevice` with the fault `Save`, whether or not the last
-- responses were written.
pub ran_unsaved : {S : Type 0} (saves saves_change : S → Record → S → Type 0)
    (text left old mid new : Option (List ℕ)) (reader was writer : Marks) (unsaved : Bool)
    (start at : Kept S) (result flushed : Result (Unit {0}) RunFault) (Last : Kept S → Type 0)
    → KeepsDevice saves saves_change text left old mid was start result (λ end. end ≡ at)
    → AreTheirs result reader was unsaved → OnNoMemory result ⊥
    → OnOk flushed (Keeps mid new) → OnOk flushed (writer ≡ was)
    → OnErr flushed (writer.failed ≡ true)
    → KeepsDevice saves saves_change text left old new writer start (Err fault.Save) Last
ran_unsaved saves saves_change text left old mid new reader was writer unsaved start at result
    (Ok done) Last h theirs memory same marks failed =
    written_unsaved saves saves_change text left old mid new reader was writer unsaved start at
    result Last h theirs memory same marks
ran_unsaved saves saves_change text left old mid new reader was writer unsaved start at result
    (Err why) Last h theirs memory same marks failed = λ well.
    absurd (false≢true (sym well ∙ failed))
