-- How a run of a script ends, and the effects of its steps.
use Rattle.std.specs.Prelude.{◌≡◌, ℕ, ◌+◌, Bool, true, false, List, [], ◌∷◌, ◌++◌, length}
use Rattle.std.specs.Prelude.{Option, Some, None, IfSome, Result, Ok, Err}
use Rattle.tpm_bytes.specs.Tap.{Marks}
use Rattle.tpmsim_script.specs.Line.{lines_of}
use Rattle.tpmsim_script.specs.Lines.{BeginsTooLong, IsUnbroken, LosesFirstLine}
use Rattle.tpmsim_script.specs.Script.{IsOutput, Playing, play}
use Rattle.tpmsim_script.specs.declared.fault.RunFault.{RunFault}
use Rattle.tpmsim_script.specs.declared.fault.RunFault.TheVariants as fault

-- If a run succeeded, P holds for None. If it stopped at a bad line, P holds for the number of that
-- line. After any other fault, nothing is claimed.
abbrev pub Ran : (Option ℕ → Type 0) → Result (Unit {0}) RunFault → Type 0
Ran P (Ok done) = P None
Ran P (Err (fault.Line number)) = P (Some number)
Ran P (Err other) = Unit {0}

-- If the reader failed, `fact` holds.
abbrev pub OnUnread : {X : Type 0} → Result X RunFault → Type 0 → Type 0
OnUnread (Err fault.Read) fact = fact
OnUnread other fact = Unit {0}

-- If the writer failed, `fact` holds.
abbrev pub OnUnwritten : {X : Type 0} → Result X RunFault → Type 0 → Type 0
OnUnwritten (Err fault.Write) fact = fact
OnUnwritten other fact = Unit {0}

-- whether a save failed
abbrev pub is_unsaved : Result (Unit {0}) RunFault → Bool
is_unsaved (Err fault.Save) = true
is_unsaved other = false

-- If there were too many lines, `fact` holds.
abbrev pub OnTooMany : {X : Type 0} → Result X RunFault → Type 0 → Type 0
OnTooMany (Err fault.TooManyLines) fact = fact
OnTooMany other fact = Unit {0}

-- If there was not enough memory, `fact` holds.
abbrev pub OnNoMemory : {X : Type 0} → Result X RunFault → Type 0 → Type 0
OnNoMemory (Err fault.NoMemory) fact = fact
OnNoMemory other fact = Unit {0}

-- The fault Read means that the reader failed, Write that the writer failed, and Save that the
-- saver failed.
abbrev pub AreTheirs : {X : Type 0} → Result X RunFault → (reader writer : Marks)
    → (unsaved : Bool) → Type 0
AreTheirs (Err fault.Read) reader writer unsaved = reader.failed ≡ true
AreTheirs (Err fault.Write) reader writer unsaved = writer.failed ≡ true
AreTheirs (Err fault.Save) reader writer unsaved = unsaved ≡ true
AreTheirs other reader writer unsaved = Unit {0}

-- The lines from number `number` up to, but not including, number `next` were played, beginning in
-- the state `p`. None of them is bad, and their output was written after the old contents of the
-- writer (`old`). `rest` contains the remaining lines.
abbrev pub PlaysUpTo : Option (List ℕ) → Option (List ℕ) → Option (List ℕ)
    → Playing → ℕ → ℕ → List (List ℕ) → Type 0
PlaysUpTo None old new p number next rest = Unit {0}
PlaysUpTo (Some text) old new p number next rest =
    (played : List (List ℕ)) × (lines_of text ≡ played ++ rest)
    × (next ≡ number + length played) × IsOutput old new None (play p number played)

-- The reader failed before it returned the text `left`. Before the failure, it had returned the
-- lines that were played, and the start of the next line. None of the played lines is bad.
abbrev pub PlaysToFailure : Option (List ℕ) → Option (List ℕ)
    → Option (List ℕ) → Option (List ℕ) → Playing → Type 0
PlaysToFailure None left old new p = Unit {0}
PlaysToFailure (Some text) None old new p = ⊥
PlaysToFailure (Some text) (Some left) old new p =
    (start : List ℕ) × (next : ℕ) × IsUnbroken start
    × PlaysUpTo (Some text) old new p 1 next (lines_of (start ++ left))

-- The maximum number of lines, 1,048,576, was played. None of them is bad, and there is
-- another line.
abbrev pub PlaysAllAllowed : Option (List ℕ) → Option (List ℕ) → Option (List ℕ) → Playing → Type 0
PlaysAllAllowed text old new p =
    (line : List ℕ) × (rest : List (List ℕ)) × PlaysUpTo text old new p 1 1048577 (line ∷ rest)

-- The result of a search for the next line: the text's first line is this line; or the text is
-- empty; or its first line, which has this number, is too long; or the reader or the writer failed.
-- No other fault occurs.
abbrev pub NextFound : ℕ → Option (List ℕ)
    → Result Bool RunFault → List ℕ → Option (List ℕ) → Type 0
NextFound number old (Ok true) line new = LosesFirstLine old line new
NextFound number old (Ok false) line new = IfSome old (λ text. text ≡ [])
NextFound number old (Err (fault.Line bad)) line new = (bad ≡ number) × IfSome old BeginsTooLong
NextFound number old (Err fault.Read) line new = Unit {0}
NextFound number old (Err fault.Write) line new = Unit {0}
NextFound number old (Err other) line new = ⊥

-- `fact` holds if a run succeeded, stopped at a bad line, or ended because the reader failed.
abbrev pub UnlessFailed : {X : Type 0} → Result X RunFault → Type 0 → Type 0
UnlessFailed (Ok x) fact = fact
UnlessFailed (Err (fault.Line number)) fact = fact
UnlessFailed (Err fault.Read) fact = fact
UnlessFailed (Err other) fact = Unit {0}

-- the result of a run after the maximum number of lines: TooManyLines if there is another
-- line
abbrev pub end_at_limit : Result Bool RunFault → Result (Unit {0}) RunFault
end_at_limit (Ok true) = Err fault.TooManyLines
end_at_limit (Ok false) = Ok tt
end_at_limit (Err (fault.Line number)) = Err fault.TooManyLines
end_at_limit (Err other) = Err other
