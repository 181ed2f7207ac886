-- The contents of the buffer of responses.
use Rattle.std.specs.Prelude.{◌≡◌, ℕ, List, ◌++◌, take, Option, Some, None}
use Rattle.std.specs.Io.KnownBytes.{append_known}
use Rattle.tpmsim_script.specs.declared.answers.Answers.{Answers}

-- the text of the responses that is not yet written
abbrev pub backlog : Answers → List ℕ
backlog answers = take answers.used answers.text.items

-- the contents of the writer, if known, followed by the text that is not yet written
abbrev pub printout : Option (List ℕ) → Answers → Option (List ℕ)
printout contents answers = append_known contents (backlog answers)

-- The second contents are a prefix of the first, possibly empty or equal to the first. Nothing is
-- claimed if the first contents are unknown.
abbrev pub CutOff : Option (List ℕ) → Option (List ℕ) → Type 0
CutOff None new = Unit {0}
CutOff (Some whole) None = ⊥
CutOff (Some whole) (Some front) = (rest : List ℕ) × (whole ≡ front ++ rest)
