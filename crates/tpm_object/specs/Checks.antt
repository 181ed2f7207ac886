-- Checks in sequence: the first check that fails determines the fault.
use Rattle.std.specs.Prelude.{Bool, List, [], ◌∷◌, if◌then◌else◌, Result, Ok, Err}
use Rattle.std.specs.List.{list_any}

-- success, or the fault of the first check that fails; a check fails if its Bool is true
abbrev pub first_fault : {F : Type 0} → List (Bool × F) → Result (Unit {0}) F
first_fault [] = Ok tt
first_fault (check ∷ checks) = if check.0 then Err check.1 else first_fault checks

-- whether at least one of these conditions holds
abbrev pub one_of : List Bool → Bool
one_of conditions = list_any (λ condition. condition) conditions
