-- The result of a function that writes an answer, or reports that there is none.
use Rattle.std.specs.Prelude.{◌≡◌, Bool, true, false, List, ℕ, Option, Some, None}

-- The function returned true and wrote the expected answer, or returned false because there is no
-- answer.
abbrev pub Tells : Option (List ℕ) → (told : Bool) → (text : List ℕ) → Type 0
Tells (Some wanted) true text = text ≡ wanted
Tells (Some wanted) false text = ⊥
Tells None true text = ⊥
Tells None false text = Unit {0}
