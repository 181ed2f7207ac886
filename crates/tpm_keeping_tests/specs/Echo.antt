-- A device without a state, whose response to each command is the command itself. Its journal has
-- one byte for the head and one byte, 101, for each entry. The journal is damaged if its first
-- entry is another byte. A command that begins with a zero has no entry, and the empty list is not
-- a command.
use Rattle.std.specs.Prelude.{ℕ, zero, suc, ◌==◌, Bool, true, false, cond, List, [], ◌∷◌, length, Option, Some, None}
use Rattle.tpm_keeping.specs.Journal.{Journal, Spot}

abbrev pub nothing : Spot
nothing = record { state = []; chain = 0 }

abbrev pub is_empty : List ℕ → Bool
is_empty [] = true
is_empty (b ∷ text) = false

abbrev pub is_some : List ℕ → Bool
is_some [] = false
is_some (b ∷ text) = true

abbrev pub begins_above_zero : List ℕ → Bool
begins_above_zero [] = false
begins_above_zero (zero ∷ text) = false
begins_above_zero (suc b ∷ text) = true

abbrev pub headed_at : List ℕ → Option Spot
headed_at [] = None
headed_at (b ∷ []) = Some nothing
headed_at (b ∷ c ∷ text) = None

abbrev pub opened_at : List ℕ → Option (Spot × ℕ)
opened_at [] = None
opened_at (b ∷ []) = Some (nothing, 1)
opened_at (b ∷ c ∷ text) = cond (c == 101) (Some (nothing, suc (suc (length text)))) None

-- the position after these entries; without entries, the position is unchanged
abbrev pub followed_at : Spot → List ℕ → Option (Spot × ℕ)
followed_at p [] = Some (p, 0)
followed_at p (b ∷ text) = cond (b == 101) (Some (nothing, suc (length text))) None

-- the undamaged beginning of a damaged journal is its head
abbrev pub salvaged_at : List ℕ → Option (Spot × ℕ)
salvaged_at [] = None
salvaged_at (b ∷ text) = Some (nothing, 1)

abbrev pub echo : Journal
echo = record {
  is_state = λ s. is_empty s;
  is_command = λ c. is_some c;
  is_entered = λ c. begins_above_zero c;
  after = λ s c. [];
  response = λ s c. c;
  begun = λ seed. Some [];
  entry = λ p c. 101 ∷ [];
  link = λ p c. 0;
  head = λ s. 104 ∷ [];
  first = λ s. 0;
  after_head = λ text. headed_at text;
  opened = λ text. opened_at text;
  followed = λ p text. followed_at p text;
  salvaged = λ text. salvaged_at text;
  is_torn = λ p text. is_empty text;
  is_litter = λ text. is_empty text;
}
