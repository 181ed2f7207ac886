-- A journal, as a keeper sees it. A state is a list of bytes that represents a whole device. A
-- command is a list of bytes that encodes the client's bytes, the locality, the time and random
-- bytes. Most commands have an entry. A power cycle has no entry, and neither does restoring a
-- snapshot: after either, a new journal begins in the resulting state.
use Rattle.std.specs.Prelude.{◌≡◌, ℕ, ◌+◌, ◌-◌, ◌<◌, Bool, true, cond, List, [], ◌∷◌, ◌++◌, length, nat_le, take, Option, Some}
use Rattle.std.specs.List.{AllByRecursion}

-- A position in a journal: the state after an entry, and the checksum to which the next entry is
-- chained.
pub record Spot : Type 0 where
  pub state : List ℕ
  pub chain : ℕ

pub record Journal : Type 0 where
  -- whether the bytes represent a state
  pub is_state : List ℕ → Bool
  -- whether the bytes encode a command
  pub is_command : List ℕ → Bool
  -- whether the bytes encode a command that has an entry
  pub is_entered : List ℕ → Bool
  -- the state after a command that is executed in this state
  pub after : List ℕ → List ℕ → List ℕ
  -- the response to a command that is executed in this state
  pub response : List ℕ → List ℕ → List ℕ
  -- the state of a new device that is created from these bytes; None if they are not valid
  pub begun : List ℕ → Option (List ℕ)
  -- the entry of a command at a position
  pub entry : Spot → List ℕ → List ℕ
  -- the checksum after a command's entry, to which the next entry is chained
  pub link : Spot → List ℕ → ℕ
  -- the head of a journal that begins in a state
  pub head : List ℕ → List ℕ
  -- the checksum after the head for a state, to which the first entry is chained
  pub first : List ℕ → ℕ
  -- the position after a head, which may have a format that is no longer written
  pub after_head : List ℕ → Option Spot
  -- the position after opening a journal, and the number of bytes executed
  pub opened : List ℕ → Option (Spot × ℕ)
  -- the position after executing the entries that follow a position, and the number of bytes
  -- executed
  pub followed : Spot → List ℕ → Option (Spot × ℕ)
  -- the position after the undamaged beginning of a damaged journal, and the size of that beginning
  pub salvaged : List ℕ → Option (Spot × ℕ)
  -- whether an incomplete write of an entry at this position can leave these bytes
  pub is_torn : Spot → List ℕ → Bool
  -- whether a crash of the host may leave these bytes, such as zeros, at the end of a file; they
  -- never look like an entry
  pub is_litter : List ℕ → Bool

-- the state after these commands are executed, one after another
abbrev pub run : Journal → List ℕ → List (List ℕ) → List ℕ
run j s [] = s
run j s (c ∷ cs) = run j (j.after s c) cs

-- the position after the head for a state
abbrev pub first_spot : Journal → List ℕ → Spot
first_spot j s = record { state = s; chain = j.first s }

-- the position after the entry of one command
abbrev pub next_spot : Journal → Spot → List ℕ → Spot
next_spot j p c = record { state = j.after p.state c; chain = j.link p c }

-- the position after the entries of several commands
abbrev pub trail : Journal → Spot → List (List ℕ) → Spot
trail j p [] = p
trail j p (c ∷ cs) = trail j (next_spot j p c) cs

-- the entries for commands, one after another
abbrev pub entries : Journal → Spot → List (List ℕ) → List ℕ
entries j p [] = []
entries j p (c ∷ cs) = j.entry p c ++ entries j (next_spot j p c) cs

-- the commands whose entries are complete within the first `count` bytes
abbrev pub whole_in : Journal → Spot → List (List ℕ) → (count : ℕ) → List (List ℕ)
whole_in j p [] count = []
whole_in j p (c ∷ cs) count =
    cond (nat_le (length (j.entry p c)) count)
    (c ∷ whole_in j (next_spot j p c) cs (count - length (j.entry p c)))
    []

-- each of these commands has an entry
abbrev pub Entered : Journal → List (List ℕ) → Type 0
Entered j cs = AllByRecursion (λ c. j.is_entered c ≡ true) cs

-- What a keeper requires of a journal.
pub record IsJournal (j : Journal) : Type 0 where
  -- a new device has a valid state
  pub begins : (seed s : List ℕ) → j.begun seed ≡ Some s → j.is_state s ≡ true
  -- a device that has a valid state before a command has a valid state after it
  pub leads : (s c : List ℕ) → j.is_state s ≡ true → j.is_state (j.after s c) ≡ true
  -- the head that is written for a state decodes to the position with this state
  pub heads : (s : List ℕ) → j.is_state s ≡ true → j.after_head (j.head s) ≡ Some (first_spot j s)
  -- if a journal consists of a head, complete entries and a torn rest, opening it executes these
  -- entries, beginning at the position after the head
  pub opens : (head : List ℕ) (p : Spot) (cs : List (List ℕ)) (tail : List ℕ)
      → j.after_head head ≡ Some p → j.is_state p.state ≡ true → Entered j cs
      → j.is_torn (trail j p cs) tail ≡ true
      → j.opened (head ++ (entries j p cs ++ tail))
      ≡ Some (trail j p cs, length head + length (entries j p cs))
  -- if complete entries and a torn rest follow a position, `followed` executes these entries
  pub follows : (p : Spot) (cs : List (List ℕ)) (tail : List ℕ)
      → j.is_state p.state ≡ true → Entered j cs → j.is_torn (trail j p cs) tail ≡ true
      → j.followed p (entries j p cs ++ tail) ≡ Some (trail j p cs, length (entries j p cs))
  -- salvaging a damaged journal gives the same device as opening some prefix of it
  pub salvages : (text : List ℕ) (p : Spot) (size : ℕ) → j.salvaged text ≡ Some (p, size)
      → j.opened (take size text) ≡ Some (p, size)
  -- the empty list is torn
  pub nothing : (p : Spot) → j.is_torn p [] ≡ true
  -- a proper prefix of an entry is torn
  pub front : (p : Spot) (c : List ℕ) (k : ℕ)
      → j.is_state p.state ≡ true → j.is_entered c ≡ true → k < length (j.entry p c)
      → j.is_torn p (take k (j.entry p c)) ≡ true
  -- if bytes are torn, each prefix of these bytes, followed by litter, is torn too
  pub littered : (p : Spot) (tail : List ℕ) (k : ℕ) (litter : List ℕ)
      → j.is_torn p tail ≡ true → j.is_litter litter ≡ true
      → j.is_torn p (take k tail ++ litter) ≡ true
  -- the empty list is litter
  pub clean : j.is_litter [] ≡ true
