-- Folders with which the theorems about kept devices begin: without a journal, and with one.
use Rattle.std.specs.Prelude.{◌≡◌, ℕ, ◌+◌, Bool, true, false, List, [], ◌++◌, length}
use Rattle.tpm_keeping.specs.Holder.{newborn}
use Rattle.tpm_keeping.specs.Journal.{Entered, IsJournal, Journal, entries, first_spot}
use Rattle.tpm_keeping.specs.World.{Content, File, IsStart, Shared, World}
use Rattle.tpm_keeping.specs.declared.holder.Force.{Force}

-- the folder with this file, whose history began in the state `origin`, and with processes that have
-- done nothing yet
abbrev pub folder_with : (origin : List ℕ) → File → (lasting : Bool) → Force → (limit : ℕ) → World
folder_with origin file lasting force limit = record {
  shared = record {
    origin = origin;
    file = file;
    older = [];
    next = file.number + 1;
    fresh = [];
    fresh_forced = 0;
    locked = false;
    locker = 0;
    history = file.now.commands;
    promised = length file.now.commands;
    lasting = lasting;
    answers = [];
  };
  holders = λ p. newborn force limit;
}

-- no file
abbrev pub no_file : File
no_file = record {
  number = 0;
  head = [];
  start = record { state = []; chain = 0 };
  before = [];
  now = record { text = []; commands = [] };
  past = [];
  forced = 0;
  is_dropped = false;
}

-- a synced journal that began in this state, with the entries of these commands
abbrev pub journal_file : Journal → (state : List ℕ) → (commands : List (List ℕ)) → File
journal_file j state commands =
    let text : List ℕ = j.head state ++ entries j (first_spot j state) commands in
    record {
      number = 1;
      head = j.head state;
      start = first_spot j state;
      before = [];
      now = record { text = text; commands = commands };
      past = [];
      forced = length text;
      is_dropped = false;
    }

-- A folder without a journal is a start.
abbrev pub StartsEmpty : Type 0
StartsEmpty = (j : Journal) (force : Force) (limit : ℕ)
    → IsStart j (folder_with [] no_file false force limit)

-- A folder is a start if its journal began in any state that a device can have, and has the entries
-- of any commands.
abbrev pub StartsWithJournal : Type 0
StartsWithJournal = (j : Journal) (state : List ℕ) (commands : List (List ℕ)) (force : Force)
    (limit : ℕ) → IsJournal j → j.is_state state ≡ true → Entered j commands
    → IsStart j (folder_with state (journal_file j state commands) true force limit)
