-- The start of a journal: the device in its head, and the state of the journal apart from the
-- device.
use Rattle.std.specs.Prelude.{◌≡◌, ℕ, List, ◌++◌, length, Result, Ok, Err}
use Rattle.tpm_image_text.specs.Image.{image_of}
use Rattle.tpm_image_text.specs.NonVolatile.{NonVolatile, powered_on}
use Rattle.tpm_image_text.specs.declared.fault.ImageFault.{ImageFault}
use Rattle.tpm_journal_text.specs.Head.{HasHead, head_sum, head_text}
use Rattle.tpm_journal_text.specs.declared.head.HeadKind.{HeadKind}
use Rattle.tpm_journal_text.specs.declared.head.HeadKind.TheVariants.{Image, State, Versioned}
use Rattle.tpm_record.specs.Record.{Record}
use Rattle.tpm_state_text.specs.Body.{WholeState}
use Rattle.tpm_state_text.specs.State.{state_of_text}
use Rattle.tpm_state_text.specs.declared.fault.RestoreFault.TheVariants.{Text}
use Rattle.tpm_state_text.specs.declared.fault.StateFault.{StateFault}
use Rattle.tpm_journal.specs.State.{journal_begun, journal_resumed}
use Rattle.tpm_journal.specs.declared.journal.Journal.{Journal}
use Rattle.tpm_journal.specs.declared.opening.OpenFault.{OpenFault}
use Rattle.tpm_journal.specs.declared.opening.OpenFault.TheVariants as fault
use Rattle.tpm_journal.specs.declared.opening.Started.{Started}

-- a journal before its first entry, and its device
pub record Start : Type 0 where
  pub journal : Journal
  pub device : Record

-- the start from an image: power comes on, and the completing layer restarts
abbrev pub start_by_image : (clock : ℕ) → (image : List ℕ) → Result NonVolatile ImageFault
    → Result Start OpenFault
start_by_image clock image (Ok kept) =
    Ok (record { journal = journal_begun clock image; device = powered_on kept })
start_by_image clock image (Err why) = Err (fault.Image why)

-- the start from a state text of the current version: the device continues unchanged, and so does
-- its completing layer, if it had one
abbrev pub start_by_state : (clock : ℕ) → (text : List ℕ) → Result WholeState StateFault
    → Result Start OpenFault
start_by_state clock text (Ok state) = Ok (record {
  journal = journal_resumed (head_sum clock text) clock state.layer;
  device = state.device;
})
start_by_state clock text (Err why) = Err (fault.State (Text why))

-- the start from a head of this kind with this clock and content, or the fault in the content
abbrev pub start_by : HeadKind → (clock : ℕ) → (content : List ℕ) → Result Start OpenFault
start_by Image clock content = start_by_image clock content (image_of content)
start_by State clock content = start_by_state clock content (state_of_text content)
start_by (Versioned version) clock content =
    start_by_state clock content (state_of_text content)

-- The input is a head of this kind with this clock and content, followed by the rest.
pub record BeginsWith (text : List ℕ) (kind : HeadKind) (clock : ℕ) (content rest : List ℕ)
    : Type 0
  where
    pub has : HasHead kind clock content
    pub is : text ≡ head_text kind clock content ++ rest

-- The input consists of a head that starts this journal, followed by the rest.
pub record Starts (text : List ℕ) (start : Start) (rest : List ℕ) : Type 0 where
  pub kind : HeadKind
  pub clock : ℕ
  pub content : List ℕ
  pub begins : BeginsWith text kind clock content rest
  pub is : start_by kind clock content ≡ Ok start

-- the encoding of the head that starts a journal
abbrev pub starting_head : {text : List ℕ} {start : Start} {rest : List ℕ} → Starts text start rest
    → List ℕ
starting_head starts = head_text starts.kind starts.clock starts.content

-- The input begins with a head that cannot start a journal because of this fault.
abbrev pub HoldsFault : List ℕ → OpenFault → Type 0
HoldsFault text why =
    (kind : HeadKind) × (clock : ℕ) × (content : List ℕ) × (rest : List ℕ)
    × BeginsWith text kind clock content rest × (start_by kind clock content ≡ Err why)

-- The input does not start a journal: it has no head, or the content of its head has this fault.
abbrev pub StartsNot : List ℕ → OpenFault → Type 0
StartsNot text fault.NoJournal =
    (kind : HeadKind) (clock : ℕ) (content rest : List ℕ) → BeginsWith text kind clock content rest
    → ⊥
StartsNot text (fault.Image why) = HoldsFault text (fault.Image why)
StartsNot text (fault.State why) = HoldsFault text (fault.State why)
StartsNot text (fault.Follow why) = ⊥

-- Opening the content of a head returned the journal and the device at its start, or the fault in
-- the content.
abbrev pub IsStart : Result Start OpenFault → Result Journal OpenFault → (new : Record) → Type 0
IsStart start (Ok journal) new = start ≡ Ok (record { journal = journal; device = new })
IsStart start (Err why) new = start ≡ Err why

-- On success, the result is the journal before its first entry, its device, and the head's size. On
-- error, the input does not start a journal, because of this fault.
abbrev pub StartsBy : List ℕ → Result Started OpenFault → (new : Record) → Type 0
StartsBy text (Ok started) new =
    (rest : List ℕ)
    × (starts : Starts text (record { journal = started.journal; device = new }) rest)
    × (started.size ≡ length (starting_head starts))
StartsBy text (Err why) new = StartsNot text why
