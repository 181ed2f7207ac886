-- How the input is read as a journal.
use Rattle.std.proofs.Common.{◌≡◌, ℕ, Bool, false, List, ◌++◌, length, drop, take, Result, Ok, Err, ap, sym, subst, ◌∙◌}
use Rattle.std.proofs.lemmas.List.{drop_at, length-take-le, take_at, take-append-drop}
use Rattle.tpm_record.specs.Record.{Record}
use Rattle.tpm_image_text.specs.Image.{image_of}
use Rattle.tpm_image_text.specs.NonVolatile.{NonVolatile}
use Rattle.tpm_image_text.specs.declared.fault.ImageFault.{ImageFault}
use Rattle.tpm_journal_text.specs.Head.{IsHeadOf}
use Rattle.tpm_journal_text.specs.declared.head.Head.{Head}
use Rattle.tpm_journal_text.specs.declared.head.HeadKind.{HeadKind}
use Rattle.tpm_journal_text.specs.declared.head.HeadKind.TheVariants.{Image, State, Versioned}
use Rattle.tpm_state_text.specs.Body.{WholeState}
use Rattle.tpm_state_text.specs.State.{state_of_text}
use Rattle.tpm_state_text.specs.declared.fault.StateFault.{StateFault}
use Rattle.tpm_journal.specs.Opening.{OpensJournal, Reads}
use Rattle.tpm_journal.specs.Replay.{Replays}
use Rattle.tpm_journal.specs.Starting.{BeginsWith, Start, Starts, StartsNot, start_by, start_by_image, start_by_state, starting_head}
use Rattle.tpm_journal.specs.declared.following.FollowFault.{FollowFault}
use Rattle.tpm_journal.specs.declared.following.Followed.{Followed}
use Rattle.tpm_journal.specs.declared.journal.Journal.{Journal}
use Rattle.tpm_journal.specs.declared.opening.OpenFault.{OpenFault}
use Rattle.tpm_journal.specs.declared.opening.OpenFault.TheVariants as fault

begins : (text : List ℕ) (head : Head) → IsHeadOf text head
    → BeginsWith text head.kind head.clock head.content.now (drop head.size text)
begins text head is = record {
  has = is.has;
  is = sym (take-append-drop head.size text) ∙ ap (λ (l : List ℕ). l ++ drop head.size text) is.is;
}

-- if the head at the beginning of the input can be opened, it starts a journal, and its size is the
-- decoded size
pub started : (text : List ℕ) (head : Head) (start : Start) → IsHeadOf text head
    → start_by head.kind head.clock head.content.now ≡ Ok start
    → (rest : List ℕ) × (starts : Starts text start rest)
    × (head.size ≡ length (starting_head starts))
started text head start is opened = (
  drop head.size text,
  record {
    kind = head.kind;
    clock = head.clock;
    content = head.content.now;
    begins =
        begins text head is;
    is = opened;
  },
  sym (length-take-le head.size text is.whole) ∙ ap length is.is,
)

-- ---- faults

-- opening the content of a head never fails with the fault for a missing head
no_head_in_image : (clock : ℕ) (image : List ℕ) (found : Result NonVolatile ImageFault)
    → start_by_image clock image found ≡ Err fault.NoJournal → ⊥
no_head_in_image clock image (Ok kept) e = absurd cc
no_head_in_image clock image (Err why) e = absurd cc

no_head_in_state : (clock : ℕ) (text : List ℕ) (found : Result WholeState StateFault)
    → start_by_state clock text found ≡ Err fault.NoJournal → ⊥
no_head_in_state clock text (Ok state) e = absurd cc
no_head_in_state clock text (Err why) e = absurd cc

no_entry_in_image : (clock : ℕ) (image : List ℕ) (found : Result NonVolatile ImageFault)
    (why : FollowFault)
    → start_by_image clock image found ≡ Err (fault.Follow why) → ⊥
no_entry_in_image clock image (Ok kept) why e = absurd cc
no_entry_in_image clock image (Err other) why e = absurd cc

no_entry_in_state : (clock : ℕ) (text : List ℕ) (found : Result WholeState StateFault)
    (why : FollowFault)
    → start_by_state clock text found ≡ Err (fault.Follow why) → ⊥
no_entry_in_state clock text (Ok state) why e = absurd cc
no_entry_in_state clock text (Err other) why e = absurd cc

is_held : (kind : HeadKind) (clock : ℕ) (content : List ℕ)
    → start_by kind clock content ≡ Err fault.NoJournal → ⊥
is_held Image clock content e = no_head_in_image clock content (image_of content) e
is_held State clock content e = no_head_in_state clock content (state_of_text content) e
is_held (Versioned version) clock content e =
    no_head_in_state clock content (state_of_text content) e

is_no_entry : (kind : HeadKind) (clock : ℕ) (content : List ℕ) (why : FollowFault)
    → start_by kind clock content ≡ Err (fault.Follow why) → ⊥
is_no_entry Image clock content why e = no_entry_in_image clock content (image_of content) why e
is_no_entry State clock content why e =
    no_entry_in_state clock content (state_of_text content) why e
is_no_entry (Versioned version) clock content why e =
    no_entry_in_state clock content (state_of_text content) why e

pub not_started : (text : List ℕ) (head : Head) (why : OpenFault) → IsHeadOf text head
    → start_by head.kind head.clock head.content.now ≡ Err why → StartsNot text why
not_started text head fault.NoJournal is e =
    absurd (is_held head.kind head.clock head.content.now e)
not_started text head (fault.Image why) is e =
    (head.kind, head.clock, head.content.now, drop head.size text, begins text head is, e)
not_started text head (fault.State why) is e =
    (head.kind, head.clock, head.content.now, drop head.size text, begins text head is, e)
not_started text head (fault.Follow why) is e =
    absurd (is_no_entry head.kind head.clock head.content.now why e)

pub not_opened : (text : List ℕ) (why : OpenFault) (new : Record) → StartsNot text why
    → OpensJournal text (Err why) new
not_opened text fault.NoJournal new not = not
not_opened text (fault.Image why) new not = not
not_opened text (fault.State why) new not = not
not_opened text (fault.Follow why) new not = absurd not

-- ---- the rest

-- the input consists of the head, which starts its journal, and the rest after the head
pub split_head : (text : List ℕ) (start : Start) (rest : List ℕ) (size : ℕ)
    (starts : Starts text start rest) → size ≡ length (starting_head starts)
    → (take size text ≡ starting_head starts) × (drop size text ≡ rest)
split_head text start rest size starts is = (
  ap (take size) starts.begins.is ∙ take_at (starting_head starts) rest size (sym is),
  ap (drop size) starts.begins.is ∙ drop_at (starting_head starts) rest size (sym is),
)

abbrev pub read_so : (can : Bool) (text : List ℕ) (start : Start) (rest left : List ℕ) (size : ℕ)
    (starts : Starts text start rest) (followed : Followed)
    (journal : Journal) (new : Record) → can ≡ false → size ≡ length (starting_head starts)
    → left ≡ drop size text
    → Replays can start.journal start.device left followed journal new
    → Reads text followed journal new
read_so can text start rest left size starts followed journal new cannot is behind replays =
    record {
      start = start;
      rest = rest;
      starts = starts;
      replays =
          subst (λ (b : Bool). Replays b start.journal start.device rest followed journal new)
          cannot
          (subst (λ (l : List ℕ). Replays can start.journal start.device l followed journal new)
          (behind ∙ (split_head text start rest size starts is).1) replays);
    }
