-- `start_at` returns the device and the journal that a head determines, or the fault that prevents
-- this.
use Rattle.std.proofs.Common.{◌≡◌, ℕ, List, Option, Some, None, Ok, Err, ap, ◌∙◌}
use Rattle.tpm_journal.specs.Starting.{BeginsWith, HoldsFault, Start, Starts, StartsNot}
use Rattle.tpm_journal.specs.declared.opening.OpenFault.{OpenFault}
use Rattle.tpm_journal.specs.declared.opening.OpenFault.TheVariants as fault
use Rattle.tpm_journal_text.specs.declared.head.HeadKind.{HeadKind}
use Rattle.tpm_kept_journal.specs.texts.HeadAt.{PlainHead, head_at}
use Rattle.tpm_kept_journal.specs.texts.StartAt.{start_at, start_of}
use Rattle.tpm_kept_journal.proofs.texts.HeadAt.{head_at_front, no_head}

begins_at : (text : List ℕ) (kind : HeadKind) (clock : ℕ) (content rest : List ℕ)
    → BeginsWith text kind clock content rest
    → head_at text ≡ Some (record { kind = kind; clock = clock; content = content })
begins_at text kind clock content rest begins =
    head_at_front (record { kind = kind; clock = clock; content = content }) rest text begins.has
    begins.is

start_is : (text : List ℕ) (found : Option PlainHead) → head_at text ≡ found
    → start_at text ≡ start_of found
unfolding start_at
start_is text found is = ap start_of is

pub starts_told : (text : List ℕ) (start : Start) (rest : List ℕ) (starts : Starts text start rest)
    → (head_at text
    ≡ Some (record { kind = starts.kind; clock = starts.clock; content = starts.content }))
    × (start_at text ≡ Ok start)
starts_told text start rest starts =
    let at = begins_at text starts.kind starts.clock starts.content rest starts.begins in (
      at,
      start_is text
          (Some (record { kind = starts.kind; clock = starts.clock; content = starts.content })) at
          ∙ starts.is,
    )

holds_told : (text : List ℕ) (why : OpenFault) → HoldsFault text why → start_at text ≡ Err why
holds_told text why holds =
    start_is text (Some (record { kind = holds.0; clock = holds.1; content = holds.2 }))
    (begins_at text holds.0 holds.1 holds.2 holds.3 holds.4) ∙ holds.5

pub starts_not_told : (text : List ℕ) (why : OpenFault) → StartsNot text why
    → start_at text ≡ Err why
starts_not_told text fault.NoJournal not =
    start_is text None
    (no_head text
    (λ h rest has t. not h.kind h.clock h.content rest (record { has = has; is = t })))
starts_not_told text (fault.Image why) not = holds_told text (fault.Image why) not
starts_not_told text (fault.State why) not = holds_told text (fault.State why) not
starts_not_told text (fault.Follow why) not = absurd not
