-- A checkpoint of a journal: a head that contains the whole state of the device and of the
-- completing layer.
use Rattle.std.specs.Prelude.{ℕ, Some}
use Rattle.tpm_journal_text.specs.Head.{head_sum}
use Rattle.tpm_record.specs.Record.{Record}
use Rattle.tpm_snapshot.specs.Layer.{layer_of}
use Rattle.tpm_state_text.specs.Body.{WholeState}
use Rattle.tpm_state_text.specs.State.{state_text}
use Rattle.tpm_journal.specs.declared.journal.Journal.{Journal}

-- the whole state of a journal's device, with its completing layer
abbrev pub state_beside : Journal → Record → WholeState
state_beside journal device = record { device = device; layer = Some (layer_of journal.layer) }

-- the journal after a checkpoint: its checksum is the checksum of the new head, its time is the
-- clock in this head, and its layer is unchanged
abbrev pub checkpointed_journal : Journal → (clock : ℕ) → Record → Journal
checkpointed_journal journal clock device = record journal {
  sum = head_sum clock (state_text (state_beside journal device));
  time = clock;
}
