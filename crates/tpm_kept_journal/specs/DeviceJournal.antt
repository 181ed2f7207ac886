-- The journal of a kept device, in the form that a keeper requires.
use Rattle.std.specs.Prelude.{true}
use Rattle.std.specs.Option.{option_map}
use Rattle.tpm_keeping.specs.Journal.{Journal}
use Rattle.tpm_kept_journal.specs.Command.{command_of, is_command_read, is_entered_read}
use Rattle.tpm_kept_journal.specs.Effect.{after_command, entry_at_spot, response_to, sum_if, text_if}
use Rattle.tpm_kept_journal.specs.Opening.{after_head_text, head_of, head_sum_of, opened_text, spot_after_walk}
use Rattle.tpm_kept_journal.specs.Salvage.{salvaged_text}
use Rattle.tpm_kept_journal.specs.Seed.{begun_in}
use Rattle.tpm_kept_journal.specs.State.{bytes_of}
use Rattle.tpm_kept_journal.specs.texts.TornText.{are_zeros, is_torn_text}

abbrev pub device_journal : Journal
device_journal = record {
  is_state = λ s. true;
  is_command = λ c. is_command_read (command_of c);
  is_entered = λ c. is_entered_read (command_of c);
  after = after_command;
  response = response_to;
  begun = λ seed. option_map bytes_of (begun_in seed);
  entry = λ p c. text_if p.chain (entry_at_spot p c);
  link = λ p c. sum_if p.chain (entry_at_spot p c);
  head = head_of;
  first = head_sum_of;
  after_head = after_head_text;
  opened = opened_text;
  followed = λ p text. spot_after_walk p 0 text;
  salvaged = salvaged_text;
  is_torn = λ p text. is_torn_text p.chain text;
  is_litter = are_zeros;
}
