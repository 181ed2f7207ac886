-- The counts are the sizes of the lists.
use Rattle.std.proofs.Common.{◌≡◌, ℕ, length, refl, sym}
use Rattle.std.proofs.lemmas.List.{length-map}
use Rattle.tpm_commands.specs.CommandCode.{served_count}
use Rattle.tpm_commands.specs.declared.profile.Profile.TheVariants.{Complete}
use Rattle.tpm_nv.specs.Head.{heads_of}
use Rattle.tpm_record.specs.Record.{Record}
use Rattle.tpm_actions_capability.specs.Element.{by_itself}
use Rattle.tpm_actions_capability.specs.Elements.{command_elements}
use Rattle.tpm_actions_capability.specs.Properties.{complete_elements, count_elements, identity_elements, index_count, limit_elements, session_count}
use Rattle.tpm_capability_laws.specs.Counts.{ListsAreCounted}

served : served_count Complete ≡ length (command_elements Complete)
served = refl

pub lists_are_counted : ListsAreCounted
unfolding complete_elements identity_elements limit_elements count_elements
lists_are_counted r = record {
  commands = (served_count Complete, refl, served);
  library = (served_count Complete, refl, served);
  indices = (index_count r.nv, refl, sym (length-map (heads_of r.nv) (λ e. by_itself e.0)));
  sessions = (session_count r, refl, refl);
  persistent = (length r.persistent, refl, sym (length-map r.persistent (λ e. by_itself e.0)));
}
