use Rattle.tpmsim_arguments.proofs.Lines.{code_is_named, connections_are_needed, damage_is_cut, digits_are_spelled, entropy_is_needed, folder_is_completed, folder_is_served, form_is_told, forms_are_told, image_is_not_completed, joined_is_served, journal_is_replayed, journals_are_kept, line_is_assembled, line_is_assembled_for_both, locality_is_needed, logging_is_served, power_is_cycled, saving_is_served, script_is_checked, script_is_retold, state_is_played, state_is_restored, state_is_served, state_is_told}
use Rattle.tpmsim_arguments.proofs.Running.{device_is_kept, image_is_not_complete, script_is_complete, script_is_run, script_is_traced}
use Rattle.tpmsim_arguments.proofs.Settings.{device_is_served}
use Rattle.tpmsim_arguments.proofs.laws.usual_line_laws.Goals as goal

pub returns : goal.returns
returns c = record {
  asm = line_is_assembled;
  complete_asm = line_is_assembled_for_both;
  line = digits_are_spelled;
  forms = forms_are_told;
  form = form_is_told;
  code = code_is_named;
  run = script_is_run;
  complete_run = script_is_complete;
  complete_image = image_is_not_complete;
  trace = script_is_traced;
  check = script_is_checked;
  power = power_is_cycled;
  cut = damage_is_cut;
  keeping = journals_are_kept;
  snapshot = state_is_told;
  restore = state_is_restored;
  script = script_is_retold;
  replay = journal_is_replayed;
  kept = device_is_kept;
  played = state_is_played;
  serve = device_is_served;
  joined = joined_is_served;
  saving = saving_is_served;
  logging = logging_is_served;
  state = state_is_served;
  short = folder_is_served;
  complete = folder_is_completed;
  incomplete = image_is_not_completed;
  without_entropy = entropy_is_needed;
  without_locality = locality_is_needed;
  without_connections = connections_are_needed;
}
