-- No authorization value of a history ends in a zero byte.
use Rattle.std.proofs.Common.{rules, ◌≡◌, ℕ, List, [], ◌∷◌, Option, Result, Ok, Err, IfOk, ◌==◌, refl}
use Rattle.std.proofs.lemmas.Bool.{cond_both}
use Rattle.tpm_types_common.proofs.Trimming.{trimmed_twice}
use Rattle.tpm_types_common.specs.AuthValue.{auth_value_at, trimmed}
use Rattle.tpm_types_common.specs.Handle.{endorsement_handle, lockout_handle, owner_handle, platform_handle}
use Rattle.tpm_types_common.specs.StartupType.{startup_type_at}
use Rattle.tpm_types_common.specs.declared.handle.Handle.{Handle}
use Rattle.tpm_types_common.specs.declared.refused.Refused.{Refused}
use Rattle.tpm_types_common.specs.declared.startup_type.StartupType.{StartupType}
use Rattle.tpm_types_common.specs.declared.startup_type.StartupType.TheVariants as type
use Rattle.tpm_commands.specs.declared.command_code.CommandCode.{CommandCode}
use Rattle.tpm_commands.specs.declared.command_code.CommandCode.TheVariants as command
use Rattle.tpm_types_object.specs.declared.sensitive.Sensitive.{Sensitive}
use Rattle.tpm_record.specs.rows.Request.{Request, first_handle}
use Rattle.tpm_record.specs.rows.Rows.{only}
use Rattle.tpm_nvactions.specs.NvDefineSpace as definition
use Rattle.tpm_step.proofs.rows.Binding.{ok_bind, ok_then}
use Rattle.tpm_step.specs.history.AuthValues.{AuthValues, auth_of, changed_value, copied_value, created_value, defined_value, loaded_value, started_values, values_by, with_value}
use Rattle.tpm_step.specs.history.HandleMap.{with_at}
use Rattle.tpm_step.specs.history.History.{Done, History, ObjectPlaced, PowerCycled}
use Rattle.tpm_step.proofs.history.AuthReadings.{IsDefinition, IsTrimmed, definition_read, only_trimmed}

abbrev AreTrimmed : AuthValues → Type 0
AreTrimmed values = (h : Handle) → IsTrimmed (values h)

none_trimmed : IsTrimmed []
unfolding trimmed
none_trimmed = refl

at_trimmed : (handle : Handle) (value : List ℕ) (values : AuthValues) → IsTrimmed value
    → AreTrimmed values → AreTrimmed (with_at handle value values)
at_trimmed handle value values is are h =
    cond_both (h.number == handle.number) value (values h) IsTrimmed (λ _. is) (λ _. are h)

cleared_trimmed : (handle : Handle) (values : AuthValues) → AreTrimmed values
    → AreTrimmed (with_at handle [] values)
cleared_trimmed handle values are = at_trimmed handle [] values none_trimmed are

abbrev SetsTrimmed : Result (Handle × List ℕ) Refused → Type 0
SetsTrimmed set = IfOk set (λ x. IsTrimmed x.1)

with_trimmed : (set : Result (Handle × List ℕ) Refused) (values : AuthValues) → SetsTrimmed set
    → AreTrimmed values → AreTrimmed (with_value set values)
with_trimmed (Ok set) values is are = at_trimmed set.0 set.1 values is are
with_trimmed (Err e) values is are = are

changed_trimmed : (q : Request) → SetsTrimmed (changed_value q)
changed_trimmed q =
    ok_bind _ (first_handle q.handles) _ (λ handle.
    ok_then IsTrimmed _ (only (auth_value_at q.parameters)) _ (only_trimmed q.parameters)
    (λ value is. is))

defined_trimmed : (q : Request) → SetsTrimmed (defined_value q)
defined_trimmed q = ok_then IsDefinition _ (definition.parameters_in q.parameters) _
    (definition_read q.parameters) (λ p is. is.value)

created_trimmed : (q : Request) (made : Option Handle) → SetsTrimmed (created_value q made)
created_trimmed q made = search (rules, ok_bind, trimmed_twice)

loaded_trimmed : (area : Option Sensitive) (made : Option Handle)
    → SetsTrimmed (loaded_value area made)
loaded_trimmed area made = search (rules, ok_bind, trimmed_twice)

copied_trimmed : (q : Request) (values : AuthValues) → AreTrimmed values
    → SetsTrimmed (copied_value q values)
copied_trimmed q values are = search (rules, ok_bind, are)

started_trimmed : (t : Result StartupType Refused) (values : AuthValues) → AreTrimmed values
    → AreTrimmed (started_values t values)
started_trimmed (Ok type.Clear) values are = cleared_trimmed platform_handle values are
started_trimmed (Ok type.State) values are = are
started_trimmed (Err e) values are = are

done_trimmed : (code : CommandCode) (q : Request) (made : Option Handle) (area : Option Sensitive)
    (values : AuthValues) → AreTrimmed values → AreTrimmed (values_by code q made area values)
done_trimmed command.HierarchyChangeAuth q made area values are =
    with_trimmed (changed_value q) values (changed_trimmed q) are
done_trimmed command.NvChangeAuth q made area values are =
    with_trimmed (changed_value q) values (changed_trimmed q) are
done_trimmed command.NvDefineSpace q made area values are =
    with_trimmed (defined_value q) values (defined_trimmed q) are
done_trimmed command.CreatePrimary q made area values are =
    with_trimmed (created_value q made) values (created_trimmed q made) are
done_trimmed command.Load q made area values are =
    with_trimmed (loaded_value area made) values (loaded_trimmed area made) are
done_trimmed command.EvictControl q made area values are =
    with_trimmed (copied_value q values) values (copied_trimmed q values are) are
done_trimmed command.Startup q made area values are =
    started_trimmed (only (startup_type_at q.parameters)) values are
done_trimmed command.Clear q made area values are =
    cleared_trimmed owner_handle _
    (cleared_trimmed endorsement_handle _ (cleared_trimmed lockout_handle values are))
done_trimmed _ q made area values are = are

pub told_values_are_trimmed : (history : History) (h : Handle)
    → trimmed (auth_of history h) ≡ auth_of history h
told_values_are_trimmed [] h = none_trimmed
told_values_are_trimmed (Done c ∷ history) h =
    done_trimmed c.command.code c.request c.answer.handle c.sensitive (auth_of history)
    (told_values_are_trimmed history) h
told_values_are_trimmed (PowerCycled ∷ history) h = told_values_are_trimmed history h
told_values_are_trimmed (ObjectPlaced at object ∷ history) h =
    at_trimmed at (trimmed object.auth_value) (auth_of history) (trimmed_twice object.auth_value)
    (told_values_are_trimmed history) h
