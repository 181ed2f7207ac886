-- A view shows what the record contains. The history records an accepted command with the views of
-- its handles before the command.
use Rattle.std.proofs.Common.{◌≡◌, ℕ, List, ◌∷◌, map, refl}
use Rattle.tpm_types_common.specs.declared.handle.Handle.{Handle}
use Rattle.tpm_types_common.specs.declared.nv_use.NvUse.{NvUse}
use Rattle.tpm_types_common.specs.declared.nv_use.NvUse.TheVariants as does
use Rattle.tpm_record.specs.Entity.{AnIndex, AnObject, Entity, entity_at, entity_is_available, entity_name, entity_policy, entity_protection, is_available, name_of, object_of, policy_of, protection_of, entity_written, written_of}
use Rattle.tpm_record.specs.Record.{Record}
use Rattle.tpm_record.specs.Tick.{after_tick}
use Rattle.tpm_record.specs.declared.entity.Means.{Means}
use Rattle.tpm_record.specs.declared.entity.Means.TheVariants as means
use Rattle.tpm_step.specs.step.Events.{PlainEvent}
use Rattle.tpm_step.specs.history.History.{AcceptedCommand, Done, History, extended_history}
use Rattle.tpm_step.specs.history.View.{entity_view, view_name, view_of}
use Rattle.tpm_step.specs.history.Views.{TellsOf, view_policy, view_protection, view_takes, view_written}
use Rattle.tpm_step.proofs.history.Recorded.{recorded_is}

name_told : (h : Handle) (entity : Entity) → view_name (entity_view h entity) ≡ entity_name h entity
name_told h (AnObject object) = refl
name_told h _ = refl

policy_told : (h : Handle) (entity : Entity)
    → view_policy (entity_view h entity) ≡ entity_policy entity
policy_told h (AnObject object) = refl
policy_told h _ = refl

protection_told : (h : Handle) (entity : Entity)
    → view_protection (entity_view h entity) ≡ entity_protection h entity
protection_told h (AnObject object) = refl
protection_told h _ = refl

written_told : (h : Handle) (entity : Entity)
    → view_written (entity_view h entity) ≡ entity_written entity
written_told h (AnObject object) = refl
written_told h _ = refl

available_told : (h : Handle) (entity : Entity) (m : Means) (nv_use : NvUse)
    → view_takes m nv_use (entity_view h entity) ≡ entity_is_available m nv_use entity
available_told h (AnObject object) means.AuthValue nv_use = refl
available_told h (AnIndex index) means.AuthValue does.Read = refl
available_told h (AnIndex index) means.Policy does.Read = refl
available_told h _ _ _ = refl

pub views_tell : (r : Record) (handle : Handle) → TellsOf (view_of r handle) r handle
unfolding view_of name_of policy_of protection_of written_of is_available
views_tell r handle = record {
  name = name_told handle (entity_at r handle);
  policy = policy_told handle (entity_at r handle);
  protection = protection_told handle (entity_at r handle);
  written = written_told handle (entity_at r handle);
  available = available_told handle (entity_at r handle);
}

pub view_named : (r : Record) (handle : Handle) → view_name (view_of r handle) ≡ name_of r handle
view_named r handle = (views_tell r handle).name

-- the passing of time changes no view
later_views : (r : Record) (elapsed : ℕ) (handles : List Handle)
    → map (view_of (after_tick r elapsed)) handles ≡ map (view_of r) handles
unfolding view_of entity_at object_of
later_views r elapsed handles = refl

pub recorded_views : (r : Record) (event : PlainEvent) (check : ℕ) (history : History)
    (c : AcceptedCommand) → extended_history r event check history ≡ Done c ∷ history
    → c.views ≡ map (view_of r) c.command.handles
recorded_views r event check history c =
    recorded_is (λ (c : AcceptedCommand). c.views ≡ map (view_of r) c.command.handles) r event check
    history c (λ elapsed locality random a accepts. later_views r elapsed a.command.handles)
