-- The part of the state that a command changes determines how many more slots a success of this
-- command fills, and how the success changes the sessions.
use Rattle.std.specs.Prelude.{is_some}
use Rattle.std.proofs.Common.{◌∙◌, ◌≡◌, ◌≤◌, Bool, List, Option, ap, arith, false, inl, inr, length}
use Rattle.std.proofs.Common.{true}
use Rattle.std.proofs.lemmas.Bool.{false≢true}
use Rattle.std.proofs.lemmas.List.{length-map}
use Rattle.tpm_containers.specs.Slots.{taken_count}
use Rattle.tpm_containers.proofs.SortedMapLaws.{kept_few}
use Rattle.tpm_session.specs.Sessions.{session_at}
use Rattle.tpm_session.specs.declared.session.Session.{Session}
use Rattle.tpm_nv.specs.Clear.{contents_after_clear, is_by_platform}
use Rattle.tpm_nv.specs.Index.{NvContents, NvIndex}
use Rattle.tpm_nv.specs.Startup.{contents_after_startup}
use Rattle.tpm_record.specs.Clear.{outlasts}
use Rattle.tpm_record.specs.Record.{Record}
use Rattle.tpm_record.proofs.ClearLaws.{cleared_few}
use Rattle.tpm_step.specs.rows.Footprint.{StartsNv, Touches}
use Rattle.tpm_commands.specs.Part.{AuthValues, Banks, Beginning, Cleared, Clock, DisableClear, Lockout, Nothing, Part}
use Rattle.tpm_commands.specs.Part.{Saved, Sessions, SessionsAndObjects}
use Rattle.tpm_step.specs.rows.Sessions.{SessionsStay}
use Rattle.tpm_step.specs.rows.Shapes.{Grows, taken_in}

-- ---- slots in use

-- The number of NV indices is unchanged.
abbrev pub SameCount : NvContents → NvContents → Type 0
SameCount old new = length new.indices ≡ length old.indices

started_count : (nv : NvContents) → SameCount nv (contents_after_startup nv)
unfolding contents_after_startup
started_count nv = length-map nv.indices _

cleared_count : (nv : NvContents) → length (contents_after_clear nv).indices ≤ length nv.indices
unfolding contents_after_clear
cleared_count nv = kept_few (λ (index : NvIndex). is_by_platform index.public) nv.indices

starts_count : (old new : NvContents) → StartsNv old new → SameCount old new
starts_count old new (inl is) = ap (λ (nv : NvContents). length nv.indices) is
starts_count old new (inr is) = ap (λ (nv : NvContents). length nv.indices) is ∙ started_count old

pub same_indices : (r : Record) (nv : NvContents) → SameCount r.nv nv
    → Grows false r (record r { nv = nv })
same_indices r nv same = omega (arith, same)

pub same_sessions : (r : Record) (sessions : List (Option Session))
    → taken_count sessions ≡ taken_count r.sessions
    → Grows false r (record r { sessions = sessions })
same_sessions r sessions same = omega (arith, same)

-- whether a command that changes only this part of the state never needs another slot. Sessions,
-- transient and persistent objects, and NV indices need slots
abbrev pub keeps_places : Part → Bool
keeps_places Nothing = true
keeps_places AuthValues = true
keeps_places Lockout = true
keeps_places Banks = true
keeps_places Beginning = true
keeps_places Saved = true
keeps_places DisableClear = true
keeps_places Clock = true
keeps_places Cleared = true
keeps_places _ = false

same_places : (old new : Record) → taken_in new ≡ taken_in old → Grows false old new
same_places old new same = omega (arith, same)

pub touched_grows : (p : Part) (old new : Record) → keeps_places p ≡ true → Touches p old new
    → Grows false old new
touched_grows Nothing old new keeps touches =
    same_places old new (ap (λ (r : Record). taken_in r) touches)
touched_grows AuthValues old new keeps touches =
    same_places old new (ap (λ (r : Record). taken_in r) touches.0)
touched_grows Lockout old new keeps touches =
    same_places old new (ap (λ (r : Record). taken_in r) touches)
touched_grows Banks old new keeps touches =
    same_places old new (ap (λ (r : Record). taken_in r) touches)
touched_grows Beginning old new keeps touches =
    let same = ap (λ (r : Record). taken_in r) touches.0 in
    let indices = starts_count old.nv new.nv touches.1 in
    omega (arith, same, indices)
touched_grows Saved old new keeps touches =
    same_places old new (ap (λ (r : Record). taken_in r) touches)
touched_grows DisableClear old new keeps touches =
    same_places old new (ap (λ (r : Record). taken_in r) touches)
touched_grows Clock old new keeps touches =
    same_places old new (ap (λ (r : Record). taken_in r) touches)
touched_grows Cleared old new keeps touches =
    let same = ap (λ (r : Record). taken_in r) touches in
    let objects = cleared_few old.objects in
    let persistent = kept_few outlasts old.persistent in
    let indices = cleared_count old.nv in
    omega (arith, same, objects, persistent, indices)
touched_grows _ old new keeps touches = absurd (false≢true keeps)

-- ---- sessions

-- whether a command that changes only this part of the state leaves the sessions unchanged
abbrev pub leaves_sessions : Part → Bool
leaves_sessions Sessions = false
leaves_sessions SessionsAndObjects = false
leaves_sessions _ = true

pub touched_same : (p : Part) (old new : Record) → leaves_sessions p ≡ true → Touches p old new
    → new.sessions ≡ old.sessions
touched_same Sessions old new leaves touches = absurd (false≢true leaves)
touched_same SessionsAndObjects old new leaves touches = absurd (false≢true leaves)
touched_same AuthValues old new leaves touches = ap (λ (r : Record). r.sessions) touches.0
touched_same Beginning old new leaves touches = ap (λ (r : Record). r.sessions) touches.0
touched_same _ old new leaves touches = ap (λ (r : Record). r.sessions) touches

pub sessions_same : (old new : Record) → new.sessions ≡ old.sessions → SessionsStay old new
sessions_same old new same h there =
    ap (λ (sessions : List (Option Session)). is_some (session_at sessions h)) same ∙ there
