-- After the row's effect, the rest of the step changes only sessions and the state that a shutdown
-- saved.
use Rattle.std.proofs.Common.{ℕ, Bool, true, false, cond, List, [], ◌∷◌, Option, Some, None, drop, refl, ap, sym, subst, ◌∙◌}
use Rattle.std.specs.Option.{option_map_or}
use Rattle.tpm_mac.specs.declared.algorithm.HashAlg.{HashAlg}
use Rattle.tpm_session.specs.declared.session.Session.{Session}
use Rattle.tpm_types_common.specs.declared.session_type.SessionType.{SessionType}
use Rattle.tpm_types_common.specs.declared.session_type.SessionType.TheVariants as type
use Rattle.tpm_types_command.specs.AuthEntry.{Entry}
use Rattle.tpm_types_command.specs.Command.{Whole}
use Rattle.tpm_commands.specs.CommandCode.{shape_of}
use Rattle.tpm_record.specs.Record.{Record, with_saved}
use Rattle.tpm_record.specs.Saved.{Nothing}
use Rattle.tpm_auth.specs.Entries.{session_of}
use Rattle.tpm_auth.specs.declared.session_grant.Grant.{Grant}
use Rattle.tpm_step.specs.step.Answer.{Written, answer_to, written_of}
use Rattle.tpm_step.specs.step.Entries.{entries_ended, entries_rolled, entry_ended, entry_restarted, entry_rolled, restarted_by}
use Rattle.tpm_step.specs.step.Granted.{Granted, granted_entries}
use Rattle.tpm_step.specs.step.Step.{Accepted, success_step}
use Rattle.tpm_step.specs.rows.Acceptance.{LeavesEffect, OnlySessions}

then_only : (a b c : Record) → OnlySessions a b → OnlySessions b c → OnlySessions a c
then_only a b c first second =
    second ∙ ap (λ (r : Record). record r { sessions = c.sessions }) first

one_rolled : (r : Record) (e : Entry) (left : List ℕ) → OnlySessions r (entry_rolled r e left).after
unfolding entry_rolled
one_rolled r e left = refl

all_rolled : (r : Record) (es : List Entry) (left : List ℕ)
    → OnlySessions r (entries_rolled r es left).after
all_rolled r [] left = refl
all_rolled r (e ∷ es) left =
    let first = entry_rolled r e left in
    then_only r first.after (entries_rolled first.after es first.left).after (one_rolled r e left)
    (all_rolled first.after es first.left)

kind_restarted : (kind : SessionType) (r : Record) (e : Entry) (hash : HashAlg)
    → OnlySessions r (restarted_by kind r e hash)
kind_restarted type.Hmac r e hash = refl
kind_restarted type.Policy r e hash = refl
kind_restarted type.Trial r e hash = refl

restarted : (r : Record) (e : Entry) (o : Option Session)
    → OnlySessions r (option_map_or (λ (s : Session). restarted_by s.kind r e s.hash) o r)
restarted r e None = refl
restarted r e (Some s) = kind_restarted s.kind r e s.hash

either : (b : Bool) (r x y : Record) → OnlySessions r x → OnlySessions r y
    → OnlySessions r (cond b x y)
either true r x y h k = h
either false r x y h k = k

one_ended : (r : Record) (e : Entry) (grant : Option Grant) → OnlySessions r (entry_ended r e grant)
unfolding entry_ended entry_restarted
one_ended r e grant = either _ r _ _ refl (either _ r _ _ (restarted r e (session_of r e)) refl)

all_ended : (r : Record) (granted : List Granted) → OnlySessions r (entries_ended r granted)
all_ended r [] = refl
all_ended r (g ∷ granted) =
    let first = entry_ended r g.0 g.1 in
    then_only r first (entries_ended first granted) (one_ended r g.0 g.1) (all_ended first granted)

pub answered_only : (c : Whole) (grants : List (Option Grant)) (a : Written) (effect : Record)
    (random : List ℕ) → OnlySessions effect (answer_to c grants a effect random).after
unfolding answer_to
answered_only c grants a effect random =
    let drawn = entries_rolled effect c.entries (drop a.drawn random) in
    then_only effect drawn.after (entries_ended drawn.after (granted_entries c grants))
    (all_rolled effect c.entries (drop a.drawn random))
    (all_ended drawn.after (granted_entries c grants))

settled : (keeps : Bool) (r s : Record) → let x : Record =
    record r { sessions = s.sessions } in LeavesEffect r (cond keeps x (with_saved x Nothing))
settled true r s = refl
settled false r s = refl

pub success_leaves : (a : Accepted) (random : List ℕ)
    → LeavesEffect a.success.after (success_step a random).after
success_leaves a random =
    let written = written_of a.success.answer in
    let answered = (answer_to a.command a.grants written a.success.after random).after in
    let keeps = (shape_of a.command.code).keeps_shutdown in
    subst (λ (x : Record). LeavesEffect a.success.after (cond keeps x (with_saved x Nothing)))
    (sym (answered_only a.command a.grants written a.success.after random))
    (settled keeps a.success.after answered)
