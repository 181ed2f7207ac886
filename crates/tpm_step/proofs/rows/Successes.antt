-- A success satisfies the laws about rows. The proofs depend on which part of the state the command
-- changes.
use Rattle.std.proofs.Common.{◌≡◌, ◌≤◌, Ok, Result, ap, arith, false, rules, subst, sym, true, ℕ}
use Rattle.tpm_types_common.specs.declared.refused.Refused.{Refused}
use Rattle.tpm_commands.specs.declared.command_code.CommandCode.{CommandCode}
use Rattle.tpm_containers.specs.Slots.{AreAll}
use Rattle.tpm_record.specs.Record.{Record}
use Rattle.tpm_record.specs.rows.Request.{Request}
use Rattle.tpm_record.specs.rows.Rows.{Success}
use Rattle.tpm_step.specs.rows.Draws.{DrawsAsSaid, read_or_none}
use Rattle.tpm_step.specs.rows.Footprint.{Touches}
use Rattle.tpm_commands.specs.CommandCode.{part_of}
use Rattle.tpm_step.specs.rows.IndexChanges.{ChangesIndices}
use Rattle.tpm_step.specs.rows.RowLaws.{SuccessLaws}
use Rattle.tpm_step.specs.rows.Shapes.{AnswersItsShape, Grows, GrowsAsShaped}
use Rattle.tpm_step.specs.rows.Sizes.{IsSized}
use Rattle.tpm_step.proofs.rows.Binding.{ok_bind}
use Rattle.tpm_step.proofs.rows.Parts.{keeps_places, leaves_sessions, sessions_same}
use Rattle.tpm_step.proofs.rows.Parts.{touched_grows, touched_same}

-- If a success of this command fills no further slot, its use of slots agrees with the command's
-- shape.
abbrev pub GrowsNothing : CommandCode → Type 0
GrowsNothing c = (old new : Record) → Grows false old new → GrowsAsShaped c old new

abbrev pub GrowsByOne : CommandCode → Type 0
GrowsByOne c = (old new : Record) → Grows true old new → GrowsAsShaped c old new

-- A success that leaves the sessions unchanged satisfies the laws about rows if its changes, its
-- answer, and the random bytes that it draws are as defined for its command.
pub beside_sessions : (c : CommandCode) (r : Record) (q : Request) (s : Success)
    → leaves_sessions (part_of c) ≡ true → Touches (part_of c) r s.after → GrowsAsShaped c r s.after
    → ChangesIndices (part_of c) q r.nv s.after.nv → AnswersItsShape c s → DrawsAsSaid c q s
    → SuccessLaws c r q s
beside_sessions c r q s leaves touches grows changes answers draws = record {
  touches = touches;
  changes = changes;
  grows = grows;
  answers = answers;
  draws = draws;
  stays = λ may. sessions_same r s.after same;
  sized = λ enough sized. subst (AreAll IsSized) (sym same) sized;
}
  where
    same : s.after.sessions ≡ r.sessions
    same = touched_same (part_of c) r s.after leaves touches

-- A success that fills no further slot satisfies the laws about rows if its changes, its answer,
-- and the random bytes that it draws are as defined for its command.
pub in_place : (c : CommandCode) (r : Record) (q : Request) (s : Success)
    → leaves_sessions (part_of c) ≡ true → keeps_places (part_of c) ≡ true → GrowsNothing c
    → Touches (part_of c) r s.after → ChangesIndices (part_of c) q r.nv s.after.nv
    → AnswersItsShape c s → DrawsAsSaid c q s → SuccessLaws c r q s
in_place c r q s leaves keeps nothing touches changes answers draws =
    beside_sessions c r q s leaves touches
    (nothing r s.after (touched_grows (part_of c) r s.after keeps touches)) changes answers
    draws

-- a success that draws no random bytes stays within the limit of 96 bytes
pub none_drawn : 0 ≤ 96
none_drawn = omega arith

-- if the parameters could be parsed, `read_or_none` computes the number of bytes from them
pub drawn_as_read : {P : Type 0} (count : P → ℕ) (x : Result P Refused) (p : P)
    → x ≡ Ok p → count p ≡ read_or_none count x
drawn_as_read count x p is = sym (ap (read_or_none count) is)

-- the rules for the rows of commands that fill no further slot
pub ruleset in_place_steps = (rules, ok_bind, in_place, none_drawn)
