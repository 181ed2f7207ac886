-- If a command's row has the same result with other random bytes, the command also takes the same
-- step and draws the same number of bytes.
use Rattle.std.proofs.Common.{◌≡◌, ◌≤◌, ◌+◌, ◌-◌, ◌∙◌, ℕ, zero, suc, Bool, true, false, List, [], ◌∷◌, length, take, drop, Option, Result, Ok, Err, refl, ap, arith}
use Rattle.std.proofs.lemmas.List.{length-drop}
use Rattle.std.specs.Prelude.{if◌then◌else◌}
use Rattle.tpm_types_command.specs.AuthEntry.{Entry}
use Rattle.tpm_types_command.specs.Command.{Whole}
use Rattle.tpm_commands.specs.CommandCode.{shape_of}
use Rattle.tpm_session.specs.Sessions.{sessions_after_roll}
use Rattle.tpm_record.specs.Record.{Record}
use Rattle.tpm_auth.specs.Grant.{authorize}
use Rattle.tpm_auth.specs.declared.session_grant.Grant.{Grant}
use Rattle.tpm_machine.specs.Drawn.{bytes_drawn, drawn_by_command}
use Rattle.tpm_step.specs.step.Answer.{Written, answer_to, written_of}
use Rattle.tpm_step.specs.step.Entries.{draw_of, entries_rolled, entry_rolled}
use Rattle.tpm_step.specs.step.General.{general}
use Rattle.tpm_step.specs.step.Step.{Accepted, acceptance, acceptance_in, answer_where, refusal_without_memory, request_in, success_step}
use Rattle.tpm_step.specs.step.Table.{row_of}
use Rattle.tpm_step.specs.declared.refused_command.RefusedCommand.{RefusedCommand}
use Rattle.tpm_journal.proofs.draw_laws.Alike.{Alike, alike_after, alike_before, alike_in_command}
use Rattle.tpm_journal.proofs.draw_laws.Fronts.{Behind, behind}
use Rattle.tpm_journal.proofs.draw_laws.Rows.{row_alike}

-- ---- accepted commands

abbrev row_drawn : Accepted → ℕ
row_drawn a = a.success.answer.drawn

-- an accepted command with other random bytes: only its request differs
abbrev pub with_other : List ℕ → Accepted → Accepted
with_other other a = record a { request = record a.request { random = other } }

abbrev pub AcceptedAlike : {E : Type 0} → (random other : List ℕ) → (a b : Result Accepted E)
    → Type 0
AcceptedAlike random other a b = Alike row_drawn (with_other other) random other a b

acceptance_alike : (r : Record) (c : Whole) (locality : ℕ) (random other : List ℕ)
    → AcceptedAlike random other (acceptance r c locality random) (acceptance r c locality other)
unfolding acceptance
acceptance_alike r c locality random other =
    alike_after random other row_drawn (with_other other) (authorize r c locality) _ _ (λ grants.
    let q = request_in r c grants locality random in
    alike_before random other (λ s. s.answer.drawn) (λ s. s) row_drawn (with_other other)
    (row_of r c.code q) _
    (λ success. record { command = c; grants = grants; request = q; success = success })
    (λ success. record {
      command = c;
      grants = grants;
      request =
          record q { random = other };
      success = success;
    })
    (λ success. refl) (λ success. refl) (row_alike r c.code q other))

pub accepted_alike : (r : Record) (buffer : List ℕ) (locality : ℕ) (random other : List ℕ)
    → AcceptedAlike random other (acceptance_in r buffer locality random)
    (acceptance_in r buffer locality other)
unfolding acceptance_in
accepted_alike r buffer locality random other =
    alike_after random other row_drawn (with_other other) (general r buffer) _ _ (λ c.
    alike_in_command row_drawn (with_other other) random other c.code
    (acceptance r c locality random) _ (acceptance_alike r c locality random other))

-- ---- the nonces of a command's entries

-- new nonces never increase the number of random bytes left
fewer_left : (r : Record) (es : List Entry) (left : List ℕ)
    → length (entries_rolled r es left).left ≤ length left
unfolding entry_rolled
fewer_left r [] left = omega arith
fewer_left r (e ∷ es) left =
    let later = fewer_left (entry_rolled r e left).after es (drop (draw_of r e) left) in
    omega (arith, later, length-drop (draw_of r e) left)

-- Replacing random bytes that the new nonces do not draw changes neither the nonces nor the number
-- of bytes left.
pub record RolledAlike (r : Record) (es : List Entry) (left other : List ℕ) : Type 0 where
  pub after : (entries_rolled r es other).after ≡ (entries_rolled r es left).after
  pub as_long : length (entries_rolled r es other).left ≡ length (entries_rolled r es left).left

rolled_alike : (r : Record) (es : List Entry) (n : ℕ) (left other : List ℕ)
    → length other ≡ length left
    → length left ≤ n + length (entries_rolled r es left).left → take n other ≡ take n left
    → RolledAlike r es left other
unfolding entry_rolled
rolled_alike r [] n left other as_long enough same = record { after = refl; as_long = as_long }
rolled_alike r (e ∷ es) n left other as_long enough same =
    let d = draw_of r e in
    let next : List ℕ → Record =
    λ nonce. record r { sessions = sessions_after_roll r.sessions e.session nonce } in
    let fronts : Behind n d (length (entries_rolled (next (take d left)) es (drop d left)).left)
    left other =
    behind n d _ left other as_long enough (fewer_left (next (take d left)) es (drop d left))
    same in
    let later : RolledAlike (next (take d left)) es (drop d left) (drop d other) =
    rolled_alike (next (take d left)) es (n - d) (drop d left) (drop d other) fronts.as_long
    fronts.enough fronts.later in
    record {
      after = ap (λ nonce. (entries_rolled (next nonce) es (drop d other)).after) fronts.first
          ∙ later.after;
      as_long = ap (λ nonce. length (entries_rolled (next nonce) es (drop d other)).left)
          fronts.first ∙ later.as_long;
    }

-- ---- the step

answer_alike : (c : Whole) (grants : List (Option Grant)) (a : Written) (effect : Record)
    (random other : List ℕ)
    → (entries_rolled effect c.entries (drop a.drawn other)).after
    ≡ (entries_rolled effect c.entries (drop a.drawn random)).after
    → answer_to c grants a effect other ≡ answer_to c grants a effect random
unfolding answer_to
answer_alike c grants a effect random other same = rw same refl

-- The lemmas below are about an accepted command, and about other random bytes that agree with the
-- command's random bytes on all bytes that its row and its nonces draw.
module _ (a : Accepted) (random other : List ℕ) (as_long : length other ≡ length random) where
  abbrev drawn : ℕ
  drawn = bytes_drawn random a.success.after a.command.entries (row_drawn a)

  pub fronts : take drawn other ≡ take drawn random
      → Behind drawn (row_drawn a)
      (length (entries_rolled a.success.after a.command.entries
      (drop (row_drawn a) random)).left) random other
  fronts same = behind drawn (row_drawn a) _ random other as_long (omega arith)
      (fewer_left a.success.after a.command.entries (drop (row_drawn a) random)) same

  pub nonces_alike : take drawn other ≡ take drawn random
      → RolledAlike a.success.after a.command.entries (drop (row_drawn a) random)
      (drop (row_drawn a) other)
  nonces_alike same =
      rolled_alike a.success.after a.command.entries (drawn - row_drawn a)
      (drop (row_drawn a) random) (drop (row_drawn a) other)
      (fronts same).as_long (fronts same).enough (fronts same).later

  success_alike : take drawn other ≡ take drawn random
      → success_step (with_other other a) other ≡ success_step a random
  success_alike same =
      rw (answer_alike a.command a.grants (written_of a.success.answer) a.success.after random other
      (nonces_alike same).after) refl

module _ (r : Record) (random other : List ℕ) (as_long : length other ≡ length random) where
  -- replacing undrawn random bytes does not change a step, whether or not an allocation fails
  pub where_alike : (refused : Bool) (a b : Result Accepted RefusedCommand)
      → AcceptedAlike random other a b
      → take (drawn_by_command random a 0) other ≡ take (drawn_by_command random a 0) random
      → answer_where refused r other b ≡ answer_where refused r random a
  where_alike false (Ok a) b alike same =
      ap (answer_where false r other) (alike (fronts a random other as_long same).first)
      ∙ success_alike a random other as_long same
  where_alike true (Ok a) b alike same =
      ap (answer_where true r other) (alike (fronts a random other as_long same).first)
      ∙ ap (λ step. if (shape_of a.command.code).grows then refusal_without_memory r a.command
      else step) (success_alike a random other as_long same)
  where_alike false (Err e) b alike same = ap (answer_where false r other) alike
  where_alike true (Err e) b alike same = ap (answer_where true r other) alike

  -- replacing undrawn random bytes does not change the number of bytes that a command draws
  pub drawn_alike : (check : ℕ) (a b : Result Accepted RefusedCommand)
      → AcceptedAlike random other a b
      → take (drawn_by_command random a 0) other ≡ take (drawn_by_command random a 0) random
      → drawn_by_command other b check ≡ drawn_by_command random a check
  drawn_alike zero (Ok a) b alike same =
      let left = (nonces_alike a random other as_long same).as_long in
      ap (λ x. drawn_by_command other x 0) (alike (fronts a random other as_long same).first)
      ∙ (λ i. as_long i - left i)
  drawn_alike (suc check) (Ok a) b alike same =
      ap (λ x. drawn_by_command other x (suc check))
      (alike (fronts a random other as_long same).first)
  drawn_alike check (Err e) b alike same = ap (λ x. drawn_by_command other x check) alike
