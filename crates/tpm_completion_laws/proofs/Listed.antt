-- The layer's lists are complete and in order, and the layer serves only its own commands.
use Rattle.std.proofs.Common.{◌≡◌, ℕ, ◌+◌, ◌≤◌, ◌==◌, ◌||◌, Bool, true, false, List, [], ◌∷◌, length, Option, Some, None, refl, sym, ap, ◌∙◌, arith}
use Rattle.std.proofs.lemmas.Bool.{false≢true}
use Rattle.std.proofs.lemmas.List.{length-append}
use Rattle.std.specs.List.{flat_map}
use Rattle.std.specs.Option.{option_map_or}
use Rattle.std.specs.Prelude.{not, if◌then◌else◌}
use Rattle.tpm_actions_capability.specs.Element.{if_there}
use Rattle.tpm_actions_capability.specs.Elements.{object_element, session_element}
use Rattle.tpm_actions_capability.specs.declared.element.Element.{Element}
use Rattle.tpm_bytes.specs.Numbers.{numbers_below}
use Rattle.tpm_commands.specs.CommandCode.{shape_of}
use Rattle.tpm_containers.specs.Slots.{at_place}
use Rattle.tpm_record.specs.Record.{Record}
use Rattle.tpm_session.specs.Sessions.{handle_of}
use Rattle.tpm_session.specs.declared.session.Session.{Session}
use Rattle.tpm_types_common.specs.Limits.{object_limit, session_limit}
use Rattle.tpm_completion.specs.Capability.{commands_by}
use Rattle.tpm_completion.specs.Completion.{session_context}
use Rattle.tpm_completion.specs.Handles.{session_shown}
use Rattle.tpm_completion.specs.Properties.{active_count, count_elements, identity_elements, limit_elements, object_count, property_elements}
use Rattle.tpm_completion.specs.Reply.{stands}
use Rattle.tpm_completion.specs.Sending.{sent_by}
use Rattle.tpm_completion.specs.SequenceReply.{needs_entry, password_reply, unsent_reply}
use Rattle.tpm_completion.specs.declared.completion.Completion.{Completion}
use Rattle.tpm_completion_laws.specs.Listed.{CommandsAscend, CountsAddUp, CountsAll, ListsItsOwn, PcrPropertiesHold, PropertiesAscend, ServesItsOwn}

-- ---- commands

or_false : (a b : Bool) → (a || b) ≡ false → (a ≡ false) × (b ≡ false)
or_false true b e = absurd (false≢true (sym e))
or_false false b e = (refl, e)

if_false : {X : Type 0} (b : Bool) (x y : X) → b ≡ false → (if b then x else y) ≡ y
if_false false x y e = refl
if_false true x y e = absurd (false≢true (sym e))

or_both : (a b : Bool) → a ≡ false → b ≡ false → (a || b) ≡ false
or_both a b e f = rw (e, f) refl

pub serves_its_own : ServesItsOwn
serves_its_own r c command response none =
    let code : ℕ = command.code in
    let one = or_false (code == 0x142) _ none in
    let two = or_false (code == 0x146) _ one.1 in
    let three = or_false (code == 0x161) _ two.1 in
    let four = or_false (code == 0x162) _ three.1 in
    let five = or_false (code == 0x17c) _ four.1 in
    let six = or_false (code == 0x17d) _ five.1 in
    let seven = or_false (code == 0x18a) _ six.1 in
    let complete = or_false (code == 0x13e) _ seven.1 in
    let start = or_false (code == 0x15b) _ complete.1 in
    let update = or_false (code == 0x15c) _ start.1 in
    let event = or_false (code == 0x185) (code == 0x186) update.1 in
    let sent : sent_by r c code command.parameters ≡ None =
    if_false (code == 0x15b) _ _ start.0
    ∙ if_false (code == 0x185) _ _ event.0
    ∙ if_false (code == 0x15c) _ _ update.0
    ∙ if_false (code == 0x13e) _ None complete.0 in
    let needs : needs_entry code ≡ false =
    or_both (code == 0x15b) _ start.0
    (or_both (code == 0x15c) _ update.0
    (or_both (code == 0x13e) (code == 0x185) complete.0 event.0)) in
    record {
      served =
          if_false (code == 0x146) _ _ two.0
          ∙ if_false (code == 0x161) _ _ three.0
          ∙ if_false (code == 0x162) _ _ four.0
          ∙ if_false (code == 0x142) _ _ one.0
          ∙ if_false (code == 0x17c) _ _ five.0
          ∙ if_false (code == 0x17d) _ _ six.0
          ∙ if_false (code == 0x18a) _ (stands c response) seven.0;
      bare = if_false (code == 0x186) _ _ event.1 ∙ if_false (needs_entry code) _ None needs;
      authorized =
          ap (unsent_reply c (password_reply r c command)) sent
          ∙ if_false (code == 0x15c) _ _ update.0
          ∙ if_false (code == 0x13e) _ None complete.0;
      sent = sent;
    }

pub lists_its_own : ListsItsOwn
unfolding commands_by shape_of
lists_its_own = refl

pub counts_all : CountsAll
unfolding commands_by shape_of
counts_all = refl

-- ---- order

pub commands_ascend : CommandsAscend
unfolding commands_by shape_of
commands_ascend = refl

pub properties_ascend : PropertiesAscend
unfolding property_elements identity_elements limit_elements count_elements
properties_ascend r c = refl

-- ---- PCRs

pub pcr_properties_hold : PcrPropertiesHold
pcr_properties_hold = refl

-- ---- counts

both_parts : (f g h : ℕ → List Element) → ((n : ℕ) → length (f n) + length (g n) ≡ length (h n))
    → (ns : List ℕ)
    → length (flat_map f ns) + length (flat_map g ns) ≡ length (flat_map h ns)
both_parts f g h same [] = refl
both_parts f g h same (n ∷ ns) =
    let one = length-append (f n) (flat_map f ns) in
    let two = length-append (g n) (flat_map g ns) in
    let three = length-append (h n) (flat_map h ns) in
    let here = same n in
    let rest = both_parts f g h same ns in
    omega (arith, one, two, three, here, rest)

one_each : (f : ℕ → List Element) → ((n : ℕ) → length (f n) ≤ 1) → (ns : List ℕ)
    → length (flat_map f ns) ≤ length ns
one_each f few [] = omega arith
one_each f few (n ∷ ns) =
    let one = length-append (f n) (flat_map f ns) in
    let here = few n in
    let rest = one_each f few ns in
    omega (arith, one, here, rest)

of_either : (b : Bool) (xs : List Element)
    → length (if b then xs else []) + length (if not b then xs else []) ≡ length xs
of_either true xs = omega arith
of_either false xs = omega arith

there : (b : Bool) (e : Element) → length (if_there b e) ≤ 1
there true e = omega arith
there false e = omega arith

module _ (r : Record) (c : Completion) where
  session_one : (place : ℕ) → length (session_element r place) ≤ 1
  session_one place = by (at_place r.sessions place)
    where
      listed : Option Session → List Element
      listed found =
          option_map_or
          (λ (s : Session). record { number = place; told = (handle_of s.kind place).number } ∷ [])
          found []

      by : (found : Option Session) → length (listed found) ≤ 1
      by None = omega arith
      by (Some s) = omega arith

  session_either : (place : ℕ) → length (session_shown r c false place)
      + length (session_shown r c true place) ≡ length (session_element r place)
  unfolding session_shown
  session_either place = of_either (session_context c place == 0) (session_element r place)

  object_one : (place : ℕ) → length (object_element r place) ≤ 1
  object_one place = there _ _

  all_sessions : active_count r c
      ≡ length (flat_map (session_element r) (numbers_below session_limit))
  all_sessions = both_parts (session_shown r c false) (session_shown r c true) (session_element r)
      session_either (numbers_below session_limit)

  few_sessions : length (flat_map (session_element r) (numbers_below session_limit)) ≤ 16
  few_sessions = one_each (session_element r) session_one (numbers_below session_limit)

  few_objects : object_count r ≤ 8
  few_objects = one_each (object_element r) object_one (numbers_below object_limit)

pub counts_add_up : CountsAddUp
counts_add_up r c =
    let all = all_sessions r c in
    let few = few_sessions r c in
    let objects = few_objects r c in
    record {
      all = all;
      loaded = omega (arith, all, few);
      active = omega (arith, all, few);
      objects = omega (arith, objects);
    }
