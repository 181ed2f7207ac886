-- Lemmas about the header of an empty response, and about the response to a command with entries.
use Rattle.std.proofs.Common.{arith, length-drop, ◌+◌, ◌-◌, ◌≡◌, ◌≤◌, ℕ, List, [], ◌∷◌, ◌++◌, drop, length, Option, ap, append-nil, refl, sym, ◌∙◌}
use Rattle.std.specs.Int.{w16, w32, to_be_bytes}
use Rattle.tpm_types_common.specs.declared.handle.Handle.{Handle}
use Rattle.tpm_session.specs.ParameterHash.{OfResponse}
use Rattle.tpm_types_command.specs.AuthEntry.{Entry}
use Rattle.tpm_commands.specs.CommandCode.{code_number}
use Rattle.tpm_types_command.specs.Command.{Whole}
use Rattle.tpm_record.specs.Record.{Record}
use Rattle.tpm_auth.specs.declared.session_grant.Grant.{Grant}
use Rattle.tpm_step.specs.step.Answer.{Written, answer_to, framed_message, handle_answer, success_text}
use Rattle.tpm_step.specs.step.Entries.{Drawn, DrawsFew, entries_answer, entries_ended, entries_rolled}
use Rattle.tpm_step.specs.step.Granted.{Granted, granted_entries}
use Rattle.tpm_step.specs.step.Parameters.{encrypted_answer}
use Rattle.tpm_machine.specs.Drawn.{bytes_drawn}

pub framed_alone : (tag code : ℕ) → framed_message tag code []
    ≡ to_be_bytes w16 tag ++ to_be_bytes w32 10 ++ to_be_bytes w32 code
framed_alone tag code = ap (λ (l : List ℕ). to_be_bytes w16 tag ++ to_be_bytes w32 10 ++ l)
    (append-nil (to_be_bytes w32 code))

-- if a command has at least one entry, its response contains parameterSize, followed by the
-- parameters, followed by the answers to the entries
success_some : (entries : List Entry) (handle : Option Handle) (answer area : List ℕ)
    → 1 ≤ length entries → success_text entries handle answer area
    ≡ framed_message 0x8002 0 (handle_answer handle ++ to_be_bytes w32 (length answer) ++ answer
    ++ area)
unfolding success_text
success_some [] handle answer area some = absurd (let none : ⊥ = omega arith in none)
success_some (entry ∷ entries) handle answer area some = refl

-- If the code draws new nonces, encrypts the parameters, answers the entries and then encodes the
-- response, the result is the one that `answer_to` defines.
answered_by : (c : Whole) (grants : List (Option Grant)) (a : Written) (effect : Record)
    (random : List ℕ) (mid after : Record) (left parameters area text : List ℕ)
    → 1 ≤ length c.entries
    → entries_rolled effect c.entries (drop a.drawn random) ≡ record { after = mid; left = left }
    → parameters ≡ encrypted_answer mid (granted_entries c grants) a.parameters
    → area ≡ entries_answer mid (OfResponse (code_number c.code) parameters)
    (granted_entries c grants)
    → text ≡ framed_message 0x8002 0
    (handle_answer a.handle ++ to_be_bytes w32 (length parameters) ++ parameters ++ area)
    → after ≡ entries_ended mid (granted_entries c grants)
    → record { response = text; after = after } ≡ answer_to c grants a effect random
unfolding answer_to
answered_by c grants a effect random mid after left parameters area text some rolled encrypted
    answered spelled ended =
    let texts : text ≡ success_text c.entries a.handle parameters area =
    spelled ∙ sym (success_some c.entries a.handle parameters area some) in
    rw (rolled, ← encrypted, ← answered) (λ i. record { response = texts i; after = ended i })

-- the lemma `answered_by`, stated for the variables of the code
pub answered_with : (c : Whole) (grants : List (Option Grant)) (a : Written) (effect : Record)
    (random : List ℕ) (mid after : Record) (entries : List Entry) (granted : List Granted)
    (draws left parameters sent area text : List ℕ) → 1 ≤ length c.entries
    → entries ≡ c.entries → granted ≡ granted_entries c grants → draws ≡ drop a.drawn random
    → sent ≡ parameters
    → entries_rolled effect entries draws ≡ record { after = mid; left = left }
    → parameters ≡ encrypted_answer mid granted a.parameters
    → area ≡ entries_answer mid (OfResponse (code_number c.code) sent) granted
    → text ≡ framed_message 0x8002 0
    (handle_answer a.handle ++ to_be_bytes w32 (length sent) ++ sent ++ area)
    → after ≡ entries_ended mid granted
    → record { response = text; after = after } ≡ answer_to c grants a effect random
answered_with c grants a effect random mid after entries granted draws left parameters sent area
    text some entered paired drawn whole rolled encrypted answered spelled ended =
    answered_by c grants a effect random mid after left sent area text some
    (rw (← entered, ← drawn) rolled)
    (rw (← paired) (whole ∙ encrypted))
    (rw (← paired) answered)
    spelled
    (rw (← paired) ended)

-- if the code draws the same new nonces as `entries_rolled`, the same number of random bytes is
-- left
left_behind : (r mid : Record) (entries sent : List Entry) (draws left random : List ℕ) (drawn : ℕ)
    → entries ≡ sent → draws ≡ drop drawn random
    → entries_rolled r entries draws ≡ record { after = mid; left = left }
    → length left ≡ length (entries_rolled r sent (drop drawn random)).left
left_behind r mid entries sent draws left random drawn same behind rolled =
    sym (ap (λ (x : Drawn). length x.left) rolled)
    ∙ ap (λ (l : List Entry). length (entries_rolled r l draws).left) same
    ∙ ap (λ (l : List ℕ). length (entries_rolled r sent l).left) behind

-- The row and at most three new nonces together draw at most 192 random bytes.
pub drawn_few : (r mid : Record) (entries sent : List Entry) (draws left random : List ℕ)
    (drawn : ℕ)
    → entries ≡ sent → draws ≡ drop drawn random
    → entries_rolled r entries draws ≡ record { after = mid; left = left }
    → length draws ≤ length left + 96 → drawn ≤ 96 → DrawsFew random r sent drawn
drawn_few r mid entries sent draws left random drawn same behind rolled few row =
    let is = left_behind r mid entries sent draws left random drawn same behind rolled in
    omega (arith, is, ap length behind, length-drop drawn random)

-- the row and the new nonces together draw `bytes_drawn` random bytes
pub drawn_in_all : (r mid : Record) (entries sent : List Entry) (draws left random : List ℕ)
    (drawn : ℕ)
    → entries ≡ sent → draws ≡ drop drawn random
    → entries_rolled r entries draws ≡ record { after = mid; left = left }
    → length random - length left ≡ bytes_drawn random r sent drawn
drawn_in_all r mid entries sent draws left random drawn same behind rolled =
    ap (λ (n : ℕ). length random - n)
    (left_behind r mid entries sent draws left random drawn same behind rolled)
