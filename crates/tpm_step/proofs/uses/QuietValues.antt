-- Quiet events (`IsQuiet`) change no PCR. Therefore assertions about PCRs still hold after them.
use Rattle.std.proofs.Common.{◌≡◌, ◌⊎◌, ℕ, ◌<◌, arith, Bool, true, false, cond, List, [], ◌∷◌, ◌++◌, Result, Ok, Err, refl, ap, sym, ◌∙◌, inl, inr}
use Rattle.std.specs.Prelude.{◌==◌, nat_lt}
use Rattle.std.specs.List.{AllByRecursion}
use Rattle.std.proofs.lemmas.Bool.{ltb-false, ne_eqb}
use Rattle.tpm_mac.specs.declared.algorithm.HashAlg.{HashAlg}
use Rattle.tpm_policy.specs.Assertion.{Assertion, Pcr}
use Rattle.tpm_types_common.specs.DigestValues.{digest_values_at}
use Rattle.tpm_types_common.specs.declared.digest_values.DigestValue.{DigestValue}
use Rattle.tpm_types_common.specs.declared.handle.Handle.{Handle}
use Rattle.tpm_types_common.specs.declared.refused.Refused.{Refused}
use Rattle.tpm_commands.specs.declared.command_code.CommandCode.{CommandCode}
use Rattle.tpm_commands.specs.declared.command_code.CommandCode.TheVariants as command
use Rattle.tpm_record.specs.rows.Request.{Request}
use Rattle.tpm_record.specs.rows.Rows.{only}
use Rattle.tpm_step.specs.step.General.{is_startup}
use Rattle.tpm_step.specs.history.History.{AcceptedCommand, Done, History, ObjectPlaced, PastEvent, PowerCycled}
use Rattle.tpm_step.specs.history.Pcrs.{count_in, extended_by_all, if_pcr, names_pcr, pcr_by, pcr_of, pcrs_after, writes}
use Rattle.tpm_step.specs.uses.QuietPcrs.{AreQuietSince, HoldsOf, IsQuiet}
use Rattle.tpm_step.proofs.history.Digests.{AgreeBelow, digests_agree}

-- ---- commands that write no PCR

unwritten : (handles : List Handle) (count pcr : ℕ) → pcr < 24 → if_pcr handles count ≡ 0
    → (names_pcr handles pcr ≡ false) ⊎ (count ≡ 0)
unwritten [] count pcr below is = inl refl
unwritten (handle ∷ handles) count pcr below is = by (nat_lt handle.number 24) refl is
  where
    by : (there : Bool) → nat_lt handle.number 24 ≡ there → cond there count 0 ≡ 0
        → ((handle.number == pcr) ≡ false) ⊎ (count ≡ 0)
    by true at is = inr is
    by false at is =
        inl
        (ne_eqb handle.number pcr
        (λ same. omega (arith, below, same, ltb-false handle.number 24 at)))

unnamed : (handles : List Handle) (pcr : ℕ) (new old : List ℕ) → names_pcr handles pcr ≡ false
    → cond (names_pcr handles pcr) new old ≡ old
unnamed handles pcr new old is = rw is refl

same_old : (b : Bool) (new old : List ℕ) → new ≡ old → cond b new old ≡ old
same_old true new old is = is
same_old false new old is = refl

extended_none : (bank : HashAlg) (digests : Result (List DigestValue) Refused) (old : List ℕ)
    → count_in digests ≡ 0 → extended_by_all bank digests old ≡ old
extended_none bank (Ok []) old is = refl
extended_none bank (Ok (digest ∷ digests)) old is = absurd (omega (arith, is))
extended_none bank (Err e) old is = refl

never_two : (handles : List Handle) (pcr : ℕ) (new old : List ℕ) → pcr < 24 → if_pcr handles 2 ≡ 0
    → cond (names_pcr handles pcr) new old ≡ old
never_two handles pcr new old below is =
    elim (unwritten handles 2 pcr below is) [
      | inl not ↦ unnamed handles pcr new old not
      | inr two ↦ absurd (omega (arith, two))
    ]

unchanged : (code : CommandCode) (q : Request) (bank : HashAlg) (pcr : ℕ) (saved old : List ℕ)
    → pcr < 24 → is_startup code ≡ false → writes code q ≡ 0
    → pcr_by code q bank pcr saved old ≡ old
unchanged command.PcrReset q bank pcr saved old below plain none =
    never_two q.handles pcr _ old below none
unchanged command.PcrEvent q bank pcr saved old below plain none =
    never_two q.handles pcr _ old below none
unchanged command.PcrExtend q bank pcr saved old below plain none =
    let digests : Result (List DigestValue) Refused = only (digest_values_at q.parameters) in
    elim (unwritten q.handles (count_in digests) pcr below none) [
      | inl not ↦ unnamed q.handles pcr (extended_by_all bank digests old) old not
      | inr empty ↦ same_old (names_pcr q.handles pcr) (extended_by_all bank digests old) old
          (extended_none bank digests old empty)
    ]
unchanged command.Startup q bank pcr saved old below plain none = absurd cc
unchanged _ q bank pcr saved old below plain none = refl

pub quiet_event : (event : PastEvent) (history : History) → IsQuiet event
    → AgreeBelow (pcr_of history) (pcr_of (event ∷ history))
quiet_event (Done c) history quiet bank pcr below =
    sym (unchanged c.command.code c.request bank pcr ((pcrs_after history).saved bank pcr)
    (pcr_of history bank pcr) below quiet.0 quiet.1)
quiet_event PowerCycled history quiet bank pcr below = absurd quiet
quiet_event (ObjectPlaced at object) history quiet bank pcr below = refl

-- ---- quiet events after a TPM2_PolicyPCR

quiet_events : (since before : History) → AllByRecursion IsQuiet since
    → AgreeBelow (pcr_of before) (pcr_of (since ++ before))
quiet_events [] before quiet bank pcr below = refl
quiet_events (event ∷ since) before quiet bank pcr below =
    quiet_events since before quiet.1 bank pcr below
    ∙ quiet_event event (since ++ before) quiet.0 bank pcr below

pcr_quiet : (c : AcceptedCommand) → c.command.code ≡ command.PolicyPcr → IsQuiet (Done c)
pcr_quiet c is = (ap is_startup is, ap (λ (code : CommandCode). writes code c.request) is)

pub quiet_since : (handle : Handle) (history : History) (q : AreQuietSince handle history)
    → AgreeBelow (pcr_of q.before) (pcr_of history)
quiet_since handle history q bank pcr below =
    quiet_event (Done q.first) q.before (pcr_quiet q.first q.code) bank pcr below
    ∙ quiet_events q.since (Done q.first ∷ q.before) q.quiet bank pcr below
    ∙ ap (λ (h : History). pcr_of h bank pcr) (sym q.is)

-- ---- the assertions about PCRs

holds_on : (event : PastEvent) (history : History) (hash : HashAlg) (assertion : Assertion)
    → IsQuiet event → HoldsOf history hash assertion → HoldsOf (event ∷ history) hash assertion
holds_on event history hash (Pcr parts) quiet (selection, is, digest) = (
  selection,
  is,
  digest ∙ digests_agree history (event ∷ history) hash selection
      (quiet_event event history quiet),
)
holds_on event history hash _ quiet holds = tt

pub all_hold_on : (event : PastEvent) (history : History) (hash : HashAlg)
    (assertions : List Assertion) → IsQuiet event → AllByRecursion (HoldsOf history hash) assertions
    → AllByRecursion (HoldsOf (event ∷ history) hash) assertions
all_hold_on event history hash [] quiet hold = tt
all_hold_on event history hash (assertion ∷ assertions) quiet hold = (
  holds_on event history hash assertion quiet hold.0,
  all_hold_on event history hash assertions quiet hold.1,
)
