-- A device has the PCRs that its history determines.
use Rattle.std.proofs.Common.{arith, ◌≡◌, ℕ, ◌<◌, Bool, true, false, cond, List, [], ◌∷◌, length, IfOk, refl, ap, sym, subst, ◌∙◌}
use Rattle.std.specs.Prelude.{slice_index_or}
use Rattle.std.proofs.lemmas.List.{get_or-take, length-take}
use Rattle.tpm_mac.specs.declared.algorithm.HashAlg.{HashAlg}
use Rattle.tpm_mac.specs.declared.algorithm.HashAlg.TheVariants as alg
use Rattle.tpm_pcr.specs.Banks.{HaveAll, HaveValues, PcrValues, pcr_value}
use Rattle.tpm_pcr.specs.Saved.{saved_of}
use Rattle.tpm_pcr.specs.Values.{BankValues}
use Rattle.tpm_types_common.specs.StartupType.{startup_type_at}
use Rattle.tpm_types_common.specs.declared.startup_type.StartupType.{StartupType}
use Rattle.tpm_types_common.specs.declared.startup_type.StartupType.TheVariants as type
use Rattle.tpm_commands.specs.CommandCode.{part_of, shape_of}
use Rattle.tpm_commands.specs.declared.command_code.CommandCode.{CommandCode}
use Rattle.tpm_commands.specs.declared.command_code.CommandCode.TheVariants as command
use Rattle.tpm_record.specs.Cycle.{after_cycle}
use Rattle.tpm_record.specs.Record.{Record, manufactured, with_saved}
use Rattle.tpm_record.specs.Saved.{Nothing, SavedState, saved_by as saved_with}
use Rattle.tpm_record.specs.rows.Request.{Request}
use Rattle.tpm_record.specs.rows.Rows.{only}
use Rattle.tpm_actions_device.specs.Shutdown.{shutdown_row}
use Rattle.tpm_step.specs.step.Answer.{answer_to, written_of}
use Rattle.tpm_step.specs.step.Step.{Accepted, success_step}
use Rattle.tpm_step.specs.step.Table.{row_of}
use Rattle.tpm_step.specs.rows.Acceptance.{IsAcceptance}
use Rattle.tpm_step.specs.rows.Footprint.{Touches}
use Rattle.tpm_commands.specs.Part.{Part, AuthValues, Beginning, Saved}
use Rattle.tpm_step.proofs.rows.Binding.{ok_at, ok_bind, ok_weaker}
use Rattle.tpm_step.proofs.rows.Table.{row_touches}
use Rattle.tpm_step.proofs.rows.Leaving.{answered_only, success_leaves}
use Rattle.tpm_step.specs.history.DevicePcrs.{AreSaved, HasPcrs, IsSavedAs, saved_in}
use Rattle.tpm_step.specs.history.History.{Done, History, ObjectPlaced, PowerCycled, command_of}
use Rattle.tpm_step.specs.history.Pcrs.{Pcrs, before_shutdown, pcr_by, pcr_of, pcrs_after, saved_by, shutdown_or, updates_by}
use Rattle.tpm_pcr.proofs.OneValue.{new_all, new_values}
use Rattle.tpm_step.proofs.history.PcrRows.{SoMeasures, row_measures}

-- ---- the state that a shutdown saves

abbrev leaves_saved : Part → Bool
leaves_saved Saved = false
leaves_saved _ = true

touched_saved : (p : Part) (old new : Record) → leaves_saved p ≡ true → Touches p old new
    → new.fixed.saved ≡ old.fixed.saved
touched_saved Saved old new leaves touches = absurd cc
touched_saved AuthValues old new leaves touches = ap (λ (r : Record). r.fixed.saved) touches.0
touched_saved Beginning old new leaves touches = ap (λ (r : Record). r.fixed.saved) touches.0
touched_saved _ old new leaves touches = ap (λ (r : Record). r.fixed.saved) touches

banks_saved : (banks : BankValues) (values : PcrValues) → HaveAll banks → HaveValues banks values
    → AreSaved (saved_of banks) values
banks_saved banks values all has = record { sixteen = sixteen; each = each }
  where
    sixteen : (bank : HashAlg) → length (saved_in (saved_of banks) bank) ≡ 16
    sixteen alg.Sha1 = let many = all alg.Sha1 in omega (arith, length-take 16 banks.sha1, many)
    sixteen alg.Sha256 = let many =
        all alg.Sha256 in omega (arith, length-take 16 banks.sha256, many)

    each : (bank : HashAlg) (n : ℕ) → n < 16 → slice_index_or (saved_in (saved_of banks) bank) n []
        ≡ values bank n
    each alg.Sha1 n below = get_or-take 16 banks.sha1 n [] below
        ∙ has alg.Sha1 n (omega (arith, below))
    each alg.Sha256 n below = get_or-take 16 banks.sha256 n [] below
        ∙ has alg.Sha256 n (omega (arith, below))

state_saved : (t : StartupType) (banks : BankValues) (values : PcrValues) → HaveAll banks
    → HaveValues banks values → IsSavedAs (saved_with t banks) values
state_saved type.Clear banks values all has = tt
state_saved type.State banks values all has = banks_saved banks values all has

shutdown_saves : (r : Record) (q : Request) (history : History) → HasPcrs r history
    → IfOk (row_of r command.Shutdown q) (λ s. IsSavedAs s.after.fixed.saved (pcr_of history))
unfolding row_of shutdown_row
shutdown_saves r q history has =
    ok_bind _ (only (startup_type_at q.parameters)) _
    (λ t. state_saved t r.fixed.banks (pcr_of history) has.all has.values)

other_saves : (r : Record) (code : CommandCode) (q : Request) (history : History)
    → leaves_saved (part_of code) ≡ true → HasPcrs r history
    → IfOk (row_of r code q) (λ s. IsSavedAs s.after.fixed.saved (pcrs_after history).saved)
other_saves r code q history leaves has =
    ok_weaker (λ s. Touches (part_of code) r s.after) _ (row_of r code q) (row_touches r code q)
    (λ s touches.
    subst (λ (x : SavedState). IsSavedAs x (pcrs_after history).saved)
    (sym (touched_saved (part_of code) r s.after leaves touches)) has.saved_values)

row_saves : (r : Record) (code : CommandCode) (q : Request) (history : History) → HasPcrs r history
    → IfOk (row_of r code q)
    (λ s. IsSavedAs s.after.fixed.saved (saved_by code (pcrs_after history)))
row_saves r command.Shutdown q history has = shutdown_saves r q history has
row_saves r _ q history has = other_saves r _ q history refl has

settled_saved : (keeps : Bool) (r : Record) (values : PcrValues) → IsSavedAs r.fixed.saved values
    → IsSavedAs (cond keeps r (with_saved r Nothing)).fixed.saved values
settled_saved true r values is = is
settled_saved false r values is = tt

-- ---- accepted commands

module _ (r : Record) (a : Accepted) (locality : ℕ) (random : List ℕ) (history : History)
    (is : IsAcceptance r locality random a) (has : HasPcrs r history) where
  abbrev after : Record
  after = (success_step a random).after

  abbrev pcrs : Pcrs
  pcrs = pcrs_after history

  same_banks : after.fixed.banks ≡ a.success.after.fixed.banks
  same_banks = ap (λ (x : Record). x.fixed.banks) (success_leaves a random)

  measured : SoMeasures a.command.code a.request pcrs.saved r a.success
  measured =
      ok_at (SoMeasures a.command.code a.request pcrs.saved r) (row_of r a.command.code a.request)
      a.success
      (row_measures r a.command.code a.request pcrs.saved has.all has.saved_values) is.row

  saved_done : IsSavedAs after.fixed.saved (saved_by a.command.code pcrs)
  saved_done =
      let answered : Record =
      (answer_to a.command a.grants (written_of a.success.answer) a.success.after
      random).after in
      let same : answered.fixed.saved ≡ a.success.after.fixed.saved =
      ap (λ (x : Record). x.fixed.saved)
      (answered_only a.command a.grants (written_of a.success.answer) a.success.after random) in
      let row : IsSavedAs a.success.after.fixed.saved (saved_by a.command.code pcrs) =
      ok_at (λ s. IsSavedAs s.after.fixed.saved (saved_by a.command.code pcrs))
      (row_of r a.command.code a.request) a.success
      (row_saves r a.command.code a.request history has) is.row in
      settled_saved (shape_of a.command.code).keeps_shutdown answered (saved_by a.command.code pcrs)
      (subst (λ (x : SavedState). IsSavedAs x (saved_by a.command.code pcrs)) (sym same) row)

  -- the history determines the PCRs after the command, if the new record's banks have all 24 values
  pub pcrs_done : HaveAll after.fixed.banks → HasPcrs after (Done (command_of r a) ∷ history)
  pcrs_done all = record {
    all = all;
    values = λ bank n below.
        ap (λ (b : BankValues). pcr_value b bank n) same_banks ∙ measured.values bank n below
        ∙ ap (pcr_by a.command.code a.request bank n (pcrs.saved bank n)) (has.values bank n below);
    updates = ap (λ (b : BankValues). b.update_count) same_banks ∙ measured.updates
        ∙ ap (updates_by a.command.code a.request) has.updates;
    saved_values = saved_done;
  }

-- ---- other events

pub manufactured_pcrs : (random : List ℕ) → HasPcrs (manufactured random) []
manufactured_pcrs random =
    record { all = new_all; values = new_values; updates = refl; saved_values = tt }

pub cycled_pcrs : (r : Record) (history : History) → HasPcrs r history
    → HasPcrs (after_cycle r) (PowerCycled ∷ history)
cycled_pcrs r history has =
    record { all = new_all; values = new_values; updates = refl; saved_values = has.saved_values }

-- ---- the values that a startup restores

shutdown_is : (code : CommandCode) (history : History) (bank : HashAlg) (pcr : ℕ)
    → (pcrs_after history).saved bank pcr ≡ pcr_of (before_shutdown history) bank pcr
    → saved_by code (pcrs_after history) bank pcr
    ≡ pcr_of (shutdown_or code history (before_shutdown history)) bank pcr
shutdown_is command.Shutdown history bank pcr is = refl
shutdown_is _ history bank pcr is = is

pub saved_are : (history : History) (bank : HashAlg) (pcr : ℕ)
    → (pcrs_after history).saved bank pcr ≡ pcr_of (before_shutdown history) bank pcr
saved_are [] bank pcr = refl
saved_are (Done c ∷ history) bank pcr =
    shutdown_is c.command.code history bank pcr (saved_are history bank pcr)
saved_are (PowerCycled ∷ history) bank pcr = saved_are history bank pcr
saved_are (ObjectPlaced at object ∷ history) bank pcr = saved_are history bank pcr
