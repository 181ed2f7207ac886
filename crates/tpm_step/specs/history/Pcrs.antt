-- The values of PCRs, computed from the history alone. TPM 2.0 Library, Part 1, section 17, and
-- Part 3, sections 9.3 (TPM2_Startup), 9.4 (TPM2_Shutdown), 22.2 (TPM2_PCR_Extend), 22.3
-- (TPM2_PCR_Event), 22.8 (TPM2_PCR_Reset) and 24.6 (TPM2_Clear).
use Rattle.std.specs.Prelude.{ℕ, ◌+◌, ◌==◌, ◌++◌, nat_lt, Bool, false, List, [], ◌∷◌, fold, length, map, replicate, Result, Ok, Err, if◌then◌else◌}
use Rattle.std.specs.List.{concat, flat_map}
use Rattle.tpm_mac.specs.Digest.{digest_size, hash_of}
use Rattle.tpm_mac.specs.declared.algorithm.HashAlg.{HashAlg}
use Rattle.tpm_pcr.specs.Banks.{PcrValues, selected_pcrs, starting_value}
use Rattle.tpm_pcr.specs.Changes.{value_extended}
use Rattle.tpm_types_common.specs.Buffer.{buffer_at}
use Rattle.tpm_types_common.specs.DigestValues.{digest_values_at}
use Rattle.tpm_types_common.specs.Limits.{data_limit}
use Rattle.tpm_types_common.specs.StartupType.{startup_type_at}
use Rattle.tpm_types_common.specs.declared.digest_values.DigestValue.{DigestValue}
use Rattle.tpm_types_common.specs.declared.handle.Handle.{Handle}
use Rattle.tpm_types_common.specs.declared.pcr_selection.BankSelection.{BankSelection}
use Rattle.tpm_types_common.specs.declared.refused.Refused.{Refused}
use Rattle.tpm_types_common.specs.declared.startup_type.StartupType.{StartupType}
use Rattle.tpm_types_common.specs.declared.startup_type.StartupType.TheVariants as type
use Rattle.tpm_commands.specs.declared.command_code.CommandCode.{CommandCode}
use Rattle.tpm_commands.specs.declared.command_code.CommandCode.TheVariants as command
use Rattle.tpm_record.specs.rows.Request.{Request}
use Rattle.tpm_record.specs.rows.Rows.{only}
use Rattle.tpm_step.specs.history.History.{Done, History, ObjectPlaced, PowerCycled}

-- the values of all PCRs, now and at the last TPM2_Shutdown
pub record Pcrs : Type 0 where
  pub values : PcrValues
  pub saved : PcrValues

-- whether a command's first handle is this PCR
abbrev pub names_pcr : List Handle → ℕ → Bool
names_pcr [] pcr = false
names_pcr (handle ∷ handles) pcr = handle.number == pcr

-- ---- how a command changes the value of a PCR in a bank

-- a PCR's value after it is extended with each digest of its bank in turn
abbrev pub extended_by_all : HashAlg → Result (List DigestValue) Refused → List ℕ → List ℕ
extended_by_all bank (Ok digests) old = fold (value_extended bank) old digests
extended_by_all bank (Err e) old = old

-- a PCR's value after TPM2_PCR_Event: H(old || H(event))
abbrev pub measured_by : HashAlg → Result (List ℕ) Refused → List ℕ → List ℕ
measured_by bank (Ok event) old = hash_of bank (old ++ hash_of bank event)
measured_by bank (Err e) old = old

-- a PCR's value after TPM2_Startup; with STATE, PCR 0 to 15 get the values that the last shutdown
-- saved
abbrev pub resumed_value : Result StartupType Refused → ℕ → (saved old : List ℕ) → List ℕ
resumed_value (Ok type.Clear) pcr saved old = old
resumed_value (Ok type.State) pcr saved old = if nat_lt pcr 16 then saved else old
resumed_value (Err e) pcr saved old = old

abbrev pub pcr_by : CommandCode → Request → HashAlg → ℕ → (saved old : List ℕ) → List ℕ
pcr_by command.PcrReset request bank pcr saved old =
    if names_pcr request.handles pcr then replicate (digest_size bank) 0 else old
pcr_by command.PcrExtend request bank pcr saved old =
    if names_pcr request.handles pcr
    then extended_by_all bank (only (digest_values_at request.parameters)) old else old
pcr_by command.PcrEvent request bank pcr saved old =
    if names_pcr request.handles pcr
    then measured_by bank (only (buffer_at data_limit request.parameters)) old else old
pcr_by command.Startup request bank pcr saved old =
    resumed_value (only (startup_type_at request.parameters)) pcr saved old
pcr_by _ request bank pcr saved old = old

abbrev pub saved_by : CommandCode → Pcrs → PcrValues
saved_by command.Shutdown p = p.values
saved_by _ p = p.saved

abbrev pub pcrs_by : CommandCode → Request → Pcrs → Pcrs
pcrs_by code q p = record {
  values = λ bank pcr. pcr_by code q bank pcr (p.saved bank pcr) (p.values bank pcr);
  saved = saved_by code p;
}

-- ---- the values after a history

abbrev pub pcrs_after : History → Pcrs
pcrs_after [] = record { values = starting_value; saved = starting_value }
pcrs_after (Done c ∷ history) = pcrs_by c.command.code c.request (pcrs_after history)
pcrs_after (PowerCycled ∷ history) =
    record { values = starting_value; saved = (pcrs_after history).saved }
pcrs_after (ObjectPlaced at object ∷ history) = pcrs_after history

-- the value of each PCR in each bank
abbrev pub pcr_of : History → PcrValues
pcr_of history bank pcr = (pcrs_after history).values bank pcr

-- `here` if the command is TPM2_Shutdown, and otherwise `further`
abbrev pub shutdown_or : CommandCode → (here further : History) → History
shutdown_or command.Shutdown here further = here
shutdown_or _ here further = further

-- the history before the last shutdown, which saved the PCR values of that time
abbrev pub before_shutdown : History → History
before_shutdown [] = []
before_shutdown (Done c ∷ history) =
    shutdown_or c.command.code history (before_shutdown history)
before_shutdown (PowerCycled ∷ history) = before_shutdown history
before_shutdown (ObjectPlaced at object ∷ history) = before_shutdown history

-- the values of the PCRs that a selection names in one bank
abbrev pub values_in : History → BankSelection → List (List ℕ)
values_in history bank = map (pcr_of history bank.hash) (selected_pcrs bank)

-- the digest of the values of all selected PCRs
abbrev pub digest_in : History → HashAlg → List BankSelection → List ℕ
digest_in history hash selection = hash_of hash (concat (flat_map (values_in history) selection))

-- ---- updates of PCRs

-- `count` if a command's first handle is a PCR, and 0 if it is TPM_RH_NULL
abbrev pub if_pcr : List Handle → ℕ → ℕ
if_pcr [] count = 0
if_pcr (handle ∷ handles) count = if nat_lt handle.number 24 then count else 0

abbrev pub count_in : Result (List DigestValue) Refused → ℕ
count_in (Ok digests) = length digests
count_in (Err e) = 0

-- the number of PCR values that a command writes, over all banks; TPM2_Clear counts as one value
abbrev pub writes : CommandCode → Request → ℕ
writes command.PcrReset q = if_pcr q.handles 2
writes command.PcrExtend q = if_pcr q.handles (count_in (only (digest_values_at q.parameters)))
writes command.PcrEvent q = if_pcr q.handles 2
writes command.Clear q = 1
writes _ q = 0

abbrev pub updates_by : CommandCode → Request → ℕ → ℕ
updates_by command.Startup q old = 0
updates_by code q old = old + writes code q

-- the number of PCR values written since the last startup or power cycle; each accepted TPM2_Clear
-- counts as one value
abbrev pub updates_of : History → ℕ
updates_of [] = 0
updates_of (Done c ∷ history) = updates_by c.command.code c.request (updates_of history)
updates_of (PowerCycled ∷ history) = 0
updates_of (ObjectPlaced at object ∷ history) = updates_of history
