-- How the layer checks the HMAC of a session, and which HMAC it sends to the device. The device
-- accepts the layer's command only if the client's HMAC is right. TPM 2.0 Library, Part 1, sections
-- 18.7 (cpHash) and 19.6.5 (HMAC computation).
use Rattle.std.specs.Prelude.{◌≡◌, ℕ, true, List, [], ◌∷◌, Option, Some, Ok, map}
use Rattle.std.specs.List.{flat_map}
use Rattle.tpm_auth.specs.Entries.{session_of}
use Rattle.tpm_auth.specs.SessionGrant.{is_authentic, used_auth_value}
use Rattle.tpm_auth.specs.declared.session_grant.Grant.{Grant}
use Rattle.tpm_bytes.specs.Reading.{AreBytes}
use Rattle.tpm_commands.specs.CommandCode.{code_number}
use Rattle.tpm_record.specs.Entity.{name_of}
use Rattle.tpm_record.specs.Record.{Record}
use Rattle.tpm_session.specs.declared.session.Session.{Session}
use Rattle.tpm_step.specs.step.Step.{step}
use Rattle.tpm_types_command.specs.AuthEntry.{Entry}
use Rattle.tpm_types_command.specs.Command.{Whole}
use Rattle.tpm_completion.specs.Execution.{sent_event}
use Rattle.tpm_completion.specs.Sending.{EventComplete, HmacStart, event_asked, event_complete_in, event_sent, hmac_start_in, random_sent, sequence_asked, start_asked}
use Rattle.tpm_completion.specs.SequenceRows.{Named, named_in}
use Rattle.tpm_completion.specs.SessionEntry.{Covered, is_right, sent_hmac}
use Rattle.tpm_completion.specs.declared.completion.Completion.{Completion}
use Rattle.tpm_completion.specs.declared.sending.Work.{Work}
use Rattle.tpm_completion_laws.specs.Sequences.{hmac_sent}

-- The HMAC in the entry that the layer sends is right for the layer's command (`sent`) if and only
-- if the HMAC in the client's entry is right for the client's command (`asked`). This requires that
-- the layer's command has an empty authorization value if the client's command has one.
abbrev pub CarriesTheProof : Type 0
CarriesTheProof =
    (s : Session) (asked sent : Covered) (e : Entry) → (asked.value ≡ [] → sent.value ≡ [])
    → is_right s sent (record e { hmac = sent_hmac s asked sent e }) ≡ is_right s asked e

-- what the HMAC of a command's only entry covers, given what the entry authorizes
abbrev pub covered_by : Record → Whole → Session → Option Grant → Covered
covered_by r command s grant = record {
  code = code_number command.code;
  names = flat_map (λ name. name) (map (name_of r) command.handles);
  parameters = command.parameters;
  value = used_auth_value r s grant;
}

-- The layer's check of an HMAC has the same result as the device's check of the HMAC in a command's
-- only entry.
abbrev pub ComparesLikeTheDevice : Type 0
ComparesLikeTheDevice =
    (r : Record) (command : Whole) (grant : Option Grant) (e : Entry) (s : Session)
    → command.entries ≡ e ∷ []
    → is_authentic r command 1 grant e s ≡ is_right s (covered_by r command s grant) e

-- ---- commands that the device accepts

-- If the device accepts the TPM2_HMAC that the layer sends for a TPM2_HMAC_Start whose entry names
-- an existing session, the HMAC in the client's entry is right.
abbrev pub AcceptsOnlyProofs : Type 0
AcceptsOnlyProofs =
    (r : Record) (c : Completion) (text : List ℕ) (start : HmacStart) (s : Session)
    (locality : ℕ) (random : List ℕ)
    → AreBytes text → hmac_start_in c text ≡ Ok start → session_of r start.entry ≡ Some s
    → (hmac_sent r start locality random).row.check ≡ 0
    → is_right s (start_asked r start) start.entry ≡ true

-- If the device accepts the TPM2_GetRandom that the layer sends for a TPM2_SequenceUpdate or a
-- TPM2_SequenceComplete whose entry names an existing session, the HMAC in the client's entry is
-- right. The HMAC covers the code of the client's command: 15C for TPM2_SequenceUpdate, 13E for
-- TPM2_SequenceComplete. The law holds for every code, and for whatever the layer does next.
abbrev pub SequencesAcceptOnlyProofs : Type 0
SequencesAcceptOnlyProofs =
    (r : Record) (c : Completion) (text : List ℕ) (code : ℕ) (named : Named) (work : Work)
    (s : Session) (locality : ℕ) (random : List ℕ)
    → AreBytes text → named_in c text ≡ Ok named → session_of r named.entry ≡ Some s
    → (step r (sent_event (random_sent r code named work) locality random)).row.check ≡ 0
    → is_right s (sequence_asked code named) named.entry ≡ true

-- If the device accepts the TPM2_PCR_Extend that the layer sends for a TPM2_EventSequenceComplete
-- whose first entry names an existing session, the HMAC in this entry is right.
abbrev pub EventsAcceptOnlyProofs : Type 0
EventsAcceptOnlyProofs =
    (r : Record) (c : Completion) (text : List ℕ) (event : EventComplete) (s : Session)
    (locality : ℕ) (random : List ℕ)
    → AreBytes text → event_complete_in c text ≡ Ok event → session_of r event.entry ≡ Some s
    → (step r (sent_event (event_sent r event) locality random)).row.check ≡ 0
    → is_right s (event_asked r event) event.entry ≡ true
