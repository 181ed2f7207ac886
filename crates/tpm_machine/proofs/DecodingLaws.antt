-- If a buffer passes the general checks, the whole buffer encodes the decoded command.
use Rattle.tpm_types_common.specs.Limits.{buffer_limit}
use Rattle.tpm_bytes.specs.Reading.{Gives}
use Rattle.std.proofs.Common.{arith, refl, sym, Bool, true, false, ◌≤◌, ◌*◌, ◌≡◌, ℕ, List, [], ◌∷◌, ◌+◌, length, Result, Ok, Err, IfOk, Option, None}
use Rattle.std.proofs.lemmas.Bool.{false≢true}
use Rattle.std.specs.Prelude.{◌||◌}
use Rattle.std.specs.List.{find, list_any, zip}
use Rattle.tpm_bytes.proofs.Fields.{AreBytes}
use Rattle.tpm_types_command.proofs.CommandLaws.{command_size-is, command_takes, length-body}
use Rattle.tpm_auth.specs.Entries.{decrypts}
use Rattle.tpm_step.specs.step.Parameters.{plain_parameters}
use Rattle.tpm_types_command.specs.AuthEntry.{Entry}
use Rattle.tpm_types_command.specs.declared.command_ref.CommandRef.{CommandRef}
use Rattle.tpm_types_command.specs.Command.{Whole, command_body_text, command_at, command_size, sessions_text, whole_of}
use Rattle.tpm_record.specs.Record.{Record}
use Rattle.tpm_auth.specs.declared.session_grant.Grant.{Grant}
use Rattle.tpm_step.specs.step.General.{general}
use Rattle.tpm_step.specs.declared.refused_command.RefusedCommand.{RefusedCommand}
use Rattle.tpm_step.proofs.rows.Binding.{ok_at}
use Rattle.tpm_step.proofs.step.Decoding.{general_reads}

-- if a buffer passes the general checks, `command_at` reads the same command from the buffer, and
-- no bytes remain after it
spells : (r : Record) (buffer : List ℕ) (c : Whole) → general r buffer ≡ Ok c
    → command_at buffer ≡ Ok (c, [])
spells r buffer c is = ok_at (λ x. command_at buffer ≡ Ok (x, [])) (general r buffer) c
    (general_reads r buffer) is

pub decodes_reads : (r : Record) (buffer : List ℕ) (result : Result CommandRef RefusedCommand)
    → Gives whole_of (general r buffer) result
    → IfOk result (λ command. command_at buffer ≡ Ok (whole_of command, []))
decodes_reads r buffer (Ok command) decoded = spells r buffer (whole_of command) decoded
decodes_reads r buffer (Err e) decoded = tt

short_of : (c : Whole) → command_size c ≤ buffer_limit → length c.parameters ≤ buffer_limit
short_of c small =
    let size : command_size c ≡ 10 + length (command_body_text c) = command_size-is c in
    let body : length (command_body_text c)
    ≡ 4 * length c.handles + length (sessions_text c.entries) + length c.parameters =
    length-body c in
    omega (arith, size, body)

-- the parameters of a decoded command are no longer than the largest buffer
pub decodes_short : (r : Record) (buffer : List ℕ) (result : Result CommandRef RefusedCommand)
    → AreBytes buffer → Gives whole_of (general r buffer) result
    → IfOk result (λ command. length command.parameters.now ≤ buffer_limit)
decodes_short r buffer (Ok command) fits decoded =
    short_of (whole_of command)
    (command_takes buffer (whole_of command, []) fits
    (spells r buffer (whole_of command) decoded)).0.size
decodes_short r buffer (Err e) fits decoded = tt

-- ---- if no entry asks for decryption, the decrypted parameters are the parameters as sent

neither : (a b : Bool) → (a || b) ≡ false → (a ≡ false) × (b ≡ false)
neither true b e = absurd (false≢true (sym e))
neither false b e = (refl, e)

none_decrypts : (entries : List Entry) (grants : List (Option Grant))
    → list_any decrypts entries ≡ false → find (λ g. decrypts g.0) (zip entries grants) ≡ None
none_decrypts [] grants none = refl
none_decrypts (e ∷ es) [] none = refl
none_decrypts (e ∷ es) (grant ∷ grants) none =
    let both = neither (decrypts e) (list_any decrypts es) none in
    rw (both.0) (none_decrypts es grants both.1)

pub plain_as_sent : (r : Record) (entries : List Entry) (grants : List (Option Grant))
    (text : List ℕ) → list_any decrypts entries ≡ false
    → plain_parameters r (zip entries grants) text ≡ text
plain_as_sent r entries grants text none = rw (none_decrypts entries grants none) refl
