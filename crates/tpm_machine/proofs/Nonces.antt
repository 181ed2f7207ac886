-- The nonce that is drawn for an entry's session has the same size as the session's current nonce.
use Rattle.std.proofs.Common.{◌≡◌, ◌≤◌, ℕ, List, Option, Some, None, length, take, arith}
use Rattle.std.specs.Prelude.{IfSome}
use Rattle.std.specs.Option.{option_map_or}
use Rattle.std.proofs.lemmas.List.{length-take-le}
use Rattle.tpm_session.specs.declared.session.Session.{Session}
use Rattle.tpm_types_command.specs.AuthEntry.{Entry}
use Rattle.tpm_record.specs.Record.{Record}
use Rattle.tpm_auth.specs.Entries.{session_of}
use Rattle.tpm_step.specs.step.Entries.{draw_of}

abbrev nonce_length : Option Session → ℕ
nonce_length o = option_map_or (λ (s : Session). length s.nonce_tpm) o 0

drawn : (o : Option Session) (left : List ℕ) → 32 ≤ length left → nonce_length o ≤ 32
    → IfSome o (λ s. length (take (nonce_length o) left) ≡ length s.nonce_tpm)
drawn (Some s) left enough few =
    length-take-le (length s.nonce_tpm) left (omega (arith, enough, few))
drawn None left enough few = tt

pub nonce_fits : (r : Record) (e : Entry) (left : List ℕ) → 32 ≤ length left → draw_of r e ≤ 32
    → IfSome (session_of r e) (λ s. length (take (draw_of r e) left) ≡ length s.nonce_tpm)
unfolding draw_of
nonce_fits r e left enough few = drawn (session_of r e) left enough few
