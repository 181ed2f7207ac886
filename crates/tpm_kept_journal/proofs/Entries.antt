-- A TPM command that was decoded from bytes has an entry.
use Rattle.std.proofs.Common.{◌≡◌, ◌<◌, ◌^◌, ◌==◌, ℕ, Bool, true, false, List, [], ◌∷◌, length, Result, Ok, Err, refl, subst, ap, ◌∙◌, cond, arith}
use Rattle.std.specs.Prelude.{not}
use Rattle.std.specs.Int.{w8, w32, w64}
use Rattle.std.proofs.lemmas.Bool.{leb-true}
use Rattle.tpm_bytes.specs.Reading.{AreBytes, ◌>>=◌, refused_if}
use Rattle.tpm_bytes.proofs.Fields.{bind_ok, bytes_take, ok_is, or_fault_ok, wide8, wide32}
use Rattle.tpm_image_text.specs.Fields.{bytes_in, malformed_fault, number_in, passing, yes_no_in}
use Rattle.tpm_image_text.specs.declared.fault.Malformed.{Malformed}
use Rattle.tpm_image_text.proofs.FieldSpelling.{number_in_spelled, passing_spelled, wide64, yes_no_spelled}
use Rattle.tpm_completion.specs.Execution.{Seen}
use Rattle.tpm_journal.specs.Command.{entry_of}
use Rattle.tpm_journal.proofs.Commands.{entry_is}
use Rattle.tpm_journal_text.specs.Entry.{IsEntry}
use Rattle.tpm_journal_text.specs.Sum.{offset_basis, sum_from, with_byte}
use Rattle.tpm_kept_journal.specs.Command.{After, At, Begins, Cycles, Executes, IsGiven, KeptCommand, Moment, by_kind, command_in, command_of, cycled_in, executed_after_in, executed_at_in, executed_in, is_entered_read, is_locality}
use Rattle.tpm_kept_journal.specs.Effect.{clock_at, command_on}
use Rattle.tpm_kept_journal.specs.State.{DeviceState}
use Rattle.tpm_image_text.specs.Fields.{are_bytes}
use Rattle.tpm_image_text.proofs.Bytes.{are_bytes-Decides}

-- ---- the fields of a decoded command are valid

executed_given : (moment : Moment) (text : List ℕ) (c : KeptCommand) → AreBytes text
    → executed_in moment text ≡ Ok c → IsGiven c
unfolding executed_in
executed_given moment text c fits e =
    let locality = bind_ok (passing is_locality (number_in w8) text)
    (λ locality. yes_no_in locality.1 >>= λ completes. bytes_in 256 completes.1
    >>= λ random. Ok (Executes moment locality.0 completes.0 random.0 random.1)) c e in
    let completes = bind_ok (yes_no_in locality.0.1)
    (λ completes. bytes_in 256 completes.1
    >>= λ random. Ok (Executes moment locality.0.0 completes.0 random.0 random.1)) c
    locality.2 in
    let random = bind_ok (bytes_in 256 completes.0.1)
    (λ random. Ok (Executes moment locality.0.0 completes.0.0 random.0 random.1)) c completes.2 in
    let first = (passing_spelled is_locality (number_in_spelled w8 (2 ^ 8) wide8)).taken text
    locality.0 fits locality.1 in
    let second = yes_no_spelled.taken locality.0.1 completes.0 first.0.rest_fits completes.1 in
    let last = bytes_take 256 completes.0.1 random.0.0 random.0.1 second.0.rest_fits
    (or_fault_ok _ malformed_fault random.0 random.1) in
    subst IsGiven
    (ok_is {E = Malformed} (Executes moment locality.0.0 completes.0.0 random.0.0 random.0.1) c
    random.2)
    (leb-true locality.0.0 4 first.1.1, last.1, last.2, last.0.rest_fits)

at_given : (text : List ℕ) (c : KeptCommand) → AreBytes text → executed_at_in text ≡ Ok c
    → IsGiven c
unfolding executed_at_in
at_given text c fits e =
    let now = bind_ok (number_in w64 text) (λ now. executed_in (At now.0) now.1) c e in
    let first = (number_in_spelled w64 (2 ^ 64) wide64).taken text now.0 fits now.1 in
    executed_given (At now.0.0) now.0.1 c first.0.rest_fits now.2

after_given : (text : List ℕ) (c : KeptCommand) → AreBytes text → executed_after_in text ≡ Ok c
    → IsGiven c
unfolding executed_after_in
after_given text c fits e =
    let elapsed = bind_ok (number_in w32 text) (λ elapsed. executed_in (After elapsed.0) elapsed.1)
    c e in
    let first = (number_in_spelled w32 (2 ^ 32) wide32).taken text elapsed.0 fits elapsed.1 in
    executed_given (After elapsed.0.0) elapsed.0.1 c first.0.rest_fits elapsed.2

cycled_given : (text : List ℕ) (c : KeptCommand) → cycled_in text ≡ Ok c → IsGiven c
unfolding cycled_in
cycled_given text c e =
    let now = bind_ok (number_in w64 text)
    (λ now. number_in w64 now.1 >>= λ start. refused_if (not (length start.1 == 0)) malformed_fault
    >>= λ ended. Ok (Cycles now.0 start.0)) c e in
    let start = bind_ok (number_in w64 now.0.1)
    (λ start. refused_if (not (length start.1 == 0)) malformed_fault
    >>= λ ended. Ok (Cycles now.0.0 start.0)) c now.2 in
    let ended = bind_ok (refused_if (not (length start.0.1 == 0)) malformed_fault)
    (λ ended. Ok (Cycles now.0.0 start.0.0)) c start.2 in
    subst IsGiven (ok_is {E = Malformed} (Cycles now.0.0 start.0.0) c ended.2) tt

chosen_given : (at cycles begins after : Bool) (text : List ℕ) (c : KeptCommand) → AreBytes text
    → cond at (executed_at_in text)
    (cond cycles (cycled_in text)
    (cond begins (Ok (Begins text))
    (cond after (executed_after_in text) (Err malformed_fault)))) ≡ Ok c
    → IsGiven c
chosen_given true cycles begins after text c fits e = at_given text c fits e
chosen_given false true begins after text c fits e = cycled_given text c e
chosen_given false false true after text c fits e =
    subst IsGiven (ok_is {E = Malformed} (Begins text) c e) tt
chosen_given false false false true text c fits e = after_given text c fits e
chosen_given false false false false text c fits e = absurd cc

read_given : (text : List ℕ) (c : KeptCommand) → AreBytes text → command_in text ≡ Ok c → IsGiven c
unfolding command_in
read_given text c fits e =
    let kind = bind_ok (number_in w8 text) (λ kind. by_kind kind.0 kind.1) c e in
    let first = (number_in_spelled w8 (2 ^ 8) wide8).taken text kind.0 fits kind.1 in
    chosen_given (kind.0.0 == 0) (kind.0.0 == 1) (kind.0.0 == 2) (kind.0.0 == 3) kind.0.1 c
    first.0.rest_fits kind.2

tested_given : (are : Bool) (text : List ℕ) (c : KeptCommand) → (are ≡ true → AreBytes text)
    → cond are (command_in text) (Err malformed_fault) ≡ Ok c → IsGiven c
tested_given true text c fits e = read_given text c (fits refl) e
tested_given false text c fits e = absurd cc

pub command_given : (text : List ℕ) (c : KeptCommand) → command_of text ≡ Ok c → IsGiven c
unfolding command_of
command_given text c e = tested_given (are_bytes text) text c (are_bytes-Decides text).0 e

-- ---- a command with an entry

pub record IsEntered (text : List ℕ) : Type 0 where
  pub moment : Moment
  pub locality : ℕ
  pub completes : Bool
  pub random : List ℕ
  pub buffer : List ℕ
  pub is : command_of text ≡ Ok (Executes moment locality completes random buffer)
  pub given : IsGiven (Executes moment locality completes random buffer)

entered_by : (text : List ℕ) (read : Result KeptCommand Malformed) → command_of text ≡ read
    → is_entered_read read ≡ true → IsEntered text
entered_by text (Ok (Executes moment locality completes random buffer)) e is = record {
  moment = moment;
  locality = locality;
  completes = completes;
  random = random;
  buffer = buffer;
  is = e;
  given = command_given text (Executes moment locality completes random buffer) e;
}
entered_by text (Ok (Cycles now start)) e is = absurd cc
entered_by text (Ok (Begins seed)) e is = absurd cc
entered_by text (Err why) e is = absurd cc

pub is_entered : (text : List ℕ) → is_entered_read (command_of text) ≡ true → IsEntered text
is_entered text is = entered_by text (command_of text) refl is

-- ---- the entry of a command

pub sum_small : (sum : ℕ) (bytes : List ℕ) → sum < 2 ^ 64 → sum_from sum bytes < 2 ^ 64
sum_small sum [] small = small
sum_small sum (byte ∷ bytes) small = sum_small (with_byte sum byte) bytes (omega arith)

pub entry_of_given : (s : DeviceState) (moment : Moment) (locality : ℕ) (completes : Bool)
    (random buffer : List ℕ) (seen : Seen)
    → IsGiven (Executes moment locality completes random buffer)
    → IsEntry (entry_of (command_on s moment locality completes random buffer) seen)
entry_of_given s moment locality completes random buffer seen
    (near, all, random_bytes, buffer_bytes) =
    entry_is buffer locality (clock_at moment s.time) s.time completes random seen near all
    random_bytes buffer_bytes
    (sum_small offset_basis seen.step.response (omega arith))

-- ---- what the code decodes

-- For a list of bytes, `command_of` has the same result as `command_in`.
pub command_read : (text : List ℕ) (r : Result KeptCommand Malformed) → AreBytes text
    → command_in text ≡ r → command_of text ≡ r
unfolding command_of
command_read text r are is = ap (λ (b : Bool). cond b (command_in text) (Err malformed_fault))
    ((are_bytes-Decides text).1 are) ∙ is
