-- Decoding an encoded command or seed gives the same command or seed again.
use Rattle.std.proofs.Common.{◌≡◌, ◌≤◌, ◌<◌, ◌^◌, ℕ, suc, zero, Bool, true, false, List, [], ◌∷◌, ◌++◌, length, Result, Ok, refl, subst, ap, ◌∙◌, arith, le-leb, append-nil}
use Rattle.std.specs.Int.{w8, w32, w64, to_be_bytes}
use Rattle.tpm_bytes.specs.Reading.{AreBytes, or_fault}
use Rattle.tpm_bytes.proofs.Fields.{bytes_again, number_or_again, wide32, wide8}
use Rattle.tpm_image_text.specs.Fields.{bytes_in, number_in, malformed_fault, passing, yes_no_text}
use Rattle.tpm_image_text.proofs.FieldSpelling.{wide64, yes_no_spelled}
use Rattle.tpm_journal_text.proofs.Bytes.{all_small}
use Rattle.tpm_kept_journal.specs.Command.{After, At, Begins, Cycles, Executes, KeptCommand, Moment, command_in, command_of, cycled_in, executed_after_in, executed_at_in, executed_in, is_locality}
use Rattle.tpm_kept_journal.specs.Seed.{seed_in}
use Rattle.tpm_image_text.proofs.Bytes.{are_bytes-Decides}
use Rattle.tpm_kept_device.specs.Texts.{cycle_text, given_text, seed_text, text_after, text_at}

-- ---- bytes

byte_before : (byte : ℕ) (bytes : List ℕ) → byte < 256 → AreBytes bytes → AreBytes (byte ∷ bytes)
byte_before byte bytes small are zero = small
byte_before byte bytes small are (suc i) = are i

joined : (front back : List ℕ) → AreBytes front → AreBytes back → AreBytes (front ++ back)
joined [] back are others i = others i
joined (byte ∷ front) back are others zero = are 0
joined (byte ∷ front) back are others (suc i) = joined front back (λ k. are (suc k)) others i

number_bytes : (n : ℕ) → AreBytes (to_be_bytes w64 n)
number_bytes n =
    all_small (to_be_bytes w64 n) (
      omega arith,
      (
        omega arith,
        (
          omega arith,
          (omega arith, (omega arith, (omega arith, (omega arith, (omega arith, tt))))),
        ),
      ),
    )

short_bytes : (n : ℕ) → AreBytes (to_be_bytes w32 n)
short_bytes n =
    all_small (to_be_bytes w32 n) (omega arith, (omega arith, (omega arith, (omega arith, tt))))

layer_bytes : (completes : Bool) → AreBytes (yes_no_text completes)
layer_bytes true = all_small (yes_no_text true) (omega arith, tt)
layer_bytes false = all_small (yes_no_text false) (omega arith, tt)

-- ---- fields

byte_read : (byte : ℕ) (rest : List ℕ) → byte < 256 → number_in w8 (byte ∷ rest) ≡ Ok (byte, rest)
byte_read byte rest small =
    subst (λ (first : ℕ). number_in w8 (first ∷ rest) ≡ Ok (byte, rest)) (omega (arith, small))
    (number_or_again w8 (2 ^ 8) wide8 malformed_fault byte rest small)

long_read : (n : ℕ) (rest : List ℕ) → n < 2 ^ 64
    → number_in w64 (to_be_bytes w64 n ++ rest) ≡ Ok (n, rest)
long_read n rest small = number_or_again w64 (2 ^ 64) wide64 malformed_fault n rest small

short_read : (n : ℕ) (rest : List ℕ) → n < 2 ^ 32
    → number_in w32 (to_be_bytes w32 n ++ rest) ≡ Ok (n, rest)
short_read n rest small = number_or_again w32 (2 ^ 32) wide32 malformed_fault n rest small

last_read : (n : ℕ) → n < 2 ^ 64 → number_in w64 (to_be_bytes w64 n) ≡ Ok (n, [])
last_read n small =
    subst (λ (text : List ℕ). number_in w64 text ≡ Ok (n, [])) (append-nil (to_be_bytes w64 n))
    (long_read n [] small)

locality_read : (locality : ℕ) (rest : List ℕ) → locality ≤ 4
    → passing is_locality (number_in w8) (locality ∷ rest) ≡ Ok (locality, rest)
locality_read locality rest few =
    rw (byte_read locality rest (omega (arith, few)), le-leb _ _ few) refl

bytes_read : (random buffer : List ℕ) → length random ≡ 256
    → bytes_in 256 (random ++ buffer) ≡ Ok (random, buffer)
bytes_read random buffer many =
    ap (λ (r : Result (List ℕ × List ℕ) _). or_fault r malformed_fault)
    (bytes_again random buffer 256 many)

read_by : (text : List ℕ) (c : KeptCommand) → AreBytes text → command_in text ≡ Ok c
    → command_of text ≡ Ok c
unfolding command_of
read_by text c are is = rw ((are_bytes-Decides text).1 are) is

-- ---- TPM commands

module _ (locality : ℕ) (completes : Bool) (random buffer : List ℕ) (few : locality ≤ 4)
    (many : length random ≡ 256) (are : AreBytes random) (others : AreBytes buffer) where
  given_bytes : AreBytes (given_text locality completes random buffer)
  given_bytes =
      byte_before locality (yes_no_text completes ++ (random ++ buffer)) (omega (arith, few))
      (joined (yes_no_text completes) (random ++ buffer) (layer_bytes completes)
      (joined random buffer are others))

  given_read : (moment : Moment) → executed_in moment (given_text locality completes random buffer)
      ≡ Ok (Executes moment locality completes random buffer)
  unfolding executed_in
  given_read moment =
      rw (
        locality_read locality (yes_no_text completes ++ (random ++ buffer)) few,
        yes_no_spelled.again completes (random ++ buffer) tt,
        bytes_read random buffer many,
      )
      refl

  pub at_read : (now : ℕ) → now < 2 ^ 64 → command_of (text_at now locality completes random buffer)
      ≡ Ok (Executes (At now) locality completes random buffer)
  unfolding command_in executed_at_in
  at_read now small =
      read_by (text_at now locality completes random buffer)
      (Executes (At now) locality completes random buffer)
      (byte_before 0 (to_be_bytes w64 now ++ given_text locality completes random buffer)
      (omega arith)
      (joined (to_be_bytes w64 now) (given_text locality completes random buffer)
      (number_bytes now) given_bytes))
      (rw (
        byte_read 0 (to_be_bytes w64 now ++ given_text locality completes random buffer)
            (omega arith),
        long_read now (given_text locality completes random buffer) small,
      )
      (given_read (At now)))

  pub after_read : (elapsed : ℕ) → elapsed < 2 ^ 32
      → command_of (text_after elapsed locality completes random buffer)
      ≡ Ok (Executes (After elapsed) locality completes random buffer)
  unfolding command_in executed_after_in
  after_read elapsed small =
      read_by (text_after elapsed locality completes random buffer)
      (Executes (After elapsed) locality completes random buffer)
      (byte_before 3 (to_be_bytes w32 elapsed ++ given_text locality completes random buffer)
      (omega arith)
      (joined (to_be_bytes w32 elapsed) (given_text locality completes random buffer)
      (short_bytes elapsed) given_bytes))
      (rw (
        byte_read 3 (to_be_bytes w32 elapsed ++ given_text locality completes random buffer)
            (omega arith),
        short_read elapsed (given_text locality completes random buffer) small,
      )
      (given_read (After elapsed)))

-- ---- power cycles, and commands that replace the device

cycled_read : (now start : ℕ) (text : List ℕ) → now < 2 ^ 64 → number_in w64 text ≡ Ok (start, [])
    → command_in (1 ∷ (to_be_bytes w64 now ++ text)) ≡ Ok (Cycles now start)
unfolding command_in cycled_in
cycled_read now start text small last =
    rw (byte_read 1 (to_be_bytes w64 now ++ text) (omega arith), long_read now text small, last)
    refl

pub cycle_read : (now start : ℕ) → now < 2 ^ 64 → start < 2 ^ 64
    → command_of (cycle_text now start) ≡ Ok (Cycles now start)
cycle_read now start small less =
    read_by (cycle_text now start) (Cycles now start)
    (byte_before 1 (to_be_bytes w64 now ++ to_be_bytes w64 start) (omega arith)
    (joined (to_be_bytes w64 now) (to_be_bytes w64 start) (number_bytes now)
    (number_bytes start)))
    (cycled_read now start (to_be_bytes w64 start) small (last_read start less))

pub beginning_read : (seed : List ℕ) → AreBytes seed → command_of (2 ∷ seed) ≡ Ok (Begins seed)
unfolding command_in
beginning_read seed are =
    read_by (2 ∷ seed) (Begins seed) (byte_before 2 seed (omega arith) are)
    (rw (byte_read 2 seed (omega arith)) refl)

-- ---- seeds

pub seed_read : (kind now start : ℕ) (content : List ℕ) → kind < 256 → now < 2 ^ 64 → start < 2 ^ 64
    → seed_in (seed_text kind now start content)
    ≡ Ok (record { kind = kind; now = now; start = start; content = content })
unfolding seed_in
seed_read kind now start content few small less =
    rw (
      byte_read kind (to_be_bytes w64 now ++ (to_be_bytes w64 start ++ content)) few,
      long_read now (to_be_bytes w64 start ++ content) small,
      long_read start content less,
    ) refl
