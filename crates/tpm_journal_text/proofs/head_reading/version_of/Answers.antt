use Rattle.std.proofs.Common.{◌≡◌, ℕ, ◌/◌, length, take, Result, Ok, Err, ap, sym, ◌∙◌, arith, length-append}
use Rattle.std.specs.Int.{w32, from_be_bytes}
use Rattle.tpm_hex.specs.declared.NotHex.{NotHex}
use Rattle.tpm_journal_text.specs.Head.{head_word}
use Rattle.tpm_journal_text.specs.declared.head.HeadKind.TheVariants.{Versioned}
use Rattle.tpm_journal_text.proofs.HeadStanding.{version_bytes, version_digits, version_read, version_text, word_many}
use Rattle.tpm_journal_text.proofs.Pieces.{digits_read}
use Rattle.tpm_journal_text.proofs.head_reading.version_of.Goals as goal

pub returns-then-text-clause-version : goal.returns-then-text-clause-version
returns-then-text-clause-version c version more small t =
    let many = length-append (head_word (Versioned version)) more in
    absurd (omega (arith, ap length t, many, word_many (Versioned version), c.if-text.true))

never : (result : Result (Unit {0}) NotHex) (fault : NotHex) → result ≡ Ok tt
    → result ≡ Err fault → ⊥
never result fault ok err = absurd cc

pub returns-in-Err-clause-version : goal.returns-in-Err-clause-version
returns-in-Err-clause-version c version more small t =
    let read = digits_read _ (version_text version) c.decode.new.bytes c.decode.result
    c.decode.ensures
    (c.split_at-2.ensures.front ∙ ap (take 8) c.split_at.ensures.back
    ∙ version_digits version c.args.text.now more t) (version_bytes version) in
    absurd (never c.decode.result _ read.0 c.in-Err.is)

pub returns-in-Ok-clause-version : goal.returns-in-Ok-clause-version
returns-in-Ok-clause-version c version more small t =
    let read = digits_read _ (version_text version) c.decode.new.bytes c.decode.result
    c.decode.ensures
    (c.split_at-2.ensures.front ∙ ap (take 8) c.split_at.ensures.back
    ∙ version_digits version c.args.text.now more t) (version_bytes version) in
    ap (λ (n : ℕ). n / 251) (c.from_be_bytes.ensures ∙ ap (from_be_bytes w32) read.1)
    ∙ version_read version small
