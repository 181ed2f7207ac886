use Rattle.std.proofs.Common.{◌≡◌, ◌∙◌, ap, length, rules, sym}
use Rattle.sha1.specs.Sha1.{digest_bytes}
use Rattle.tpm_hash_state.proofs.Absorbing.{same_bytes}
use Rattle.tpm_hash_state.proofs.chaining.ChainingValue.bytes.Goals as goal
use Rattle.tpm_hash_state.specs.State.{value_bytes}

pub returns-in-Sha1 : goal.returns-in-Sha1
returns-in-Sha1 c =
    let words = c.in-Sha1.words in
    let five : length words ≡ 5 = search rules in
    c.words_text.ensures ∙ same_bytes words (length words) ∙ ap (digest_bytes words) five
    ∙ ap value_bytes (sym c.in-Sha1.is)
