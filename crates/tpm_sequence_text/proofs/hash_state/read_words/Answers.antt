use Rattle.std.proofs.Common.{◌∙◌, ℕ, rules}
use Rattle.std.specs.Int.{w32}
use Rattle.std.proofs.lemmas.List.{length-replicate, length-set}
use Rattle.tpm_image_text.specs.Fields.{number_in}
use Rattle.tpm_sequence_text.proofs.Words.{left_laws, left_more}
use Rattle.tpm_sequence_text.proofs.hash_state.read_words.Goals as goal

pub loop-place-init : goal.loop-place-init
loop-place-init g c =
    let zero : ℕ = 0 in
    record { joined = search (rules, left_laws); size = length-replicate g.row.N zero }

pub loop-place-preserved : goal.loop-place-preserved
loop-place-preserved g c =
    let i = c.loop-place.invariant in
    let words = c.loop-place.words in
    record {
      joined = left_more (number_in w32) g.row.N c.loop-place.place words _ c.loop-place.ahead _
          c.loop-place-test.true i.size c.in_ok-words.ensures ∙ i.joined;
      size = length-set words c.loop-place.place c.in_ok-words.field-0 ∙ i.size;
    }
