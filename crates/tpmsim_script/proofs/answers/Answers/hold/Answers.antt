use Rattle.std.proofs.Common.{◌≡◌, ◌*◌, ◌+◌, ◌∙◌, ap, arith, length, [], ◌∷◌, length-append}
use Rattle.hex.specs.Hex.{encode_lower}
use Rattle.hex.proofs.HexLemmas.{length-encode_with}
use Rattle.tpmsim_script.specs.Script.{printed_response}
use Rattle.tpmsim_script.proofs.Written.{put_behind}
use Rattle.tpmsim_script.proofs.answers.Answers.hold.Goals as goal

pub returns : goal.returns
returns c =
    let text = c.args.self.now.text in
    let used = c.args.self.now.used in
    let response = c.args.response.now in
    let size : length (printed_response response) ≡ 2 * length response + 1 =
    length-append (encode_lower response) (10 ∷ [])
    ∙ ap (λ n. n + 1) (length-encode_with _ response) in
    put_behind text.items c.deref_mut.result.now c.print.new.line (printed_response response) _ _
    used (used + 2 * length response + 1) text.len
    c.deref_mut.ensures.value c.print.ensures (omega arith) (omega (arith, size)) (omega arith)
