use Rattle.std.proofs.Common.{rules, ◌≡◌}
use Rattle.std.specs.List.{slice_range}
use Rattle.std.specs.Str.{IsUtf8}
use Rattle.hex.specs.Hex.{encode_lower}
use Rattle.tpm_text.proofs.HexText.{hex_is_text}
use Rattle.tpm_text.proofs.trace.put_response_code.Goals as goal

pub unwrap-requires-2 : goal.unwrap-requires-2
unwrap-requires-2 c =
    let code = slice_range c.args.response.now 6 10 in
    let written : c.encode_to_slice.new.output ≡ encode_lower code = search rules in
    let text : IsUtf8 c.encode_to_slice.new.output = rw written (hex_is_text code) in
    search (rules, text)
