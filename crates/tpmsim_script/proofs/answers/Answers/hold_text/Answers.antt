use Rattle.std.proofs.Common.{◌≡◌, ◌+◌, arith, length, [], ◌∷◌, ◌++◌, length-append}
use Rattle.tpmsim_script.proofs.Written.{put_behind}
use Rattle.tpmsim_script.proofs.answers.Answers.hold_text.Goals as goal

pub returns : goal.returns
returns c =
    let text = c.args.self.now.text in
    let used = c.args.self.now.used in
    let line = c.args.text.now in
    let size : length (line ++ 10 ∷ []) ≡ length line + 1 = length-append line (10 ∷ []) in
    put_behind text.items c.deref_mut.result.now c.print_text.new.line (line ++ 10 ∷ []) _ _ used
    (used + length line + 1) text.len
    c.deref_mut.ensures.value c.print_text.ensures (omega arith) (omega (arith, size)) (omega arith)
