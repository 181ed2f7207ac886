use Rattle.std.proofs.Common.{rules, refl}
use Rattle.tpm_text.proofs.Areas.{taken_size, ten_taken, text_finished}
use Rattle.tpm_text.proofs.draft.Draft.finish.Goals as goal

pub returns : goal.returns
returns c =
    let whole = taken_size c.args.self.now c.in-Some.size c.in-Some.is in
    let large = ten_taken c.args.self.now c.in-Some.size c.in-Some.is c.requires in
    rw (
      c.in-Some.is,
      text_finished c.args.tag c.args.code c.copy_from_slice.new.self
          c.args.self.now.bytes c.in-Some.size (search rules) (search rules) large whole,
    ) refl
