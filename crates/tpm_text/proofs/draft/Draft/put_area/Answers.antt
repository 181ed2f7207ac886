use Rattle.std.proofs.Common.{rules, sym, take}
use Rattle.tpm_text.specs.Draft.{drafted_bytes}
use Rattle.tpm_text.proofs.Areas.{area_added, no_area, taken_size}
use Rattle.tpm_text.proofs.draft.Draft.put_area.Goals as goal

pub returns-in-Some : goal.returns-in-Some
returns-in-Some c =
    rw c.in-Some.is (area_added (drafted_bytes c.args.self.now) (drafted_bytes c.put.new.self)
    (drafted_bytes c.put-in-Some.new.self) (take c.in-Some.size c.args.entries.now.bytes)
    c.in-Some.size (sym (taken_size c.args.entries.now c.in-Some.size c.in-Some.is))
    (search rules) (search rules))

pub returns-in-None : goal.returns-in-None
returns-in-None c = rw c.in-None.is (no_area (drafted_bytes c.args.self.now))
