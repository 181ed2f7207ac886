use Rattle.std.proofs.Common.{rules, ◌≡◌, ◌++◌, List, ℕ, OnErr, subst}
use Rattle.tpm_bytes.specs.Tap.{AppendsFront, device_of}
use Rattle.tpm_image_text.specs.Image.{device_image}
use Rattle.tpm_image.proofs.image.save.Goals as goal

-- The bytes that were written are a prefix of the image: a part of the head, or the head and a part
-- of the rest.
pub returns-clause-cut_off : goal.returns-clause-cut_off
returns-clause-cut_off g c =
    let same : c.as_slice.result.now ++ c.as_slice-2.result.now
    ≡ device_image (g.K.Keep.record_of c.args.machine.now.keep) = search rules in
    subst (λ (l : List ℕ). OnErr c.send.result
    (AppendsFront (g.D.Write.contents (device_of c.args.tap.now))
    (g.D.Write.contents (device_of c.send.new.tap)) l)) same c.send.ensures.cut_off
