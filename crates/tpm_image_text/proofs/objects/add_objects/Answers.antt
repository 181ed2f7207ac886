use Rattle.std.proofs.Common.{arith, [], ◌∷◌, length-append, sym, refl, ◌∙◌}
use Rattle.std.proofs.lemmas.Result.{err_from_is_err_and}
use Rattle.tpm_image_text.specs.Body.{object_in}
use Rattle.tpm_image_text.proofs.Appending.{behind_below}
use Rattle.tpm_image_text.proofs.EntriesLaws.{entries_begun, entries_cut, entries_done, entries_more, filled_cut}
use Rattle.tpm_image_text.proofs.objects.add_objects.Goals as goal

pub loop-init : goal.loop-init
loop-init g c = record {
  joined = entries_begun object_in c.args.count _ c.args.text.now c.requires.none;
  below = rw c.requires.none tt;
  size = rw c.requires.none refl;
}

pub loop-preserved : goal.loop-preserved
loop-preserved g c =
    let i = c.loop.invariant in
    let added = c.in_ok-lowest.ensures in
    record {
      joined = entries_more object_in c.args.count c.loop.counter c.loop.lowest _ _ _ added.0
          c.loop.text _ (omega (arith, c.loop-test.true)) added.1 added.2 added.3 added.4
          ∙ i.joined;
      below = rw added.4 (behind_below _ c.loop.lowest _ added.0 added.2 added.3 i.below);
      size = rw (added.4, length-append _ (added.0 ∷ [])) (omega (arith, i.size));
    }

pub returns-in_err-lowest : goal.returns-in_err-lowest
returns-in_err-lowest g c =
    let p = err_from_is_err_and c.from_residual.result c.from_residual.ensures.1 in
    rw (p.1, p.2)
    (filled_cut object_in _ c.loop.lowest (g.P.PersistentObjects.entries c.loop.objects) _
    (g.P.PersistentObjects.entries c.add_object.new.objects) c.loop.text _ _ _ _
    (λ misfits. sym c.loop.invariant.joined
    ∙ entries_cut object_in c.args.count c.loop.counter c.loop.lowest _ c.loop.text
    (omega (arith, c.loop-test.true)) misfits) c.in_err-lowest.ensures)

pub returns : goal.returns
returns g c = sym c.loop.invariant.joined
    ∙ entries_done object_in c.args.count c.loop.counter c.loop.lowest _ c.loop.text
    (omega (arith, c.loop-test.false, c.loop.auto))
