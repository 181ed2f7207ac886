use Rattle.std.proofs.Common.{arith, [], ◌∷◌, length-append, sym, refl, ap, ◌∙◌}
use Rattle.std.proofs.lemmas.Result.{err_from_is_err_and}
use Rattle.tpm_bytes.specs.Reading.{◌>>=◌}
use Rattle.tpm_image_text.specs.Body.{index_in}
use Rattle.tpm_image_text.specs.Version.{space_limit}
use Rattle.tpm_image_text.proofs.Appending.{behind_below}
use Rattle.tpm_image_text.proofs.EntriesLaws.{entries_begun, entries_more}
use Rattle.tpm_image_text.proofs.IndicesLaws.{indices_cut, indices_done, indices_over, with_space}
use Rattle.tpm_image_text.proofs.VersionLaws.{space_within}
use Rattle.tpm_image_text.proofs.indices.add_indices.Goals as goal

pub loop-init : goal.loop-init
loop-init g c = record {
  joined = entries_begun index_in c.args.count _ c.args.text.now c.requires.none;
  below = rw c.requires.none tt;
  size = rw c.requires.none refl;
  count = refl;
}

pub loop-preserved : goal.loop-preserved
loop-preserved g c =
    let i = c.loop.invariant in
    let added = c.in_ok-lowest.ensures.added in
    record {
      joined = entries_more index_in c.args.count c.loop.counter c.loop.lowest _ _ _ added.0
          c.loop.text _ (omega (arith, c.loop-test.true)) added.1 added.2 added.3 added.4
          ∙ i.joined;
      below = rw added.4 (behind_below _ c.loop.lowest _ added.0 added.2 added.3 i.below);
      size = rw (added.4, length-append _ (added.0 ∷ [])) (omega (arith, i.size));
      count = c.add_index.ensures.count ∙ i.count;
    }

pub returns-in_err-lowest-clause-filled : goal.returns-in_err-lowest-clause-filled
returns-in_err-lowest-clause-filled g c =
    let p = err_from_is_err_and c.from_residual.result c.from_residual.ensures.1 in
    rw (p.1, p.2) (indices_cut (space_limit c.args.version) _ index_in c.args.count c.loop.counter
    c.loop.lowest (g.N.Indices.contents c.loop.indices).indices _
    (g.N.Indices.contents c.add_index.new.indices).indices c.loop.text _ _ _ _
    (space_within c.args.version) (omega (arith, c.loop-test.true))
    (ap (λ r. r >>= with_space (space_limit c.args.version)) c.loop.invariant.joined)
    c.in_err-lowest.ensures.added)

pub returns-clause-filled : goal.returns-clause-filled
returns-clause-filled g c =
    ap (λ r. r >>= with_space (space_limit c.args.version)) (sym c.loop.invariant.joined)
    ∙ indices_done (space_limit c.args.version) index_in c.args.count c.loop.counter c.loop.lowest _
    c.loop.text (omega (arith, c.loop-test.false, c.loop.auto))
    (omega (
      arith,
      c.if-bytes-space_limit.false,
      c.space_limit.ensures.value,
      c.bytes.ensures.whole,
    ))

pub returns-then-bytes-space_limit-clause-filled : goal.returns-then-bytes-space_limit-clause-filled
returns-then-bytes-space_limit-clause-filled g c =
    ap (λ r. r >>= with_space (space_limit c.args.version)) (sym c.loop.invariant.joined)
    ∙ indices_over (space_limit c.args.version) index_in c.args.count c.loop.counter c.loop.lowest _
    c.loop.text (omega (arith, c.loop-test.false, c.loop.auto))
    (omega (
      arith,
      c.if-bytes-space_limit.true,
      c.space_limit.ensures.value,
      c.bytes.ensures.whole,
    ))
