use Rattle.std.proofs.Common.{sym, ap, ◌∙◌}
use Rattle.tpmsim_library.specs.Keeping.{call_of}
use Rattle.tpmsim_library.proofs.keeping.tpmsim_keeper_new.Goals as goal

-- the new keeper is put into the holder
pub returns-in-Ok-clause-made : goal.returns-in-Ok-clause-made
returns-in-Ok-clause-made c =
    λ done. (
      c.in-Some.force,
      c.in-Ok.new.value,
      sym c.in-Some.ensures,
      c.put.ensures,
      ap call_of c.in-Ok.ensures.ok ∙ c.new.ensures.made,
    )
