use Rattle.std.specs.Prelude.{◌||◌}
use Rattle.tpm_machine.specs.State.{state_of}
use Rattle.tpm_image.proofs.Histories.{opened_follows}
use Rattle.tpm_image_text.proofs.RecordLaws.{symmetric_found, symmetric_only}
use Rattle.tpm_image.proofs.image.open.Goals as goal

pub returns-clause-found : goal.returns-clause-found
returns-clause-found g c =
    symmetric_found (state_of {K = g.row.K.Denot} {S = g.row.K-Se.Denot}
    {O = g.row.K-ObjectSlots.Denot} {P = g.row.K-PersistentMap.Denot}
    {N = g.row.K-Nv.Denot} g.K.Keep.record_of)
    (g.K.Keep.empty_can_refuse || g.K.Keep.can_refuse) c.args.text.now c.open_symmetric.result
    c.open_symmetric.ensures.bytes c.open_symmetric.ensures.exact

pub returns-clause-only : goal.returns-clause-only
returns-clause-only g c = λ version r is profile image.
    symmetric_only (state_of {K = g.row.K.Denot} {S = g.row.K-Se.Denot}
    {O = g.row.K-ObjectSlots.Denot} {P = g.row.K-PersistentMap.Denot}
    {N = g.row.K-Nv.Denot} g.K.Keep.record_of)
    (g.K.Keep.empty_can_refuse || g.K.Keep.can_refuse) c.args.text.now version r
    c.open_symmetric.result is profile image c.open_symmetric.ensures.exact

pub returns-clause-history : goal.returns-clause-history
returns-clause-history g c = λ version r history is profile follows image.
    opened_follows (state_of {K = g.row.K.Denot} {S = g.row.K-Se.Denot}
    {O = g.row.K-ObjectSlots.Denot} {P = g.row.K-PersistentMap.Denot}
    {N = g.row.K-Nv.Denot} g.K.Keep.record_of)
    (g.K.Keep.empty_can_refuse || g.K.Keep.can_refuse) r history c.open_symmetric.result
    (symmetric_only (state_of {K = g.row.K.Denot} {S = g.row.K-Se.Denot}
    {O = g.row.K-ObjectSlots.Denot} {P = g.row.K-PersistentMap.Denot}
    {N = g.row.K-Nv.Denot} g.K.Keep.record_of)
    (g.K.Keep.empty_can_refuse || g.K.Keep.can_refuse) c.args.text.now version r
    c.open_symmetric.result is profile image c.open_symmetric.ensures.exact) follows
