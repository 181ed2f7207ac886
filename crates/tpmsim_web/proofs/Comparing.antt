-- The token for an address in the page's memory allows comparing the address with null, and nothing
-- else.
use mir.Syntax.{Ty}
use seplogic.Ra.Ura.{Ura}
use base.Logic.{ent, id⊢}
use contract.Monad.{fact}
use types.Logic.{Logic, sem}
use denote.RawPtr.{Ptr, Testable}
use Rattle.tpmsim_web.specs.contracts.lent.LentAllocator.TheImpl.{ghosts}
use Rattle.tpmsim_web.specs.declared.lent.Lent.{Lent}

module _ {M : Type 1} {𝓤 : Ura M} (𝓛 : Logic 𝓤) (alloc : Lent) (τ : Ty) (at : Ptr) where
  pub token_compares : ent 𝓤 (sem 𝓛 (ghosts.dealloc_token alloc τ at)) (fact 𝓤 (Testable at))
  token_compares = id⊢ 𝓤 _
