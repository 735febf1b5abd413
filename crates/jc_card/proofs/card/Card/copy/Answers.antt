use Rattle.std.proofs.Common.{subst, sym}
use Rattle.jc_memory.specs.State.{MemoryState}
use Rattle.jc_card.specs.Card.{IsReady}
use Rattle.jc_card.proofs.card.Card.copy.Goals as goal

pub invariant_of-result : goal.invariant_of-result
invariant_of-result g c = subst (λ (m : MemoryState). IsReady m.heap) (sym c.in_ok-memory.ensures) c.self.invariant
