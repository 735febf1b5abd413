-- Objects that code may reach are not outside its reach.
use Rattle.std.proofs.Common.{◌≡◌, ◌∙◌, ℕ, ap, subst}
use Rattle.jc_heap.specs.Heap.{facts}
use Rattle.jc_heap.specs.declared.object.Facts.{Facts}
use Rattle.jc_firewall.specs.FirewallLaws.{IsInReach}
use Rattle.jc_memory.specs.State.{MemoryState}
use Rattle.jc_linker.specs.Values.{Packages}
use Rattle.jc_world.specs.Contexts.{situation_of}
use Rattle.law_code.specs.Reach.{IsOutside}

-- an object within reach is none outside
pub not_outside : (p : Packages) (m : MemoryState) (q r : ℕ) (f : Facts) → IsOutside p m q → f ≡ facts m.heap.now r → IsInReach (situation_of p m f) → r ≡ q → ⊥
not_outside p m q r f out is reach same = out.apart (subst (λ g. IsInReach (situation_of p m g)) (is ∙ ap (facts m.heap.now) same) reach)
