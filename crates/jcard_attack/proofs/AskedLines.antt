-- The lines that are asked after a fault.
use Rattle.std.proofs.Common.{◌≡◌, ◌∙◌, ℕ, List, [], Option, Some, None, ap, refl}
use Rattle.std.specs.Borrow.{Bor}
use Rattle.std.specs.Option.{unwrap_or}
use Rattle.jcard_sweeps.specs.Texts.{text_of}

lent_or : (lent : Option (Bor (List ℕ))) (other : Bor (List ℕ)) → other.now ≡ [] → (unwrap_or lent other).now ≡ unwrap_or (text_of lent) []
lent_or None other none = none
lent_or (Some text) other none = refl

-- those of the probe, or none
pub asked_after : (lent : Option (Bor (List ℕ))) (asked other : Bor (List ℕ)) → asked ≡ unwrap_or lent other → other.now ≡ []
    → asked.now ≡ unwrap_or (text_of lent) []
asked_after lent asked other is none = ap (λ (b : Bor (List ℕ)). b.now) is ∙ lent_or lent other none
