use Rattle.std.proofs.Common.{◌≡◌, ℕ, List, subst, ◌∙◌}
use Rattle.std.specs.Prelude.{MatchResult}
use Rattle.jc_platform.specs.Packing.{IsKept}
use Rattle.jcard_files.specs.declared.fault.Fault.TheVariants.{NoMemory}
use Rattle.jcard_files.proofs.usual_table.usual_platform.Goals as goal

pub returns-in-Ok : goal.returns-in-Ok
returns-in-Ok c =
    subst (λ (t : List ℕ). MatchResult c.kept_of.result (λ kept. IsKept t kept.items) (λ fault. fault ≡ NoMemory))
    (c.in-Ok.ensures.items ∙ c.as_bytes.ensures.value) c.kept_of.ensures
