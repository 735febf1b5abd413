-- The platform table of an image.
use Rattle.std.proofs.Common.{◌≡◌, ℕ, List, [], Result, Ok, Err, None, refl}
use Rattle.std.specs.Prelude.{MatchResult}
use Rattle.jc_platform.specs.Packing.{IsKept}
use Rattle.jcard_files.specs.declared.fault.Fault.{Fault}
use Rattle.jcard_files.specs.declared.fault.Fault.TheVariants.{NoMemory}
use Rattle.jcard_files.specs.UsualTable.{IsNoPlatform, IsPlatform}
use Rattle.jcard_files.specs.declared.usual_table.TheConstants.{USUAL_TABLE}

-- no file is asked for the usual one
pub usual_platform : {V : Type 0} (items : V → List ℕ) (r : Result V Fault) → MatchResult r (λ t. IsKept USUAL_TABLE.now (items t)) (λ f. f ≡ NoMemory)
    → MatchResult r (λ t. IsPlatform None (items t) []) (λ f. IsNoPlatform None f [])
usual_platform items (Ok t) h = (h, refl)
usual_platform items (Err f) h = (h, refl)
