-- Each class is a subtype of itself.
use Rattle.std.proofs.Common.{ℕ, ◌≡◌, ◌==◌, true, refl, arith}
use Rattle.jc_linker.specs.Values.{Packages}
use Rattle.jc_linker.specs.Classes.{is_below, any_is, lineage_from}

itself : (n : ℕ) → (n == n) ≡ true
itself n = grind arith

pub below_itself : (p : Packages) (class : ℕ) → is_below p class class ≡ true
unfolding is_below any_is lineage_from
below_itself p class = simp (itself class) refl

-- a class that is another one
pub below_same : (p : Packages) (class of : ℕ) → class ≡ of → is_below p class of ≡ true
below_same p class of e = rw e (below_itself p of)
