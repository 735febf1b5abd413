-- A quotient of shorts, wrapped.
use Rattle.std.proofs.Common.{◌≡◌, ℕ, zero, suc, ◌-◌, ◌/◌, ◌%◌, ◌≤◌, ◌≢◌, ℤ, pos, negsuc, neg_ℤ, Some, refl, sym, ◌∙◌, ap, arith, w16, to_z, of_z, SFits}
use Rattle.std.specs.Prelude.{int_div, unsigned_abs}
use Rattle.std.specs.Int.{int_wrap}
use Rattle.jc_frames.specs.Short.{unless_zero}

-- a number that is not far out is wrapped by its bits
pub wrap_near : (z : ℤ) → unsigned_abs z ≤ 32768 → to_z w16 (of_z w16 z) ≡ int_wrap w16 z
unfolding int_wrap
wrap_near (pos n) h = let e : n % 65536 ≡ n = omega arith in ap (to_z w16) (sym e)
wrap_near (negsuc n) h = let e : 65535 - n % 65536 ≡ 65536 - suc n = omega arith in ap (to_z w16) (sym e)

neg-abs : (n : ℕ) → unsigned_abs (neg_ℤ (pos n)) ≡ n
neg-abs zero = refl
neg-abs (suc n) = refl

div_bound : (m n k : ℕ) → m ≤ k → m / n ≤ k
div_bound m n k h = grind arith

-- a quotient is no larger than what is divided
pub quotient_near : (x y : ℤ) → SFits w16 x → unsigned_abs (int_div x y) ≤ 32768
quotient_near (pos a) (pos b) f = div_bound a b 32768 (omega (arith, f.sfits))
quotient_near (pos a) (negsuc b) f = rw (neg-abs (a / suc b)) (div_bound a (suc b) 32768 (omega (arith, f.sfits)))
quotient_near (negsuc a) (pos b) f = rw (neg-abs (suc a / b)) (div_bound (suc a) b 32768 (omega (arith, f.sfits)))
quotient_near (negsuc a) (negsuc b) f = div_bound (suc a) (suc b) 32768 (omega (arith, f.sfits))

pub unless_zero-else : (y z : ℤ) → y ≢ pos 0 → Some z ≡ unless_zero y z
unless_zero-else (pos zero) z h = absurd (h refl)
unless_zero-else (pos (suc n)) z h = refl
unless_zero-else (negsuc n) z h = refl

pub quotient : (x y r : ℤ) → SFits w16 x → y ≢ pos 0 → r ≡ to_z w16 (of_z w16 (int_div x y)) → Some r ≡ unless_zero y (int_wrap w16 (int_div x y))
quotient x y r f h e = ap Some (e ∙ wrap_near (int_div x y) (quotient_near x y f)) ∙ unless_zero-else y (int_wrap w16 (int_div x y)) h
