-- Headers of two bytes, and virtual calls on instances of the class that an entry names: they run the method that linking found for the entry.
use Rattle.std.proofs.Common.{◌≡◌, ℕ, ◌<◌, ◌/◌, ◌%◌, ◌==◌, true, false, Some, refl, arith}
use Rattle.jc_cap.specs.declared.pool.VirtualToken.{VirtualToken}
use Rattle.jc_cap.specs.declared.pool.VirtualToken.TheVariants.{PackageVisible, Public}
use Rattle.jc_linker.specs.declared.target.Method.{Method}
use Rattle.jc_linker.specs.Classes.{lineage_from}
use Rattle.jc_linker.specs.Methods.{first_decided, method_below}
use Rattle.jc_linker.specs.Values.{Packages}

pub not_abstract : (first : ℕ) → first < 64 → (first / 64 % 2 == 1) ≡ false
not_abstract first low = let none : first / 64 ≡ 0 = omega (arith, low) in rw none refl

itself : (n : ℕ) → (n == n) ≡ true
itself n = grind arith

at_itself : (p : Packages) (class : ℕ) (token : VirtualToken) (method : Method) → method_below p class class token method ≡ Some method
unfolding method_below first_decided lineage_from
at_itself p class (Public token) method = simp (itself class) refl
at_itself p class (PackageVisible token) method = simp (itself class, itself (class / 256)) refl

pub method_itself : (p : Packages) (own class : ℕ) (token : VirtualToken) (method : Method) → own ≡ class → method_below p own class token method ≡ Some method
method_itself p own class token method same = rw same (at_itself p class token method)
