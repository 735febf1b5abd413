-- Where linking found a method for a class and a token, a search from a class below that ends there with this method finds what the whole search finds.
use Rattle.std.proofs.Common.{◌≡◌, ℕ, zero, suc, ◌/◌, ◌≤◌, ◌==◌, ◌⊎◌, inl, inr, Bool, true, false, List, ◌∷◌, Option, Some, None, refl}
use Rattle.std.proofs.Common.{sym, ◌∙◌, subst, ap, arith, if◌then◌else◌}
use Rattle.std.specs.Prelude.{filter}
use Rattle.std.proofs.lemmas.Bool.{eq-eqb, eqb-true, false≢true}
use Rattle.jc_cap.specs.declared.pool.VirtualToken.{VirtualToken}
use Rattle.jc_cap.specs.declared.pool.VirtualToken.TheVariants.{PackageVisible, Public}
use Rattle.jc_linker.specs.declared.target.Method.{Method}
use Rattle.jc_linker.specs.declared.search.Search.TheVariants.{Found}
use Rattle.jc_linker.specs.Classes.{lineage_from, most_classes, superclass_in}
use Rattle.jc_linker.specs.Methods.{first_decided, found_or_above, lookup_classes, method_at, method_in}
use Rattle.jc_linker.specs.Values.{Packages}
use Rattle.law_code.proofs.Chains.{Reaches}
use Rattle.law_code.proofs.Ends.{Ends, ended}

itself : (n : ℕ) → (n == n) ≡ true
itself n = grind arith

-- the search that ends at the class, and the whole one
abbrev short : Packages → ℕ → VirtualToken → Method → List ℕ → Option Method
short p class token method cs = first_decided (λ c. if c == class then Found method else method_in p token c) (lookup_classes token (class / 256) cs)

abbrev whole : Packages → ℕ → VirtualToken → List ℕ → Option Method
whole p class token cs = first_decided (method_in p token) (lookup_classes token (class / 256) cs)

at_class : (p : Packages) (class : ℕ) (token : VirtualToken) (method : Method) (cs : List ℕ) → short p class token method (class ∷ cs) ≡ Some method
unfolding first_decided
at_class p class (Public t) method cs = ap (λ b. found_or_above (if b then Found method else method_in p (Public t) class)
    (short p class (Public t) method cs)) (itself class)
at_class p class (PackageVisible t) method cs =
    ap (λ b. first_decided (λ c. if c == class then Found method else method_in p (PackageVisible t) c)
    (if b then class ∷ filter (λ c. c / 256 == class / 256) cs else filter (λ c. c / 256 == class / 256) cs)) (itself (class / 256))
    ∙ ap (λ b. found_or_above (if b then Found method else method_in p (PackageVisible t) class) (short p class (PackageVisible t) method cs)) (itself class)

one_more : (p : Packages) (class : ℕ) (token : VirtualToken) (method : Method) (w : ℕ) (cs : List ℕ) → (w == class) ≡ false
    → short p class token method cs ≡ whole p class token cs → short p class token method (w ∷ cs) ≡ whole p class token (w ∷ cs)
unfolding first_decided
one_more p class (Public t) method w cs other same =
    ap (λ b. found_or_above (if b then Found method else method_in p (Public t) w) (short p class (Public t) method cs)) other
    ∙ ap (found_or_above (method_in p (Public t) w)) same
one_more p class (PackageVisible t) method w cs other same = kept (w / 256 == class / 256)
  where
    kept : (b : Bool) → first_decided (λ c. if c == class then Found method else method_in p (PackageVisible t) c)
        (if b then w ∷ filter (λ c. c / 256 == class / 256) cs else filter (λ c. c / 256 == class / 256) cs)
        ≡ first_decided (method_in p (PackageVisible t)) (if b then w ∷ filter (λ c. c / 256 == class / 256) cs else filter (λ c. c / 256 == class / 256) cs)
    kept true = ap (λ b. found_or_above (if b then Found method else method_in p (PackageVisible t) w) (short p class (PackageVisible t) method cs)) other
        ∙ ap (found_or_above (method_in p (PackageVisible t) w)) same
    kept false = same

module _ (p : Packages) (class : ℕ) (token : VirtualToken) (method : Method) (its : method_at p class (class / 256) token ≡ Some method) where
  from_class : (n : ℕ) → suc n ≤ most_classes → Ends p (suc n) (Some class)
      → short p class token method (lineage_from p (suc n) (Some class)) ≡ whole p class token (lineage_from p (suc n) (Some class))
  unfolding lineage_from method_at
  from_class n le ends = at_class p class token method (lineage_from p n (superclass_in p class))
      ∙ sym (ap (whole p class token) (sym (ended p (suc n) most_classes (Some class) le ends)) ∙ its)

  pub from_below : (n : ℕ) (o : Option ℕ) → n ≤ most_classes → Reaches p class n o → Ends p n o
      → short p class token method (lineage_from p n o) ≡ whole p class token (lineage_from p n o)
  unfolding Reaches Ends lineage_from
  from_below zero o le reaches ends = absurd reaches
  from_below (suc n) None le reaches ends = absurd reaches
  from_below (suc n) (Some w) le reaches ends = by_test (w == class) refl reaches
      (λ more. from_below n (superclass_in p w) (omega (arith, le)) more ends)
    where
      by_test : (b : Bool) → (w == class) ≡ b → (w ≡ class) ⊎ Reaches p class n (superclass_in p w)
          → (Reaches p class n (superclass_in p w) → short p class token method (lineage_from p n (superclass_in p w))
          ≡ whole p class token (lineage_from p n (superclass_in p w)))
          → short p class token method (w ∷ lineage_from p n (superclass_in p w)) ≡ whole p class token (w ∷ lineage_from p n (superclass_in p w))
      by_test true is some above =
          let here = eqb-true w class is in
          subst (λ x. short p class token method (lineage_from p (suc n) (Some x)) ≡ whole p class token (lineage_from p (suc n) (Some x))) (sym here)
          (from_class n le (subst (λ x. Ends p (suc n) (Some x)) here ends))
      by_test false is (inl here) above = absurd (false≢true (sym is ∙ eq-eqb w class here))
      by_test false is (inr more) above = one_more p class token method w (lineage_from p n (superclass_in p w)) is (above more)
