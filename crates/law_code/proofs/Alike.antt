-- Classes that are alike among two lists of loaded packages.
use Rattle.std.proofs.Common.{◌≡◌, ℕ, zero, suc, ◌==◌, ◌&&◌, ◌||◌, ◌/◌, List, ◌∷◌, Option, Some, None, refl, ap, ◌∙◌}
use Rattle.std.specs.Prelude.{is_some}
use Rattle.std.specs.List.{list_any}
use Rattle.std.specs.Option.{option_and_then}
use Rattle.jc_platform.specs.declared.names.PlatformClass.TheVariants.{Shareable}
use Rattle.jc_platform.specs.NamePlaces.{class_word}
use Rattle.jc_platform.specs.Platform.{class_by_word}
use Rattle.jc_cap.specs.declared.pool.VirtualToken.{VirtualToken}
use Rattle.jc_cap.specs.declared.pool.VirtualToken.TheVariants.{Public, PackageVisible}
use Rattle.jc_linker.specs.Classes.{any_is, any_reference, class_in, extends, extends_within, implements, interfaces_by, interfaces_in, is_below, is_class}
use Rattle.jc_linker.specs.Classes.{is_instantiable_class, is_instantiable_class_by, is_shareable, lineage, lineage_from, most_classes, own_reference}
use Rattle.jc_linker.specs.Classes.{reference_cell, size_by, size_of, stands_before, superclass_by, superclass_in}
use Rattle.jc_linker.specs.declared.target.Method.{Method}
use Rattle.jc_linker.specs.Methods.{implementation_by, implementation_in, interface_method_at, lookup_classes, method_at, method_in, method_by_class}
use Rattle.jc_linker.specs.Methods.{first_decided}
use Rattle.jc_linker.specs.Resolve.{interface_by, names_interface}
use Rattle.jc_linker.specs.Values.{PackageValue, Packages}
use Rattle.law_code.specs.ResolutionLaws.{ClassStays}
use Rattle.law_code.proofs.Lists.{AllOf, IfThere, all_filtered, any_alike, searched_alike, then_alike}

abbrev pub with_loaded : Packages → List PackageValue → Packages
with_loaded p loaded = record p { loaded = loaded }

-- good classes are the same in both, and what they name are good ones
pub record AreAlike (p new : Packages) (Good : ℕ → Type 0) : Type 0 where
  pub class : (w : ℕ) → Good w → class_in new w ≡ class_in p w
  pub above : (w : ℕ) → Good w → IfThere Good (superclass_in p w)
  pub interfaces : (w : ℕ) → Good w → AllOf (λ i. Good i.interface) (interfaces_in p w)

module _ (p : Packages) (loaded : List PackageValue) (Good : ℕ → Type 0) (alike : AreAlike p (with_loaded p loaded) Good) where
  abbrev new : Packages
  new = with_loaded p loaded

  pub superclass_alike : (w : ℕ) → Good w → superclass_in new w ≡ superclass_in p w
  unfolding superclass_in
  superclass_alike w good = ap (λ c. superclass_by p c (class_by_word p.platform w)) (alike.class w good)

  pub interfaces_alike : (w : ℕ) → Good w → interfaces_in new w ≡ interfaces_in p w
  unfolding interfaces_in
  interfaces_alike w good = ap (λ c. interfaces_by p c (class_by_word p.platform w)) (alike.class w good)

  pub is_class_alike : (w : ℕ) → Good w → is_class new w ≡ is_class p w
  unfolding is_class
  is_class_alike w good = ap (λ c. is_some c || is_some (class_by_word p.platform w)) (alike.class w good)

  pub interface_alike : (w : ℕ) → Good w → names_interface new w ≡ names_interface p w
  unfolding names_interface
  interface_alike w good = ap (λ c. interface_by c (class_by_word p.platform w)) (alike.class w good)

  pub size_alike : (w : ℕ) → Good w → size_of new w ≡ size_of p w
  unfolding size_of
  size_alike w good = ap (λ c. size_by c (class_by_word p.platform w)) (alike.class w good)

  pub made_alike : (w : ℕ) → Good w → is_instantiable_class new w ≡ is_instantiable_class p w
  unfolding is_instantiable_class
  made_alike w good = ap (λ c. is_instantiable_class_by c (class_by_word p.platform w)) (alike.class w good)

  -- ---- classes above

  from_alike : (n : ℕ) (o : Option ℕ) → IfThere Good o → lineage_from new n o ≡ lineage_from p n o
  unfolding lineage_from
  from_alike zero o good = refl
  from_alike (suc n) None good = refl
  from_alike (suc n) (Some w) good = ap (λ l. w ∷ l) (ap (lineage_from new n) (superclass_alike w good) ∙ from_alike n (superclass_in p w) (alike.above w good))

  from_good : (n : ℕ) (o : Option ℕ) → IfThere Good o → AllOf Good (lineage_from p n o)
  unfolding lineage_from
  from_good zero o good = tt
  from_good (suc n) None good = tt
  from_good (suc n) (Some w) good = (good, from_good n (superclass_in p w) (alike.above w good))

  lineage_alike : (w : ℕ) → Good w → lineage new w ≡ lineage p w
  lineage_alike w good = from_alike most_classes (Some w) good

  lineage_good : (w : ℕ) → Good w → AllOf Good (lineage p w)
  lineage_good w good = from_good most_classes (Some w) good

  -- ---- subtypes

  extends_alike : (of n w : ℕ) → Good w → extends_within new of n w ≡ extends_within p of n w
  unfolding extends_within
  extends_alike of zero w good = refl
  extends_alike of (suc n) w good =
      ap (λ l. list_any (λ i. i.interface == of || (stands_before i.interface w && extends_within new of n i.interface)) l) (interfaces_alike w good)
      ∙ any_alike (λ i. Good i.interface) (λ i. i.interface == of || (stands_before i.interface w && extends_within new of n i.interface))
      (λ i. i.interface == of || (stands_before i.interface w && extends_within p of n i.interface)) (interfaces_in p w) (alike.interfaces w good)
      (λ i each. ap (λ b. i.interface == of || (stands_before i.interface w && b)) (extends_alike of n i.interface each))

  implements_alike : (of w : ℕ) → Good w → implements new w of ≡ implements p w of
  unfolding implements
  implements_alike of w good =
      ap (λ l. list_any (λ i. i.interface == of || extends new i.interface of) l) (interfaces_alike w good)
      ∙ any_alike (λ i. Good i.interface) (λ i. i.interface == of || extends new i.interface of) (λ i. i.interface == of || extends p i.interface of)
      (interfaces_in p w) (alike.interfaces w good)
      (λ i each. ap (λ b. i.interface == of || b) (extends_alike of most_classes i.interface each))

  any_is_alike : (of : ℕ) (cs : List ℕ) → AllOf Good cs → any_is new of cs ≡ any_is p of cs
  unfolding any_is
  any_is_alike of cs good = any_alike Good (λ c. c == of || implements new c of) (λ c. c == of || implements p c of) cs good
      (λ c each. ap (λ b. c == of || b) (implements_alike of c each))

  pub below_alike : (w of : ℕ) → Good w → is_below new w of ≡ is_below p w of
  unfolding is_below
  below_alike w of good = ap (any_is new of) (lineage_alike w good) ∙ any_is_alike of (lineage p w) (lineage_good w good)

  shareable_alike : (w : ℕ) → Good w → is_shareable new w ≡ is_shareable p w
  unfolding is_shareable
  shareable_alike w good = below_alike w (class_word p.platform Shareable) good

  -- ---- cells

  any_reference_alike : (cell : ℕ) (cs : List ℕ) → AllOf Good cs → any_reference new cell cs ≡ any_reference p cell cs
  unfolding any_reference
  any_reference_alike cell cs good =
      any_alike Good (λ c. own_reference (class_in new c) (class_by_word p.platform c) cell)
      (λ c. own_reference (class_in p c) (class_by_word p.platform c) cell) cs good
      (λ c each. ap (λ v. own_reference v (class_by_word p.platform c) cell) (alike.class c each))

  references_alike : (w cell : ℕ) → Good w → reference_cell new w cell ≡ reference_cell p w cell
  unfolding reference_cell
  references_alike w cell good = ap (any_reference new cell) (lineage_alike w good) ∙ any_reference_alike cell (lineage p w) (lineage_good w good)

  -- ---- methods

  method_in_alike : (token : VirtualToken) (w : ℕ) → Good w → method_in new token w ≡ method_in p token w
  unfolding method_in
  method_in_alike token w good = ap (λ c. method_by_class p token w c (class_by_word p.platform w)) (alike.class w good) ∙ refl

  looked_up_good : (token : VirtualToken) (number : ℕ) (cs : List ℕ) → AllOf Good cs → AllOf Good (lookup_classes token number cs)
  looked_up_good (Public token) number cs good = good
  looked_up_good (PackageVisible token) number cs good = all_filtered Good (λ c. c / 256 == number) cs good

  pub method_alike : (w number : ℕ) (token : VirtualToken) → Good w → method_at new w number token ≡ method_at p w number token
  unfolding method_at
  method_alike w number token good =
      ap (λ l. first_decided (method_in new token) (lookup_classes token number l)) (lineage_alike w good)
      ∙ searched_alike Good (method_in new token) (method_in p token) (lookup_classes token number (lineage p w))
      (looked_up_good token number (lineage p w) (lineage_good w good)) (λ c each. method_in_alike token c each)

  carried_alike : (of token w : ℕ) → Good w → implementation_in new of token w ≡ implementation_in p of token w
  unfolding implementation_in
  carried_alike of token w good = ap (λ c. implementation_by p of token c (class_by_word p.platform w)) (alike.class w good)

  interface_method_alike : (w of token : ℕ) → Good w → interface_method_at new w of token ≡ interface_method_at p w of token
  unfolding interface_method_at
  interface_method_alike w of token good =
      ap (λ l. option_and_then (virtual new) (first_decided (implementation_in new of token) l)) (lineage_alike w good)
      ∙ ap (option_and_then (virtual new)) (searched_alike Good (implementation_in new of token) (implementation_in p of token) (lineage p w)
      (lineage_good w good) (λ c each. carried_alike of token c each))
      ∙ then_alike (λ own. Unit {0}) (virtual new) (virtual p) (first_decided (implementation_in p of token) (lineage p w))
      (anything (first_decided (implementation_in p of token) (lineage p w))) (λ own none. method_alike w 0 (Public own) good)
    where
      virtual : Packages → ℕ → Option Method
      virtual q own = method_at q w 0 (Public own)

      anything : (o : Option ℕ) → IfThere (λ own. Unit {0}) o
      anything None = tt
      anything (Some own) = tt

  pub class_stays : (w : ℕ) → Good w → ClassStays p new w
  class_stays w good = record {
    there = is_class_alike w good;
    above = superclass_alike w good;
    below = λ of. below_alike w of good;
    interface = interface_alike w good;
    shareable = shareable_alike w good;
    size = size_alike w good;
    made = made_alike w good;
    references = λ cell. references_alike w cell good;
    methods = λ number token. method_alike w number token good;
    interface_methods = λ of token. interface_method_alike w of token good;
  }
