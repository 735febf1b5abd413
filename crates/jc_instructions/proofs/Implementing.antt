-- A class that has no such interface carries none of its methods out.
use Rattle.std.proofs.Common.{◌≡◌, ◌∙◌, ◌==◌, ◌||◌, ℕ, Bool, true, false, List, [], ◌∷◌, refl, ap, sym}
use Rattle.std.specs.Prelude.{Option, Some, None, find, if◌then◌else◌}
use Rattle.std.specs.List.{list_any}
use Rattle.std.specs.Option.{option_and_then, option_map}
use Rattle.std.proofs.lemmas.Bool.{false≢true}
use Rattle.jc_platform.specs.declared.names.MethodKind.TheVariants as kinds
use Rattle.jc_platform.specs.declared.names.PlatformClass.{PlatformClass}
use Rattle.jc_platform.specs.NamePlaces.{class_word}
use Rattle.jc_platform.specs.Hierarchy.{implementation_of, interfaces_of}
use Rattle.jc_platform.specs.Platform.{class_by_word, method_by_token}
use Rattle.jc_cap.specs.declared.pool.VirtualToken.TheVariants.{Public}
use Rattle.jc_linker.specs.Classes.{any_is, class_in, extends, implements, interfaces_by, interfaces_in, is_below, lineage, platform_interfaces}
use Rattle.jc_linker.specs.Methods.{by_token, first_decided, found_or_above, implementation_by, implementation_in, in_list, interface_method_at, method_at}
use Rattle.jc_linker.specs.Methods.{native_implementation, token_of}
use Rattle.jc_linker.specs.Values.{ClassValue, Implementation, Packages}

neither : (a b : Bool) → (a || b) ≡ false → (a ≡ false) × (b ≡ false)
neither true b e = absurd (false≢true (sym e))
neither false b e = (refl, e)

module _ (p : Packages) (of token : ℕ) where
  -- a list of which none is the interface
  none_found : (xs : List Implementation) → list_any (λ i. i.interface == of || extends p i.interface of) xs ≡ false → find (λ i. i.interface == of) xs ≡ None
  none_found [] e = refl
  none_found (x ∷ xs) e =
      let two = neither (x.interface == of || extends p x.interface of) (list_any (λ i. i.interface == of || extends p i.interface of) xs) e in
      let here = neither (x.interface == of) (extends p x.interface of) two.0 in
      ap (λ b. if b then Some x else find (λ i. i.interface == of) xs) here.0 ∙ none_found xs two.1

  by_listed : (is : List PlatformClass) → list_any (λ i. i.interface == of || extends p i.interface of) (platform_interfaces p is) ≡ false
      → found_or_above (native_implementation p of token is) None ≡ None
  by_listed [] e = refl
  by_listed (k ∷ is) e =
      let two = neither (class_word p.platform k == of || extends p (class_word p.platform k) of)
      (list_any (λ i. i.interface == of || extends p i.interface of) (platform_interfaces p is)) e in
      let here = neither (class_word p.platform k == of) (extends p (class_word p.platform k) of) two.0 in
      ap (λ b. found_or_above (if b then by_token (option_map (token_of p) (option_and_then implementation_of
      (method_by_token p.platform k kinds.Interface token))) else native_implementation p of token is) None) here.0 ∙ by_listed is two.1

  by_class : (c : Option ClassValue) (named : Option PlatformClass) → list_any (λ i. i.interface == of || extends p i.interface of) (interfaces_by p c named) ≡ false
      → found_or_above (implementation_by p of token c named) None ≡ None
  by_class (Some c) named e = ap (λ i. found_or_above (in_list token i) None) (none_found c.interfaces e)
  by_class None None e = refl
  by_class None (Some c) e = by_listed (interfaces_of c) e

  none_decided : (cs : List ℕ) → any_is p of cs ≡ false → first_decided (implementation_in p of token) cs ≡ None
  unfolding any_is first_decided implements implementation_in interfaces_in
  none_decided [] e = refl
  none_decided (c ∷ cs) e =
      let two = neither (c == of || implements p c of) (any_is p of cs) e in
      ap (found_or_above (implementation_in p of token c)) (none_decided cs two.1)
      ∙ by_class (class_in p c) (class_by_word p.platform c) (neither (c == of) (implements p c of) two.0).1

pub not_implemented : (p : Packages) (class of token : ℕ) → is_below p class of ≡ false → interface_method_at p class of token ≡ None
unfolding is_below interface_method_at
not_implemented p class of token e = ap (option_and_then (λ own. method_at p class 0 (Public own))) (none_decided p of token (lineage p class) e)
