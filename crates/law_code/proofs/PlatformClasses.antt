-- The platform's classes: what stands above them, and that calls on their instances find no method in bytecode.
use Rattle.std.proofs.Common.{◌≡◌, ℕ, zero, suc, ◌/◌, ◌≤◌, ◌==◌, inl, inr, ◌||◌, true, List, [], Option, Some, None, length, refl, sym, subst, ap, ◌∙◌}
use Rattle.std.proofs.lemmas.Bool.{eqb-true, false≢true, or_cases}
use Rattle.std.proofs.lemmas.Option.{none-some, option_and_then_some, same_Some}
use Rattle.std.specs.List.{list_any}
use Rattle.jc_platform.specs.declared.names.MethodKind.TheVariants as kinds
use Rattle.jc_platform.specs.declared.names.PlatformClass.{PlatformClass}
use Rattle.jc_platform.specs.declared.names.PlatformClass.TheVariants.{Object}
use Rattle.jc_platform.specs.declared.names.PlatformMethod.{PlatformMethod}
use Rattle.jc_platform.specs.declared.names.PlatformPackage.TheVariants.{JavaLang}
use Rattle.jc_platform.specs.NamePlaces.{class_word, home_of}
use Rattle.jc_platform.specs.Names.{classes}
use Rattle.jc_platform.specs.Hierarchy.{interfaces_of, superclass_of}
use Rattle.jc_platform.specs.Platform.{TellNames, class_by_word, method_by_token}
use Rattle.jc_cap.specs.declared.pool.VirtualToken.{VirtualToken}
use Rattle.jc_cap.specs.declared.pool.VirtualToken.TheVariants.{PackageVisible, Public}
use Rattle.jc_linker.specs.declared.search.Search.{Search}
use Rattle.jc_linker.specs.declared.search.Search.TheVariants.{Found}
use Rattle.jc_linker.specs.declared.target.Method.{Method}
use Rattle.jc_linker.specs.declared.target.Method.TheVariants.{Code}
use Rattle.jc_linker.specs.Classes.{any_is, class_in, extends, implements, interfaces_by, interfaces_in, is_below, lineage, lineage_from, most_classes}
use Rattle.jc_linker.specs.Classes.{superclass_in, is_a}
use Rattle.jc_linker.specs.declared.target.Target.TheVariants.{VirtualMethod}
use Rattle.jc_linker.specs.Lookups.{target_at}
use Rattle.jc_linker.specs.Methods.{implementation_in, if_native, interface_method_at, lookup_classes, method_at, method_in, method_by_class, first_decided}
use Rattle.jc_linker.specs.Values.{ClassValue, Packages}
use Rattle.law_code.proofs.Fields.{IsHigh, below_high, lineage_high, no_class}
use Rattle.law_code.proofs.Lists.{AllOf, all_filtered}
use Rattle.law_code.proofs.Numbers.{word_high}
use Rattle.law_code.specs.ReadPackages.{HasByteTokens}
use Rattle.law_code.proofs.Nameless.{names_none, token_or_none}
use Rattle.law_code.proofs.CellOrder.{named, not_loaded, platform_above}
use Rattle.law_code.proofs.ClassFacts.{language_needed}
use Rattle.law_code.proofs.Tokens.{HasToken}
use Rattle.law_code.specs.Platform.{KeepsPlatform}
use Rattle.law_code.proofs.PlatformSearches.{found_in, one_and_all}

-- ---- no method in bytecode

abbrev code : ℕ → ℕ → Search Method
code home offset = Found (Code home offset)

native_no_code : (o : Option PlatformMethod) (home offset : ℕ) → if_native o ≡ code home offset → ⊥
native_no_code None home offset e = absurd cc
native_no_code (Some m) home offset e = absurd cc

said_no_code : (p : Packages) (token : VirtualToken) (w : ℕ) (o : Option ClassValue) (other : Option PlatformClass) (home offset : ℕ)
    → ((c : ClassValue) → o ≡ Some c → ⊥) → method_by_class p token w o other ≡ code home offset → ⊥
said_no_code p token w (Some c) other home offset none e = none c refl
said_no_code p (Public token) w None None home offset none e = absurd cc
said_no_code p (PackageVisible token) w None None home offset none e = absurd cc
said_no_code p (Public token) w None (Some c) home offset none e = native_no_code (method_by_token p.platform c kinds.Virtual token) home offset e
said_no_code p (PackageVisible token) w None (Some c) home offset none e = absurd cc

looked_up_high : (token : VirtualToken) (number : ℕ) (cs : List ℕ) → AllOf IsHigh cs → AllOf IsHigh (lookup_classes token number cs)
looked_up_high (Public token) number cs high = high
looked_up_high (PackageVisible token) number cs high = all_filtered IsHigh (λ c. c / 256 == number) cs high

-- what entries for virtual calls name their classes have
abbrev HasItsMethods : Packages → Type 0
HasItsMethods p = (number index class : ℕ) (token : VirtualToken) (m : Method) → target_at p number index ≡ Some (VirtualMethod class token m)
    → method_at p class (class / 256) token ≡ Some m

module _ (p : Packages) (few : length p.loaded ≤ 32) where
  method_no_code : (token : VirtualToken) (w home offset : ℕ) → method_in p token w ≡ code home offset → IsHigh w → ⊥
  unfolding method_in
  method_no_code token w home offset e high = said_no_code p token w (class_in p w) (class_by_word p.platform w) home offset (no_class p w few high) e

  high_no_code : (w : ℕ) → IsHigh w → (number : ℕ) (token : VirtualToken) (home offset : ℕ) → method_at p w number token ≡ Some (Code home offset) → ⊥
  unfolding method_at
  high_no_code w high number token home offset is =
      let cs : List ℕ = lookup_classes token number (lineage p w) in
      one_and_all (λ c. method_in p token c ≡ code home offset) IsHigh ⊥ cs (found_in (method_in p token) (Code home offset) cs is)
      (looked_up_high token number (lineage p w) (lineage_high p few most_classes (Some w) high))
      (λ c found above. method_no_code token c home offset found above)

  virtual_no_code : (of : PlatformClass) (number : ℕ) (token : VirtualToken) (home offset : ℕ)
      → method_at p (class_word p.platform of) number token ≡ Some (Code home offset) → ⊥
  virtual_no_code of = high_no_code (class_word p.platform of) (word_high p.platform of)

  entry_no_code : HasItsMethods p → (of : PlatformClass) (number index class : ℕ) (token : VirtualToken) (home offset : ℕ)
      → target_at p number index ≡ Some (VirtualMethod class token (Code home offset)) → is_below p (class_word p.platform of) class ≡ true → ⊥
  entry_no_code its of number index class token home offset is below =
      high_no_code class (below_high p few (class_word p.platform of) class (word_high p.platform of) below) (class / 256) token home offset
      (its number index class token (Code home offset) is)

  interface_no_code : (of : PlatformClass) (interface token home offset : ℕ) → interface_method_at p (class_word p.platform of) interface token
      ≡ Some (Code home offset) → ⊥
  unfolding interface_method_at
  interface_no_code of interface token home offset is = option_and_then_some (λ own. method_at p (class_word p.platform of) 0 (Public own))
      (first_decided (implementation_in p interface token) (lineage p (class_word p.platform of))) (Code home offset) is
      (λ own at more. virtual_no_code of 0 (Public own) home offset more)

  pub keeps_platform : HasItsMethods p → KeepsPlatform p
  keeps_platform its = record { virtually = virtual_no_code; by_interface = interface_no_code; by_entry = entry_no_code its }

-- ---- above Object is no class

module _ (p : Packages) (few : length p.loaded ≤ 32) (names : TellNames p.platform) (bytes : HasByteTokens p.platform) where
  abbrev top : ℕ
  top = class_word p.platform Object

  object_home : home_of Object ≡ JavaLang
  unfolding classes
  object_home = refl

  object_stands : HasToken p.platform Object
  object_stands = names.needed_classes Object (language_needed Object object_home)

  top_alone : superclass_in p top ≡ None
  unfolding superclass_of classes
  top_alone = platform_above p few names bytes Object object_stands

  top_lists_none : interfaces_in p top ≡ []
  unfolding interfaces_in interfaces_of classes
  top_lists_none = ap (λ o. interfaces_by p o (class_by_word p.platform top)) (not_loaded p few names bytes Object)
      ∙ ap (interfaces_by p None) (named p few names bytes Object object_stands)

  top_implements_none : (of : ℕ) → implements p top of ≡ true → ⊥
  unfolding implements
  top_implements_none of e = false≢true (ap (list_any (λ i. i.interface == of || extends p i.interface of)) (sym top_lists_none) ∙ e)

  nothing_above : (of n : ℕ) → any_is p of (lineage_from p n (superclass_in p top)) ≡ true → ⊥
  unfolding any_is lineage_from
  nothing_above of n e = none_in n (subst (λ o. any_is p of (lineage_from p n o) ≡ true) top_alone e)
    where
      none_in : (m : ℕ) → any_is p of (lineage_from p m None) ≡ true → ⊥
      none_in zero is = false≢true is
      none_in (suc m) is = false≢true is

  top_is : (of n : ℕ) → any_is p of (lineage_from p n (Some top)) ≡ true → top ≡ of
  unfolding any_is lineage_from
  top_is of zero e = absurd (false≢true e)
  top_is of (suc n) e = elim (or_cases (top == of || implements p top of) (any_is p of (lineage_from p n (superclass_in p top))) e) [
    | inl here ↦ elim (or_cases (top == of) (implements p top of) here) [
      | inl same ↦ eqb-true top of same
      | inr implemented ↦ absurd (top_implements_none of implemented)
    ]
    | inr more ↦ absurd (nothing_above of n more)
  ]

  -- a class whose word is Object's stands, and is Object
  its_token : (of : PlatformClass) → top ≡ class_word p.platform of → HasToken p.platform of
  its_token of same = elim (token_or_none p.platform of) [
    | inl there ↦ there
    | inr is ↦ absurd (none-some Object (sym (names_none p.platform) ∙ ap (class_by_word p.platform) (sym (same ∙ is))
        ∙ named p few names bytes Object object_stands))
  ]

  pub above_none : (of : PlatformClass) → is_a p top of ≡ true → of ≡ Object
  unfolding is_below
  above_none of e =
      let same : top ≡ class_word p.platform of = top_is (class_word p.platform of) most_classes e in
      let stands : HasToken p.platform of = its_token of same in
      same_Some of Object (sym (named p few names bytes of stands) ∙ ap (class_by_word p.platform) (sym same) ∙ named p few names bytes Object object_stands)
