-- Entries that resolve alike among two lists of loaded packages.
use Rattle.std.proofs.Common.{◌≡◌, ℕ, ◌/◌, List, [], Option, Some, None, refl, sym, ap, ◌∙◌, if◌then◌else◌}
use Rattle.std.specs.Prelude.{slice_get}
use Rattle.std.specs.Option.{option_map, option_and_then}
use Rattle.jc_cap.specs.declared.class_refs.ClassRef.{ClassRef}
use Rattle.jc_cap.specs.declared.class_refs.ClassRef.TheVariants as refs
use Rattle.jc_cap.specs.declared.pool.Entry.{Entry}
use Rattle.jc_cap.specs.declared.pool.Entry.TheVariants as entries
use Rattle.jc_cap.specs.declared.pool.StaticRef.TheVariants as statics
use Rattle.jc_cap.specs.declared.pool.VirtualToken.{VirtualToken}
use Rattle.jc_linker.specs.declared.target.Target.{Target}
use Rattle.jc_linker.specs.declared.target.Target.TheVariants as targets
use Rattle.jc_linker.specs.Classes.{package_in, superclass_in}
use Rattle.jc_linker.specs.Methods.{method_at}
use Rattle.jc_linker.specs.Resolve.{class_at_offset, class_by, class_named, class_of, class_with_token, export_of, field_of, field_target, foreign_field}
use Rattle.jc_linker.specs.Resolve.{foreign_method, import_of, import_by_token, names_interface, resolution, static_method_by, super_target, virtual_target}
use Rattle.jc_linker.specs.Values.{PackageValue, Packages}
use Rattle.law_code.proofs.Lists.{IfThere, then_alike, then_there}
use Rattle.law_code.proofs.Alike.{AreAlike, with_loaded, interface_alike, method_alike, superclass_alike}

-- a package without what its entries resolve to
abbrev pub bare : Option PackageValue → Option PackageValue
bare None = None
bare (Some q) = Some (record q { targets = [] })

-- packages of good numbers are the same in both, but for what their entries resolve to; and what they name is good
pub record NamesAlike (p new : Packages) (Good GoodNumber : ℕ → Type 0) : Type 0 where
  pub packages : (n : ℕ) → GoodNumber n → bare (package_in new n) ≡ bare (package_in p n)
  pub imports : (n token : ℕ) → GoodNumber n → IfThere GoodNumber (import_by_token p n token)
  pub named : (n token : ℕ) → GoodNumber n → IfThere Good (class_with_token p n token)
  pub offsets : (n offset : ℕ) → GoodNumber n → IfThere Good (class_at_offset p n offset)

-- ---- what is read of a package is read of it bare

import_bare : (o : Option PackageValue) (token : ℕ) → import_of o token ≡ import_of (bare o) token
import_bare None token = refl
import_bare (Some q) token = refl

class_bare : (number offset : ℕ) (o : Option PackageValue) → class_of number o offset ≡ class_of number (bare o) offset
class_bare number offset None = refl
class_bare number offset (Some q) = refl

token_bare : (p : Packages) (number token : ℕ) (o : Option PackageValue) → class_by p number token o ≡ class_by p number token (bare o)
token_bare p number token None = refl
token_bare p number token (Some q) = refl

export_bare : (token : ℕ) (o : Option PackageValue) → option_and_then (λ q. slice_get q.exports token) o
    ≡ option_and_then (λ q. slice_get q.exports token) (bare o)
export_bare token None = refl
export_bare token (Some q) = refl

-- ---- the same by both

module _ (p : Packages) (loaded : List PackageValue) (Good GoodNumber : ℕ → Type 0) (alike : AreAlike p (with_loaded p loaded) Good)
    (names : NamesAlike p (with_loaded p loaded) Good GoodNumber) where
  abbrev new : Packages
  new = with_loaded p loaded

  import_alike : (n token : ℕ) → GoodNumber n → import_by_token new n token ≡ import_by_token p n token
  unfolding import_by_token
  import_alike n token good = import_bare (package_in new n) token ∙ ap (λ o. import_of o token) (names.packages n good)
      ∙ sym (import_bare (package_in p n) token)

  offset_alike : (n offset : ℕ) → GoodNumber n → class_at_offset new n offset ≡ class_at_offset p n offset
  unfolding class_at_offset
  offset_alike n offset good = class_bare n offset (package_in new n) ∙ ap (λ o. class_of n o offset) (names.packages n good)
      ∙ sym (class_bare n offset (package_in p n))

  pub token_alike : (n token : ℕ) → GoodNumber n → class_with_token new n token ≡ class_with_token p n token
  unfolding class_with_token
  token_alike n token good = token_bare p n token (package_in new n) ∙ ap (class_by p n token) (names.packages n good)
      ∙ sym (token_bare p n token (package_in p n))

  export_alike : (n token : ℕ) → GoodNumber n → export_of new n token ≡ export_of p n token
  unfolding export_of
  export_alike n token good = export_bare token (package_in new n) ∙ ap (option_and_then (λ q. slice_get q.exports token)) (names.packages n good)
      ∙ sym (export_bare token (package_in p n))

  -- ---- classes that are named

  named_alike : (n : ℕ) (r : ClassRef) → GoodNumber n → class_named new n r ≡ class_named p n r
  unfolding class_named
  named_alike n (refs.Internal offset) good = offset_alike n offset good
  named_alike n (refs.External package_token class_token) good =
      ap (option_and_then (λ m. class_with_token new m class_token)) (import_alike n package_token good)
      ∙ then_alike GoodNumber (λ m. class_with_token new m class_token) (λ m. class_with_token p m class_token) (import_by_token p n package_token)
      (names.imports n package_token good) (λ m each. token_alike m class_token each)

  named_good : (n : ℕ) (r : ClassRef) → GoodNumber n → IfThere Good (class_named p n r)
  unfolding class_named
  named_good n (refs.Internal offset) good = names.offsets n offset good
  named_good n (refs.External package_token class_token) good =
      then_there GoodNumber Good (λ m. class_with_token p m class_token) (import_by_token p n package_token) (names.imports n package_token good)
      (λ m each. names.named m class_token each)

  -- ---- what is found in them

  field_alike : (token w : ℕ) → Good w → field_target new token w ≡ field_target p token w
  unfolding field_target
  field_alike token w good = ap (option_and_then (field_of w token)) (alike.class w good)

  virtual_alike : (token : VirtualToken) (w : ℕ) → Good w → virtual_target new token w ≡ virtual_target p token w
  unfolding virtual_target
  virtual_alike token w good =
      ap (λ b. if b then None else option_map (targets.VirtualMethod w token) (method_at new w (w / 256) token)) (interface_alike p loaded Good alike w good)
      ∙ ap (λ m. if names_interface p w then None else option_map (targets.VirtualMethod w token) m) (method_alike p loaded Good alike w (w / 256) token good)

  super_alike : (token : VirtualToken) (w : ℕ) → Good w → super_target new token w ≡ super_target p token w
  unfolding super_target
  super_alike token w good =
      ap (option_and_then (λ above. option_map (targets.SuperMethod w) (method_at new above (w / 256) token))) (superclass_alike p loaded Good alike w good)
      ∙ then_alike Good (λ above. option_map (targets.SuperMethod w) (method_at new above (w / 256) token))
      (λ above. option_map (targets.SuperMethod w) (method_at p above (w / 256) token)) (superclass_in p w) (alike.above w good)
      (λ above each. ap (option_map (targets.SuperMethod w)) (method_alike p loaded Good alike above (w / 256) token each))

  foreign_field_alike : (class_token token n : ℕ) → GoodNumber n → foreign_field new class_token token n ≡ foreign_field p class_token token n
  unfolding foreign_field
  foreign_field_alike class_token token n good = ap (option_and_then (λ e. option_map (targets.StaticField n) (slice_get e.field_offsets token)))
      (export_alike n class_token good)

  foreign_method_alike : (class_token token n : ℕ) → GoodNumber n → foreign_method new class_token token n ≡ foreign_method p class_token token n
  unfolding foreign_method
  foreign_method_alike class_token token n good =
      ap (λ e. option_and_then (λ class. option_map (targets.StaticMethod (Some class)) (static_method_by p n class token e))
      (class_with_token new n class_token)) (export_alike n class_token good)
      ∙ ap (option_and_then (λ class. option_map (targets.StaticMethod (Some class)) (static_method_by p n class token (export_of p n class_token))))
      (token_alike n class_token good)

  -- ---- entries

  by_class : (f g : ℕ → Option Target) (n : ℕ) (c : ClassRef) → GoodNumber n → ((w : ℕ) → Good w → f w ≡ g w)
      → option_and_then f (class_named new n c) ≡ option_and_then g (class_named p n c)
  by_class f g n c good same = ap (option_and_then f) (named_alike n c good) ∙ then_alike Good f g (class_named p n c) (named_good n c good) same

  by_import : (f g : ℕ → Option Target) (n token : ℕ) → GoodNumber n → ((m : ℕ) → GoodNumber m → f m ≡ g m)
      → option_and_then f (import_by_token new n token) ≡ option_and_then g (import_by_token p n token)
  by_import f g n token good same = ap (option_and_then f) (import_alike n token good)
      ∙ then_alike GoodNumber f g (import_by_token p n token) (names.imports n token good) same

  pub resolves_alike : (n : ℕ) (e : Entry) → GoodNumber n → resolution new n e ≡ resolution p n e
  unfolding resolution
  resolves_alike n (entries.Class c) good = ap (option_map targets.Class) (named_alike n c good)
  resolves_alike n (entries.InstanceField c token) good = by_class (field_target new token) (field_target p token) n c good (λ w each. field_alike token w each)
  resolves_alike n (entries.VirtualMethod c token) good = by_class (virtual_target new token) (virtual_target p token) n c good
      (λ w each. virtual_alike token w each)
  resolves_alike n (entries.SuperMethod c token) good = by_class (super_target new token) (super_target p token) n c good (λ w each. super_alike token w each)
  resolves_alike n (entries.StaticField (statics.Internal offset)) good = refl
  resolves_alike n (entries.StaticField (statics.External package_token class_token token)) good =
      by_import (foreign_field new class_token token) (foreign_field p class_token token) n package_token good
      (λ m each. foreign_field_alike class_token token m each)
  resolves_alike n (entries.StaticMethod (statics.Internal offset)) good = refl
  resolves_alike n (entries.StaticMethod (statics.External package_token class_token token)) good =
      by_import (foreign_method new class_token token) (foreign_method p class_token token) n package_token good
      (λ m each. foreign_method_alike class_token token m each)
