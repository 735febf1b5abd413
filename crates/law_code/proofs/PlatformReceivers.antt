-- By whom methods of the platform are reached.
use Rattle.std.proofs.Common.{◌≡◌, inl, inr, ℕ, ◌-◌, ◌/◌, ◌==◌, ◌||◌, Bool, true, false, List, [], ◌∷◌, Option, Some, None, refl, sym, subst, ap, ◌∙◌, arith}
use Rattle.std.proofs.Common.{if◌then◌else◌}
use Rattle.std.specs.Prelude.{filter, nat_lt, slice_get}
use Rattle.std.specs.List.{list_any}
use Rattle.std.specs.Option.{option_map, option_and_then}
use Rattle.std.proofs.lemmas.Bool.{eq-eqb, or_cases, or_left, or_right}
use Rattle.std.proofs.lemmas.Option.{none-some, same_Some}
use Rattle.jc_platform.specs.declared.names.MethodKind.{MethodKind}
use Rattle.jc_platform.specs.declared.names.MethodKind.TheVariants as kinds
use Rattle.jc_platform.specs.declared.names.PlatformClass.{PlatformClass}
use Rattle.jc_platform.specs.declared.names.PlatformMethod.{PlatformMethod}
use Rattle.jc_platform.specs.NamePlaces.{class_of, class_word, kind_of_method}
use Rattle.jc_platform.specs.Numbers.{kind_number}
use Rattle.jc_platform.specs.Platform.{class_by_word, method_by_token}
use Rattle.jc_cap.specs.declared.pool.VirtualToken.{VirtualToken}
use Rattle.jc_cap.specs.declared.pool.VirtualToken.TheVariants.{PackageVisible, Public}
use Rattle.jc_linker.specs.declared.search.Search.{Search}
use Rattle.jc_linker.specs.declared.search.Search.TheVariants.{Above, Found, Nowhere}
use Rattle.jc_linker.specs.declared.target.Method.{Method}
use Rattle.jc_linker.specs.declared.target.Method.TheVariants.{Code, Native}
use Rattle.jc_linker.specs.declared.target.Target.{Target}
use Rattle.jc_linker.specs.declared.target.Target.TheVariants as targets
use Rattle.jc_linker.specs.Classes.{any_is, class_in, implements, is_below, lineage, is_a}
use Rattle.jc_linker.specs.Lookups.{target_at}
use Rattle.jc_linker.specs.Methods.{by_offset, if_native, in_table, lookup_classes, method_at, method_in, method_by_class, first_decided, found_or_above}
use Rattle.jc_linker.specs.Resolve.{class_named as named_class, class_with_token, export_of, foreign_method, static_method_by}
use Rattle.jc_linker.specs.Values.{ClassValue, Export, MethodTable, Packages}
use Rattle.jc_linker.specs.Values.{LinkerComponents}
use Rattle.law_code.specs.LinkedPackages.{AreLinked}
use Rattle.law_code.proofs.EntryTargets.{entered}
use Rattle.law_code.proofs.Fields.{any_field, any_super, mapped_there, of_entry, some_there}
use Rattle.law_code.proofs.Lists.{IfThere}
use Rattle.law_code.proofs.Tokens.{place_of_method, word_of_class}

-- ---- by token

abbrev pub native : PlatformMethod → Search Method
native m = Found (Native m)

offset_never : (n : ℕ) (o : Option ℕ) (m : PlatformMethod) → by_offset n o ≡ native m → ⊥
offset_never n None m e = absurd cc
offset_never n (Some offset) m e = by_end (offset == 65535) e
  where
    by_end : (b : Bool) → (if b then Above else Found (Code n offset)) ≡ native m → ⊥
    by_end true is = absurd cc
    by_end false is = absurd cc

table_never : (n : ℕ) (t : MethodTable) (token : ℕ) (m : PlatformMethod) → in_table n t token ≡ native m → ⊥
table_never n t token m e = by_base (nat_lt token t.base) e
  where
    by_base : (b : Bool) → (if b then Above else by_offset n (slice_get t.offsets (token - t.base))) ≡ native m → ⊥
    by_base true is = absurd cc
    by_base false is = offset_never n (slice_get t.offsets (token - t.base)) m is

found_native : (o : Option PlatformMethod) (m : PlatformMethod) → if_native o ≡ native m → o ≡ Some m
found_native None m e = absurd cc
found_native (Some x) m e = ap Some (same e)
  where
    same : native x ≡ native m → x ≡ m
    same is = cc

-- a method of the platform is a virtual one of the class with this word
abbrev pub IsOwnMethod : Packages → ℕ → PlatformMethod → Type 0
IsOwnMethod p w m = (w ≡ class_word p.platform (class_of m)) × (kind_number (kind_of_method m) ≡ kind_number kinds.Virtual)

said_native : (p : Packages) (token : VirtualToken) (w : ℕ) (m : PlatformMethod) (o : Option ClassValue) (other : Option PlatformClass)
    → class_by_word p.platform w ≡ other → method_by_class p token w o other ≡ native m → IsOwnMethod p w m
said_native p (Public token) w m (Some c) other at e = absurd (table_never (w / 256) c.public_methods token m e)
said_native p (PackageVisible token) w m (Some c) other at e = absurd (table_never (w / 256) c.package_methods token m e)
said_native p (Public token) w m None None at e = absurd cc
said_native p (PackageVisible token) w m None None at e = absurd cc
said_native p (Public token) w m None (Some c) at e =
    let place = place_of_method p.platform c kinds.Virtual token m (found_native (method_by_token p.platform c kinds.Virtual token) m e) in
    (word_of_class p.platform w c at ∙ ap (class_word p.platform) (sym place.0), place.1)
said_native p (PackageVisible token) w m None (Some c) at e = absurd cc

pub native_in : (p : Packages) (token : VirtualToken) (w : ℕ) (m : PlatformMethod) → method_in p token w ≡ native m → IsOwnMethod p w m
unfolding method_in
native_in p token w m e = said_native p token w m (class_in p w) (class_by_word p.platform w) refl e

native_of : (a : Method) (m : PlatformMethod) → Some a ≡ Some (Native m) → Found a ≡ native m
native_of a m e = ap (λ x. Found x) (same_Some a (Native m) e)

-- one more class, of which the search says this
one_more : (p : Packages) (token : VirtualToken) (m : PlatformMethod) (c : ℕ) (above : Option Method) (there : Bool) (s : Search Method)
    → method_in p token c ≡ s → (above ≡ Some (Native m) → there ≡ true) → found_or_above s above ≡ Some (Native m) →
    (c == class_word p.platform (class_of m) || implements p c (class_word p.platform (class_of m)) || there) ≡ true
one_more p token m c above there (Found a) at rest is =
    or_left (c == class_word p.platform (class_of m) || implements p c (class_word p.platform (class_of m))) there
    (or_left (c == class_word p.platform (class_of m)) (implements p c (class_word p.platform (class_of m)))
    (eq-eqb c (class_word p.platform (class_of m)) (native_in p token c m (at ∙ native_of a m is)).0))
one_more p token m c above there Above at rest is = or_right (c == class_word p.platform (class_of m) || implements p c (class_word p.platform (class_of m)))
    there (rest is)
one_more p token m c above there Nowhere at rest is = absurd (none-some (Native m) is)

searched_native : (p : Packages) (token : VirtualToken) (m : PlatformMethod) (cs : List ℕ) → first_decided (method_in p token) cs ≡ Some (Native m)
    → any_is p (class_word p.platform (class_of m)) cs ≡ true
unfolding first_decided any_is
searched_native p token m [] e = absurd (none-some (Native m) e)
searched_native p token m (c ∷ cs) e = one_more p token m c (first_decided (method_in p token) cs) (any_is p (class_word p.platform (class_of m)) cs)
    (method_in p token c) refl (searched_native p token m cs) e

kept_or_not : (test : Bool) (f : ℕ → Bool) (x : ℕ) (kept xs : List ℕ) → (list_any f kept ≡ true → list_any f xs ≡ true)
    → list_any f (if test then x ∷ kept else kept) ≡ true → (f x || list_any f xs) ≡ true
kept_or_not true f x kept xs more is = elim (or_cases (f x) (list_any f kept) is) [
  | inl first ↦ or_left (f x) (list_any f xs) first
  | inr rest ↦ or_right (f x) (list_any f xs) (more rest)
]
kept_or_not false f x kept xs more is = or_right (f x) (list_any f xs) (more is)

any_filtered : (f test : ℕ → Bool) (xs : List ℕ) → list_any f (filter test xs) ≡ true → list_any f xs ≡ true
any_filtered f test [] e = e
any_filtered f test (x ∷ xs) e = kept_or_not (test x) f x (filter test xs) xs (any_filtered f test xs) e

looked_up : (p : Packages) (of number : ℕ) (token : VirtualToken) (cs : List ℕ) → any_is p of (lookup_classes token number cs) ≡ true → any_is p of cs ≡ true
unfolding any_is
looked_up p of number (Public token) cs e = e
looked_up p of number (PackageVisible token) cs e = any_filtered (λ c. c == of || implements p c of) (λ c. c / 256 == number) cs e

pub by_token : (p : Packages) (class number : ℕ) (token : VirtualToken) (m : PlatformMethod) → method_at p class number token ≡ Some (Native m)
    → is_a p class (class_of m) ≡ true
unfolding method_at is_below
by_token p class number token m e = looked_up p (class_word p.platform (class_of m)) number token (lineage p class)
    (searched_native p token m (lookup_classes token number (lineage p class)) e)

-- ---- by an entry

-- a static method of the platform is named with its class
abbrev IsNamed : Packages → Target → Type 0
IsNamed p (targets.StaticMethod class (Native m)) = (class ≡ Some (class_word p.platform (class_of m))) × (kind_of_method m ≡ kinds.Static)
IsNamed p _ = Unit {0}

static_kind : (k : MethodKind) → kind_number k ≡ 0 → k ≡ kinds.Static
static_kind kinds.Static e = refl
static_kind kinds.Virtual e = absurd (omega (arith, e))
static_kind kinds.Interface e = absurd (omega (arith, e))

module _ (p : Packages) where
  native_named : (class token : ℕ) (c : PlatformClass) → class_by_word p.platform class ≡ Some c → (o : Option PlatformMethod)
      → method_by_token p.platform c kinds.Static token ≡ o → IfThere (λ m. IsNamed p (targets.StaticMethod (Some class) m)) (option_map Native o)
  native_named class token c at None is = tt
  native_named class token c at (Some m) is =
      let place = place_of_method p.platform c kinds.Static token m is in
      (ap Some (word_of_class p.platform class c at ∙ ap (class_word p.platform) (sym place.0)), static_kind (kind_of_method m) place.1)

  class_named : (class token : ℕ) (o : Option PlatformClass) → class_by_word p.platform class ≡ o
      → IfThere (λ m. IsNamed p (targets.StaticMethod (Some class) m)) (option_and_then
      (λ c. option_map Native (method_by_token p.platform c kinds.Static token)) o)
  class_named class token None at = tt
  class_named class token (Some c) at = native_named class token c at (method_by_token p.platform c kinds.Static token) refl

  method_named : (n class token : ℕ) (o : Option Export) → IfThere (λ m. IsNamed p (targets.StaticMethod (Some class) m)) (static_method_by p n class token o)
  method_named n class token (Some e) = mapped_there (λ m. IsNamed p (targets.StaticMethod (Some class) m)) (Code n) (slice_get e.method_offsets token)
      (λ offset. tt)
  method_named n class token None = class_named class token (class_by_word p.platform class) refl

  through_map : (class : ℕ) (o : Option Method) → IfThere (λ m. IsNamed p (targets.StaticMethod (Some class) m)) o
      → IfThere (IsNamed p) (option_map (targets.StaticMethod (Some class)) o)
  through_map class None is = tt
  through_map class (Some m) is = is

  foreign_named : (class_token token n : ℕ) → IfThere (IsNamed p) (foreign_method p class_token token n)
  unfolding foreign_method
  foreign_named class_token token n = some_there (IsNamed p) (λ class. option_map (targets.StaticMethod (Some class))
      (static_method_by p n class token (export_of p n class_token))) (class_with_token p n class_token)
      (λ class. through_map class (static_method_by p n class token (export_of p n class_token)) (method_named n class token (export_of p n class_token)))

pub by_entry : (cs : List LinkerComponents) (p : Packages) → AreLinked cs p → (number index : ℕ) (class : Option ℕ) (m : PlatformMethod)
    → target_at p number index ≡ Some (targets.StaticMethod class (Native m)) →
    (class ≡ Some (class_word p.platform (class_of m))) × (kind_of_method m ≡ kinds.Static)
by_entry cs p linked number index class m is =
    let entry = entered cs p linked number index (targets.StaticMethod class (Native m)) is in
    subst (IfThere (IsNamed p)) entry.1 (of_entry p number (IsNamed p) (record {
      classes = λ c. mapped_there (IsNamed p) targets.Class (named_class p number c) (λ w. tt);
      fields = any_field p (IsNamed p) (λ w cell reference. tt);
      virtual = λ w token method plain found. tt;
      super = any_super p (IsNamed p) (λ w method. tt);
      statics = λ n offset. tt;
      own = λ offset. tt;
      foreign = foreign_named p;
    }) entry.0)
