-- Entries for static methods resolve to static methods of the platform, or to methods in bytecode.
use Rattle.std.proofs.Common.{◌≡◌, ℕ, Bool, true, false, List, [], ◌∷◌, Option, Some, None, refl, ap, subst, if◌then◌else◌}
use Rattle.std.proofs.lemmas.Bool.{and_parts, false≢true}
use Rattle.std.proofs.lemmas.Option.{none-some, same_Some}
use Rattle.std.specs.Option.{option_map, option_and_then}
use Rattle.std.specs.Prelude.{◌&&◌, ◌+◌, ◌/◌, find, nat_lt, slice_get}
use Rattle.jc_cap.specs.declared.pool.Entry.TheVariants as entries
use Rattle.jc_cap.specs.declared.pool.StaticRef.TheVariants as statics
use Rattle.jc_cap.specs.declared.pool.VirtualToken.{VirtualToken}
use Rattle.jc_platform.specs.declared.names.MethodKind.{MethodKind}
use Rattle.jc_platform.specs.declared.names.MethodKind.TheVariants.{Static, Virtual, Interface}
use Rattle.jc_platform.specs.declared.names.PlatformClass.{PlatformClass}
use Rattle.jc_platform.specs.declared.names.PlatformMethod.{PlatformMethod}
use Rattle.jc_platform.specs.NamePlaces.{class_of, kind_of_method}
use Rattle.jc_platform.specs.Names.{MethodEntry, methods}
use Rattle.jc_platform.specs.Numbers.{same_class, same_kind}
use Rattle.jc_platform.specs.Platform.{class_by_word, method_by_token}
use Rattle.jc_platform.specs.Rows.{is_token}
use Rattle.jc_platform.proofs.Distinct.{found_has}
use Rattle.jc_platform.proofs.Facts.{method_homes}
use Rattle.jc_platform.specs.Tokens.{Tokens, token_of_method}
use Rattle.jc_linker.specs.declared.target.Method.{Method}
use Rattle.jc_linker.specs.declared.target.Method.TheVariants.{Code, Native}
use Rattle.jc_linker.specs.declared.target.Target.{Target}
use Rattle.jc_linker.specs.declared.target.Target.TheVariants as targets
use Rattle.jc_linker.specs.Classes.{class_in, declares_reference, superclass_in}
use Rattle.jc_linker.specs.Methods.{method_at}
use Rattle.jc_linker.specs.Resolve.{class_named, class_with_token, export_of, field_of, field_target, foreign_field, foreign_method, import_by_token}
use Rattle.jc_linker.specs.Resolve.{names_interface, resolution, static_method_by, super_target, virtual_target}
use Rattle.jc_linker.specs.Values.{Export, Packages}
use Rattle.law_code.specs.IsolationLaws.Steps.{ResolveStatics}

kind_is : (k : MethodKind) → same_kind k Static ≡ true → k ≡ Static
kind_is Static e = refl
kind_is Virtual e = absurd (false≢true e)
kind_is Interface e = absurd (false≢true e)

passing : (test : MethodEntry → Bool) (e : MethodEntry) (es : List MethodEntry) (x : MethodEntry) (b : Bool) → test e ≡ b
    → (find test es ≡ Some x → test x ≡ true) → (if b then Some e else find test es) ≡ Some x → test x ≡ true
passing test e es x true is rest found = subst (λ y. test y ≡ true) (same_Some e x found) is
passing test e es x false is rest found = rest found

found_passes : (test : MethodEntry → Bool) (es : List MethodEntry) (x : MethodEntry) → find test es ≡ Some x → test x ≡ true
found_passes test [] x found = absurd (none-some x found)
found_passes test (e ∷ es) x found = passing test e es x (test e) refl (found_passes test es x) found

mapped : (o : Option MethodEntry) (m : PlatformMethod) → option_map (λ e. e.method) o ≡ Some m → (x : MethodEntry) × (o ≡ Some x) × (x.method ≡ m)
mapped None m e = absurd (none-some m e)
mapped (Some x) m e = (x, refl, same_Some x.method m e)

token_static : (t : Tokens) (c : PlatformClass) (token : ℕ) (m : PlatformMethod) → method_by_token t c Static token ≡ Some m → kind_of_method m ≡ Static
unfolding method_by_token
token_static t c token m e =
    let test : MethodEntry → Bool = λ x. same_class x.class c && same_kind x.kind Static && is_token (token_of_method t x.method) token in
    let one = mapped (find test methods) m e in
    let row : MethodEntry = one.0 in
    let own = and_parts (same_class (class_of row.method) row.class) (same_kind (kind_of_method row.method) row.kind)
    (found_has (λ x. same_class (class_of x.method) x.class && same_kind (kind_of_method x.method) x.kind) test methods row method_homes one.1) in
    let both = and_parts (same_class row.class c && same_kind row.kind Static) (is_token (token_of_method t row.method) token)
    (found_passes test methods row one.1) in
    let kind : row.kind ≡ Static = kind_is row.kind (and_parts (same_class row.class c) (same_kind row.kind Static) both.0).1 in
    kind_is (kind_of_method m) (subst (λ k. same_kind (kind_of_method m) k ≡ true) kind
    (subst (λ y. same_kind (kind_of_method y) row.kind ≡ true) one.2 own.1))

native_in : (o : Option PlatformMethod) (m : PlatformMethod) → option_map Native o ≡ Some (Native m) → o ≡ Some m
native_in None m e = absurd (none-some (Native m) e)
native_in (Some x) m e = ap Some (native_of (same_Some (Native x) (Native m) e))
  where
    native_of : Native x ≡ Native m → x ≡ m
    native_of same = cc

code_in : (number : ℕ) (o : Option ℕ) (m : PlatformMethod) → option_map (Code number) o ≡ Some (Native m) → ⊥
code_in number None m e = none-some (Native m) e
code_in number (Some offset) m e = absurd cc

by_export : (p : Packages) (number class token : ℕ) (export : Option Export) (m : PlatformMethod)
    → static_method_by p number class token export ≡ Some (Native m) → kind_of_method m ≡ Static
by_export p number class token (Some e) m is = absurd (code_in number (slice_get e.method_offsets token) m is)
by_export p number class token None m is = by_class (class_by_word p.platform class) is
  where
    by_class : (o : Option PlatformClass) → option_and_then (λ c. option_map Native (method_by_token p.platform c Static token)) o ≡ Some (Native m)
        → kind_of_method m ≡ Static
    by_class None e = absurd (none-some (Native m) e)
    by_class (Some c) e = token_static p.platform c token m (native_in (method_by_token p.platform c Static token) m e)

abbrev Wanted : Option ℕ → PlatformMethod → Target
Wanted class m = targets.StaticMethod class (Native m)

method_in : (class : ℕ) (o : Option Method) (of : Option ℕ) (m : PlatformMethod) → option_map (targets.StaticMethod (Some class)) o ≡ Some (Wanted of m)
    → o ≡ Some (Native m)
method_in class None of m e = absurd (none-some (Wanted of m) e)
method_in class (Some x) of m e = ap Some (method_of (same_Some (targets.StaticMethod (Some class) x) (Wanted of m) e))
  where
    method_of : targets.StaticMethod (Some class) x ≡ targets.StaticMethod of (Native m) → x ≡ Native m
    method_of same = cc

foreign_static : (p : Packages) (class_token token number : ℕ) (of : Option ℕ) (m : PlatformMethod)
    → foreign_method p class_token token number ≡ Some (Wanted of m) → kind_of_method m ≡ Static
unfolding foreign_method
foreign_static p class_token token number of m e = by_class (class_with_token p number class_token) e
  where
    by_class : (o : Option ℕ) → option_and_then (λ class. option_map (targets.StaticMethod (Some class))
        (static_method_by p number class token (export_of p number class_token))) o ≡ Some (Wanted of m) → kind_of_method m ≡ Static
    by_class None is = absurd (none-some (Wanted of m) is)
    by_class (Some class) is = by_export p number class token (export_of p number class_token) m
        (method_in class (static_method_by p number class token (export_of p number class_token)) of m is)

-- ---- entries of other kinds resolve to other targets

never_mapped : {A : Type 0} (f : A → Target) (o : Option A) (t : Target) → ((a : A) → f a ≡ t → ⊥) → option_map f o ≡ Some t → ⊥
never_mapped f None t never e = none-some t e
never_mapped f (Some a) t never e = never a (same_Some (f a) t e)

never_then : {A : Type 0} (f : A → Option Target) (o : Option A) (t : Target) → ((a : A) → f a ≡ Some t → ⊥) → option_and_then f o ≡ Some t → ⊥
never_then f None t never e = none-some t e
never_then f (Some a) t never e = never a e

never_if : (b : Bool) (x t : Target) → (x ≡ t → ⊥) → (if b then Some x else None) ≡ Some t → ⊥
never_if true x t never e = never (same_Some x t e)
never_if false x t never e = none-some t e

module _ (of : Option ℕ) (m : PlatformMethod) where
  field_never : (p : Packages) (token class : ℕ) → field_target p token class ≡ Some (Wanted of m) → ⊥
  unfolding field_target
  field_never p token class e = never_then (field_of class token) (class_in p class) (Wanted of m)
      (λ c is. never_if (nat_lt token c.declared_cells) (targets.InstanceField class (c.inherited_cells + token) (declares_reference c token)) (Wanted of m)
      (λ same. cc) is) e

  virtual_never : (p : Packages) (token : VirtualToken) (class : ℕ) → virtual_target p token class ≡ Some (Wanted of m) → ⊥
  unfolding virtual_target
  virtual_never p token class e = one (names_interface p class) e
    where
      one : (b : Bool) → (if b then None else option_map (targets.VirtualMethod class token) (method_at p class (class / 256) token)) ≡ Some (Wanted of m) → ⊥
      one true is = none-some (Wanted of m) is
      one false is = never_mapped (targets.VirtualMethod class token) (method_at p class (class / 256) token) (Wanted of m) (λ a same. cc) is

  super_never : (p : Packages) (token : VirtualToken) (class : ℕ) → super_target p token class ≡ Some (Wanted of m) → ⊥
  unfolding super_target
  super_never p token class e = never_then (λ above. option_map (targets.SuperMethod class) (method_at p above (class / 256) token)) (superclass_in p class)
      (Wanted of m)
      (λ above is. never_mapped (targets.SuperMethod class) (method_at p above (class / 256) token) (Wanted of m) (λ a same. cc) is) e

  static_field_never : (p : Packages) (class_token token number : ℕ) → foreign_field p class_token token number ≡ Some (Wanted of m) → ⊥
  unfolding foreign_field
  static_field_never p class_token token number e = never_then (λ x. option_map (targets.StaticField number) (slice_get x.field_offsets token))
      (export_of p number class_token) (Wanted of m)
      (λ x is. never_mapped (targets.StaticField number) (slice_get x.field_offsets token) (Wanted of m) (λ a same. cc) is) e

pub resolve_statics : ResolveStatics
unfolding resolution
resolve_statics p number (entries.Class c) of m e = absurd (never_mapped targets.Class (class_named p number c) (Wanted of m) (λ a same. cc) e)
resolve_statics p number (entries.InstanceField c token) of m e = absurd (never_then (field_target p token) (class_named p number c) (Wanted of m)
    (λ class is. field_never of m p token class is) e)
resolve_statics p number (entries.VirtualMethod c token) of m e = absurd (never_then (virtual_target p token) (class_named p number c) (Wanted of m)
    (λ class is. virtual_never of m p token class is) e)
resolve_statics p number (entries.SuperMethod c token) of m e = absurd (never_then (super_target p token) (class_named p number c) (Wanted of m)
    (λ class is. super_never of m p token class is) e)
resolve_statics p number (entries.StaticField (statics.Internal offset)) of m e = absurd cc
resolve_statics p number (entries.StaticField (statics.External package_token class_token token)) of m e =
    absurd (never_then (foreign_field p class_token token) (import_by_token p number package_token) (Wanted of m)
    (λ n is. static_field_never of m p class_token token n is) e)
resolve_statics p number (entries.StaticMethod (statics.Internal offset)) of m e = absurd cc
resolve_statics p number (entries.StaticMethod (statics.External package_token class_token token)) of m e = by_import (import_by_token p number package_token) e
  where
    by_import : (o : Option ℕ) → option_and_then (foreign_method p class_token token) o ≡ Some (Wanted of m) → kind_of_method m ≡ Static
    by_import None is = absurd (none-some (Wanted of m) is)
    by_import (Some n) is = foreign_static p class_token token n of m is
