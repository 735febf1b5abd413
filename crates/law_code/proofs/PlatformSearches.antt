-- What calls find of the platform, and of its classes.
use Rattle.std.proofs.Common.{◌≡◌, ℕ, ◌⊎◌, inl, inr, List, [], ◌∷◌, Option, Some, ap, arith}
use Rattle.std.proofs.lemmas.Option.{none-some, option_and_then_some, same_Some}
use Rattle.jc_platform.specs.declared.names.MethodKind.TheVariants as kinds
use Rattle.jc_platform.specs.declared.names.PlatformMethod.{PlatformMethod}
use Rattle.jc_platform.specs.NamePlaces.{kind_of_method}
use Rattle.jc_platform.specs.Numbers.{kind_number}
use Rattle.jc_cap.specs.declared.pool.VirtualToken.{VirtualToken}
use Rattle.jc_cap.specs.declared.pool.VirtualToken.TheVariants.{Public}
use Rattle.jc_linker.specs.declared.search.Search.{Search}
use Rattle.jc_linker.specs.declared.search.Search.TheVariants.{Above, Found, Nowhere}
use Rattle.jc_linker.specs.declared.target.Method.TheVariants.{Native}
use Rattle.jc_linker.specs.Classes.{lineage}
use Rattle.jc_linker.specs.Methods.{implementation_in, interface_method_at, lookup_classes, method_at, method_in, first_decided, found_or_above}
use Rattle.jc_linker.specs.Values.{Packages}
use Rattle.law_code.proofs.PlatformReceivers.{by_token, native_in}
use Rattle.law_code.proofs.Lists.{AllOf}
use Rattle.law_code.specs.Methods.{IsMethodOf}

-- ---- a search that finds something finds it in one of the classes

abbrev pub OneOf : (ℕ → Type 0) → List ℕ → Type 0
OneOf P [] = ⊥
OneOf P (c ∷ cs) = P c ⊎ OneOf P cs

settled_by : {A : Type 0} (P : Type 0) (s : Search A) (x : A) (above : Option A) → found_or_above s above ≡ Some x → (above ≡ Some x → P) → (s ≡ Found x) ⊎ P
settled_by P (Found a) x above is more = inl (ap (λ y. Found y) (same_Some a x is))
settled_by P Above x above is more = inr (more is)
settled_by P Nowhere x above is more = absurd (none-some x is)

pub found_in : {A : Type 0} (f : ℕ → Search A) (x : A) (cs : List ℕ) → first_decided f cs ≡ Some x → OneOf (λ c. f c ≡ Found x) cs
unfolding first_decided
found_in f x [] is = absurd (none-some x is)
found_in f x (c ∷ cs) is = settled_by (OneOf (λ d. f d ≡ Found x) cs) (f c) x (first_decided f cs) is (found_in f x cs)

-- the one that has it is among those that all have something else
pub one_and_all : (P Q : ℕ → Type 0) (R : Type 0) (cs : List ℕ) → OneOf P cs → AllOf Q cs → ((c : ℕ) → P c → Q c → R) → R
one_and_all P Q R [] one all both = absurd one
one_and_all P Q R (c ∷ cs) (inl here) all both = both c here all.0
one_and_all P Q R (c ∷ cs) (inr more) all both = one_and_all P Q R cs more all.1 both

pub any_one : (P : ℕ → Type 0) (R : Type 0) (cs : List ℕ) → OneOf P cs → ((c : ℕ) → P c → R) → R
any_one P R [] one each = absurd one
any_one P R (c ∷ cs) (inl here) each = each c here
any_one P R (c ∷ cs) (inr more) each = any_one P R cs more each

-- ---- methods that are no static ones

no_static : (m : PlatformMethod) → kind_number (kind_of_method m) ≡ kind_number kinds.Virtual → kind_of_method m ≡ kinds.Static → ⊥
no_static m virtual is = let zero = ap kind_number is in absurd (omega (arith, virtual, zero))

pub by_virtual : (p : Packages) (class number : ℕ) (token : VirtualToken) (m : PlatformMethod) → method_at p class number token ≡ Some (Native m)
    → IsMethodOf p class m
unfolding method_at
by_virtual p class number token m is = (
  by_token p class number token m is,
  any_one (λ c. method_in p token c ≡ Found (Native m)) (kind_of_method m ≡ kinds.Static → ⊥) (lookup_classes token number (lineage p class))
      (found_in (method_in p token) (Native m) (lookup_classes token number (lineage p class)) is)
      (λ c found. no_static m (native_in p token c m found).1),
)

pub by_interface : (p : Packages) (class interface token : ℕ) (m : PlatformMethod) → interface_method_at p class interface token ≡ Some (Native m)
    → IsMethodOf p class m
unfolding interface_method_at
by_interface p class interface token m is = option_and_then_some (λ own. method_at p class 0 (Public own))
    (first_decided (implementation_in p interface token) (lineage p class)) (Native m) is (λ own at more. by_virtual p class 0 (Public own) m more)
