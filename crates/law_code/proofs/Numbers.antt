-- Numbers under which packages stand.
use Rattle.std.proofs.Common.{◌≡◌, ℕ, zero, suc, ◌+◌, ◌-◌, ◌*◌, ◌/◌, ◌<◌, ◌≤◌, ◌⊎◌, inl, inr, ◌==◌, ◌||◌, Bool, true, false, List, [], ◌∷◌, Option, Some, None}
use Rattle.std.proofs.Common.{length, refl, sym, subst, arith, if◌then◌else◌}
use Rattle.std.specs.Prelude.{is_some, slice_get}
use Rattle.std.specs.Option.{option_and_then}
use Rattle.std.proofs.lemmas.Bool.{false≢true, eqb-true}
use Rattle.jc_platform.specs.declared.names.PlatformPackage.{PlatformPackage}
use Rattle.jc_platform.specs.declared.names.PlatformPackage.TheVariants.{JavaLang, JavacardFramework, JavacardxApdu, JavacardSecurity, JavacardxCrypto}
use Rattle.jc_platform.specs.declared.names.PlatformClass.{PlatformClass}
use Rattle.jc_platform.specs.NamePlaces.{class_word, home_of, word_of_token}
use Rattle.jc_platform.specs.Numbers.{same_package}
use Rattle.jc_platform.specs.Platform.{class_by_token, class_by_word, package_by_number}
use Rattle.jc_platform.specs.Tokens.{Tokens, number_in, token_of_class}
use Rattle.jc_linker.specs.Classes.{class_in, is_class, package_in}
use Rattle.jc_linker.specs.Resolve.{interface_by, names_interface}
use Rattle.jc_linker.specs.Values.{ClassValue, PackageValue, Packages}

-- a loaded package's, of this many, or one of the platform's
abbrev pub Stands : ℕ → ℕ → Type 0
Stands bound number = (number ≤ bound) ⊎ (64 ≤ number)

pub stands_more : (bound more number : ℕ) → bound ≤ more → Stands bound number → Stands more number
stands_more bound more number le (inl low) = inl (omega (arith, le, low))
stands_more bound more number le (inr high) = inr high

pub stands_beside : (bound number : ℕ) → bound < 32 → Stands bound number → number ≡ bound + 1 → ⊥
stands_beside bound number few (inl low) e = absurd (omega (arith, low, e))
stands_beside bound number few (inr high) e = absurd (omega (arith, few, high, e))

-- ---- the platform's

of_five : (a b c d : Bool) → 64 ≤ (if a then 66 else (if b then 67 else (if c then 68 else (if d then 64 else 65))))
of_five true b c d = omega arith
of_five false true c d = omega arith
of_five false false true d = omega arith
of_five false false false true = omega arith
of_five false false false false = omega arith

pub platform_high : (t : Tokens) (p : PlatformPackage) → 64 ≤ number_in t p
platform_high t p = of_five (same_package p JavacardxApdu) (same_package p JavacardSecurity) (same_package p JavacardxCrypto) (same_package p t.first)

high_word : (n x : ℕ) → 64 ≤ n → 64 ≤ (256 * n + x) / 256
high_word n x high = omega (arith, high)

high_token : (n : ℕ) (o : Option ℕ) → 64 ≤ n → 64 ≤ word_of_token n o / 256
high_token n None high = omega arith
high_token n (Some k) high = high_word n k high

pub word_high : (t : Tokens) (c : PlatformClass) → 64 ≤ class_word t c / 256
word_high t c = high_token (number_in t (home_of c)) (token_of_class t c) (platform_high t (home_of c))

by_number : (n : ℕ) (a b c d e : Bool) → (a ≡ true → 64 ≤ n) → (b ≡ true → 64 ≤ n) → (c ≡ true → 64 ≤ n) → (d ≡ true → 64 ≤ n) → (e ≡ true → 64 ≤ n)
    → is_some (if a then Some JavaLang else (if b then Some JavacardFramework else (if c then Some JavacardxApdu else
    (if d then Some JavacardSecurity else (if e then Some JavacardxCrypto else None))))) ≡ true → 64 ≤ n
by_number n true b c d e first second third fourth fifth there = first refl
by_number n false true c d e first second third fourth fifth there = second refl
by_number n false false true d e first second third fourth fifth there = third refl
by_number n false false false true e first second third fourth fifth there = fourth refl
by_number n false false false false true first second third fourth fifth there = fifth refl
by_number n false false false false false first second third fourth fifth there = absurd (false≢true there)

same_high : (t : Tokens) (p : PlatformPackage) (n : ℕ) → (n == number_in t p) ≡ true → 64 ≤ n
same_high t p n e = subst (λ m. 64 ≤ m) (sym (eqb-true n (number_in t p) e)) (platform_high t p)

number_high : (t : Tokens) (n : ℕ) → is_some (package_by_number t n) ≡ true → 64 ≤ n
unfolding package_by_number
number_high t n there = by_number n (n == number_in t JavaLang) (n == number_in t JavacardFramework) (n == number_in t JavacardxApdu)
    (n == number_in t JavacardSecurity) (n == number_in t JavacardxCrypto) (same_high t JavaLang n) (same_high t JavacardFramework n)
    (same_high t JavacardxApdu n) (same_high t JavacardSecurity n) (same_high t JavacardxCrypto n) there

-- ---- those of loaded packages

within : {A : Type 0} (xs : List A) (i : ℕ) → is_some (slice_get xs i) ≡ true → i < length xs
within [] i there = absurd (false≢true there)
within (x ∷ xs) zero there = omega arith
within (x ∷ xs) (suc i) there = let less = within xs i there in omega (arith, less)

loaded_low : (loaded : List PackageValue) (n : ℕ) (none : Bool) → is_some (if none then None else slice_get loaded (n - 1)) ≡ true → n ≤ length loaded
loaded_low loaded n true there = absurd (false≢true there)
loaded_low loaded n false there = let less = within loaded (n - 1) there in omega (arith, less)

pub package_low : (p : Packages) (n : ℕ) → is_some (package_in p n) ≡ true → n ≤ length p.loaded
unfolding package_in
package_low p n there = loaded_low p.loaded n (n == 0) there

-- ---- those of classes

pub then_some : {A B : Type 0} (f : A → Option B) (o : Option A) → is_some (option_and_then f o) ≡ true → is_some o ≡ true
then_some f None there = there
then_some f (Some x) there = refl

pub one_of : (a b : Bool) → (a || b) ≡ true → (a ≡ true) ⊎ (b ≡ true)
one_of true b e = inl refl
one_of false b e = inr e

pub class_stands : (p : Packages) (w : ℕ) → is_class p w ≡ true → Stands (length p.loaded) (w / 256)
unfolding is_class class_in class_by_word
class_stands p w there = elim (one_of (is_some (class_in p w)) (is_some (class_by_word p.platform w)) there) [
  | inl loaded ↦ inl (package_low p (w / 256) (then_some (λ q. slice_get q.classes _) (package_in p (w / 256)) loaded))
  | inr other ↦ inr (number_high p.platform (w / 256) (then_some (λ home. class_by_token p.platform home _) (package_by_number p.platform (w / 256)) other))
]

interface_class : (c : Option ClassValue) (o : Option PlatformClass) → interface_by c o ≡ true → (is_some c || is_some o) ≡ true
interface_class (Some c) o e = refl
interface_class None None e = e
interface_class None (Some o) e = refl

pub interface_stands : (p : Packages) (w : ℕ) → names_interface p w ≡ true → Stands (length p.loaded) (w / 256)
unfolding names_interface is_class
interface_stands p w e = class_stands p w (interface_class (class_in p w) (class_by_word p.platform w) e)
