-- Packages that name no other number than those that stand; and what one more of them leaves as it was.
use Rattle.std.proofs.Common.{◌≡◌, ℕ, zero, suc, ◌+◌, ◌-◌, ◌*◌, ◌/◌, ◌%◌, ◌<◌, ◌≤◌, ◌⊎◌, inl, inr, ◌==◌, Bool, true, false, List, [], ◌∷◌, ◌++◌, Option, Some}
use Rattle.std.proofs.Common.{None, length, refl, sym, ap, ◌∙◌, arith, if◌then◌else◌}
use Rattle.std.specs.Prelude.{slice_get, position}
use Rattle.std.specs.Option.{option_map, option_and_then}
use Rattle.std.proofs.lemmas.Bool.{false≢true, eqb-false, cases_Bool}
use Rattle.std.proofs.lemmas.List.Quantifiers.{position-Some}
use Rattle.jc_platform.specs.declared.names.PlatformClass.{PlatformClass}
use Rattle.jc_platform.specs.NamePlaces.{class_word}
use Rattle.jc_platform.specs.Hierarchy.{interfaces_of, superclass_of}
use Rattle.jc_platform.specs.Platform.{class_by_token, class_by_word, package_by_number}
use Rattle.jc_linker.specs.Classes.{class_in, interfaces_by, interfaces_in, platform_interfaces, package_in, superclass_by, superclass_in}
use Rattle.jc_linker.specs.Resolve.{class_at_offset, class_by, class_of, class_with_token, exported_class, import_of, import_by_token, class_index}
use Rattle.jc_linker.specs.Values.{ClassValue, PackageValue, Packages}
use Rattle.jc_linker.specs.Linking.{next_number, with_package}
use Rattle.jc_linker.specs.Outlines.{outline_of}
use Rattle.law_code.proofs.Lists.{AllOf, IfThere, all_at, all_more, map_there, then_there}
use Rattle.law_code.proofs.Alike.{AreAlike}
use Rattle.law_code.proofs.Entries.{NamesAlike, bare}
use Rattle.law_code.proofs.Numbers.{Stands, stands_beside, stands_more, word_high}

-- ---- what is closed

abbrev pub IsClosedClass : ℕ → ClassValue → Type 0
IsClosedClass bound c = ((c.is_interface ≡ true) ⊎ Stands bound (c.superclass / 256)) × AllOf (λ i. Stands bound (i.interface / 256)) c.interfaces

pub record IsClosedPackage (bound : ℕ) (q : PackageValue) : Type 0 where
  pub few : length q.classes ≤ 256
  pub classes : AllOf (IsClosedClass bound) q.classes
  pub imports : AllOf (Stands bound) q.imports

abbrev pub IsClosed : Packages → Type 0
IsClosed p = AllOf (IsClosedPackage (length p.loaded)) p.loaded

class_more : (bound more : ℕ) → bound ≤ more → (c : ClassValue) → IsClosedClass bound c → IsClosedClass more c
class_more bound more le c closed = (
  elim closed.0 [ inl e ↦ inl e | inr stands ↦ inr (stands_more bound more (c.superclass / 256) le stands) ],
  all_more (λ i. Stands bound (i.interface / 256)) (λ i. Stands more (i.interface / 256))
      (λ i each. stands_more bound more (i.interface / 256) le each) c.interfaces closed.1,
)

pub package_more : (bound more : ℕ) → bound ≤ more → (q : PackageValue) → IsClosedPackage bound q → IsClosedPackage more q
package_more bound more le q closed = record {
  few = closed.few;
  classes = all_more (IsClosedClass bound) (IsClosedClass more) (class_more bound more le) q.classes closed.classes;
  imports = all_more (Stands bound) (Stands more) (λ n each. stands_more bound more n le each) q.imports closed.imports;
}

-- ---- options

pub if_each : {A : Type 0} (P : A → Type 0) (o : Option A) → ((x : A) → o ≡ Some x → P x) → IfThere P o
if_each P None each = tt
if_each P (Some x) each = each x refl

pub if_more : {A : Type 0} (P Q : A → Type 0) (o : Option A) → ((x : A) → P x → Q x) → IfThere P o → IfThere Q o
if_more P Q None more there = tt
if_more P Q (Some x) more there = more x there

unless : {A : Type 0} (P : A → Type 0) (b : Bool) (o : Option A) → IfThere P o → IfThere P (if b then None else o)
unless P true o there = tt
unless P false o there = there

pub anything : {A : Type 0} (o : Option A) → IfThere (λ x. Unit {0}) o
anything None = tt
anything (Some x) = tt

-- ---- places of classes

place_low : (offset : ℕ) (classes : List ClassValue) → length classes ≤ 256 → IfThere (λ place. place < 256) (class_index offset classes)
unfolding class_index
place_low offset classes few = if_each (λ place. place < 256) (position (λ c. c.offset == offset) classes) (λ place is.
    let less = (position-Some (λ c. c.offset == offset) classes place (outline_of 0) is).0 in omega (arith, few, less))

word_of_place : (number place : ℕ) → place < 256 → (256 * number + place) / 256 ≡ number
word_of_place number place low = omega (arith, low)

-- ---- one more after

slice_behind : {A : Type 0} (xs : List A) (y : A) (i : ℕ) → (i ≡ length xs → ⊥) → slice_get (xs ++ y ∷ []) i ≡ slice_get xs i
slice_behind [] y zero other = absurd (other refl)
slice_behind [] y (suc i) other = refl
slice_behind (x ∷ xs) y zero other = refl
slice_behind (x ∷ xs) y (suc i) other = slice_behind xs y i (λ e. other (ap suc e))

unless_none : {A : Type 0} (n : ℕ) (f g : Option A) → ((n ≡ 0 → ⊥) → f ≡ g) → (if n == 0 then None else f) ≡ (if n == 0 then None else g)
unless_none n f g same = elim (cases_Bool (n == 0)) [
  | inl e ↦ rw e refl
  | inr e ↦ rw e (same (eqb-false n 0 e))
]

pub package_same : (p : Packages) (q : PackageValue) (n : ℕ) → (n ≡ next_number p → ⊥) → package_in (with_package p q) n ≡ package_in p n
unfolding package_in
package_same p q n other = unless_none n (slice_get (p.loaded ++ q ∷ []) (n - 1)) (slice_get p.loaded (n - 1))
    (λ some. slice_behind p.loaded q (n - 1) (λ e. other (omega (arith, some, e))))

-- ---- what closed packages have

package_closed : (p : Packages) → IsClosed p → (n : ℕ) → IfThere (IsClosedPackage (length p.loaded)) (package_in p n)
unfolding package_in
package_closed p closed n = unless (IsClosedPackage (length p.loaded)) (n == 0) (slice_get p.loaded (n - 1))
    (all_at (IsClosedPackage (length p.loaded)) p.loaded (n - 1) closed)

pub class_closed : (p : Packages) → IsClosed p → (w : ℕ) → IfThere (IsClosedClass (length p.loaded)) (class_in p w)
unfolding class_in
class_closed p closed w = then_there (IsClosedPackage (length p.loaded)) (IsClosedClass (length p.loaded)) (λ r. slice_get r.classes (w % 256))
    (package_in p (w / 256)) (package_closed p closed (w / 256))
    (λ r each. all_at (IsClosedClass (length p.loaded)) r.classes (w % 256) each.classes)

module _ (p : Packages) (q : PackageValue) (closed : IsClosed p) (room : length p.loaded < 32) where
  abbrev pub Beside : ℕ → Type 0
  Beside n = n ≡ next_number p → ⊥

  abbrev pub IsBeside : ℕ → Type 0
  IsBeside w = Beside (w / 256)

  beside : (n : ℕ) → Stands (length p.loaded) n → Beside n
  beside n stands = stands_beside (length p.loaded) n room stands

  platform_beside : (c : PlatformClass) → IsBeside (class_word p.platform c)
  platform_beside c = beside (class_word p.platform c / 256) (inr (word_high p.platform c))

  place_beside : (n place : ℕ) → Beside n → place < 256 → IsBeside (256 * n + place)
  place_beside n place other low e = other (sym (word_of_place n place low) ∙ e)

  -- ---- classes

  class_same : (w : ℕ) → IsBeside w → class_in (with_package p q) w ≡ class_in p w
  unfolding class_in
  class_same w other = ap (option_and_then (λ r. slice_get r.classes (w % 256))) (package_same p q (w / 256) other)

  by_interface : (b : Bool) (w : ℕ) → (b ≡ true) ⊎ Stands (length p.loaded) (w / 256) → IfThere IsBeside (if b then None else Some w)
  by_interface true w either = tt
  by_interface false w (inl e) = absurd (false≢true e)
  by_interface false w (inr stands) = beside (w / 256) stands

  superclass_beside : (c : Option ClassValue) (o : Option PlatformClass) → IfThere (IsClosedClass (length p.loaded)) c → IfThere IsBeside (superclass_by p c o)
  superclass_beside (Some c) o closes = by_interface c.is_interface c.superclass closes.0
  superclass_beside None o closes = map_there (λ c. Unit {0}) IsBeside (class_word p.platform) (option_and_then superclass_of o)
      (anything (option_and_then superclass_of o)) (λ c none. platform_beside c)

  above : (w : ℕ) → IsBeside w → IfThere IsBeside (superclass_in p w)
  unfolding superclass_in
  above w other = superclass_beside (class_in p w) (class_by_word p.platform w) (class_closed p closed w)

  named_beside : (cs : List PlatformClass) → AllOf (λ i. IsBeside i.interface) (platform_interfaces p cs)
  named_beside [] = tt
  named_beside (c ∷ cs) = (platform_beside c, named_beside cs)

  interfaces_beside : (c : Option ClassValue) (o : Option PlatformClass) → IfThere (IsClosedClass (length p.loaded)) c
      → AllOf (λ i. IsBeside i.interface) (interfaces_by p c o)
  interfaces_beside (Some c) o closes = all_more (λ i. Stands (length p.loaded) (i.interface / 256)) (λ i. IsBeside i.interface)
      (λ i each. beside (i.interface / 256) each) c.interfaces closes.1
  interfaces_beside None None closes = tt
  interfaces_beside None (Some c) closes = named_beside (interfaces_of c)

  interfaces : (w : ℕ) → IsBeside w → AllOf (λ i. IsBeside i.interface) (interfaces_in p w)
  unfolding interfaces_in
  interfaces w other = interfaces_beside (class_in p w) (class_by_word p.platform w) (class_closed p closed w)

  pub alike : AreAlike p (with_package p q) IsBeside
  alike = record { class = class_same; above = above; interfaces = interfaces }

  -- ---- names

  imports_of : (o : Option PackageValue) (token : ℕ) → IfThere (IsClosedPackage (length p.loaded)) o → IfThere Beside (import_of o token)
  imports_of None token closes = tt
  imports_of (Some r) token closes = if_more (Stands (length p.loaded)) Beside (slice_get r.imports token) (λ n each. beside n each)
      (all_at (Stands (length p.loaded)) r.imports token closes.imports)

  imports : (n token : ℕ) → Beside n → IfThere Beside (import_by_token p n token)
  unfolding import_by_token
  imports n token other = imports_of (package_in p n) token (package_closed p closed n)

  placed : (n offset : ℕ) (classes : List ClassValue) → Beside n → length classes ≤ 256
      → IfThere IsBeside (option_map (λ place. 256 * n + place) (class_index offset classes))
  placed n offset classes other few = map_there (λ place. place < 256) IsBeside (λ place. 256 * n + place) (class_index offset classes)
      (place_low offset classes few) (λ place low. place_beside n place other low)

  offsets_of : (n offset : ℕ) (o : Option PackageValue) → Beside n → IfThere (IsClosedPackage (length p.loaded)) o → IfThere IsBeside (class_of n o offset)
  offsets_of n offset None other closes = tt
  offsets_of n offset (Some r) other closes = placed n offset r.classes other closes.few

  offsets : (n offset : ℕ) → Beside n → IfThere IsBeside (class_at_offset p n offset)
  unfolding class_at_offset
  offsets n offset other = offsets_of n offset (package_in p n) other (package_closed p closed n)

  tokens_of : (n token : ℕ) (o : Option PackageValue) → Beside n → IfThere (IsClosedPackage (length p.loaded)) o → IfThere IsBeside (class_by p n token o)
  tokens_of n token None other closes =
      then_there (λ home. Unit {0}) IsBeside (λ home. option_map (class_word p.platform) (class_by_token p.platform home token))
      (package_by_number p.platform n) (anything (package_by_number p.platform n))
      (λ home none. map_there (λ c. Unit {0}) IsBeside (class_word p.platform) (class_by_token p.platform home token)
      (anything (class_by_token p.platform home token)) (λ c nothing. platform_beside c))
  tokens_of n token (Some r) other closes =
      then_there (λ e. Unit {0}) IsBeside (exported_class n r) (slice_get r.exports token) (anything (slice_get r.exports token))
      (λ e none. placed n e.class_offset r.classes other closes.few)

  tokens : (n token : ℕ) → Beside n → IfThere IsBeside (class_with_token p n token)
  unfolding class_with_token
  tokens n token other = tokens_of n token (package_in p n) other (package_closed p closed n)

  pub names : NamesAlike p (with_package p q) IsBeside Beside
  names = record { packages = λ n other. ap bare (package_same p q n other); imports = imports; named = tokens; offsets = offsets }
