-- What holds of all classes of the platform, computed over their rows: a new row needs no proof.
use Rattle.std.proofs.Common.{◌≡◌, ◌<◌, ◌≤◌, ◌⊎◌, inl, inr, ℕ, zero, suc, ◌&&◌, ◌||◌, not, Bool, true, false, List, [], ◌∷◌, Option, Some, None, length, refl, subst, ap, sym, ◌∙◌}
use Rattle.std.proofs.Common.{arith, take}
use Rattle.std.specs.List.{list_all}
use Rattle.std.specs.Prelude.{is_none, nat_le, nat_lt, slice_get}
use Rattle.std.proofs.lemmas.Bool.{and_parts, false_from_ne_true, false≢true, not-true, true≢false}
use Rattle.jc_platform.specs.declared.names.PlatformClass.{PlatformClass}
use Rattle.jc_platform.specs.declared.names.PlatformPackage.TheVariants.{JavaLang}
use Rattle.jc_platform.specs.declared.kinds.CellKind.{CellKind}
use Rattle.jc_platform.specs.NamePlaces.{entry_of_class, home_of, is_needed_class}
use Rattle.jc_platform.specs.Hierarchy.{cells_of, holds_reference, interfaces_of, is_instantiable, is_interface, is_reference, superclass_of}
use Rattle.jc_platform.specs.Names.{classes}
use Rattle.jc_platform.specs.Numbers.{class_number, same_package}
use Rattle.jc_platform.proofs.Facts.{class_at_place}
use Rattle.jc_platform.proofs.EveryRow.{every_class}
use Rattle.law_code.proofs.Lists.{IfThere}

-- what each row's class has, each class has
pub of_each : (test : PlatformClass → Bool) → list_all (λ e. test e.class) classes ≡ true → (c : PlatformClass) → test c ≡ true
of_each test all c = subst (λ d. test d ≡ true) (class_at_place c) (every_class (λ e. test e.class) all c)

-- the class that is there passes
abbrev pub passes : (PlatformClass → Bool) → Option PlatformClass → Bool
passes test None = true
passes test (Some c) = test c

pub there_passes : (test : PlatformClass → Bool) (o : Option PlatformClass) → passes test o ≡ true → IfThere (λ c. test c ≡ true) o
there_passes test None e = tt
there_passes test (Some c) e = e

pub either : (a b : Bool) → (a || b) ≡ true → a ≡ false → b ≡ true
either true b e is = absurd (false≢true (subst (λ x. x ≡ true) is e))
either false b e is = e

-- ---- superclasses

-- cells of which none holds a reference
abbrev pub are_numbers : List CellKind → Bool
are_numbers = list_all (λ kind. not (is_reference (Some kind)))

abbrev agree : Bool → Bool → Bool
agree true b = b
agree false b = not b

-- the second cells begin with the first ones
abbrev begin_with : List CellKind → List CellKind → Bool
begin_with [] cells = true
begin_with (kind ∷ kinds) [] = false
begin_with (kind ∷ kinds) (other ∷ others) = agree (is_reference (Some kind)) (is_reference (Some other)) && begin_with kinds others

-- it stands before the class, has no more cells, and its cells are the first of the class
abbrev is_above : PlatformClass → PlatformClass → Bool
is_above c d = nat_lt (class_number d) (class_number c) && (nat_le (cells_of d) (cells_of c) && begin_with (entry_of_class d).cells (entry_of_class c).cells)

superclass_rows : list_all (λ e. passes (is_above e.class) (superclass_of e.class)) classes ≡ true
unfolding superclass_of cells_of classes
superclass_rows = refl

superclass_is_above : (c : PlatformClass) → IfThere (λ d. is_above c d ≡ true) (superclass_of c)
superclass_is_above c = there_passes (is_above c) (superclass_of c) (of_each (λ x. passes (is_above x) (superclass_of x)) superclass_rows c)

of_above : (c : PlatformClass) (o : Option PlatformClass) (P : PlatformClass → Type 0) → IfThere (λ d. is_above c d ≡ true) o
    → ((d : PlatformClass) → is_above c d ≡ true → P d) → IfThere P o
of_above c None P is each = tt
of_above c (Some d) P is each = each d is

-- what a superclass is
record IsAbove (c d : PlatformClass) : Type 0 where
  before : nat_lt (class_number d) (class_number c) ≡ true
  fewer : nat_le (cells_of d) (cells_of c) ≡ true
  first : begin_with (entry_of_class d).cells (entry_of_class c).cells ≡ true

above_parts : (c d : PlatformClass) → is_above c d ≡ true → IsAbove c d
above_parts c d is =
    let one = and_parts (nat_lt (class_number d) (class_number c)) _ is in
    let two = and_parts (nat_le (cells_of d) (cells_of c)) (begin_with (entry_of_class d).cells (entry_of_class c).cells) one.1 in
    record { before = one.0; fewer = two.0; first = two.1 }

of_superclass : (c : PlatformClass) (P : PlatformClass → Type 0) → ((d : PlatformClass) → IsAbove c d → P d) → IfThere P (superclass_of c)
of_superclass c P each = of_above c (superclass_of c) P (superclass_is_above c) (λ d is. each d (above_parts c d is))

pub superclass_before : (c : PlatformClass) → IfThere (λ d. nat_lt (class_number d) (class_number c) ≡ true) (superclass_of c)
superclass_before c = of_superclass c _ (λ d is. is.before)

pub fewer_above : (c : PlatformClass) → IfThere (λ d. nat_le (cells_of d) (cells_of c) ≡ true) (superclass_of c)
fewer_above c = of_superclass c _ (λ d is. is.fewer)

-- ---- cells that hold references

agree_then : (a b : Bool) → agree a b ≡ true → a ≡ true → b ≡ true
agree_then true b e is = e
agree_then false b e is = absurd (false≢true is)

agree_back : (a b : Bool) → agree a b ≡ true → b ≡ true → a ≡ true
agree_back true b e is = refl
agree_back false b e is = absurd (false≢true (sym (not-true b e) ∙ is))

held_then : (kinds others : List CellKind) (k : ℕ) → begin_with kinds others ≡ true → is_reference (slice_get kinds k) ≡ true
    → is_reference (slice_get others k) ≡ true
held_then [] others k e held = absurd (false≢true held)
held_then (kind ∷ kinds) [] k e held = absurd (false≢true e)
held_then (kind ∷ kinds) (other ∷ others) zero e held = agree_then (is_reference (Some kind)) (is_reference (Some other))
    (and_parts (agree (is_reference (Some kind)) (is_reference (Some other))) (begin_with kinds others) e).0 held
held_then (kind ∷ kinds) (other ∷ others) (suc k) e held = held_then kinds others k
    (and_parts (agree (is_reference (Some kind)) (is_reference (Some other))) (begin_with kinds others) e).1 held

held_back : (kinds others : List CellKind) (k : ℕ) → begin_with kinds others ≡ true → is_reference (slice_get others k) ≡ true
    → (length kinds ≤ k) ⊎ (is_reference (slice_get kinds k) ≡ true)
held_back [] others k e held = inl (omega arith)
held_back (kind ∷ kinds) [] k e held = absurd (false≢true e)
held_back (kind ∷ kinds) (other ∷ others) zero e held = inr (agree_back (is_reference (Some kind)) (is_reference (Some other))
    (and_parts (agree (is_reference (Some kind)) (is_reference (Some other))) (begin_with kinds others) e).0 held)
held_back (kind ∷ kinds) (other ∷ others) (suc k) e held =
    elim (held_back kinds others k (and_parts (agree (is_reference (Some kind)) (is_reference (Some other))) (begin_with kinds others) e).1 held) [
      | inl le ↦ inl (omega (arith, le))
      | inr is ↦ inr is
    ]

held_within : (kinds : List CellKind) (k : ℕ) → is_reference (slice_get kinds k) ≡ true → k < length kinds
held_within [] k e = absurd (false≢true e)
held_within (kind ∷ kinds) zero e = omega arith
held_within (kind ∷ kinds) (suc k) e = let less = held_within kinds k e in omega (arith, less)

held_behind : (n : ℕ) (kinds : List CellKind) (k : ℕ) → are_numbers (take n kinds) ≡ true → is_reference (slice_get kinds k) ≡ true → n ≤ k
held_behind zero kinds k first e = omega arith
held_behind (suc n) [] k first e = absurd (false≢true e)
held_behind (suc n) (kind ∷ kinds) zero first e =
    absurd (true≢false (sym e ∙ not-true (is_reference (Some kind)) (and_parts (not (is_reference (Some kind))) (are_numbers (take n kinds)) first).0))
held_behind (suc n) (kind ∷ kinds) (suc k) first e =
    let le = held_behind n kinds k (and_parts (not (is_reference (Some kind))) (are_numbers (take n kinds)) first).1 e in omega (arith, le)

-- of the first cells, where they hold numbers, none holds a reference
pub numbers_before : (c : PlatformClass) (n : ℕ) → are_numbers (take n (entry_of_class c).cells) ≡ true → (k : ℕ) → k < n → holds_reference c k ≡ false
unfolding holds_reference
numbers_before c n numbers k lt = false_from_ne_true (is_reference (slice_get (entry_of_class c).cells k))
    (λ e. let le = held_behind n (entry_of_class c).cells k numbers e in omega (arith, lt, le))

-- a cell that holds a reference in the superclass does in the class
pub reference_above : (c : PlatformClass) (k : ℕ) → IfThere (λ d. holds_reference d k ≡ true → holds_reference c k ≡ true) (superclass_of c)
unfolding holds_reference
reference_above c k = of_superclass c _ (λ d is. held_then (entry_of_class d).cells (entry_of_class c).cells k is.first)

pub reference_within : (c : PlatformClass) (k : ℕ) → holds_reference c k ≡ true → k < cells_of c
unfolding holds_reference cells_of
reference_within c k e = held_within (entry_of_class c).cells k e

-- and a cell that does in the class stands after the superclass's cells, or does in the superclass
pub reference_behind : (c : PlatformClass) (k : ℕ) → holds_reference c k ≡ true
    → IfThere (λ d. (cells_of d ≤ k) ⊎ (holds_reference d k ≡ true)) (superclass_of c)
unfolding holds_reference cells_of
reference_behind c k e = of_superclass c _ (λ d is. held_back (entry_of_class d).cells (entry_of_class c).cells k is.first e)

-- ---- a class alone

-- an interface has no superclass
class_rows : list_all (λ e. is_none (superclass_of e.class) || not (is_interface e.class)) classes ≡ true
unfolding superclass_of is_interface classes
class_rows = refl

-- what has a superclass is no interface
pub extending_class : (c d : PlatformClass) → superclass_of c ≡ Some d → is_interface c ≡ false
extending_class c d above = not-true (is_interface c) (either (is_none (superclass_of c)) (not (is_interface c))
    (of_each (λ x. is_none (superclass_of x) || not (is_interface x)) class_rows c) (ap is_none above))

-- each table has what java.lang has, and what has cells has few
more_rows : list_all (λ e. (not (same_package (home_of e.class) JavaLang) || is_needed_class e.class) && nat_lt (cells_of e.class) 65536) classes ≡ true
unfolding cells_of classes
more_rows = refl

more_is : (c : PlatformClass) → ((not (same_package (home_of c) JavaLang) || is_needed_class c) ≡ true) × (nat_lt (cells_of c) 65536 ≡ true)
more_is c = and_parts (not (same_package (home_of c) JavaLang) || is_needed_class c) (nat_lt (cells_of c) 65536)
    (of_each (λ x. (not (same_package (home_of x) JavaLang) || is_needed_class x) && nat_lt (cells_of x) 65536) more_rows c)

pub language_needed : (c : PlatformClass) → home_of c ≡ JavaLang → is_needed_class c ≡ true
language_needed c home = either (not (same_package (home_of c) JavaLang)) (is_needed_class c) (more_is c).0 (ap (λ p. not (same_package p JavaLang)) home)

pub few_cells : (c : PlatformClass) → nat_lt (cells_of c) 65536 ≡ true
few_cells c = (more_is c).1

-- ---- interfaces

-- what a class lists is an interface
interface_rows : list_all (λ e. list_all is_interface (interfaces_of e.class)) classes ≡ true
unfolding interfaces_of is_interface classes
interface_rows = refl

pub interfaces_are : (c : PlatformClass) → list_all is_interface (interfaces_of c) ≡ true
interfaces_are = of_each (λ x. list_all is_interface (interfaces_of x)) interface_rows

-- no interface has instances that code makes
instantiable_rows : list_all (λ e. not (is_instantiable e.class) || not (is_interface e.class)) classes ≡ true
unfolding is_instantiable is_interface classes
instantiable_rows = refl

pub instantiable_is : (c : PlatformClass) → is_instantiable c ≡ true → is_interface c ≡ false
instantiable_is c e = not-true (is_interface c) (either (not (is_instantiable c)) (not (is_interface c))
    (of_each (λ x. not (is_instantiable x) || not (is_interface x)) instantiable_rows c) (ap not e))
