-- Cells of instances: those of the platform's classes, and those of fields that entries name.
use Rattle.std.proofs.Common.{◌≡◌, ℕ, zero, suc, ◌+◌, ◌-◌, ◌<◌, ◌≤◌, ◌⊎◌, inl, inr, ◌&&◌, ◌||◌, not, Bool, true, false, Option, Some, None, length, refl, sym}
use Rattle.std.proofs.Common.{subst, ap, ◌∙◌, arith, if◌then◌else◌}
use Rattle.std.specs.Prelude.{is_some, nat_le, nat_lt}
use Rattle.std.specs.Option.{option_map}
use Rattle.std.proofs.lemmas.Bool.{and_from, and_parts, cases_Bool, false≢true, le-leb, ltb-true, or_cases}
use Rattle.std.proofs.lemmas.Option.{none-some, same_Some}
use Rattle.jc_platform.specs.declared.names.PlatformClass.{PlatformClass}
use Rattle.jc_platform.specs.NamePlaces.{class_word}
use Rattle.jc_platform.specs.Hierarchy.{cells_of, holds_reference, is_interface, superclass_of}
use Rattle.jc_platform.specs.Platform.{TellNames, class_by_word}
use Rattle.jc_platform.specs.Tokens.{token_of_class}
use Rattle.jc_linker.specs.Classes.{any_reference, class_in, declares_reference, is_below, is_class, lineage_from, most_classes, own_reference}
use Rattle.jc_linker.specs.Classes.{reference_cell, size_by, size_of, superclass_by, superclass_in, is_a}
use Rattle.jc_linker.specs.Resolve.{interface_by, names_interface}
use Rattle.jc_linker.specs.Values.{ClassValue, Packages}
use Rattle.law_code.specs.Classes.{HasPlatformCells, IsPlatformBelow, has_instances}
use Rattle.law_code.specs.Classes.IsPlatformBelow.{Above, Itself}
use Rattle.law_code.proofs.Lists.{IfThere, map_there}
use Rattle.law_code.specs.ReadPackages.{HasByteTokens}
use Rattle.law_code.proofs.Chains.{Fits, Reaches, below_reached, cell_of_reached, none_behind, one_first, own, reached_size}
use Rattle.law_code.proofs.Good.{AllGood}
use Rattle.law_code.proofs.ClassFacts.{few_cells, reference_above}
use Rattle.law_code.proofs.Nameless.{nameless, names_none, no_class_there, no_interface_there, token_or_none}
use Rattle.law_code.proofs.CellOrder.{inherited_size, listed, named, not_loaded, ordered, platform_above, platform_interface}
use Rattle.law_code.proofs.CellOrder.{of_some, platform_own, platform_size, superclass_stands}
use Rattle.law_code.proofs.Tokens.{HasToken, token_of_word}

module _ (p : Packages) (few : length p.loaded ≤ 32) (names : TellNames p.platform) (bytes : HasByteTokens p.platform) (good : AllGood p) where
  abbrev word : PlatformClass → ℕ
  word c = class_word p.platform c

  fits_of : (class : ℕ) → has_instances p class ≡ true → Fits p class
  fits_of class has =
      let a = and_parts (is_class p class) (not (names_interface p class) && nat_lt (size_of p class) 65536) has in
      ltb-true (size_of p class) 65536 (and_parts (not (names_interface p class)) (nat_lt (size_of p class) 65536) a.1).1

  -- no class reaches the word that names none

  has_name : (d : PlatformClass) → HasToken p.platform d → word d ≡ nameless → ⊥
  has_name d there is =
      none-some d (sym (names_none p.platform) ∙ ap (class_by_word p.platform) (sym is) ∙ named p few names bytes d there)

  plain_above : (c : ClassValue) (b : Bool) → c.is_interface ≡ b → (c.is_interface ≡ false → c.superclass ≡ nameless → ⊥)
      → IfThere (λ s. s ≡ nameless → ⊥) (if b then None else Some c.superclass)
  plain_above c true is above = tt
  plain_above c false is above = above is

  above_by : (w : ℕ) (o : Option ClassValue) → class_in p w ≡ o → (other : Option PlatformClass) → class_by_word p.platform w ≡ other → IfThere (λ s. s ≡ nameless → ⊥) (superclass_by p o other)
  above_by w (Some c) is other told = plain_above c c.is_interface refl (good w c is).above
  above_by w None is None told = tt
  above_by w None is (Some d) told = map_there (HasToken p.platform) (λ s. s ≡ nameless → ⊥) (class_word p.platform) (superclass_of d)
      (superclass_stands p few names bytes d (token_of_word p.platform w d told)) has_name

  above_named : (w : ℕ) → IfThere (λ s. s ≡ nameless → ⊥) (superclass_in p w)
  unfolding superclass_in
  above_named w = above_by w (class_in p w) refl (class_by_word p.platform w) refl

  not_reached : (n : ℕ) (o : Option ℕ) → IfThere (λ s. s ≡ nameless → ⊥) o → Reaches p nameless n o → ⊥
  unfolding Reaches
  not_reached zero o other reaches = reaches
  not_reached (suc n) None other reaches = reaches
  not_reached (suc n) (Some x) other (inl e) = other e
  not_reached (suc n) (Some x) other (inr more) = not_reached n (superclass_in p x) (above_named x) more

  is_there : (class : ℕ) → has_instances p class ≡ true → is_class p class ≡ true
  is_there class has = (and_parts (is_class p class) (not (names_interface p class) && nat_lt (size_of p class) 65536) has).0

  -- a class of which there may be instances is below those alone that the platform has
  stands : (class : ℕ) (of : PlatformClass) → has_instances p class ≡ true → is_a p class of ≡ true → HasToken p.platform of
  stands class of has below = elim (token_or_none p.platform of) [
    | inl there ↦ there
    | inr is ↦ absurd (not_reached most_classes (Some class)
        (λ e. no_class_there p few (subst (λ w. is_class p w ≡ true) e (is_there class has)))
        (below_reached p (listed p few names bytes good) nameless (no_interface_there p few) class (subst (λ w. is_below p class w ≡ true) is below)))
  ]

  reached : (class : ℕ) (of : PlatformClass) → HasToken p.platform of → is_interface of ≡ false → is_a p class of ≡ true
      → Reaches p (word of) most_classes (Some class)
  reached class of there class_of below =
      below_reached p (listed p few names bytes good) (word of) (platform_interface p few names bytes of there ∙ class_of) class below

  -- ---- what the platform's classes reach

  same_class : (c d : PlatformClass) → HasToken p.platform c → HasToken p.platform d → word c ≡ word d → c ≡ d
  same_class c d first second e =
      same_Some c d (sym (named p few names bytes c first) ∙ ap (class_by_word p.platform) e ∙ named p few names bytes d second)

  abbrev IsAbove : ℕ → PlatformClass → Type 0
  IsAbove w c = (d : PlatformClass) × (w ≡ word d) × IsPlatformBelow d c × HasToken p.platform d

  further : (w n : ℕ) (c : PlatformClass) (o : Option PlatformClass) → superclass_of c ≡ o → ((d : PlatformClass) → superclass_of c ≡ Some d → Reaches p w n (Some (word d)) → IsAbove w d)
      → Reaches p w n (option_map (class_word p.platform) o) → IsAbove w c
  unfolding Reaches
  further w zero c o is each reaches = absurd reaches
  further w (suc n) c None is each reaches = absurd reaches
  further w (suc n) c (Some d) is each reaches = let more = each d is reaches in (more.0, more.1, Above c d is more.2, more.3)

  from_platform : (w n : ℕ) (c : PlatformClass) → HasToken p.platform c → Reaches p w n (Some (word c)) → IsAbove w c
  unfolding Reaches
  from_platform w zero c there reaches = absurd reaches
  from_platform w (suc n) c there (inl e) = (c, sym e, Itself, there)
  from_platform w (suc n) c there (inr more) = further w n c (superclass_of c) refl
      (λ d is. from_platform w n d (subst (IfThere (HasToken p.platform)) is (superclass_stands p few names bytes c there)))
      (subst (Reaches p w n) (platform_above p few names bytes c there) more)

  -- ---- cells of the platform

  -- what holds a reference in a class above does in the class
  held_from : (m k : ℕ) (c : PlatformClass) (o : Option PlatformClass) → IfThere (HasToken p.platform) o
      → IfThere (λ d. holds_reference d k ≡ true → holds_reference c k ≡ true) o
      → any_reference p k (lineage_from p m (option_map (class_word p.platform) o)) ≡ true → holds_reference c k ≡ true
  unfolding any_reference lineage_from
  held_from zero k c o there below e = absurd (false≢true e)
  held_from (suc m) k c None there below e = absurd (false≢true e)
  held_from (suc m) k c (Some d) there below e =
      elim (or_cases (own p (word d) k) (any_reference p k (lineage_from p m (superclass_in p (word d)))) e) [
        | inl here ↦ below (sym (platform_own p few names bytes d there k) ∙ here)
        | inr more ↦ below (held_from m k d (superclass_of d) (superclass_stands p few names bytes d there) (reference_above d k)
            (ap (λ o. any_reference p k (lineage_from p m o)) (sym (platform_above p few names bytes d there)) ∙ more))
      ]

  or_told : (a b : Bool) → (b ≡ true → a ≡ true) → (a || b) ≡ a
  or_told true b told = refl
  or_told false true told = absurd (false≢true (told refl))
  or_told false false told = refl

  or_none : (a b : Bool) → b ≡ false → (a || b) ≡ a
  or_none true b e = refl
  or_none false b e = e

  pub cells_are : (class k : ℕ) (of : PlatformClass) → has_instances p class ≡ true → is_interface of ≡ false → is_a p class of ≡ true → k < cells_of of
      → reference_cell p class k ≡ holds_reference of k
  unfolding reference_cell
  cells_are class k of has class_of below less =
      let there = stands class of has below in
      let size = platform_size p few names bytes of there in
      let found = cell_of_reached p (ordered p few names bytes good) most_classes (word of) k (Some class) (fits_of class has)
      (reached class of there class_of below)
      (omega (arith, less, size)) in
      found.1 ∙ or_told (own p (word of) k) (any_reference p k (lineage_from p found.0 (superclass_in p (word of))))
      (λ above. platform_own p few names bytes of there k ∙ held_from found.0 k of (superclass_of of) (superclass_stands p few names bytes of there)
      (reference_above of k) (ap (λ o. any_reference p k (lineage_from p found.0 o)) (sym (platform_above p few names bytes of there)) ∙ above))
      ∙ platform_own p few names bytes of there k

  pub sizes_are : (class : ℕ) (of : PlatformClass) → has_instances p class ≡ true → is_interface of ≡ false → is_a p class of ≡ true
      → cells_of of ≤ size_of p class
  sizes_are class of has class_of below =
      let there = stands class of has below in
      let size = platform_size p few names bytes of there in
      let le = reached_size p (ordered p few names bytes good) most_classes (word of) (Some class) (fits_of class has) (reached class of there class_of below) in
      omega (arith, size, le)

  below_of : (c d : PlatformClass) → HasToken p.platform c → IsAbove (word c) d → IsPlatformBelow c d
  below_of c d there above = subst (λ x. IsPlatformBelow x d) (sym (same_class c above.0 there above.3 above.1)) above.2

  pub in_line : (class : ℕ) (of other : PlatformClass) → has_instances p class ≡ true → is_interface of ≡ false → is_interface other ≡ false
      → is_a p class of ≡ true → is_a p class other ≡ true → IsPlatformBelow of other ⊎ IsPlatformBelow other of
  in_line class of other has class_of class_other below also =
      let one = stands class of has below in
      let two = stands class other has also in
      elim (one_first p (word of) (word other) most_classes (Some class) (reached class of one class_of below) (reached class other two class_other also)) [
        | inl first ↦ inr (below_of other of two (from_platform (word other) first.0 of one first.1))
        | inr second ↦ inl (below_of of other one (from_platform (word of) second.0 other two second.1))
      ]

  token_of : (of : PlatformClass) → is_some (token_of_class p.platform of) ≡ true → HasToken p.platform of
  token_of of there = of_some (token_of_class p.platform of) there

  pub own_are : (of : PlatformClass) → HasToken p.platform of → is_interface of ≡ false → has_instances p (word of) ≡ true
  unfolding is_class
  own_are of there class =
      and_from (is_class p (word of)) (not (names_interface p (word of)) && nat_lt (size_of p (word of)) 65536)
      (rw (not_loaded p few names bytes of, named p few names bytes of there) refl)
      (and_from (not (names_interface p (word of))) (nat_lt (size_of p (word of)) 65536)
      (ap not (platform_interface p few names bytes of there ∙ class))
      (ap (λ n. nat_lt n 65536) (platform_size p few names bytes of there) ∙ few_cells of))

  pub platform_cells : HasPlatformCells p
  platform_cells = record {
    kinds = cells_are;
    sizes = sizes_are;
    line = in_line;
    needed = λ of need. ap is_some (names.needed_classes of need).1;
    own = λ of there class. own_are of (token_of of there) class;
    exact = λ of there. platform_size p few names bytes of (token_of of there);
  }

  -- ---- cells of fields

  -- the class of a field that an entry names is no interface, and a class that is below it reaches it
  field_class : (of token : ℕ) (c : ClassValue) → class_in p of ≡ Some c → token < c.declared_cells → c.is_interface ≡ false
  field_class of token c is declared = elim (cases_Bool c.is_interface) [
    | inl interface ↦ absurd (let none = (good of c is).bare interface in omega (arith, none, declared))
    | inr class ↦ class
  ]

  loaded_size : (of : ℕ) (c : ClassValue) → class_in p of ≡ Some c → size_of p of ≡ c.inherited_cells + c.declared_cells
  unfolding size_of
  loaded_size of c is = ap (λ o. size_by o (class_by_word p.platform of)) is

  loaded_above : (of : ℕ) (c : ClassValue) → class_in p of ≡ Some c → c.is_interface ≡ false → superclass_in p of ≡ Some c.superclass
  unfolding superclass_in
  loaded_above of c is class = ap (λ o. superclass_by p o (class_by_word p.platform of)) is ∙ ap (λ b. if b then None else Some c.superclass) class

  loaded_reached : (of class : ℕ) (c : ClassValue) → class_in p of ≡ Some c → c.is_interface ≡ false → is_below p class of ≡ true
      → Reaches p of most_classes (Some class)
  unfolding names_interface
  loaded_reached of class c is plain below = below_reached p (listed p few names bytes good) of
      (ap (λ o. interface_by o (class_by_word p.platform of)) is ∙ plain) class below

  -- the class that is below it has no more cells than an object can have, so it has its superclass's cells first
  above_size : (of class : ℕ) (c : ClassValue) → class_in p of ≡ Some c → c.is_interface ≡ false → Fits p class → Reaches p of most_classes (Some class)
      → c.inherited_cells ≡ size_of p c.superclass
  above_size of class c is plain fits reaches =
      let le = reached_size p (ordered p few names bytes good) most_classes of (Some class) fits reaches in
      let size = loaded_size of c is in
      inherited_size p c (good of c is) plain (omega (arith, le, size, fits))

  own_declared : (inherited token : ℕ) (c : ClassValue) → c.inherited_cells ≡ inherited
      → (nat_le c.inherited_cells (inherited + token) && declares_reference c (inherited + token - c.inherited_cells)) ≡ declares_reference c token
  own_declared inherited token c is =
      let low : nat_le c.inherited_cells (inherited + token) ≡ true = le-leb c.inherited_cells (inherited + token) (omega (arith, is)) in
      let same : inherited + token - c.inherited_cells ≡ token = omega (arith, is) in
      ap (λ b. b && declares_reference c (inherited + token - c.inherited_cells)) low ∙ ap (declares_reference c) same

  loaded_own : (of token : ℕ) (c : ClassValue) → class_in p of ≡ Some c → own p of (c.inherited_cells + token) ≡ declares_reference c token
  loaded_own of token c is = ap (λ o. own_reference o (class_by_word p.platform of) (c.inherited_cells + token)) is
      ∙ own_declared c.inherited_cells token c refl

  pub field_is : (of token class : ℕ) (c : ClassValue) → class_in p of ≡ Some c → token < c.declared_cells → has_instances p class ≡ true
      → is_below p class of ≡ true → reference_cell p class (c.inherited_cells + token) ≡ declares_reference c token
  unfolding reference_cell
  field_is of token class c is declared has below =
      let plain = field_class of token c is declared in
      let reaches = loaded_reached of class c is plain below in
      let size = loaded_size of c is in
      let found = cell_of_reached p (ordered p few names bytes good) most_classes of (c.inherited_cells + token) (Some class) (fits_of class has) reaches
      (omega (arith, size, declared)) in
      let inherited = above_size of class c is plain (fits_of class has) reaches in
      let le = reached_size p (ordered p few names bytes good) most_classes of (Some class) (fits_of class has) reaches in
      let few_above = fits_of class has in
      let none : any_reference p (c.inherited_cells + token) (lineage_from p found.0 (superclass_in p of)) ≡ false =
      ap (λ o. any_reference p (c.inherited_cells + token) (lineage_from p found.0 o)) (loaded_above of c is plain)
      ∙ none_behind p (ordered p few names bytes good) found.0 (c.inherited_cells + token) (Some c.superclass) (omega (arith, inherited, le, size, few_above))
      (omega (arith, inherited)) in
      found.1 ∙ or_none (own p of (c.inherited_cells + token)) (any_reference p (c.inherited_cells + token) (lineage_from p found.0 (superclass_in p of))) none
      ∙ loaded_own of token c is

  -- what a loaded class reaches of the platform has no more cells than it inherits
  above_loaded : (n of token : ℕ) (c : ClassValue) (platform : PlatformClass) → HasToken p.platform platform → class_in p of ≡ Some c → c.is_interface ≡ false
      → c.inherited_cells ≡ size_of p c.superclass → Fits p c.superclass → Reaches p (word platform) n (Some of) → cells_of platform ≤ c.inherited_cells + token
  unfolding Reaches
  above_loaded zero of token c platform there is plain inherited fits reaches = absurd reaches
  above_loaded (suc n) of token c platform there is plain inherited fits (inl e) = absurd
      (none-some c (sym (ap (class_in p) e ∙ not_loaded p few names bytes platform) ∙ is))
  above_loaded (suc n) of token c platform there is plain inherited fits (inr more) =
      let le = reached_size p (ordered p few names bytes good) n (word platform) (Some c.superclass) fits
      (subst (Reaches p (word platform) n) (loaded_above of c is plain) more) in
      let size = platform_size p few names bytes platform there in
      omega (arith, le, size, inherited)

  -- and none of the platform reaches it
  behind_platform : (of token : ℕ) (c : ClassValue) (platform : PlatformClass) → HasToken p.platform platform → class_in p of ≡ Some c → c.is_interface ≡ false
      → c.inherited_cells ≡ size_of p c.superclass → Fits p c.superclass →
      ((m : ℕ) × Reaches p (word platform) m (Some of)) ⊎ ((m : ℕ) × Reaches p of m (Some (word platform))) → cells_of platform ≤ c.inherited_cells + token
  behind_platform of token c platform there is plain inherited fits (inl first) = above_loaded first.0 of token c platform there is plain inherited fits first.1
  behind_platform of token c platform there is plain inherited fits (inr above) =
      let other = from_platform of above.0 platform there above.1 in
      absurd (none-some c (sym (ap (class_in p) other.1 ∙ not_loaded p few names bytes other.0) ∙ is))

  pub field_behind : (of token class : ℕ) (c : ClassValue) (platform : PlatformClass) → class_in p of ≡ Some c → token < c.declared_cells
      → has_instances p class ≡ true → is_interface platform ≡ false → is_below p class of ≡ true → is_a p class platform ≡ true
      → cells_of platform ≤ c.inherited_cells + token
  field_behind of token class c platform is declared has class_platform below also =
      let plain = field_class of token c is declared in
      let reaches = loaded_reached of class c is plain below in
      let inherited = above_size of class c is plain (fits_of class has) reaches in
      let size = loaded_size of c is in
      let le = reached_size p (ordered p few names bytes good) most_classes of (Some class) (fits_of class has) reaches in
      let few_above = fits_of class has in
      let there = stands class platform has also in
      behind_platform of token c platform there is plain inherited (omega (arith, inherited, le, size, few_above))
      (one_first p of (word platform) most_classes (Some class) reaches (reached class platform there class_platform also))
