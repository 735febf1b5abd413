-- Classes have the cells of their superclasses first: those of the platform, and those of linked packages.
use Rattle.std.proofs.Common.{◌≡◌, ℕ, ◌+◌, ◌-◌, ◌<◌, ◌≤◌, ◌⊎◌, inl, inr, ◌&&◌, Bool, true, false, List, [], ◌∷◌, Option, Some, None, length, refl, ap, ◌∙◌}
use Rattle.std.proofs.Common.{arith}
use Rattle.std.proofs.Common.{if◌then◌else◌}
use Rattle.std.specs.Prelude.{is_some, min, nat_le, nat_lt}
use Rattle.std.specs.List.{list_all}
use Rattle.std.specs.Option.{option_map}
use Rattle.std.proofs.lemmas.Bool.{and_parts, cases_lt, false≢true, leb-true, ltb-true}
use Rattle.std.proofs.Math.Nat.{min-eq_left, min-eq_right}
use Rattle.jc_platform.specs.declared.names.PlatformClass.{PlatformClass}
use Rattle.jc_platform.specs.NamePlaces.{class_word}
use Rattle.jc_platform.specs.Hierarchy.{cells_of, holds_reference, interfaces_of, is_interface, superclass_of}
use Rattle.jc_platform.specs.Platform.{TellNames, class_by_word}
use Rattle.jc_platform.specs.Tokens.{token_of_class}
use Rattle.jc_linker.specs.Classes.{class_in, declares_reference, interfaces_by, interfaces_in, platform_interfaces, own_reference, size_by, size_of}
use Rattle.jc_linker.specs.Classes.{superclass_by, superclass_in}
use Rattle.jc_linker.specs.Resolve.{interface_by, names_interface}
use Rattle.jc_linker.specs.Values.{ClassValue, Packages}
use Rattle.law_code.proofs.Fields.{no_class}
use Rattle.law_code.proofs.ClosedPackages.{if_each}
use Rattle.law_code.proofs.Lists.{IfThere, both_there, map_there}
use Rattle.law_code.proofs.Numbers.{word_high}
use Rattle.law_code.specs.ReadPackages.{HasByteTokens}
use Rattle.law_code.proofs.Chains.{Fits, IsOrdered, own}
use Rattle.law_code.proofs.Good.{AllGood, AreInterfaces, IsGood}
use Rattle.law_code.proofs.ClassFacts.{fewer_above, interfaces_are, reference_behind, reference_within}
use Rattle.law_code.proofs.Tokens.{HasToken, token_of_word, word_told}

-- ---- they stand after their words

pub no_value : (o : Option ClassValue) → ((c : ClassValue) → o ≡ Some c → ⊥) → o ≡ None
no_value None never = refl
no_value (Some c) never = absurd (never c refl)

pub of_some : (o : Option ℕ) → is_some o ≡ true → (k : ℕ) × (o ≡ Some k)
of_some None there = absurd (false≢true there)
of_some (Some k) there = (k, refl)

module _ (p : Packages) (few : length p.loaded ≤ 32) (names : TellNames p.platform) (bytes : HasByteTokens p.platform) where
  abbrev word : PlatformClass → ℕ
  word c = class_word p.platform c

  pub not_loaded : (c : PlatformClass) → class_in p (word c) ≡ None
  not_loaded c = no_value (class_in p (word c)) (λ x is. no_class p (word c) few (word_high p.platform c) x is)

  -- the superclass of a class that stands does
  pub superclass_stands : (c : PlatformClass) → HasToken p.platform c → IfThere (HasToken p.platform) (superclass_of c)
  superclass_stands c stands = if_each (HasToken p.platform) (superclass_of c)
      (λ d is. of_some (token_of_class p.platform d) (names.superclasses c d is (ap is_some stands.1)))

  pub named : (c : PlatformClass) → HasToken p.platform c → class_by_word p.platform (word c) ≡ Some c
  named c stands = word_told p.platform names bytes c stands

  by_both : {A : Type 0} (f : Option ClassValue → Option PlatformClass → A) (c : PlatformClass) → HasToken p.platform c
      → f (class_in p (word c)) (class_by_word p.platform (word c)) ≡ f None (Some c)
  by_both f c stands = ap (λ o. f o (class_by_word p.platform (word c))) (not_loaded c) ∙ ap (f None) (named c stands)

  pub platform_size : (c : PlatformClass) → HasToken p.platform c → size_of p (word c) ≡ cells_of c
  unfolding size_of
  platform_size c stands = by_both size_by c stands

  pub platform_above : (c : PlatformClass) → HasToken p.platform c → superclass_in p (word c) ≡ option_map (class_word p.platform) (superclass_of c)
  unfolding superclass_in
  platform_above c stands = by_both (superclass_by p) c stands

  pub platform_own : (c : PlatformClass) → HasToken p.platform c → (k : ℕ) → own p (word c) k ≡ holds_reference c k
  platform_own c stands k = by_both (λ o other. own_reference o other k) c stands

  pub platform_interface : (c : PlatformClass) → HasToken p.platform c → names_interface p (word c) ≡ is_interface c
  unfolding names_interface
  platform_interface c stands = by_both interface_by c stands

  abbrev is_there : PlatformClass → Bool
  is_there c = is_some (token_of_class p.platform c)

  -- interfaces of the platform that stand are such
  named_interfaces : (cs : List PlatformClass) → list_all is_interface cs ≡ true → list_all is_there cs ≡ true → AreInterfaces p (platform_interfaces p cs)
  named_interfaces [] each there = tt
  named_interfaces (c ∷ cs) each there =
      let parts = and_parts (is_interface c) (list_all is_interface cs) each in
      let stand = and_parts (is_there c) (list_all is_there cs) there in
      (platform_interface c (of_some (token_of_class p.platform c) stand.0) ∙ parts.0, named_interfaces cs parts.1 stand.1)

  -- so are those that a class of the platform lists that stands
  pub class_interfaces : (c : PlatformClass) → HasToken p.platform c → AreInterfaces p (platform_interfaces p (interfaces_of c))
  class_interfaces c stands = named_interfaces (interfaces_of c) (interfaces_are c) (names.interfaces c (ap is_some stands.1))

-- ---- all classes

uncapped : (a s : ℕ) → a ≡ min 65536 s → a < 65536 → a ≡ s
uncapped a s is less = elim (cases_lt s 65536) [
  | inl low ↦ is ∙ min-eq_right (omega (arith, low))
  | inr high ↦ absurd (let e : a ≡ 65536 = is ∙ min-eq_left high in omega (arith, e, less))
]

-- a loaded class that is no interface has its superclass's cells first
pub inherited_size : (p : Packages) (c : ClassValue) → IsGood p c → c.is_interface ≡ false → c.inherited_cells + c.declared_cells < 65536
    → c.inherited_cells ≡ size_of p c.superclass
inherited_size p c good class fits = uncapped c.inherited_cells (size_of p c.superclass) (good.inherits class) (omega (arith, fits))

declared_within : (c : ClassValue) (k : ℕ) → (c.reference_count ≡ 0) ⊎ (c.first_reference + c.reference_count ≤ c.declared_cells)
    → declares_reference c k ≡ true → k < c.declared_cells
declared_within c k fits e =
    let a = and_parts (nat_le c.first_reference k) (nat_lt k (c.first_reference + c.reference_count)) e in
    let low = leb-true c.first_reference k a.0 in
    let high = ltb-true k (c.first_reference + c.reference_count) a.1 in
    elim fits [
      | inl none ↦ absurd (omega (arith, low, high, none))
      | inr le ↦ omega (arith, high, le)
    ]

module _ (p : Packages) (few : length p.loaded ≤ 32) (names : TellNames p.platform) (bytes : HasByteTokens p.platform) (good : AllGood p) where
  -- ---- superclasses have no more cells

  loaded_above : (P : ℕ → Type 0) (c : ClassValue) (b : Bool) → c.is_interface ≡ b → (c.is_interface ≡ false → P c.superclass)
      → IfThere P (if b then None else Some c.superclass)
  loaded_above P c true is class = tt
  loaded_above P c false is class = class is

  sizes_by : (w : ℕ) (o : Option ClassValue) → class_in p w ≡ o → (other : Option PlatformClass) → class_by_word p.platform w ≡ other → size_by o other < 65536
      → IfThere (λ s. size_of p s ≤ size_by o other) (superclass_by p o other)
  sizes_by w (Some c) is other told fits = loaded_above (λ s. size_of p s ≤ c.inherited_cells + c.declared_cells) c c.is_interface refl
      (λ class. let same = inherited_size p c (good w c is) class fits in omega (arith, same))
  sizes_by w None is None told fits = tt
  sizes_by w None is (Some d) told fits = map_there (λ e. (nat_le (cells_of e) (cells_of d) ≡ true) × HasToken p.platform e) (λ s. size_of p s ≤ cells_of d)
      (class_word p.platform) (superclass_of d)
      (both_there (λ e. nat_le (cells_of e) (cells_of d) ≡ true) (HasToken p.platform) (superclass_of d) (fewer_above d)
      (superclass_stands p few names bytes d (token_of_word p.platform w d told)))
      (λ e both. let same = platform_size p few names bytes e both.1 in let less = leb-true (cells_of e) (cells_of d) both.0 in omega (arith, same, less))

  sizes : (w : ℕ) → Fits p w → IfThere (λ s. size_of p s ≤ size_of p w) (superclass_in p w)
  unfolding size_of superclass_in
  sizes w fits = sizes_by w (class_in p w) refl (class_by_word p.platform w) refl fits

  -- ---- a class's own cells stand after its superclass's, and among its own

  own_parts : (c : ClassValue) (k : ℕ) → IsGood p c → (nat_le c.inherited_cells k && declares_reference c (k - c.inherited_cells)) ≡ true
      → (c.inherited_cells ≤ k) × (k < c.inherited_cells + c.declared_cells)
  own_parts c k is e =
      let a = and_parts (nat_le c.inherited_cells k) (declares_reference c (k - c.inherited_cells)) e in
      let low = leb-true c.inherited_cells k a.0 in
      let less = declared_within c (k - c.inherited_cells) is.fits a.1 in
      (low, omega (arith, low, less))

  within_by : (w k : ℕ) (o : Option ClassValue) → class_in p w ≡ o → (other : Option PlatformClass) → own_reference o other k ≡ true → k < size_by o other
  within_by w k (Some c) is other e = (own_parts c k (good w c is) e).1
  within_by w k None is None e = absurd (false≢true e)
  within_by w k None is (Some d) e = reference_within d k e

  within : (w k : ℕ) → own p w k ≡ true → k < size_of p w
  unfolding size_of
  within w k e = within_by w k (class_in p w) refl (class_by_word p.platform w) e

  behind_by : (w k : ℕ) (o : Option ClassValue) → class_in p w ≡ o → (other : Option PlatformClass) → class_by_word p.platform w ≡ other
      → size_by o other < 65536 → own_reference o other k ≡ true → IfThere (λ s. (size_of p s ≤ k) ⊎ (own p s k ≡ true)) (superclass_by p o other)
  behind_by w k (Some c) is other told fits e = loaded_above (λ s. (size_of p s ≤ k) ⊎ (own p s k ≡ true)) c c.is_interface refl
      (λ class. let same = inherited_size p c (good w c is) class fits in let parts = own_parts c k (good w c is) e in let low = parts.0 in
      inl (omega (arith, same, low)))
  behind_by w k None is None told fits e = tt
  behind_by w k None is (Some d) told fits e = map_there (λ x. ((cells_of x ≤ k) ⊎ (holds_reference x k ≡ true)) × HasToken p.platform x)
      (λ s. (size_of p s ≤ k) ⊎ (own p s k ≡ true)) (class_word p.platform) (superclass_of d)
      (both_there (λ x. (cells_of x ≤ k) ⊎ (holds_reference x k ≡ true)) (HasToken p.platform) (superclass_of d) (reference_behind d k e)
      (superclass_stands p few names bytes d (token_of_word p.platform w d told)))
      (λ x both. elim both.0 [
        | inl le ↦ let same = platform_size p few names bytes x both.1 in inl (omega (arith, same, le))
        | inr held ↦ inr (platform_own p few names bytes x both.1 k ∙ held)
      ])

  behind : (w k : ℕ) → Fits p w → own p w k ≡ true → IfThere (λ s. (size_of p s ≤ k) ⊎ (own p s k ≡ true)) (superclass_in p w)
  unfolding size_of superclass_in
  behind w k fits e = behind_by w k (class_in p w) refl (class_by_word p.platform w) refl fits e

  pub ordered : IsOrdered p
  ordered = record { sizes = sizes; within = within; behind = behind }

  -- ---- what classes list are interfaces

  listed_by : (w : ℕ) (o : Option ClassValue) → class_in p w ≡ o → (other : Option PlatformClass) → class_by_word p.platform w ≡ other
      → AreInterfaces p (interfaces_by p o other)
  listed_by w (Some c) is other told = (good w c is).interfaces
  listed_by w None is None told = tt
  listed_by w None is (Some d) told = class_interfaces p few names bytes d (token_of_word p.platform w d told)

  pub listed : (w : ℕ) → AreInterfaces p (interfaces_in p w)
  unfolding interfaces_in
  listed w = listed_by w (class_in p w) refl (class_by_word p.platform w) refl
