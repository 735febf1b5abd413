-- Lineages end. So what a class that is reached is below, those are below too that reach it.
use Rattle.std.proofs.Common.{◌≡◌, ℕ, zero, suc, ◌+◌, ◌/◌, ◌<◌, ◌≤◌, ◌==◌, ◌⊎◌, inl, inr, ◌||◌, Bool, true, false, [], ◌∷◌, Option, Some, None, length, refl}
use Rattle.std.proofs.Common.{sym, subst, ap, arith, if◌then◌else◌}
use Rattle.std.specs.Prelude.{is_some, nat_lt, slice_get}
use Rattle.std.specs.Option.{option_map}
use Rattle.std.proofs.lemmas.Bool.{false≢true, ltb-true, or_cases, or_left, or_right}
use Rattle.jc_platform.specs.declared.names.PlatformClass.{PlatformClass}
use Rattle.jc_platform.specs.NamePlaces.{class_word}
use Rattle.jc_platform.specs.Hierarchy.{superclass_of}
use Rattle.jc_platform.specs.Numbers.{class_count, class_number}
use Rattle.jc_platform.specs.Platform.{TellNames, class_by_word}
use Rattle.jc_platform.proofs.Numbers.{class_below}
use Rattle.jc_linker.specs.Classes.{any_is, class_in, implements, is_below, lineage_from, most_classes, package_in, superclass_by, superclass_in}
use Rattle.jc_linker.specs.Values.{ClassValue, Packages}
use Rattle.law_code.proofs.ClassFacts.{superclass_before}
use Rattle.law_code.proofs.Fields.{IsHigh, no_class}
use Rattle.law_code.proofs.Lists.{IfThere}
use Rattle.law_code.proofs.Numbers.{package_low, then_some}
use Rattle.law_code.specs.ReadPackages.{HasByteTokens}
use Rattle.law_code.proofs.Chains.{Reaches}
use Rattle.law_code.proofs.CellOrder.{no_value, platform_above, superclass_stands}
use Rattle.law_code.proofs.Tokens.{HasToken, token_of_word}
use Rattle.law_code.proofs.Behind.{AllBehind}

-- from a class on upwards are this many at most
unfoldable pub Ends : Packages → ℕ → Option ℕ → Type 0
Ends p zero None = Unit {0}
Ends p zero (Some w) = ⊥
Ends p (suc n) None = Unit {0}
Ends p (suc n) (Some w) = Ends p n (superclass_in p w)

-- ---- longer lineages

module _ (p : Packages) where
  none_above : (n : ℕ) → lineage_from p n None ≡ []
  unfolding lineage_from
  none_above zero = refl
  none_above (suc n) = refl

  pub ended : (n m : ℕ) (o : Option ℕ) → n ≤ m → Ends p n o → lineage_from p m o ≡ lineage_from p n o
  unfolding Ends lineage_from
  ended zero m None le ends = none_above m
  ended zero m (Some w) le ends = absurd ends
  ended (suc n) zero o le ends = absurd (omega (arith, le))
  ended (suc n) (suc m) None le ends = refl
  ended (suc n) (suc m) (Some w) le ends = ap (λ l. w ∷ l) (ended n m (superclass_in p w) (omega (arith, le)) ends)

  any_longer : (of n m : ℕ) (o : Option ℕ) → n ≤ m → any_is p of (lineage_from p n o) ≡ true → any_is p of (lineage_from p m o) ≡ true
  unfolding any_is lineage_from
  any_longer of zero m o le e = absurd (false≢true e)
  any_longer of (suc n) zero o le e = absurd (omega (arith, le))
  any_longer of (suc n) (suc m) None le e = e
  any_longer of (suc n) (suc m) (Some w) le e = elim (or_cases (w == of || implements p w of) (any_is p of (lineage_from p n (superclass_in p w))) e) [
    | inl here ↦ or_left (w == of || implements p w of) (any_is p of (lineage_from p m (superclass_in p w))) here
    | inr more ↦ or_right (w == of || implements p w of) (any_is p of (lineage_from p m (superclass_in p w)))
        (any_longer of n m (superclass_in p w) (omega (arith, le)) more)
  ]

  any_ended : (of n m : ℕ) (o : Option ℕ) → Ends p n o → any_is p of (lineage_from p m o) ≡ true → any_is p of (lineage_from p n o) ≡ true
  any_ended of n m o ends e = subst (λ l. any_is p of l ≡ true) (ended n (n + m) o (omega arith) ends) (any_longer of m (n + m) o (omega arith) e)

  -- what stands above a class that is reached
  above_reached : (of class n m : ℕ) (o : Option ℕ) → Reaches p class n o → any_is p of (lineage_from p m (superclass_in p class)) ≡ true
      → (k : ℕ) × (any_is p of (lineage_from p k o) ≡ true)
  unfolding any_is lineage_from Reaches
  above_reached of class zero m o reaches e = absurd reaches
  above_reached of class (suc n) m None reaches e = absurd reaches
  above_reached of class (suc n) m (Some w) (inl here) e = (
    suc m,
    or_right (w == of || implements p w of) (any_is p of (lineage_from p m (superclass_in p w)))
        (subst (λ x. any_is p of (lineage_from p m (superclass_in p x)) ≡ true) (sym here) e),
  )
  above_reached of class (suc n) m (Some w) (inr more) e =
      let above = above_reached of class n m (superclass_in p w) more e in
      (suc above.0, or_right (w == of || implements p w of) (any_is p of (lineage_from p above.0 (superclass_in p w))) above.1)

  -- what a class is below that is reached
  class_reached : (of class n m : ℕ) (o : Option ℕ) → Reaches p class n o → any_is p of (lineage_from p m (Some class)) ≡ true
      → (k : ℕ) × (any_is p of (lineage_from p k o) ≡ true)
  unfolding any_is lineage_from Reaches
  class_reached of class zero m o reaches e = absurd reaches
  class_reached of class (suc n) m None reaches e = absurd reaches
  class_reached of class (suc n) m (Some w) (inl here) e = (m, subst (λ x. any_is p of (lineage_from p m (Some x)) ≡ true) (sym here) e)
  class_reached of class (suc n) m (Some w) (inr more) e =
      let above = class_reached of class n m (superclass_in p w) more e in
      (suc above.0, or_right (w == of || implements p w of) (any_is p of (lineage_from p above.0 (superclass_in p w))) above.1)

  pub below_through : (below class of : ℕ) → Ends p most_classes (Some below) → Reaches p class most_classes (Some below) → is_below p class of ≡ true
      → is_below p below of ≡ true
  unfolding is_below
  below_through below class of ends reaches e =
      let found = class_reached of class most_classes most_classes (Some below) reaches e in any_ended of most_classes found.0 (Some below) ends found.1

  pub below_above : (below class above of : ℕ) → Ends p most_classes (Some below) → Reaches p class most_classes (Some below)
      → superclass_in p class ≡ Some above → is_below p above of ≡ true → is_below p below of ≡ true
  unfolding is_below
  below_above below class above of ends reaches is e =
      let found = above_reached of class most_classes most_classes (Some below) reaches
      (subst (λ o. any_is p of (lineage_from p most_classes o) ≡ true) (sym is) e) in
      any_ended of most_classes found.0 (Some below) ends found.1

-- ---- the platform's classes

module _ (p : Packages) (few : length p.loaded ≤ 32) (names : TellNames p.platform) (bytes : HasByteTokens p.platform) (behind : AllBehind p) where
  nothing_more : (n : ℕ) → Ends p n None
  unfolding Ends
  nothing_more zero = tt
  nothing_more (suc n) = tt

  through : (n : ℕ) (c : PlatformClass) (o : Option PlatformClass) → superclass_of c ≡ o
      → ((d : PlatformClass) → superclass_of c ≡ Some d → Ends p n (Some (class_word p.platform d))) → Ends p n (option_map (class_word p.platform) o)
  through n c None is each = nothing_more n
  through n c (Some d) is each = each d is

  above_stands : (c d : PlatformClass) → HasToken p.platform c → superclass_of c ≡ Some d → HasToken p.platform d
  above_stands c d stands is = subst (IfThere (HasToken p.platform)) is (superclass_stands p few names bytes c stands)

  platform_ends : (bound n : ℕ) (c : PlatformClass) → HasToken p.platform c → class_number c < bound → bound ≤ n → Ends p n (Some (class_word p.platform c))
  unfolding Ends
  platform_ends zero n c stands less le = absurd (omega (arith, less))
  platform_ends (suc bound) zero c stands less le = absurd (omega (arith, le))
  platform_ends (suc bound) (suc n) c stands less le = subst (Ends p n) (sym (platform_above p few names bytes c stands))
      (through n c (superclass_of c) refl (λ d is.
      let lower = ltb-true (class_number d) (class_number c) (subst (IfThere (λ e. nat_lt (class_number e) (class_number c) ≡ true)) is (superclass_before c)) in
      platform_ends bound n d (above_stands c d stands is) (omega (arith, less, lower)) (omega (arith, le))))

  -- ---- all classes

  unless_loaded : (n w : ℕ) → class_in p w ≡ None → class_count ≤ n → Ends p n (superclass_in p w)
  unfolding superclass_in
  unless_loaded n w none le = subst (λ c. Ends p n (superclass_by p c (class_by_word p.platform w))) (sym none) (by_word (class_by_word p.platform w) refl)
    where
      by_word : (o : Option PlatformClass) → class_by_word p.platform w ≡ o → Ends p n (superclass_by p None o)
      by_word None is = nothing_more n
      by_word (Some c) is = through n c (superclass_of c) refl (λ d above. platform_ends class_count n d
          (above_stands c d (token_of_word p.platform w c is) above) (class_below d) le)

  other_ends : (n w : ℕ) → class_in p w ≡ None → class_count + 1 ≤ n → Ends p n (Some w)
  unfolding Ends
  other_ends zero w none le = absurd (omega (arith, le))
  other_ends (suc n) w none le = unless_loaded n w none (omega (arith, le))

  -- a loaded class's superclass is lower, or one of the platform's
  above_ends : (bound n w : ℕ) → w < bound + 1 → class_count + 1 ≤ n → ((v : ℕ) → v < bound → Ends p n (Some v)) → Ends p n (superclass_in p w)
  unfolding superclass_in
  above_ends bound n w less le lower_ends = by_class (class_in p w) refl
    where
      stands : (c : ClassValue) → (c.superclass < w) ⊎ IsHigh c.superclass → Ends p n (Some c.superclass)
      stands c (inl lower) = lower_ends c.superclass (omega (arith, less, lower))
      stands c (inr high) = other_ends n c.superclass (no_value (class_in p c.superclass) (no_class p c.superclass few high)) le

      by_kind : (c : ClassValue) → class_in p w ≡ Some c → (b : Bool) → c.is_interface ≡ b → Ends p n (if b then None else Some c.superclass)
      by_kind c is true kind = nothing_more n
      by_kind c is false kind = stands c (behind w c is kind)

      by_class : (o : Option ClassValue) → class_in p w ≡ o → Ends p n (superclass_in p w)
      by_class (Some c) is = subst (λ x. Ends p n (superclass_by p x (class_by_word p.platform w))) (sym is) (by_kind c is c.is_interface refl)
      by_class None is = unless_loaded n w is (omega (arith, le))

  loaded_ends : (bound n w : ℕ) → w < bound → bound + (class_count + 1) ≤ n → Ends p n (Some w)
  unfolding Ends
  loaded_ends zero n w less le = absurd (omega (arith, less))
  loaded_ends (suc bound) zero w less le = absurd (omega (arith, le))
  loaded_ends (suc bound) (suc n) w less le = above_ends bound n w (omega (arith, less)) (omega (arith, le))
      (λ v lower. loaded_ends bound n v lower (omega (arith, le)))

  low_word : (w : ℕ) (c : ClassValue) → class_in p w ≡ Some c → w < 8448
  unfolding class_in
  low_word w c is =
      let low = package_low p (w / 256) (then_some (λ q. slice_get q.classes _) (package_in p (w / 256)) (ap is_some is)) in
      omega (arith, few, low)

  pub all_end : (w : ℕ) → Ends p most_classes (Some w)
  all_end w = by_class (class_in p w) refl
    where
      by_class : (o : Option ClassValue) → class_in p w ≡ o → Ends p most_classes (Some w)
      by_class (Some c) is = loaded_ends 8448 most_classes w (low_word w c is) (omega arith)
      by_class None is = other_ends most_classes w is (omega arith)
