-- Classes that are below one of the platform.
use Rattle.std.proofs.Common.{◌≡◌, ℕ, zero, suc, ◌/◌, ◌<◌, inl, inr, ◌==◌, ◌||◌, Bool, true, false, [], Option, Some, None, length, refl, sym, ap, subst, ◌∙◌}
use Rattle.std.specs.Prelude.{is_some}
use Rattle.std.proofs.lemmas.Bool.{cases_Bool, eqb-true, false≢true, or_cases}
use Rattle.jc_platform.specs.declared.names.PlatformClass.{PlatformClass}
use Rattle.jc_platform.specs.NamePlaces.{class_word}
use Rattle.jc_platform.specs.Platform.{class_by_word}
use Rattle.jc_linker.specs.Classes.{any_is, class_in, implements, interfaces_in, is_below, is_class, lineage_from, most_classes, superclass_in, is_a}
use Rattle.jc_linker.specs.Values.{Packages}
use Rattle.jc_linker.specs.Linking.{next_number}
use Rattle.law_code.proofs.Numbers.{class_stands, stands_beside, word_high}

none_of : {A : Type 0} (o : Option A) → is_some o ≡ false → o ≡ None
none_of None e = refl
none_of (Some x) e = absurd cc

neither : (a b : Bool) → (a || b) ≡ false → (a ≡ false) × (b ≡ false)
neither true b e = absurd cc
neither false b e = (refl, e)

module _ (p : Packages) (w : ℕ) (none : is_class p w ≡ false) where
  nowhere : (class_in p w ≡ None) × (class_by_word p.platform w ≡ None)
  unfolding is_class
  nowhere =
      let n = neither (is_some (class_in p w)) (is_some (class_by_word p.platform w)) none in
      (none_of (class_in p w) n.0, none_of (class_by_word p.platform w) n.1)

  no_superclass : superclass_in p w ≡ None
  unfolding superclass_in
  no_superclass = let n = nowhere in rw (n.0, n.1) refl

  no_interfaces : interfaces_in p w ≡ []
  unfolding interfaces_in
  no_interfaces = let n = nowhere in rw (n.0, n.1) refl

  implements_none : (of : ℕ) → implements p w of ≡ false
  unfolding implements
  implements_none of = rw no_interfaces refl

  none_above : (n : ℕ) → lineage_from p n None ≡ []
  unfolding lineage_from
  none_above zero = refl
  none_above (suc n) = refl

  alone : (n of : ℕ) → any_is p of (lineage_from p n (Some w)) ≡ true → w ≡ of
  unfolding any_is lineage_from
  alone zero of e = absurd (false≢true e)
  alone (suc n) of e =
      let rest : lineage_from p n (superclass_in p w) ≡ [] = ap (lineage_from p n) no_superclass ∙ none_above n in
      elim (or_cases (w == of || implements p w of) _ e) [
        | inl here ↦ elim (or_cases (w == of) (implements p w of) here) [
          | inl same ↦ eqb-true w of same
          | inr more ↦ absurd (false≢true (sym (implements_none of) ∙ more))
        ]
        | inr more ↦ absurd (false≢true (sym (ap (any_is p of) rest) ∙ more))
      ]

  -- what is no class is below itself alone
  pub below_itself : (of : ℕ) → is_below p w of ≡ true → w ≡ of
  unfolding is_below
  below_itself of e = alone most_classes of e

module _ (p : Packages) (room : length p.loaded < 32) where
  -- a class has another number than the next package
  pub class_beside : (w : ℕ) → is_class p w ≡ true → w / 256 ≡ next_number p → ⊥
  class_beside w there e = stands_beside (length p.loaded) (w / 256) room (class_stands p w there) e

  -- and so has what is below one of the platform
  pub a_beside : (w : ℕ) (of : PlatformClass) → is_a p w of ≡ true → w / 256 ≡ next_number p → ⊥
  a_beside w of e = elim (cases_Bool (is_class p w)) [
    | inl there ↦ class_beside w there
    | inr none ↦ subst (λ v. v / 256 ≡ next_number p → ⊥) (sym (below_itself p w none (class_word p.platform of) e))
        (stands_beside (length p.loaded) (class_word p.platform of / 256) room (inr (word_high p.platform of)))
  ]
