-- The opposite of a condition holds where the condition does not.
use Rattle.std.proofs.Common.{◌≡◌, ℤ, Bool, true, false, List, Option, Some, None, refl, ap}
use Rattle.std.specs.Option.{option_map}
use Rattle.std.specs.Prelude.{not, pos, int_lt, ◌==◌}
use Rattle.std.specs.Ordering.{int_eq}
use Rattle.jc_frames.specs.declared.instr.Comparison.{Comparison}
use Rattle.jc_frames.specs.declared.instr.Comparison.TheVariants.{Equal, NotEqual, Less, GreaterOrEqual, Greater, LessOrEqual}
use Rattle.jc_frames.specs.declared.instr.Condition.TheVariants.{Zero, IsNull, NotNull, SameReference, OtherReference, Shorts}
use Rattle.jc_frames.specs.Short.{compare}
use Rattle.jc_frames.specs.declared.cell.Cell.{Cell}
use Rattle.jc_frames.specs.Cell.{reference_on, short_on, two_references_on, two_shorts_on}
use Rattle.jc_interp.specs.Attacks.{OppositesDiffer, opposite_comparison}

not_twice : (b : Bool) → b ≡ not (not b)
not_twice true = refl
not_twice false = refl

compares : (comparison : Comparison) (x y : ℤ) → compare (opposite_comparison comparison) x y ≡ not (compare comparison x y)
compares Equal x y = refl
compares NotEqual x y = not_twice (int_eq x y)
compares Less x y = refl
compares GreaterOrEqual x y = not_twice (int_lt x y)
compares Greater x y = refl
compares LessOrEqual x y = not_twice (int_lt y x)

-- of what is found the first part is negated
negates : {A : Type 0} (f g : A → Bool) (rest : A → List Cell) → ((a : A) → g a ≡ not (f a)) → (o : Option A)
    → option_map {U = Bool × List Cell} (λ a. (g a, rest a)) o
    ≡ option_map {U = Bool × List Cell} (λ p. (not p.0, p.1)) (option_map {U = Bool × List Cell} (λ a. (f a, rest a)) o)
negates f g rest each None = refl
negates f g rest each (Some a) = ap (λ b. Some (b, rest a)) (each a)

pub opposites_differ : OppositesDiffer
opposites_differ (Zero comparison) cells =
    negates (λ p. compare comparison p.0 (pos 0)) (λ p. compare (opposite_comparison comparison) p.0 (pos 0)) (λ p. p.1)
    (λ p. compares comparison p.0 (pos 0)) (short_on cells)
opposites_differ IsNull cells = negates (λ p. p.0 == 0) (λ p. not (p.0 == 0)) (λ p. p.1) (λ p. refl) (reference_on cells)
opposites_differ NotNull cells = negates (λ p. not (p.0 == 0)) (λ p. p.0 == 0) (λ p. p.1) (λ p. not_twice (p.0 == 0)) (reference_on cells)
opposites_differ SameReference cells = negates (λ p. p.0 == p.1) (λ p. not (p.0 == p.1)) (λ p. p.2) (λ p. refl) (two_references_on cells)
opposites_differ OtherReference cells =
    negates (λ p. not (p.0 == p.1)) (λ p. p.0 == p.1) (λ p. p.2) (λ p. not_twice (p.0 == p.1)) (two_references_on cells)
opposites_differ (Shorts comparison) cells =
    negates (λ p. compare comparison p.0 p.1) (λ p. compare (opposite_comparison comparison) p.0 p.1) (λ p. p.2)
    (λ p. compares comparison p.0 p.1) (two_shorts_on cells)
