use Rattle.std.proofs.Common.{arith, List, ℕ, subst, sym}
use Rattle.jc_objects.specs.Places.{IsPlaceFor}
use Rattle.jc_objects.proofs.HeapBounds.{Bounds, bounds}
use Rattle.jc_objects.proofs.PlaceSteps.{place_first}
use Rattle.jc_objects.proofs.places.first_place.Goals as goal

pub overflow_cast-result : goal.overflow_cast-result
overflow_cast-result g c =
    let b : Bounds (g.W.ImageWords.words c.args.words.now) = bounds (g.W.ImageWords.words c.args.words.now) c.requires in
    omega (arith, b.first, b.fits, c.first_record.ensures, c.word_count.ensures)

pub returns : goal.returns
returns g c =
    let w : List ℕ = g.W.ImageWords.words c.args.words.now in
    λ (a : ℕ). subst (λ (n : ℕ). IsPlaceFor w n a) (sym c.first_record.ensures) (place_first w a c.requires)
