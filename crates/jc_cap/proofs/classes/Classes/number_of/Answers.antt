use Rattle.std.proofs.Common.{◌≡◌, ℕ, List, Some, false, take, ◌∙◌, ap, subst}
use Rattle.std.specs.Prelude.{MatchOption, slice_get}
use Rattle.jc_cap.specs.ClassValues.{offsets_of}
use Rattle.jc_cap.specs.ClassReading.{is_among}
use Rattle.jc_cap.proofs.classes.Classes.number_of.Goals as goal

pub returns : goal.returns
returns c =
    let same = c.as_slice.ensures.value ∙ c.self.invariant.1 ∙ ap offsets_of c.self.view_is in
    subst (λ (t : List ℕ). MatchOption c.index_of.result (is_among c.args.offset t ≡ false)
    (λ i. (slice_get t i ≡ Some c.args.offset) × (is_among c.args.offset (take i t) ≡ false))) same c.index_of.ensures
