use Rattle.std.proofs.Common.{◌≡◌, ◌<◌, ℕ, List, length, sym, ap, subst, ◌∙◌, arith}
use Rattle.jc_heap.specs.declared.place.Place.{Place}
use Rattle.jc_heap.specs.Place.{words_of}
use Rattle.jc_heap.proofs.Several.{words_of-at, length-words}
use Rattle.jc_heap.proofs.changes.PlaceWordsWordChanges.change.Goals as goal

pub word_of-requires : goal.word_of-requires
word_of-requires c =
    let places : List (Place × ℕ) = c.self.inside.places.now in
    let long : length c.args.self.now ≡ length places = sym (ap (λ (l : List (ℕ × ℕ)). length l) c.self.view_is) ∙ length-words places in
    let within : c.args.k < length places = omega (arith, long, c.requires) in
    let there : c.args.k < length (words_of places) = omega (arith, within, length-words places) in
    subst (λ (x : ℕ × ℕ). x.0 < 65536) (words_of-at places c.args.k c.index-places-k.result within) (c.self.invariant c.args.k there)
