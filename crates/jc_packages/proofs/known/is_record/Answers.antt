use Rattle.std.proofs.Common.{◌≡◌, ◌∙◌, ◌<◌, List, ℕ, length, rules, subst, sym}
use Rattle.std.proofs.lemmas.List.{ext_get_or}
use Rattle.jc_heap.specs.Component.{record_of}
use Rattle.jc_packages.proofs.known.is_record.Goals as goal

pub returns : goal.returns
returns g c = λ same.
    let words : List ℕ = c.args.words.now in
    let there : List ℕ = record_of c.args.heap.now.now c.args.at in
    let long : length words ≡ length there = search rules in
    ext_get_or 0 words there long (λ j below. c.agrees.ensures same j (subst (λ (n : ℕ). j < n) (long ∙ sym c.record_length-count.ensures) below))
