use Rattle.std.proofs.Common.{◌<◌, ◌∙◌, ◌++◌, ◌∷◌, [], List, ℕ, ap, sym, take, length, arith}
use Rattle.std.proofs.lemmas.List.{take_all, take_more}
use Rattle.jc_heap.specs.Component.{record_of}
use Rattle.jc_packages.proofs.known.record_words.Goals as goal

pub loop-j-preserved : goal.loop-j-preserved
loop-j-preserved g c =
    let record_words : List ℕ = record_of c.args.heap.now.now c.args.at in
    let j = c.loop-j.j in
    let near : j < length record_words = omega (arith, c.record_length-count.ensures) in
    c.in_ok-push.ensures.items
    ∙ ap (λ (l : List ℕ). l ++ c.record_word.result ∷ []) c.loop-j.invariant
    ∙ ap (λ (v : ℕ). take j record_words ++ v ∷ []) c.record_word.ensures
    ∙ sym (take_more record_words j 0 near)

pub returns : goal.returns
returns g c = c.loop-j.invariant ∙ take_all c.loop-j.j (record_of c.args.heap.now.now c.args.at) (omega (arith, c.record_length-count.ensures))
