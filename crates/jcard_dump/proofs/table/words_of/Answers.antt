use Rattle.std.proofs.Common.{◌∙◌, ◌++◌, ◌∷◌, [], List, ℕ, ap, sym, take, arith}
use Rattle.std.proofs.lemmas.List.{take_all, take_more}
use Rattle.jcard_dump.proofs.table.words_of.Goals as goal

pub loop-i-preserved : goal.loop-i-preserved
loop-i-preserved g c =
    let w : List ℕ = g.S.WordStore.words c.args.store.now in
    let i : ℕ = c.loop-i.i in
    c.in_ok-push.ensures.items
    ∙ ap (λ (l : List ℕ). l ++ c.read.result ∷ []) c.loop-i.invariant
    ∙ ap (λ (v : ℕ). take i w ++ v ∷ []) c.read.ensures
    ∙ sym (take_more w i 0 (omega (arith, c.size-count.ensures)))

pub returns : goal.returns
returns g c =
    let w : List ℕ = g.S.WordStore.words c.args.store.now in
    c.loop-i.invariant ∙ take_all c.loop-i.i w (omega (arith, c.size-count.ensures))
