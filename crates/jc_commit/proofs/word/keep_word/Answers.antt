use Rattle.std.proofs.Common.{◌≡◌, ◌+◌, ℕ, List, [], ◌∷◌, take, sym, ap, subst, ◌∙◌, arith}
use Rattle.jc_words.specs.Layout.{count_address}
use Rattle.jc_words.specs.PlacedWords.{with_placed}
use Rattle.jc_commit.specs.Writing.{ChangesInside, KeepsTransaction}
use Rattle.jc_commit.proofs.KeptWord.{kept_words, stays_at, changed_kept}
use Rattle.jc_commit.proofs.word.keep_word.Goals as goal

pub returns-in_err-write_four-clause-stays : goal.returns-in_err-write_four-clause-stays
returns-in_err-write_four-clause-stays g c =
    let w = g.S.WordStore.words c.args.store.now in
    let l = c.args.log in
    let n = c.args.n in
    let a = c.args.change.0 in
    let x = c.args.change.1 in
    let r = c.requires in
    let e = c.in_err-write_four.ensures in
    let k = c.in_err-write_four.field-0.0.written in
    let words : ((c.address_word.result, a) ∷ (c.address_word.result + 1, c.read.result) ∷ (count_address, n + 1) ∷ (a, x) ∷ []) ≡ kept_words l w n a x =
    λ i. (c.address_word.ensures i, a) ∷ (c.address_word.ensures i + 1, c.read.ensures i) ∷ (count_address, n + 1) ∷ (a, x) ∷ [] in
    subst (KeepsTransaction w) (sym (e.1.written ∙ ap (λ (cs : List (ℕ × ℕ)). with_placed w (take k cs)) words))
    (stays_at l w n c.args.born a x r.stands r.there r.count.1 r.count.0 r.new r.births k (omega (arith, e.0)))

pub returns-clause-stays : goal.returns-clause-stays
returns-clause-stays g c =
    let w = g.S.WordStore.words c.args.store.now in
    let l = c.args.log in
    let n = c.args.n in
    let a = c.args.change.0 in
    let x = c.args.change.1 in
    let r = c.requires in
    let words : ((c.address_word.result, a) ∷ (c.address_word.result + 1, c.read.result) ∷ (count_address, n + 1) ∷ (a, x) ∷ []) ≡ kept_words l w n a x =
    λ i. (c.address_word.ensures i, a) ∷ (c.address_word.ensures i + 1, c.read.ensures i) ∷ (count_address, n + 1) ∷ (a, x) ∷ [] in
    subst (KeepsTransaction w) (sym (c.in_ok-write_four.ensures.written ∙ ap (λ (cs : List (ℕ × ℕ)). with_placed w (take 4 cs)) words))
    (stays_at l w n c.args.born a x r.stands r.there r.count.1 r.count.0 r.new r.births 4 (omega arith))

pub returns-clause-changed : goal.returns-clause-changed
returns-clause-changed g c =
    let w = g.S.WordStore.words c.args.store.now in
    let l = c.args.log in
    let n = c.args.n in
    let a = c.args.change.0 in
    let x = c.args.change.1 in
    let r = c.requires in
    let words : ((c.address_word.result, a) ∷ (c.address_word.result + 1, c.read.result) ∷ (count_address, n + 1) ∷ (a, x) ∷ []) ≡ kept_words l w n a x =
    λ i. (c.address_word.ensures i, a) ∷ (c.address_word.ensures i + 1, c.read.ensures i) ∷ (count_address, n + 1) ∷ (a, x) ∷ [] in
    subst (λ (u : List ℕ). ChangesInside c.args.born ((a, x) ∷ []) w u (n + 1))
    (sym (c.in_ok-write_four.ensures.written ∙ ap (λ (cs : List (ℕ × ℕ)). with_placed w (take 4 cs)) words))
    (changed_kept l w n c.args.born a x r.stands r.there r.count.1 r.count.0 r.new r.births)
