use Rattle.std.proofs.Common.{◌≡◌, ◌+◌, ◌∙◌, [], ◌∷◌, false, sym, ap, subst, rules, take}
use Rattle.std.specs.Prelude.{None}
use Rattle.jc_words.specs.Count.{saturating_count}
use Rattle.jc_words.specs.Store.{FuseStoreValue, store_after_refusal}
use Rattle.jc_words.specs.WordPairs.{RefusedThrough}
use Rattle.jc_words.specs.PlacedWords.{placed_passed}
use Rattle.jc_words.proofs.Runs.{value_over}
use Rattle.jc_words.proofs.PlacedWords.{placed_in_part}
use Rattle.jc_words.proofs.fuse.FuseStoreWordStore.write_four.Goals as goal

pub returns-in-Err-clause-below : goal.returns-in-Err-clause-below
returns-in-Err-clause-below g c =
    let s = g.S.WordStore in
    let self = c.self-2.inside in
    let same = c.self-2.view_is ∙ sym c.self.view_is in
    let changes = (c.args.i, c.args.pair.0) ∷ (c.args.i + 1, c.args.pair.1) ∷ c.args.third ∷ c.args.fourth ∷ [] in
    let k = c.in-Err.refusal.written in
    let count = c.saturating_add-self-inside-in-Err.result in
    let passed : count ≡ saturating_count self.passed k = search rules in
    let none : c.self.inside.until ≡ None = search rules in
    let unarmed : self.until ≡ None = ap (λ (f : FuseStoreValue). f.refusals.fuse) same ∙ none in
    let up : self.down ≡ false = ap (λ (f : FuseStoreValue). f.down) same ∙ c.if-self.false in
    let left = store_after_refusal (value_over s.words s.down s.passed s.refusals self.until self.down count self.refused c.write_four.new.self) in
    subst (λ (new : FuseStoreValue). RefusedThrough (placed_passed (take k changes) c.args.self.now) new) (sym c.refuse.ensures)
    (subst (λ (old : FuseStoreValue). RefusedThrough (placed_passed (take k changes) old) left) c.self-2.view_is
    (placed_in_part changes k self.until self.down self.passed count self.refused c.in-Err.ensures.0 c.in-Err.ensures.1 unarmed up passed))
