use Rattle.std.proofs.Common.{◌≡◌, ◌∙◌, false, sym, ap, subst, rules, length, take}
use Rattle.std.specs.Prelude.{None}
use Rattle.jc_words.specs.Count.{saturating_count}
use Rattle.jc_words.specs.Store.{FuseStoreValue, store_after_refusal}
use Rattle.jc_words.specs.WordPairs.{RefusedThrough}
use Rattle.jc_words.specs.WordRuns.{writes_passed}
use Rattle.jc_words.proofs.Runs.{value_over, handed_on, handed_in_part}
use Rattle.jc_words.proofs.fuse.FuseStoreWordStore.write_run.Goals as goal

pub returns-in-Ok-clause-below : goal.returns-in-Ok-clause-below
returns-in-Ok-clause-below g c =
    let s = g.S.WordStore in
    let self = c.self.inside in
    let run = c.args.run.now in
    let count = c.saturating_add-self-inside.result in
    let passed : count ≡ saturating_count self.passed (length run) = search rules in
    subst (λ (old : FuseStoreValue). value_over s.words s.down s.passed s.refusals self.until self.down count self.refused c.write_run.new.self
    ≡ writes_passed c.args.i run old) c.self.view_is
    (handed_on c.args.i run self.until self.down self.passed count self.refused c.in-Ok.ensures passed)

pub returns-in-Err-clause-below : goal.returns-in-Err-clause-below
returns-in-Err-clause-below g c =
    let s = g.S.WordStore in
    let self = c.self.inside in
    let run = c.args.run.now in
    let k = c.in-Err.refusal.written in
    let count = c.saturating_add-self-inside-in-Err.result in
    let passed : count ≡ saturating_count self.passed k = search rules in
    let known = c.is_unarmed.ensures (c.if-not-is_unarmed.false) in
    let unarmed : self.until ≡ None = ap (λ (f : FuseStoreValue). f.refusals.fuse) c.self.view_is ∙ known.1 in
    let up : self.down ≡ false = ap (λ (f : FuseStoreValue). f.down) c.self.view_is ∙ known.0 in
    let left = store_after_refusal (value_over s.words s.down s.passed s.refusals self.until self.down count self.refused c.write_run.new.self) in
    subst (λ (new : FuseStoreValue). RefusedThrough (writes_passed c.args.i (take k run) c.args.self.now) new) (sym c.refuse.ensures)
    (subst (λ (old : FuseStoreValue). RefusedThrough (writes_passed c.args.i (take k run) old) left) c.self.view_is
    (handed_in_part c.args.i run k self.until self.down self.passed count self.refused c.in-Err.ensures.0 c.in-Err.ensures.1 unarmed up passed))
