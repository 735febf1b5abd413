use Rattle.std.proofs.Common.{◌≡◌, ◌∙◌, List, ℕ, length, take, refl, sym, ap, arith}
use Rattle.jc_words.proofs.Runs.{length-with_run, run_more}
use Rattle.jc_words.proofs.store.WordStore.write_run.Goals as goal

-- the word is there
pub write-requires : goal.write-requires
write-requires g c =
    let w = g.Self.WordStore.words c.args.self.now in
    let long : length (g.Self.WordStore.words c.loop-k.self) ≡ length w = ap (λ (ws : List ℕ). length ws) c.loop-k.invariant.written ∙ length-with_run w c.args.i (take c.loop-k.k c.args.run.now) in
    omega (arith, long, c.requires.there, c.loop-k-test.true)

pub loop-k-preserved : goal.loop-k-preserved
loop-k-preserved g c =
    let e = c.write.ensures in
    run_more c.args.i c.args.run.now c.loop-k.k _ _ c.write.result _ (omega arith) refl refl (sym c.is_err.ensures.value ∙ c.if-is_err.false)
    e.written e.was_up e.down e.passed e.refusals c.loop-k.invariant
