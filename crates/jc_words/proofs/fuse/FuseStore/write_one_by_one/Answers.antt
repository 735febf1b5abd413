use Rattle.std.proofs.Common.{◌≡◌, ◌+◌, ◌∙◌, List, ℕ, length, take, take_all, slice_index, refl, sym, ap, subst, arith}
use Rattle.jc_words.specs.Store.{FuseStoreValue, write_passed}
use Rattle.jc_words.specs.WordPairs.{RefusedThrough}
use Rattle.jc_words.specs.WordRuns.{writes_passed}
use Rattle.jc_words.proofs.Runs.{length-with_run, run_more, on_ok, on_err, passed_more}
use Rattle.jc_words.proofs.fuse.FuseStore.write_one_by_one.Goals as goal

-- the word is there
pub write-requires : goal.write-requires
write-requires g c =
    let w = c.args.self.now.words in
    let long : length (c.loop-k.self.words) ≡ length w = ap (λ (ws : List ℕ). length ws) c.loop-k.invariant.run.written
    ∙ length-with_run w c.args.i (take c.loop-k.k c.args.run.now) in
    omega (arith, long, c.requires, c.loop-k-test.true)

pub loop-k-preserved : goal.loop-k-preserved
loop-k-preserved g c =
    let e = c.write.ensures in
    let k = c.loop-k.k in
    let run = c.args.run.now in
    let good = sym c.is_err.ensures.value ∙ c.if-is_err.false in
    record {
      run = run_more c.args.i run k _ _ c.write.result _ (omega arith) refl refl good e.written e.was_up e.down e.passed e.refusals c.loop-k.invariant.run;
      below = on_ok c.write.result good e.ok ∙ ap (λ (f : FuseStoreValue). write_passed (c.args.i + k) (slice_index run k) f) c.loop-k.invariant.below
          ∙ sym (passed_more c.args.i run k c.args.self.now (omega arith));
    }

pub returns-then-is_err-clause-below : goal.returns-then-is_err-clause-below
returns-then-is_err-clause-below g c =
    let e = c.write.ensures in
    let bad = sym c.is_err.ensures.value ∙ c.if-is_err.true in
    subst (λ (f : FuseStoreValue). RefusedThrough f c.write.new.self) c.loop-k.invariant.below (record {
      stays_down = e.stays_down;
      blows = e.blows;
      below = on_err c.write.result bad e.below;
    })

pub returns-clause-below : goal.returns-clause-below
returns-clause-below g c =
    let run = c.args.run.now in
    c.loop-k.invariant.below ∙ ap (λ (vs : List ℕ). writes_passed c.args.i vs c.args.self.now) (take_all c.loop-k.k run (omega arith))
