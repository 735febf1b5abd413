use Rattle.std.proofs.Common.{◌≡◌, ◌+◌, ◌<◌, ◌++◌, [], ◌∷◌, ℕ, length, replicate, subst, sym, arith}
use Rattle.std.proofs.lemmas.List.{replicate_more, length-replicate}
use Rattle.jc_commit.specs.State.{after_write_in_place}
use Rattle.jc_heap.specs.Fresh.{Fills}
use Rattle.jc_heap.proofs.FreshRuns.{keeps_more, fills_more}
use Rattle.jc_heap.proofs.fresh.write_zeros.Goals as goal

pub loop-k-preserved : goal.loop-k-preserved
loop-k-preserved g c =
    let k = c.loop-k.k in
    let old = c.args.journal.now in
    let j = c.loop-k.journal in
    let long : length (replicate {A = ℕ} k 0) ≡ k = length-replicate {A = ℕ} k 0 in
    let more : replicate {A = ℕ} (k + 1) 0 ≡ replicate k 0 ++ 0 ∷ [] = sym (replicate_more k 0) in
    let within : c.args.at + length (replicate {A = ℕ} k 0) < length j.plain = omega
    (arith, c.requires.fits, c.loop-k.invariant.below.size, c.loop-k-test.true) in
    record {
      below = rw c.in_ok-write_fresh.ensures.ok (keeps_more c.args.at old j (c.args.at + k) 0 c.loop-k.invariant.below (omega arith));
      done = rw (c.in_ok-write_fresh.ensures.ok, more) (subst (λ n. Fills c.args.at (replicate k 0 ++ 0 ∷ []) old (after_write_in_place j (c.args.at + n) 0))
          long (fills_more c.args.at (replicate k 0) old j 0 c.loop-k.invariant.done within));
    }
