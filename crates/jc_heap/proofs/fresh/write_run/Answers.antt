use Rattle.std.proofs.Common.{◌≡◌, ◌+◌, ◌<◌, ◌++◌, [], ◌∷◌, length, take, get_or, subst, arith}
use Rattle.std.proofs.lemmas.List.{take_more, length-take-le}
use Rattle.jc_commit.specs.State.{after_write_in_place}
use Rattle.jc_heap.specs.Fresh.{Fills}
use Rattle.jc_heap.proofs.FreshRuns.{keeps_more, fills_more}
use Rattle.jc_heap.proofs.fresh.write_run.Goals as goal

pub loop-k-preserved : goal.loop-k-preserved
loop-k-preserved g c =
    let words = c.args.words.now in
    let k = c.loop-k.k in
    let old = c.args.journal.now in
    let j = c.loop-k.journal in
    let long : length (take k words) ≡ k = length-take-le k words (omega arith) in
    let more : take (k + 1) words ≡ take k words ++ get_or words k 0 ∷ [] = take_more words k 0 c.loop-k-test.true in
    let within : c.args.at + length (take k words) < length j.plain = omega (arith, c.requires.fits, c.loop-k.invariant.below.size, c.loop-k-test.true) in
    record {
      below = rw c.in_ok-write_fresh.ensures.ok (keeps_more c.args.at old j (c.args.at + k) (get_or words k 0) c.loop-k.invariant.below (omega arith));
      done = rw (c.in_ok-write_fresh.ensures.ok, more) (subst (λ n. Fills c.args.at (take k words ++ get_or words k 0 ∷ []) old
          (after_write_in_place j (c.args.at + n) (get_or words k 0))) long (fills_more c.args.at (take k words) old j
          (get_or words k 0) c.loop-k.invariant.done within));
    }
