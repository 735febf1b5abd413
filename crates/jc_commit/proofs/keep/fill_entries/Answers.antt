use Rattle.std.proofs.Common.{◌≡◌, ◌+◌, ◌*◌, ◌∙◌, ℕ, length, take, set, ap, arith}
use Rattle.std.proofs.lemmas.List.{length-take}
use Rattle.jc_commit.proofs.EntryRuns.{entry_more}
use Rattle.jc_commit.proofs.keep.fill_entries.Goals as goal

pub loop-k-preserved : goal.loop-k-preserved
loop-k-preserved g c =
    let run = c.args.run.now in
    let k = c.loop-k.k in
    let many : length (take k run) ≡ k = omega (arith, length-take k run) in
    let old = c.change-address.result.0 in
    ap (λ (x : ℕ). set (set c.loop-k.out (2 * k) old) (2 * k + 1) x) c.read.ensures
    ∙ entry_more (g.S.WordStore.words c.args.store.now) run c.args.out.now c.loop-k.out k old (omega arith) c.requires.all
    c.loop-k.invariant (ap (λ (d : ℕ × ℕ). d.0) c.change-address.ensures) many
