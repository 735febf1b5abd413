use Rattle.std.proofs.Common.{◌≡◌, ◌+◌, ◌*◌, ◌∙◌, ℕ, true, List, length, take, take_all, refl, sym, ap, subst, arith}
use Rattle.jc_words.specs.WordRuns.{with_run}
use Rattle.jc_commit.specs.Entries.{SameBefore}
use Rattle.jc_commit.specs.EntryIndex.{with_entries}
use Rattle.jc_commit.specs.Writing.{Wrote}
use Rattle.jc_commit.proofs.WordRuns.{ran_whole}
use Rattle.jc_commit.proofs.EntryRuns.{length-entry_words, run_of_entries, same_beside, part_within}
use Rattle.jc_commit.proofs.keep.put_run.Goals as goal

pub fill_entries-requires-clause-there : goal.fill_entries-requires-clause-there
fill_entries-requires-clause-there g c = λ k lt. (c.requires.places k lt).below

pub write_run-requires-clause-there : goal.write_run-requires-clause-there
write_run-requires-clause-there g c =
    let long = ap (λ (l : List ℕ). length l) c.fill_entries.ensures ∙ length-entry_words (g.S.WordStore.words c.args.store.now) c.args.run.now in
    omega (arith, long, c.requires.size, c.requires.room)

pub write_run-requires-clause-few : goal.write_run-requires-clause-few
write_run-requires-clause-few g c =
    let long = ap (λ (l : List ℕ). length l) c.fill_entries.ensures ∙ length-entry_words (g.S.WordStore.words c.args.store.now) c.args.run.now in
    omega (arith, long, c.count-count.ensures.all, c.count-count.ensures.few)

pub returns-in_err-write_run-clause-same : goal.returns-in_err-write_run-clause-same
returns-in_err-write_run-clause-same g c =
    let w = g.S.WordStore.words c.args.store.now in
    let l = c.args.log in
    let out = c.fill_entries.new.out in
    let e = c.in_err-write_run.ensures in
    let k = c.in_err-write_run.field-0.0.written in
    let long = ap (λ (ws : List ℕ). length ws) c.fill_entries.ensures ∙ length-entry_words w c.args.run.now in
    subst (SameBefore l 0 w) (sym e.1.written) (same_beside l w (take k out) (part_within l out k (omega (arith, long, c.requires.room))))

pub returns : goal.returns
returns g c =
    let w = g.S.WordStore.words c.args.store.now in
    let l = c.args.log in
    let run = c.args.run.now in
    let out = c.fill_entries.new.out in
    let long = ap (λ (ws : List ℕ). length ws) c.fill_entries.ensures ∙ length-entry_words w run in
    let did = ran_whole l.start out c.in_ok-write_run.ensures in
    let e : l.start ≡ l.start + 2 * 0 = omega arith in
    let whole = ap (λ (ws : List ℕ). with_run w l.start ws) (take_all (length out) out (omega arith)) in
    let entries : with_run w l.start out ≡ with_entries l w 0 run = (λ i. with_run w (e i) (c.fill_entries.ensures i))
    ∙ run_of_entries l w w 0 (length w) run (omega (arith, c.requires.room)) c.requires.places (λ j lt. refl) in
    record {
      put = record { next = omega (arith, c.count-count.ensures.all); words = did.written ∙ whole ∙ entries };
      same = subst (SameBefore l 0 w) (sym (did.written ∙ whole)) (same_beside l w out (omega (arith, long, c.requires.room)));
      wrote = subst (λ (n : ℕ). Wrote g.S.WordStore.down g.S.WordStore.passed g.S.WordStore.refusals n true c.args.store.now c.write_run.new.self) long did.wrote;
    }
