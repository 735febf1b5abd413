use Rattle.std.proofs.Common.{◌<◌, ◌≡◌, ℕ, Bool, false, List, set, get_or, length, take, refl, sym, ap, subst, ◌∙◌, arith}
use Rattle.std.specs.Prelude.{Result, Ok, Err, IsErr, is_ok}
use Rattle.std.proofs.lemmas.Bool.{false≢true}
use Rattle.jc_commit.specs.Runs.{WroteWords}
use Rattle.jc_commit.proofs.Entries.{target}
use Rattle.jc_commit.proofs.Counted.{with_words_more}
use Rattle.jc_commit.proofs.Throughout.{length-with_words}
use Rattle.jc_commit.proofs.Writes.{no_write, one_write, no_more, more_writes, refused_later}
use Rattle.jc_commit.proofs.keep.write_each.Goals as goal

pub loop-i-preserved : goal.loop-i-preserved
loop-i-preserved g c =
    let v = g.S.WordStore.words c.loop-i.store in
    let i = c.loop-i.invariant in
    let changes = g.C.WordChanges.changes c.args.changes.now in
    let inside : c.loop-i.i < length changes = omega arith in
    let e = c.in_ok-write.ensures in
    record {
      written = e.written ∙ ap (λ (d : ℕ × ℕ). set v d.0 d.1) c.change-address.ensures
          ∙ ap (λ (ws : List ℕ). set ws (target changes c.loop-i.i) (get_or changes c.loop-i.i (0, 0)).1) i.written
          ∙ sym (with_words_more (g.S.WordStore.words c.args.store.now) changes c.loop-i.i inside);
      wrote = more_writes i.wrote (one_write e.was_up e.down e.passed e.refusals) refl;
    }

-- the word is there
pub write-requires : goal.write-requires
write-requires g c =
    let w = g.S.WordStore.words c.args.store.now in
    let v = g.S.WordStore.words c.loop-i.store in
    let changes = g.C.WordChanges.changes c.args.changes.now in
    let k = c.loop-i.i in
    let long : length v ≡ length w = ap (λ (ws : List ℕ). length ws) c.loop-i.invariant.written ∙ length-with_words w (take k changes) in
    let there = c.requires k (omega arith) in
    subst (λ (d : ℕ × ℕ). d.0 < length v) (sym c.change-address.ensures) (omega (arith, there, long))

not_ok : {A E : Type 0} (result : Result A E) → IsErr result → false ≡ is_ok result
not_ok (Ok a) is = absurd (false≢true is)
not_ok (Err e) is = refl

pub returns-in_err-write : goal.returns-in_err-write
returns-in_err-write g c =
    let s = g.S.WordStore in
    let i = c.loop-i.invariant in
    let k = c.loop-i.i in
    let changes = g.C.WordChanges.changes c.args.changes.now in
    let e = c.in_err-write.ensures in (
      k,
      subst (λ (done : Bool). WroteWords s.words s.down s.passed s.refusals changes k done c.args.store.now c.write.new.self)
          (not_ok c.from_residual.result c.from_residual.ensures.0) (record {
            within = omega arith;
            all = λ done. absurd (false≢true done);
            written = e.kept ∙ i.written;
            wrote = refused_later i.wrote (no_more e.down e.passed e.refusals) (omega arith);
          }),
    )

pub returns : goal.returns
returns g c =
    let i = c.loop-i.invariant in (
      c.loop-i.i,
      record { within = omega arith; all = λ done. omega arith; written = i.written; wrote = more_writes i.wrote (no_write _) (omega arith) },
    )
