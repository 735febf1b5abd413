use Rattle.std.proofs.Common.{arith, ◌<◌, ◌+◌, ◌-◌, ◌∙◌, ap, sym, List, ℕ, Option}
use Rattle.jc_heap.specs.Object.{Item}
use Rattle.jc_commit.specs.Image.{top_of}
use Rattle.jc_objects.specs.Holders.{holder_in, or_else}
use Rattle.jc_objects.specs.Records.{items_from, record_size}
use Rattle.jc_objects.specs.declared.holders.Holder.{Holder}
use Rattle.jc_objects.proofs.HeapBounds.{Bounds, bounds}
use Rattle.jc_objects.proofs.Sizes.{record_of, size_none, size_some}
use Rattle.jc_objects.proofs.Standing.{items_end, items_first, items_short, items_step}
use Rattle.jc_objects.proofs.holders.holder_of.Goals as goal

pub loop-at-init : goal.loop-at-init
loop-at-init g c =
    let w : List ℕ = g.W.ImageWords.words c.args.words.now in
    let b : Bounds w = bounds w c.requires in
    record {
      low = omega (arith, c.first_record-at.ensures);
      high = omega (arith, b.first, c.first_record-at.ensures, c.word-top.ensures);
      left = ap (λ (n : ℕ). holder_in (items_from w n) c.args.address) c.first_record-at.ensures
          ∙ ap (λ (l : List (ℕ × Item)). holder_in l c.args.address) (items_first w c.requires).0;
    }

pub returns-in_default : goal.returns-in_default
returns-in_default g c =
    let w : List ℕ = g.W.ImageWords.words c.args.words.now in
    let at : ℕ = c.loop-at.at in
    let short : top_of w - at < record_size w at = size_none w at c.in_default.ensures in
    let none = items_short w c.requires at (omega (arith, c.word-top.ensures)) (omega (arith, short)) in
    sym (ap (λ (l : List (ℕ × Item)). holder_in l c.args.address) none.0) ∙ c.loop-at.invariant.left

pub returns-in-Some-holder_at : goal.returns-in-Some-holder_at
returns-in-Some-holder_at g c =
    let w : List ℕ = g.W.ImageWords.words c.args.words.now in
    let at : ℕ = c.loop-at.at in
    let size = size_some w at c.in-Some.size c.in-Some.ensures in
    let step = items_step w c.requires at (omega (arith, size.1, c.word-top.ensures)) in
    ap (λ (o : Option Holder). or_else o (holder_in (items_from w (at + record_size w at)) c.args.address)) c.in-Some-holder_at.ensures
    ∙ sym (ap (λ (l : List (ℕ × Item)). holder_in l c.args.address) step.0)
    ∙ c.loop-at.invariant.left

pub holder_at-requires-clause-record : goal.holder_at-requires-clause-record
holder_at-requires-clause-record g c =
    record_of (g.W.ImageWords.words c.args.words.now) c.loop-at.at c.in-Some.size c.loop-at.invariant.low (omega (arith, c.word-top.ensures)) c.in-Some.ensures

pub overflow_add-at : goal.overflow_add-at
overflow_add-at g c =
    let size = size_some (g.W.ImageWords.words c.args.words.now) c.loop-at.at c.in-Some.size c.in-Some.ensures in
    omega (arith, size.0, size.1, c.word-top.ensures)

pub loop-at-smaller : goal.loop-at-smaller
loop-at-smaller g c =
    let size = size_some (g.W.ImageWords.words c.args.words.now) c.loop-at.at c.in-Some.size c.in-Some.ensures in
    omega (arith, size.0, size.1, c.word-top.ensures)

pub loop-at-preserved : goal.loop-at-preserved
loop-at-preserved g c =
    let w : List ℕ = g.W.ImageWords.words c.args.words.now in
    let at : ℕ = c.loop-at.at in
    let size = size_some w at c.in-Some.size c.in-Some.ensures in
    let step = items_step w c.requires at (omega (arith, size.1, c.word-top.ensures)) in
    record {
      low = omega (arith, c.loop-at.invariant.low);
      high = omega (arith, size.0, size.1, c.word-top.ensures);
      left = ap (λ (n : ℕ). holder_in (items_from w (at + n)) c.args.address) size.0
          ∙ ap (λ (o : Option Holder). or_else o (holder_in (items_from w (at + record_size w at)) c.args.address)) c.in_default-holder_at.ensures
          ∙ sym (ap (λ (l : List (ℕ × Item)). holder_in l c.args.address) step.0)
          ∙ c.loop-at.invariant.left;
    }

pub returns : goal.returns
returns g c =
    let w : List ℕ = g.W.ImageWords.words c.args.words.now in
    let none = items_end w c.requires c.loop-at.at (omega (arith, c.word-top.ensures)) in
    sym (ap (λ (l : List (ℕ × Item)). holder_in l c.args.address) none.0) ∙ c.loop-at.invariant.left
