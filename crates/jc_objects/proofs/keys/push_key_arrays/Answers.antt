use Rattle.std.proofs.Common.{arith, ◌<◌, ◌+◌, ◌-◌, ◌∙◌, ◌++◌, ap, ap₂, sym, List, ℕ, append_assoc, append-nil}
use Rattle.std.specs.List.{flat_map}
use Rattle.jc_heap.specs.Object.{Item}
use Rattle.jc_commit.specs.Image.{top_of}
use Rattle.jc_objects.specs.Records.{item_at, items_from, record_size}
use Rattle.jc_objects.proofs.HeapBounds.{Bounds, bounds}
use Rattle.jc_objects.proofs.Sizes.{record_of, size_none, size_some}
use Rattle.jc_objects.proofs.Standing.{items_end, items_first, items_short, items_step}
use Rattle.jc_objects.specs.Keys.{array_of_key}
use Rattle.jc_objects.proofs.Arrays.{arrays_from}
use Rattle.jc_objects.proofs.keys.push_key_arrays.Goals as goal

pub loop-at-init : goal.loop-at-init
loop-at-init g c =
    let w : List ℕ = g.W.ImageWords.words c.args.words.now in
    let t = c.args.platform.now in
    let b : Bounds w = bounds w c.requires in
    record {
      low = omega (arith, c.first_record-at.ensures);
      high = omega (arith, b.first, c.first_record-at.ensures, c.word-top.ensures);
      left = ap (λ (l : List ℕ). c.args.found.now.items ++ l)
          (sym (ap (arrays_from t w) c.first_record-at.ensures ∙ ap (flat_map (array_of_key t)) (items_first w c.requires).0));
    }

pub returns-in_default : goal.returns-in_default
returns-in_default g c =
    let w : List ℕ = g.W.ImageWords.words c.args.words.now in
    let t = c.args.platform.now in
    let at : ℕ = c.loop-at.at in
    let items : List ℕ = c.loop-at.found.items in
    let short : top_of w - at < record_size w at = size_none w at c.in_default.ensures in
    let none = items_short w c.requires at (omega (arith, c.word-top.ensures)) (omega (arith, short)) in
    sym (c.loop-at.invariant.left ∙ ap (λ (l : List (ℕ × Item)). items ++ flat_map (array_of_key t) l) none.0 ∙ append-nil items)

pub push_key_array-requires-clause-record : goal.push_key_array-requires-clause-record
push_key_array-requires-clause-record g c =
    record_of (g.W.ImageWords.words c.args.words.now) c.loop-at.at c.in-Some.size c.loop-at.invariant.low (omega (arith, c.word-top.ensures)) c.in-Some.ensures

pub overflow_add-at : goal.overflow_add-at
overflow_add-at g c =
    let size = size_some (g.W.ImageWords.words c.args.words.now) c.loop-at.at c.in-Some.size c.in-Some.ensures in
    omega (arith, size.0, size.1, c.word-top.ensures)

pub loop-at-smaller : goal.loop-at-smaller
loop-at-smaller g c =
    let size = size_some (g.W.ImageWords.words c.args.words.now) c.loop-at.at c.in-Some.size c.in-Some.ensures in
    omega (arith, size.0, size.1, c.word-top.ensures)

pub loop-at-preserved : goal.loop-at-preserved
loop-at-preserved g c =
    let w : List ℕ = g.W.ImageWords.words c.args.words.now in
    let t = c.args.platform.now in
    let at : ℕ = c.loop-at.at in
    let items : List ℕ = c.loop-at.found.items in
    let size = size_some w at c.in-Some.size c.in-Some.ensures in
    let one : List ℕ = array_of_key t (at, item_at w at) in
    let rest : List ℕ = arrays_from t w (at + record_size w at) in
    let step = items_step w c.requires at (omega (arith, size.1, c.word-top.ensures)) in
    record {
      low = omega (arith, c.loop-at.invariant.low);
      high = omega (arith, size.0, size.1, c.word-top.ensures);
      left = c.loop-at.invariant.left
          ∙ ap (λ (l : List (ℕ × Item)). items ++ flat_map (array_of_key t) l) step.0
          ∙ sym (append_assoc items one rest)
          ∙ ap₂ (λ (l m : List ℕ). l ++ m) (sym c.in_ok-push_key_array.ensures) (ap (λ (n : ℕ). arrays_from t w (at + n)) (sym size.0));
    }

pub returns : goal.returns
returns g c =
    let w : List ℕ = g.W.ImageWords.words c.args.words.now in
    let t = c.args.platform.now in
    let items : List ℕ = c.loop-at.found.items in
    let none = items_end w c.requires c.loop-at.at (omega (arith, c.word-top.ensures)) in
    sym (c.loop-at.invariant.left ∙ ap (λ (l : List (ℕ × Item)). items ++ flat_map (array_of_key t) l) none.0 ∙ append-nil items)
