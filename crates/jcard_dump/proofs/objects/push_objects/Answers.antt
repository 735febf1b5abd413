use Rattle.std.proofs.Common.{arith, ◌<◌, ◌+◌, ◌-◌, ◌∙◌, ap, sym, subst, List, ℕ, Ok, Err}
use Rattle.jc_commit.specs.Image.{top_of}
use Rattle.jc_objects.specs.Records.{item_at, record_size}
use Rattle.jc_objects.proofs.HeapBounds.{Bounds, bounds}
use Rattle.jc_objects.proofs.Sizes.{size_none, size_some}
use Rattle.jcard_dump.specs.InventoryLines.{Lines}
use Rattle.jcard_dump.specs.Objects.{item_text, objects_lines}
use Rattle.jcard_dump.specs.declared.fault.ListFault.TheVariants.{Unreadable}
use Rattle.jcard_dump.proofs.LineLists.{IsTelling, lists_none, lists_unread, telling_more, telling_none, telling_then}
use Rattle.jcard_dump.proofs.ObjectLines.{Texts, lines_end, lines_first, lines_from, lines_short, lines_step}
use Rattle.jcard_dump.proofs.objects.push_objects.Goals as goal

pub loop-at-init : goal.loop-at-init
loop-at-init g c =
    let w : List ℕ = c.args.image.now.words in
    let f : Texts = item_text c.args.image.now in
    let lines : Lines = objects_lines c.args.image.now in
    let b : Bounds w = bounds w c.top-top.ensures.bounds in
    record {
      low = omega (arith, c.first_record-at.ensures);
      high = omega (arith, b.first, c.first_record-at.ensures, c.top-top.ensures.top);
      told = subst (λ (l : Lines). IsTelling c.args.text.now.items c.args.text.now.items lines l)
          (sym (ap (lines_from f w) c.first_record-at.ensures ∙ lines_first f w c.top-top.ensures.bounds))
          (telling_none c.args.text.now.items lines);
    }

pub returns-in_default : goal.returns-in_default
returns-in_default g c =
    let w : List ℕ = c.args.image.now.words in
    let f : Texts = item_text c.args.image.now in
    let lines : Lines = objects_lines c.args.image.now in
    let at : ℕ = c.loop-at.at in
    let short : top_of w - at < record_size w at = size_none w at c.in_default.ensures in
    let none = lines_short f w at c.top-top.ensures.bounds (omega (arith, c.top-top.ensures.top)) (omega (arith, short)) in
    telling_then (Err Unreadable) c.args.text.now.items c.loop-at.text.items c.loop-at.text.items lines
    (lines_from f w at) c.loop-at.invariant.told (lists_unread c.loop-at.text.items (lines_from f w at) none.0 none.1)

pub loop-at-preserved : goal.loop-at-preserved
loop-at-preserved g c =
    let w : List ℕ = c.args.image.now.words in
    let f : Texts = item_text c.args.image.now in
    let lines : Lines = objects_lines c.args.image.now in
    let at : ℕ = c.loop-at.at in
    let size = size_some w at c.in-Some.size c.in-Some.ensures in
    let piece : List ℕ = f (at, item_at w at) in
    let step = lines_step f w at c.top-top.ensures.bounds (omega (arith, size.1, c.top-top.ensures.top)) in
    record {
      low = omega (arith, c.loop-at.invariant.low);
      high = omega (arith, size.0, size.1, c.top-top.ensures.top);
      told = subst (λ (n : ℕ). IsTelling c.args.text.now.items c.push_item.new.text.items lines (lines_from f w (at + n)))
          (sym size.0)
          (telling_more c.args.text.now.items c.loop-at.text.items c.push_item.new.text.items piece lines
          (lines_from f w at) (lines_from f w (at + record_size w at)) c.loop-at.invariant.told step c.in_ok-push_item.ensures);
    }

pub returns : goal.returns
returns g c =
    let w : List ℕ = c.args.image.now.words in
    let f : Texts = item_text c.args.image.now in
    let lines : Lines = objects_lines c.args.image.now in
    let at : ℕ = c.loop-at.at in
    let none = lines_end f w at c.top-top.ensures.bounds (omega (arith, c.top-top.ensures.top)) in
    telling_then (Ok tt) c.args.text.now.items c.loop-at.text.items c.loop-at.text.items lines
    (lines_from f w at) c.loop-at.invariant.told (lists_none c.loop-at.text.items (lines_from f w at) none.0 none.1)
