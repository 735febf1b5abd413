use Rattle.std.proofs.Common.{Some}
use Rattle.std.proofs.lemmas.Result.{err_from_is_err_and}
use Rattle.jc_objects.proofs.Opened.{image_before, legend_untold, none_linked, packages_behind, unlinked}
use Rattle.jc_objects.proofs.legend.linked_in.Goals as goal

pub returns-in_err-heap : goal.returns-in_err-heap
returns-in_err-heap c =
    let p = err_from_is_err_and c.from_residual-in_err-heap.result c.from_residual-in_err-heap.ensures.1 in
    rw (p.1, p.2) (legend_untold c.in_err-heap.field-0.0 c.args.platform c.args.words.items c.in_ok-image.image.plain c.in_ok-image.ensures.plain
    c.in_err-heap.ensures)

pub returns-in_err-linked : goal.returns-in_err-linked
returns-in_err-linked c =
    let p = err_from_is_err_and c.from_residual-in_err-linked.result c.from_residual-in_err-linked.ensures.1 in
    rw (p.1, p.2) (none_linked c.in_err-linked.field-0.0 c.args.platform c.args.words.items c.in_ok-image.image.plain c.in_ok-heap.heap.now
    c.in_ok-image.ensures.plain c.in_ok-heap.ensures.1
    (unlinked c.in_err-linked.field-0.0 c.args.platform c.in_ok-heap.heap.now c.in_err-linked.ensures.damaged))

pub returns : goal.returns
returns c = (
  c.in_ok-heap.field-0-0,
  image_before c.args.words.items c.in_ok-image.image.plain c.in_ok-heap.field-0-0 c.in_ok-image.ensures.good c.in_ok-image.ensures.plain c.in_ok-heap.ensures.0,
  packages_behind c.args.platform c.args.words.items c.in_ok-image.image.plain c.in_ok-heap.heap.now (Some c.in_ok-linked.linked) c.in_ok-image.ensures.plain
      c.in_ok-heap.ensures.1 c.in_ok-linked.ensures.linked,
)
