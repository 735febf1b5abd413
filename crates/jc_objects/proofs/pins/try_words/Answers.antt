use Rattle.std.proofs.Common.{Some, ◌∙◌, subst}
use Rattle.std.proofs.lemmas.Result.{err_from_is_err_and}
use Rattle.jc_commit.specs.Image.{recovered_of}
use Rattle.jc_heap.specs.Heap.{HeapState}
use Rattle.jc_objects.specs.Pins.{AreTryWords}
use Rattle.jc_objects.proofs.Opened.{heap_behind, image_before, none_packaged, packages_behind, packages_untold, unlinked}
use Rattle.jc_objects.proofs.pins.try_words.Goals as goal

pub returns-in_err-platform : goal.returns-in_err-platform
returns-in_err-platform c =
    let p = err_from_is_err_and c.from_residual-in_err-platform.result c.from_residual-in_err-platform.ensures.1 in
    rw (p.1, p.2) (packages_untold c.in_err-platform.field-0.0 c.args.words.items c.in_ok-image.image.plain c.in_ok-image.ensures.plain
    c.in_err-platform.ensures)

pub returns-in_err-linked : goal.returns-in_err-linked
returns-in_err-linked c =
    let p = err_from_is_err_and c.from_residual-in_err-linked.result c.from_residual-in_err-linked.ensures.1 in
    rw (p.1, p.2) (none_packaged c.in_err-linked.field-0.0 c.in_ok-platform.platform c.args.words.items c.in_ok-image.image.plain c.in_ok-platform.heap.now
    c.in_ok-image.ensures.plain c.in_ok-platform.ensures.1 c.in_ok-platform.ensures.0
    (unlinked c.in_err-linked.field-0.0 c.in_ok-platform.platform c.in_ok-platform.heap.now c.in_err-linked.ensures.damaged))

pub returns : goal.returns
returns c =
    let plain = c.in_ok-image.image.plain in
    let heap = c.in_ok-platform.ensures.1 ∙ heap_behind (recovered_of c.args.words.items) plain c.in_ok-image.ensures.plain in (
      c.in_ok-platform.platform,
      c.in_ok-linked.linked,
      image_before c.args.words.items plain c.in_ok-platform.platform c.in_ok-image.ensures.good c.in_ok-image.ensures.plain c.in_ok-platform.ensures.0,
      packages_behind c.in_ok-platform.platform c.args.words.items plain c.in_ok-platform.heap.now (Some c.in_ok-linked.linked) c.in_ok-image.ensures.plain
          c.in_ok-platform.ensures.1 c.in_ok-linked.ensures.linked,
      subst (λ (h : HeapState). AreTryWords c.in_ok-linked.linked h c.in_ok-found.found.items) heap c.in_ok-found.ensures,
    )
