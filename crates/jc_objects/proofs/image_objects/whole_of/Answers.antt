use Rattle.std.proofs.lemmas.Bool.{false≢true}
use Rattle.std.proofs.lemmas.Result.{err_from_is_err_and}
use Rattle.jc_image.specs.Beginning.{HeapBeginsWith}
use Rattle.jc_objects.proofs.Opened.{whole_untold}
use Rattle.jc_objects.proofs.image_objects.whole_of.Goals as goal

pub returns-in_err-table : goal.returns-in_err-table
returns-in_err-table c =
    let p = err_from_is_err_and c.from_residual.result c.from_residual.ensures.1 in
    rw (p.1, p.2) (whole_untold c.in_err-table.field-0.0 c.args.image.plain c.in_err-table.ensures)

pub returns : goal.returns
unfolding HeapBeginsWith
returns c = λ t whole. false≢true (c.in-Err.ensures.exact.1 (whole.formed, whole.consistent, tt))
