use Rattle.std.proofs.lemmas.Result.{err_from_is_err_and}
use Rattle.jcard_tear.proofs.KeptCuts.{kept_carried, reported_at}
use Rattle.jcard_tear.proofs.CutFaults.{probe_uncut}
use Rattle.jcard_tear.proofs.cuts.next_cut.Goals as goal

pub returns-in_ok-reported_cut-in-Some-Left-clause-cut : goal.returns-in_ok-reported_cut-in-Some-Left-clause-cut
returns-in_ok-reported_cut-in-Some-Left-clause-cut c =
    let shared = c.args.shared.now in
    let is = rw c.in-Some-Left.field-0-is at (c.in-Some-Left.ensures.cut shared.words.now shared.command c.requires.card) in
    reported_at shared c.args.number _ c.in_ok-reported_cut-in-Some-Left.field-0 is.2 is.1 c.in_ok-reported_cut-in-Some-Left.ensures.cut

pub returns-in_err-reported_cut-in-Some-Left-clause-cut : goal.returns-in_err-reported_cut-in-Some-Left-clause-cut
returns-in_err-reported_cut-in-Some-Left-clause-cut c =
    let shared = c.args.shared.now in
    let is = rw c.in-Some-Left.field-0-is at (c.in-Some-Left.ensures.cut shared.words.now shared.command c.requires.card) in
    let p = err_from_is_err_and c.from_residual.result c.from_residual.ensures.1 in
    rw (p.1, p.2) (λ step. probe_uncut shared.words.now shared.command step c.in_err-reported_cut-in-Some-Left.field-0.0
    (kept_carried shared.words.now shared.command c.args.number c.in-Some-Left.found.items is.0 is.1) c.in_err-reported_cut-in-Some-Left.ensures.cut)
