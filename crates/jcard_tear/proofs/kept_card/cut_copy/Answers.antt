use Rattle.std.proofs.Common.{◌∙◌, ap, sym}
use Rattle.jc_commit.specs.Image.{recovered_of}
use Rattle.jcard_tear.proofs.KeptCuts.{kept_leaves, kept_uncut}
use Rattle.jcard_tear.proofs.kept_card.cut_copy.Goals as goal

pub returns-then-not-is_down-clause-cut : goal.returns-then-not-is_down-clause-cut
returns-then-not-is_down-clause-cut c = λ words command is.
    let line = c.deref.ensures.value ∙ c.in-Ok.ensures in
    kept_uncut words command c.args.number c.args.kept.now c.deref.result.now c.as_slice.result.now c.in_ok-store.store is c.as_slice.ensures.value line
    c.in_ok-store.ensures.leaves c.in_ok-store.ensures.good (sym c.is_down.ensures ∙ c.if-not-is_down.true)

pub returns-clause-cut : goal.returns-clause-cut
returns-clause-cut c = λ words command is.
    let line = c.deref.ensures.value ∙ c.in-Ok.ensures in
    let heap = c.in_ok-found.ensures.heap ∙ ap recovered_of c.words_of.ensures.words in (
      c.in_ok-found.ensures.recovered,
      kept_leaves words command c.args.number c.args.kept.now c.deref.result.now c.as_slice.result.now c.in_ok-store.store is
          c.as_slice.ensures.value line c.in_ok-store.ensures.leaves _ heap (sym c.is_down.ensures ∙ c.if-not-is_down.false),
      is.1,
    )
