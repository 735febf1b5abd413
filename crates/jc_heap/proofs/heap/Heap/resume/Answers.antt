use Rattle.std.proofs.Common.{◌∙◌, length, ap, sym, arith}
use Rattle.jc_commit.specs.Image.{recovered_of}
use Rattle.jc_commit.specs.State.{State, resumed_journal}
use Rattle.jc_heap.specs.Heap.{heap_view}
use Rattle.jc_heap.proofs.Changing.{same_sound}
use Rattle.jc_heap.proofs.heap.Heap.resume.Goals as goal

pub invariant_of-result : goal.invariant_of-result
invariant_of-result g c =
    let w = g.S.WordStore.words c.args.store in
    same_sound c.resume-journal.result c.limit-size.result (recovered_of w)
    (ap (λ (j : State). j.plain) c.resume-journal.ensures.state)
    (ap (λ (j : State). j.recovered) c.resume-journal.ensures.state)
    c.requires.laid
    (sym (c.limit-size.ensures ∙ ap (λ (j : State). length j.plain) c.resume-journal.ensures.state))
    (omega arith)

pub returns : goal.returns
returns g c =
    let w = g.S.WordStore.words c.args.store in
    ap (λ (j : State). heap_view j c.limit-size.result) c.resume-journal.ensures.state
    ∙ ap (heap_view (resumed_journal w (g.S.WordStore.passed c.args.store) (g.S.WordStore.refusals c.args.store)))
    (c.limit-size.ensures ∙ ap (λ (j : State). length j.plain) c.resume-journal.ensures.state ∙ c.resume-journal.ensures.size)
