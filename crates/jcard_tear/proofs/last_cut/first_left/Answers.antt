use Rattle.std.proofs.Common.{◌∙◌, List, ℕ, refl, subst, sym}
use Rattle.jcard_tear.specs.KeptCard.{GivesAnswers, HoldOneHeap}
use Rattle.jcard_tear.proofs.OneHeaps.{gives_alike}
use Rattle.jcard_sweeps.proofs.RunFaults.{passed_on}
use Rattle.jcard_tear.proofs.CutFaults.{memory_probed}
use Rattle.jcard_tear.proofs.last_cut.first_left.Goals as goal

pub returns-then-is_as_before : goal.returns-then-is_as_before
returns-then-is_as_before c =
    let known = c.requires.known (c.is_as_before.ensures.known c.if-is_as_before.true) in
    let budget : ℕ = c.args.shared.now.command.behind.instructions in
    let probe : List ℕ = c.args.shared.now.command.probe.now in
    let found : List ℕ = c.args.found.items in
    let before : List ℕ = c.args.shared.now.baseline.before.now.words.items in
    let one = subst (λ (w : List ℕ). HoldOneHeap before w) c.deref.ensures.value (c.is_as_before.ensures.one c.if-is_as_before.true) in
    let gives = gives_alike before found one known.0 c.requires.recovered budget probe c.args.shared.now.baseline.before.now.answers.items known.1 in
    ((c.requires.recovered, subst (λ (t : List ℕ). GivesAnswers budget found probe t) (sym (c.in_ok-answers.ensures.items ∙ c.deref-then-is_as_before.ensures.value)) gives), refl)

pub returns-in_err-answers : goal.returns-in_err-answers
returns-in_err-answers c = passed_on _ _ c.from_residual.result c.from_residual.ensures.1
    (λ fault e. memory_probed c.args.shared.now.command.behind.instructions c.args.shared.now.command.probe.now fault e)
