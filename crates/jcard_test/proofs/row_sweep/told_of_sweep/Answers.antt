use Rattle.std.proofs.Common.{◌∙◌, ℕ, List, ap₂}
use Rattle.jcard_test.specs.Cards.{probe_of}
use Rattle.jcard_outcomes.specs.Row.{line_text, script_text}
use Rattle.jcard_sweeps.specs.ScriptLines.{Line}
use Rattle.jcard_test.proofs.RowSweeps.{told_on}
use Rattle.jcard_test.proofs.row_sweep.told_of_sweep.Goals as goal

pub returns : goal.returns
returns c =
    let line : List ℕ → List ℕ → Line = λ a b. record { number = c.args.row.now.number; before = a; text = b } in
    told_on (λ v. v.items) c.args.budget c.words.result.now c.args.store.now.words (line c.deref.result.now c.deref-2.result.now)
    (line (script_text c.args.before.now) (line_text c.args.row.now)) (probe_of c.args.row.now) c.told_of_swept_line.result c.words.ensures
    (ap₂ line (c.deref.ensures.value ∙ c.in_ok-script.ensures) (c.deref-2.ensures.value ∙ c.in_ok-line.ensures)) c.told_of_swept_line.ensures
