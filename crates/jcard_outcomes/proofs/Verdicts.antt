-- Steps of the verdicts of all commands.
use Rattle.std.proofs.Common.{◌≡◌, ◌∙◌, ℕ, ◌+◌, ◌<◌, ◌≤◌, ◌++◌, Bool, List, length, get_or, drop, ap, sym, append_assoc, append-nil}
use Rattle.std.proofs.lemmas.List.{drop_all}
use Rattle.jcard_outcomes.specs.Report.{line_verdict_text, verdicts_text}
use Rattle.jcard_outcomes.specs.declared.each.LineSweep.{LineSweep}
use Rattle.jcard_texts.proofs.Items.{drop_at}

-- the verdict of the next command is reported
pub verdict_more : (rows : Bool) (sweeps : List LineSweep) (i : ℕ) (s : LineSweep) (text next : List ℕ) → i < length sweeps → s ≡ get_or sweeps i s
    → next ≡ text ++ line_verdict_text rows s → next ++ verdicts_text rows (drop (i + 1) sweeps) ≡ text ++ verdicts_text rows (drop i sweeps)
unfolding verdicts_text
verdict_more rows sweeps i s text next h e told = ap (λ t. t ++ verdicts_text rows (drop (i + 1) sweeps)) told
    ∙ append_assoc text (line_verdict_text rows s) (verdicts_text rows (drop (i + 1) sweeps))
    ∙ ap (λ t. text ++ t) (sym (ap (verdicts_text rows) (drop_at sweeps i s h e)))

-- after the last none is left
pub verdicts_end : (rows : Bool) (sweeps : List LineSweep) (i : ℕ) (text : List ℕ) → length sweeps ≤ i → text ≡ text ++ verdicts_text rows (drop i sweeps)
unfolding verdicts_text
verdicts_end rows sweeps i text h = sym (ap (λ t. text ++ t) (ap (verdicts_text rows) (drop_all i sweeps h)) ∙ append-nil text)
