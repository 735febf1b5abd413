use Rattle.std.proofs.Common.{◌∙◌, [], ap, refl, sym, subst, inl, inr, get_or}
use Rattle.std.proofs.lemmas.Option.{slice_get-get_or, slice_get-map}
use Rattle.std.specs.Prelude.{option_map}
use Rattle.jcard_tear.specs.Faults.{IsLineUncut}
use Rattle.jcard_sweeps.specs.ScriptLines.{line_of}
use Rattle.jcard_sweeps.specs.declared.script_lines.ScriptLine.{ScriptLine}
use Rattle.jcard_tear.specs.Sweep.{given_of}
use Rattle.jcard_tear.proofs.CutCommands.{swept_next, swept_none}
use Rattle.jcard_sweeps.proofs.RunFaults.{passed_on}
use Rattle.jcard_tear.proofs.each.tear_each.Goals as goal

pub loop-line-init : goal.loop-line-init
loop-line-init g c = rw c.new-sweeps.ensures.items (swept_none _ _ _)

pub loop-line-preserved : goal.loop-line-preserved
loop-line-preserved g c =
    let none : ScriptLine = record { number = 0; before = record { ref_ptr = (0, 0); now = [] }; line = record { ref_ptr = (0, 0); now = [] } } in
    swept_next c.args.words.now (given_of c.args.follow_up) c.args.follow_up.behind c.args.lines.now c.loop-line.line-index none
    c.loop-line.sweeps.items c.push_sweep.new.sweeps.items c.in_ok-sweep.sweep c.loop-line-test.true c.loop-line.invariant c.in_ok-sweep.ensures
    c.in_ok-push_sweep.ensures

pub returns-in_err-sweep : goal.returns-in_err-sweep
returns-in_err-sweep g c =
    let none : ScriptLine = record { number = 0; before = record { ref_ptr = (0, 0); now = [] }; line = record { ref_ptr = (0, 0); now = [] } } in
    let lines = c.args.lines.now in
    let i = c.loop-line.line-index in
    let line = get_or lines i none in
    let at = slice_get-map line_of lines i ∙ ap (option_map line_of) (slice_get-get_or lines i none c.loop-line-test.true) in
    passed_on _ _ c.from_residual.result c.from_residual.ensures.1
    (λ fault e. inr (
      line_of line,
      i,
      at,
      subst (IsLineUncut c.args.words.now (given_of c.args.follow_up) c.args.follow_up.behind (line_of line) 1) (sym e)
          c.in_err-sweep.ensures,
    ))

pub returns-in_err-push_sweep : goal.returns-in_err-push_sweep
returns-in_err-push_sweep g c = passed_on _ _ c.from_residual-in_err-push_sweep.result c.from_residual-in_err-push_sweep.ensures.1
    (λ fault e. inl (e ∙ c.in_err-push_sweep.ensures))
