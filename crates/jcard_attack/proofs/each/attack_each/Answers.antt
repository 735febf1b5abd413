use Rattle.std.proofs.Common.{◌∙◌, [], ap, sym, subst, inl, inr, get_or}
use Rattle.std.proofs.lemmas.Option.{slice_get-get_or, slice_get-map}
use Rattle.std.specs.Prelude.{option_map}
use Rattle.jcard_sweeps.specs.ScriptLines.{line_of}
use Rattle.jcard_sweeps.specs.declared.script_lines.ScriptLine.{ScriptLine}
use Rattle.jcard_sweeps.proofs.RunFaults.{passed_on}
use Rattle.jcard_attack.specs.Each.{IsLineUnswept}
use Rattle.jcard_attack.proofs.AttackedCommands.{each_next, each_none}
use Rattle.jcard_attack.proofs.each.attack_each.Goals as goal

pub loop-line-init : goal.loop-line-init
loop-line-init c = rw c.new-attacks.ensures.items (each_none _ _ _ _)

pub loop-line-preserved : goal.loop-line-preserved
loop-line-preserved c =
    let none : ScriptLine = record { number = 0; before = record { ref_ptr = (0, 0); now = [] }; line = record { ref_ptr = (0, 0); now = [] } } in
    let is = c.attacked_in-attacked.ensures in
    each_next c.args.words.now c.args.probe.now c.args.instructions c.args.sought c.args.lines.now c.loop-line.line-index none
    c.loop-line.attacks.items c.push_attack.new.attacks.items c.in_ok-found.found c.loop-line-test.true c.loop-line.invariant
    (c.attacked_in-attacked.result, (is.before, is.line, is.probe, is.instructions), c.in_ok-found.ensures) c.in_ok-push_attack.ensures

pub returns-in_err-found : goal.returns-in_err-found
returns-in_err-found c =
    let none : ScriptLine = record { number = 0; before = record { ref_ptr = (0, 0); now = [] }; line = record { ref_ptr = (0, 0); now = [] } } in
    let lines = c.args.lines.now in
    let i = c.loop-line.line-index in
    let line = get_or lines i none in
    let at = slice_get-map line_of lines i ∙ ap (option_map line_of) (slice_get-get_or lines i none c.loop-line-test.true) in
    let is = c.attacked_in-attacked.ensures in
    passed_on _ _ c.from_residual.result c.from_residual.ensures.1
    (λ fault e. inr (
      i,
      line_of line,
      c.attacked_in-attacked.result,
      at,
      (is.before, is.line, is.probe, is.instructions),
      subst (IsLineUnswept c.args.words.now c.attacked_in-attacked.result) (sym e) c.in_err-found.ensures,
    ))

pub returns-in_err-push_attack : goal.returns-in_err-push_attack
returns-in_err-push_attack c = passed_on _ _ c.from_residual-in_err-push_attack.result c.from_residual-in_err-push_attack.ensures.1
    (λ fault e. inl (e ∙ c.in_err-push_attack.ensures))
