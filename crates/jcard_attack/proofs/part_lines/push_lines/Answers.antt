use Rattle.std.proofs.Common.{◌≡◌, ◌∙◌, ◌++◌, ◌∷◌, [], List, ℕ, ap, map}
use Rattle.std.proofs.lemmas.List.{take_all}
use Rattle.jcard_attack.specs.PartLines.{fault_line, fault_lines}
use Rattle.jcard_attack.specs.Report.{fault_told, told_by}
use Rattle.jcard_attack.proofs.PartWholes.{lines_next}
use Rattle.jcard_attack.proofs.part_lines.push_lines.Goals as goal

pub loop-struck-preserved : goal.loop-struck-preserved
loop-struck-preserved c =
    let all : List (List ℕ) = map (λ line. line.items) c.args.instructions.now in
    let s = c.struck-item.result in
    let here : told_by c.lent.result ≡ fault_told all s = c.lent.ensures ∙ c.in_ok-texts.ensures in
    lines_next (fault_told all) c.args.strikes.now c.loop-struck.struck-index s c.args.text.now.items c.loop-struck.text.items c.push_line.new.text.items
    c.loop-struck-test.true c.struck-item.is c.loop-struck.invariant
    (c.in_ok-push_line.ensures ∙ ap (λ f. c.loop-struck.text.items ++ (fault_line f ++ 10 ∷ [])) here)

pub returns : goal.returns
returns c =
    let all : List (List ℕ) = map (λ line. line.items) c.args.instructions.now in
    c.loop-struck.invariant ∙ ap (λ l. c.args.text.now.items ++ fault_lines (map (fault_told all) l))
    (take_all c.loop-struck.struck-index c.args.strikes.now c.loop-struck-test.false)
