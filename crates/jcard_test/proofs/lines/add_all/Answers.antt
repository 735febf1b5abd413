use Rattle.std.proofs.Common.{◌∙◌, ◌++◌, ◌∷◌, ℕ, List, [], ap, sym, append-nil, append_assoc}
use Rattle.std.specs.Borrow.{Bor}
use Rattle.jcard_test.specs.declared.numbered_line.Numbered.{Numbered}
use Rattle.jcard_test.proofs.Numbering.{all_next, all_none}
use Rattle.jcard_test.proofs.lines.add_all.Goals as goal

pub loop-text-init : goal.loop-text-init
loop-text-init c = ([], all_none c.args.number, sym (append-nil c.args.lines.now.items))

pub loop-text-preserved : goal.loop-text-preserved
loop-text-preserved c =
    let none : Bor (List ℕ) = record { ref_ptr = (0, 0); now = [] } in
    let line = c.in_ok-line_of.field-0 in
    let so_far = c.loop-text.invariant in (
      so_far.0 ++ line ∷ [],
      all_next c.args.number c.args.texts.now c.loop-text.text-index none so_far.0 line c.loop-text-test.true so_far.1 c.in_ok-line_of.ensures,
      c.in_ok-push.ensures.items ∙ ap (λ (ls : List Numbered). ls ++ line ∷ []) so_far.2 ∙ append_assoc c.args.lines.now.items so_far.0 (line ∷ []),
    )
