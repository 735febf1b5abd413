use Rattle.std.proofs.Common.{◌∙◌, ◌++◌, ap, codes, append_assoc}
use Rattle.jcard_outcomes.specs.Report.{ended, numbers_text, row_text}
use Rattle.jcard_texts.proofs.Items.{appended}
use Rattle.jcard_outcomes.proofs.rows.push_row.Goals as goal

pub returns : goal.returns
unfolding row_text
returns c =
    let numbers = numbers_text c.args.first c.args.last in
    appended c.push_ended.result _ c.push_numbers.new.text.items c.args.text.now.items (codes "cut after " ++ numbers) (ended c.args.outcome.now)
    (c.in_ok-push_numbers.ensures ∙ ap (λ t. t ++ numbers) c.in_ok-extend_from_slice.ensures.items ∙ append_assoc c.args.text.now.items (codes "cut after ") numbers) c.push_ended.ensures
