use Rattle.jcard_texts.proofs.Items.{appended, grown}
use Rattle.jcard_outcomes.proofs.junit.push_row_case.Goals as goal

pub returns : goal.returns
returns c =
    let text = c.args.text.now.items in
    let time = rw (c.time_at.ensures, c.deref.ensures.value) at c.in_ok-push_seconds.ensures in
    let two = grown _ _ text _ _ c.in_ok-push_name.ensures c.in_ok-push_row.ensures in
    let three = grown _ _ text _ _ two c.in_ok-extend_from_slice.ensures.items in
    let four = grown _ _ text _ _ three time in
    let five = grown _ _ text _ _ four c.in_ok-extend_from_slice-2.ensures.items in
    appended c.push_verdict.result _ _ text _ _ five c.push_verdict.ensures
