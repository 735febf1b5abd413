use Rattle.jcard_texts.proofs.Items.{grown}
use Rattle.jcard_outcomes.proofs.junit.push_head.Goals as goal

pub returns : goal.returns
returns c =
    let text = c.args.text.now.items in
    let name = rw c.as_bytes.ensures.value at c.in_ok-push_escaped.ensures in
    let tests = rw c.test_count.ensures at c.in_ok-push_number.ensures in
    let failures = rw c.failed_in.ensures at c.in_ok-push_number-2.ensures in
    let two = grown _ _ text _ _ c.in_ok-extend_from_slice.ensures.items name in
    let three = grown _ _ text _ _ two c.in_ok-extend_from_slice-2.ensures.items in
    let four = grown _ _ text _ _ three tests in
    let five = grown _ _ text _ _ four c.in_ok-extend_from_slice-3.ensures.items in
    let six = grown _ _ text _ _ five failures in
    grown _ _ text _ _ six c.in_ok-extend_from_slice-4.ensures.items
