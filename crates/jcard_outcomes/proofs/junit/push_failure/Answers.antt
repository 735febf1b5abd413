use Rattle.jcard_texts.proofs.Items.{grown}
use Rattle.jcard_outcomes.proofs.junit.push_failure.Goals as goal

pub returns : goal.returns
returns c =
    let text = c.args.text.now.items in
    let command = rw c.as_bytes.ensures.value at c.in_ok-push_escaped.ensures in
    let wanted = rw c.as_bytes-2.ensures.value at c.in_ok-push_escaped-2.ensures in
    let told = rw c.deref.ensures.value at c.in_ok-push_told.ensures in
    let two = grown _ _ text _ _ c.in_ok-extend_from_slice.ensures.items c.in_ok-push_number.ensures in
    let three = grown _ _ text _ _ two c.in_ok-extend_from_slice-2.ensures.items in
    let four = grown _ _ text _ _ three command in
    let five = grown _ _ text _ _ four c.in_ok-extend_from_slice-3.ensures.items in
    let six = grown _ _ text _ _ five wanted in
    let seven = grown _ _ text _ _ six told in
    grown _ _ text _ _ seven c.in_ok-extend_from_slice-4.ensures.items
