use Rattle.std.proofs.Common.{inl, inr}
use Rattle.jcard_dump.proofs.comparison.tell_beside.Goals as goal

pub tell_lines-requires-clause-other_size : goal.tell_lines-requires-clause-other_size
tell_lines-requires-clause-other_size g c = c.in-Ok.ensures.0.size

pub returns-in-Ok : goal.returns-in-Ok
returns-in-Ok g c =
    let told = c.tell_lines.ensures.0 in
    ((told.0, told.1, inr (c.in-Ok.ensures.0, told.2)), c.tell_lines.ensures.1)

pub returns-in-Err : goal.returns-in-Err
returns-in-Err g c =
    let told = c.tell_no_image.ensures.0 in
    ((told.0, told.1, inl (c.in-Err.fault, c.in-Err.ensures, told.2)), c.tell_no_image.ensures.1)
