use Rattle.jcard_test.proofs.rows_file.add_copy.Goals as goal

pub returns : goal.returns
returns c = (c.in_ok-copy_of.field-0, c.in_ok-copy_of.ensures, c.in_ok-push.ensures.items)
