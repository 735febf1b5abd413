use Rattle.jcard_test.proofs.SparedFiles.{test_spares}
use Rattle.jcard_test.proofs.sparing_law.no_text_is_written_over.Goals as goal

pub returns : goal.returns
returns c = test_spares
