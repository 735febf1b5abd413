use Rattle.std.proofs.Common.{◌≡◌}
use Rattle.jcard_test.proofs.timed_text.TimedText.note.Given as goal

abbrev pub invariant-loop-byte : goal.invariant-loop-byte
invariant-loop-byte g l = l.self.text ≡ l.fn.self.text
