use Rattle.std.proofs.Common.{◌≡◌, ◌+◌, ℕ, List, length}
use Rattle.jcard_script.specs.HeldCard.{IsState}
use Rattle.std.specs.Io.KnownBytes.{Appends, Consumes}
use Rattle.jcard_script.specs.HeldCard.{state_of_held}
use Rattle.jcard_script.specs.Session.{StandsAt}
use Rattle.jcard_script.proofs.session.Session.run.Given as goal

abbrev pub invariant-loop-count : goal.invariant-loop-count
invariant-loop-count g l = record {
  held : IsState l.self.held;
  reads : g.R.TextIn.failures l.reader ≡ g.R.TextIn.failures l.fn.reader;
  writes : g.W.TextOut.failures l.writer ≡ g.W.TextOut.failures l.fn.writer;
  stands : (script text : List ℕ)
      × Consumes (g.R.TextIn.remaining l.fn.reader) (g.R.TextIn.remaining l.reader) script
      × Appends (g.W.TextOut.contents l.fn.writer) (g.W.TextOut.contents l.writer) text
      × StandsAt l.self (state_of_held l.fn.self.held) script text
      × (length script + l.left ≡ 16777216);
}

abbrev pub decreases-loop-count : goal.decreases-loop-count
decreases-loop-count g l = l.left
