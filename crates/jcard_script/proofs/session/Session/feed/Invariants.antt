use Rattle.std.proofs.Common.{◌≡◌, ◌+◌, ◌≤◌, ℕ, List, ◌++◌, length}
use Rattle.jcard_script.specs.HeldCard.{IsState}
use Rattle.std.specs.Io.KnownBytes.{Appends}
use Rattle.jcard_script.specs.ScriptStates.{ScriptState}
use Rattle.jcard_script.specs.Session.{StandsAt}
use Rattle.jcard_script.proofs.session.Session.feed.Given as goal

abbrev pub invariant-loop-end : goal.invariant-loop-end
invariant-loop-end g l = record {
  number : l.self.number + length l.rest ≤ l.fn.self.number + length l.piece;
  held : IsState l.self.held;
  failures : g.W.TextOut.failures l.writer ≡ g.W.TextOut.failures l.fn.writer;
  goes : (done : List ℕ) × (l.piece ≡ done ++ l.rest)
      × ((script text : List ℕ) → (first : ScriptState) → StandsAt l.fn.self first script text
      → (more : List ℕ) × Appends (g.W.TextOut.contents l.fn.writer) (g.W.TextOut.contents l.writer) more
      × StandsAt l.self first (script ++ done) (text ++ more));
}

abbrev pub decreases-loop-end : goal.decreases-loop-end
decreases-loop-end g l = length l.rest
