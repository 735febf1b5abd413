use Rattle.std.proofs.Common.{◌≡◌, ◌++◌, drop}
use Rattle.jcard_texts.specs.Escapes.{escaped_behind}
use Rattle.jcard_texts.proofs.escapes.push_escaped.Given as goal

abbrev pub invariant-loop-place : goal.invariant-loop-place
invariant-loop-place l = l.text.items ++ escaped_behind l.left_out (drop l.place l.bytes) ≡ l.fn.text.items ++ escaped_behind 0 l.bytes
