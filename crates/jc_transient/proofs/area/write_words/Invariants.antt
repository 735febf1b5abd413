-- The words before the index are written.
use Rattle.std.proofs.Common.{◌≡◌, map}
use Rattle.jc_transient.specs.Cell.{number_of}
use lib.Seq.{paste}
use Rattle.jc_transient.proofs.area.write_words.Given as goal

abbrev pub invariant-loop-k : goal.invariant-loop-k
invariant-loop-k l = l.cells ≡ paste l.fn.cells l.place (map number_of l.words) l.k
