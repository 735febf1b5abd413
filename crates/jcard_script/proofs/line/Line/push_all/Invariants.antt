use Rattle.std.proofs.Common.{ℕ, List, ◌++◌, take}
use Rattle.jcard_script.specs.Session.{IsKeptOf}
use Rattle.jcard_script.proofs.line.Line.push_all.Given as goal

abbrev pub invariant-loop-byte : goal.invariant-loop-byte
invariant-loop-byte l = record {
  kept : (line : List ℕ) → IsKeptOf l.fn.self line → IsKeptOf l.self (line ++ take l.byte-index l.bytes);
}
