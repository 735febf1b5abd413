use Rattle.std.proofs.Common.{ℕ, List, ◌++◌, take}
use Rattle.jcard_script.specs.Word.{IsWordOf}
use Rattle.jcard_script.proofs.word.Word.push_all.Given as goal

abbrev pub invariant-loop-byte : goal.invariant-loop-byte
invariant-loop-byte l = record {
  kept : (line : List ℕ) → IsWordOf l.fn.self line → IsWordOf l.self (line ++ take l.byte-index l.bytes);
}
