use Rattle.std.proofs.Common.{◌≡◌, take}
use Rattle.jcard_attack.specs.Aftermaths.{lines_counted}
use Rattle.jcard_attack.proofs.aftermaths.line_count.Given as goal

abbrev pub invariant-loop-byte : goal.invariant-loop-byte
invariant-loop-byte l = l.count ≡ lines_counted (take l.byte-index l.text)
