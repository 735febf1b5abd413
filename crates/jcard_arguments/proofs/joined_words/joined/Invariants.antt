use Rattle.std.proofs.Common.{◌≡◌, ◌++◌, ◌-◌, drop, map, length}
use Rattle.std.specs.String.{string_bytes}
use Rattle.jcard_arguments.specs.JoinedWords.{joined}
use Rattle.jcard_arguments.proofs.joined_words.joined.Given as goal

abbrev pub invariant-loop-place : goal.invariant-loop-place
invariant-loop-place l = map string_bytes l.all.items ++ joined (map string_bytes (drop l.place l.words)) ≡ joined (map string_bytes l.words)

abbrev pub decreases-loop-place : goal.decreases-loop-place
decreases-loop-place l = length l.words - l.place
