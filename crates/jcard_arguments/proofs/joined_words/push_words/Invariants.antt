use Rattle.std.proofs.Common.{◌≡◌, ◌++◌, map, take}
use Rattle.std.specs.String.{string_bytes}
use Rattle.jcard_arguments.proofs.joined_words.push_words.Given as goal

abbrev pub invariant-loop-word : goal.invariant-loop-word
invariant-loop-word l = map string_bytes l.all.items ≡ map string_bytes l.initial.all.items ++ map string_bytes (take l.word-index l.words)
