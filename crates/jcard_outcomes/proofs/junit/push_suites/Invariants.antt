use Rattle.std.proofs.Common.{◌≡◌, ◌++◌, drop}
use Rattle.jcard_outcomes.specs.Junit.{suites_text}
use Rattle.jcard_outcomes.proofs.junit.push_suites.Given as goal

abbrev pub invariant-loop-file : goal.invariant-loop-file
invariant-loop-file l = l.text.items ++ suites_text (drop l.file-index l.tested) ≡ l.fn.text.items ++ suites_text l.tested
