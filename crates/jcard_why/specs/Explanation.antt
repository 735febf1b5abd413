-- How many instructions of a command are noted.
use Rattle.std.specs.Prelude.{ℕ, ◌||◌, if◌then◌else◌, Option, Some, None}
use Rattle.jcard_why.specs.declared.explanation.TracedLines.{TracedLines}
use Rattle.jcard_why.specs.declared.explanation.TracedLines.TheVariants.{First, Last}
use Rattle.jcard_why.specs.declared.explanation.Wanted.{Wanted}

-- for the lines that are reported: the first are noted as they come; the last are found once all have come
abbrev pub noted_for : Option TracedLines → ℕ
noted_for None = 0
noted_for (Some (First n)) = n
noted_for (Some (Last n)) = 10000000

-- where instructions are counted, or places of the code are looked at, ten million
abbrev pub most_noted : Wanted → ℕ
most_noted wanted = if wanted.cover || wanted.stops then 10000000 else noted_for wanted.trace
