-- What the name of a sweep says after its checksum.
use Rattle.std.specs.Prelude.{ℕ, List, [], drop, codes, if◌then◌else◌}
use Rattle.std.specs.Str.{bytes_eq}
use Rattle.jcard_outcomes.specs.declared.recoveries.Depth.{Depth}
use Rattle.jcard_outcomes.specs.declared.recoveries.Depth.TheVariants.{Zero, One, Two, Three}
use Rattle.jcard_outcomes.specs.declared.sweep_kind.SweepKind.{SweepKind}
use Rattle.jcard_outcomes.specs.declared.sweep_kind.SweepKind.TheVariants.{Cuts, Commands}

-- of a sweep whose parts have cuts of one command: how many recoveries are cut after each; of one whose parts have commands: that it has
abbrev pub mark_of : SweepKind → List ℕ
mark_of (Cuts Zero) = []
mark_of (Cuts One) = codes " recovery 1"
mark_of (Cuts Two) = codes " recovery 2"
mark_of (Cuts Three) = codes " recovery 3"
mark_of Commands = codes " each"

-- the sweep that has such a mark; any other mark says nothing
abbrev pub marked : List ℕ → SweepKind
marked mark = if bytes_eq mark (codes " each") then Commands
    else (if bytes_eq mark (codes " recovery 1") then Cuts One
    else (if bytes_eq mark (codes " recovery 2") then Cuts Two
    else (if bytes_eq mark (codes " recovery 3") then Cuts Three else Cuts Zero)))

-- the checksum before it has 40 digits
abbrev pub kind_of : List ℕ → SweepKind
kind_of name = marked (drop 40 name)
