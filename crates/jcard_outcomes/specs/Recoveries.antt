-- Recoveries that are cut, one after the other, after each cut of a command, and the text that says whether one made a difference.
use Rattle.std.specs.Prelude.{ℕ, ◌+◌, ◌==◌, min, List, [], ◌∷◌, ◌++◌, codes, decimal, Option, Some, None, if◌then◌else◌}
use Rattle.jcard_outcomes.specs.declared.recoveries.Depth.{Depth}
use Rattle.jcard_outcomes.specs.declared.recoveries.Depth.TheVariants.{Zero, One, Two, Three}
use Rattle.jcard_outcomes.specs.declared.standing.Cut.{Cut}

-- how many recoveries are cut, one after the other
abbrev pub recoveries_of : Depth → ℕ
recoveries_of Zero = 0
recoveries_of One = 1
recoveries_of Two = 2
recoveries_of Three = 3

-- the cut after k writes and what made a difference after it, or else what is found after those that follow
abbrev pub difference_or : ℕ → Option ℕ → Option (ℕ × ℕ) → Option (ℕ × ℕ)
difference_or k (Some writes) later = Some (k, writes)
difference_or k None later = later

-- the first of these cuts, counted from this many on, after which a recovery made a difference, and the writes of that one
unfoldable pub first_difference : ℕ → List Cut → Option (ℕ × ℕ)
first_difference k [] = None
first_difference k (c ∷ more) = difference_or k c.recoveries.difference (first_difference (k + 1) more)

-- in how many ways recoveries were cut, these cuts counted after this many. At the last value of a u64 the count stays
unfoldable pub ways_from : ℕ → List Cut → ℕ
ways_from n [] = n
ways_from n (c ∷ more) = ways_from (min (n + c.recoveries.ways) 18446744073709551615) more

-- the recoveries before the last are cut before their first write
abbrev pub earlier_text : Depth → List ℕ
earlier_text Zero = []
earlier_text One = []
earlier_text Two = codes "0 "
earlier_text Three = codes "0 0 "

-- how deep recoveries were cut
abbrev pub depth_text : Depth → List ℕ
depth_text Zero = codes "0 deep\n"
depth_text One = codes "1 deep\n"
depth_text Two = codes "2 deep\n"
depth_text Three = codes "3 deep\n"

-- in how many ways
abbrev pub ways_text : ℕ → List ℕ
ways_text ways = decimal ways ++ (if ways == 1 then codes " way, " else codes " ways, ")

-- none made a difference
abbrev pub same_text : Depth → ℕ → List ℕ
same_text depth ways = codes "no recovery made a difference: " ++ ways_text ways ++ depth_text depth

-- a number at the end of a line
abbrev pub ended_number : ℕ → List ℕ
ended_number n = decimal n ++ codes "\n"

-- the writes of recoveries that made one
abbrev pub writes_text : Depth → ℕ → List ℕ
writes_text depth writes = codes ", recoveries cut after " ++ earlier_text depth ++ ended_number writes

-- they made one after this cut
abbrev pub different_text : Depth → ℕ → ℕ → List ℕ
different_text depth k writes = codes "a recovery made a difference: first at cut " ++ decimal k ++ writes_text depth writes

abbrev pub recoveries_by : Depth → Option (ℕ × ℕ) → List Cut → List ℕ
recoveries_by depth (Some found) cuts = different_text depth found.0 found.1
recoveries_by depth None cuts = same_text depth (ways_from 0 cuts)

-- what is reported of recoveries after these cuts, if any were cut
abbrev pub recoveries_text : Depth → List Cut → List ℕ
recoveries_text Zero cuts = []
recoveries_text depth cuts = recoveries_by depth (first_difference 0 cuts) cuts
