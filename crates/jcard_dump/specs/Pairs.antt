-- Lines of two images, compared.
use Rattle.std.specs.Prelude.{ℕ, ◌++◌, ◌&&◌, ◌==◌, Bool, List, [], codes, length, if◌then◌else◌}
use Rattle.std.specs.Str.{bytes_eq}
use Rattle.jcard_dump.specs.InventoryLines.{Lines, line, then_lines}
use Rattle.jcard_dump.specs.declared.listing.Listing.{Listing}
use Rattle.jcard_dump.specs.declared.pairs.Side.{Side}
use Rattle.jcard_dump.specs.declared.pairs.Side.TheVariants.{One, Other}

-- the lines that were listed
abbrev pub lines_of : Listing → Lines
lines_of l = record { text = l.text.items; readable = l.readable }

-- what stands before a line that one image alone has
abbrev pub sign : Side → List ℕ
sign One = codes "- "
sign Other = codes "+ "

-- such a line, if there is one
abbrev pub signed : Side → List ℕ → List ℕ
signed side text = if length text == 0 then [] else sign side ++ text

-- a line of each, or none: nothing is reported where they are the same
abbrev pub pair_text : List ℕ → List ℕ → List ℕ
pair_text one other = if bytes_eq one other then [] else signed One one ++ signed Other other

-- that an image cannot be read further
abbrev pub unread_text : Side → List ℕ
unread_text side = sign side ++ codes "cannot be read further\n"

-- how far both images could be read: of two that could not the first is reported
abbrev pub end_text : Bool → Bool → List ℕ
end_text one other = if one then (if other then [] else unread_text Other) else unread_text One

abbrev pub end_lines : Bool → Bool → Lines
end_lines one other = record { text = end_text one other; readable = one && other }

-- the lines of both that are not the same, and how far these could be read
abbrev pub pair_lines : Lines → Lines → Lines
pair_lines one other = then_lines (line (pair_text one.text other.text)) (end_lines one.readable other.readable)
