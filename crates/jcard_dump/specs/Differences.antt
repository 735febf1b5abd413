-- All that is not the same in two images.
use Rattle.std.specs.Prelude.{ℕ, ◌≡◌, ◌⊎◌, ◌&&◌, ◌++◌, true, false, Bool, List, Some, None, Ok, Err, Result}
use Rattle.jc_objects.specs.declared.legend.Legend.{Legend}
use Rattle.jc_objects.specs.Bounds.{has_bounds}
use Rattle.jcard_dump.specs.InventoryLines.{Lines, line_if, then_lines}
use Rattle.jcard_dump.specs.Areas.{areas_line}
use Rattle.jcard_dump.specs.Compared.{heap_lines}
use Rattle.jcard_dump.specs.Fault.{Lists}
use Rattle.jcard_dump.specs.Image.{ListedImage, hiding, image_of, keys_in}
use Rattle.jcard_dump.specs.Listing.{IsLegendOf}
use Rattle.jcard_dump.specs.Pairs.{end_lines, pair_lines}
use Rattle.jcard_dump.specs.Parts.{part_lines}
use Rattle.jcard_dump.specs.declared.fault.ListFault.{ListFault}
use Rattle.jcard_dump.specs.declared.fault.ListFault.TheVariants.{Unreadable, NoMemory}
use Rattle.jcard_dump.specs.declared.parts.Part.TheVariants.{Sizes, Packages, Applets, Entries, Records, Registrations}
use Rattle.jcard_dump.specs.declared.shown.Shown.{Shown}

-- the lines of the heaps' ends
abbrev pub area_lines : List ℕ → List ℕ → Lines
area_lines w v = pair_lines (line_if (areas_line w)) (line_if (areas_line v))

-- the numbered lines that name what is there, and those that say where it stands
abbrev pub named_lines : ListedImage → ListedImage → Lines
named_lines i j = then_lines (part_lines Sizes i j) (then_lines (part_lines Packages i j) (part_lines Applets i j))

abbrev pub placed_lines : ListedImage → ListedImage → Lines
placed_lines i j = then_lines (part_lines Entries i j) (then_lines (part_lines Records i j) (part_lines Registrations i j))

-- all lines of two images
abbrev pub both_lines : ListedImage → ListedImage → Lines
both_lines i j = then_lines (named_lines i j) (then_lines (placed_lines i j) (heap_lines i j))

-- the same, where the bytes of the arrays that hold keys in either are shown or not
abbrev pub content_lines : ListedImage → ListedImage → Bool → Lines
content_lines i j secrets = let keys : List ℕ = keys_in i secrets ++ keys_in j secrets in both_lines (hiding i keys) (hiding j keys)

-- what is reported after the heaps' ends: nothing where a text is no table
abbrev pub IsContent : List ℕ → List ℕ → Shown → Lines → Type 0
IsContent w v shown l = (IsLegendOf w None × (l ≡ end_lines false true))
    ⊎ ((t : Legend) × IsLegendOf w (Some t) × IsLegendOf v None × (l ≡ end_lines true false))
    ⊎ ((t u : Legend) × IsLegendOf w (Some t) × IsLegendOf v (Some u) × (l ≡ content_lines (image_of t w shown.all) (image_of u v shown.all) shown.secrets))

-- these lines say what is not the same in words and in others: nothing after a heap that is out of its bounds
abbrev pub AreDifferences : List ℕ → List ℕ → Shown → Lines → Type 0
AreDifferences w v shown l = (((has_bounds w && has_bounds v) ≡ false) × (l ≡ area_lines w v))
    ⊎ ((behind : Lines) × (has_bounds w ≡ true) × (has_bounds v ≡ true) × IsContent w v shown behind × (l ≡ then_lines (area_lines w v) behind))

-- a text grew by what is reported after the heaps' ends, or memory was refused
abbrev pub IsContentTold : List ℕ → List ℕ → Shown → List ℕ → List ℕ → Result Unit ListFault → Type 0
IsContentTold w v shown old new (Err NoMemory) = Unit {0}
IsContentTold w v shown old new (Ok done) = (l : Lines) × IsContent w v shown l × Lists old new l (Ok tt)
IsContentTold w v shown old new (Err Unreadable) = (l : Lines) × IsContent w v shown l × Lists old new l (Err Unreadable)

-- or by all lines
abbrev pub AreToldTo : List ℕ → List ℕ → Shown → List ℕ → List ℕ → Result Unit ListFault → Type 0
AreToldTo w v shown old new (Err NoMemory) = Unit {0}
AreToldTo w v shown old new (Ok done) = (l : Lines) × AreDifferences w v shown l × Lists old new l (Ok tt)
AreToldTo w v shown old new (Err Unreadable) = (l : Lines) × AreDifferences w v shown l × Lists old new l (Err Unreadable)
