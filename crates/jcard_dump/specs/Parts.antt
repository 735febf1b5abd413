-- The numbered lines of two images, compared.
use Rattle.std.specs.Prelude.{ℕ, ◌==◌, nat_le, nat_lt, List, [], length, slice_index, codes, if◌then◌else◌}
use Rattle.jc_words.specs.Layout.{applets_address, packages_address}
use Rattle.jc_commit.specs.Image.{capacity_of, count_of}
use Rattle.jcard_dump.specs.InventoryLines.{Lines, applet_text, count_line, journal_line, line, line_if, package_text}
use Rattle.jcard_dump.specs.Applets.{applet_lines}
use Rattle.jcard_dump.specs.Entries.{entry_lines}
use Rattle.jcard_dump.specs.Fault.{each_line}
use Rattle.jcard_dump.specs.Image.{ListedImage}
use Rattle.jcard_dump.specs.Packages.{package_lines}
use Rattle.jcard_dump.specs.Pairs.{pair_lines}
use Rattle.jcard_dump.specs.declared.parts.Part.{Part}
use Rattle.jcard_dump.specs.declared.parts.Part.TheVariants.{Sizes, Packages, Applets, Entries, Records, Registrations}

-- how many words there are; how many entries of the journal, and of how many
abbrev pub size_text : List ℕ → ℕ → List ℕ
size_text w n = if n == 1 then count_line (codes "words ") (length w) else journal_line (count_of w) (capacity_of w)

-- how many lines a part has
abbrev pub part_count : Part → List ℕ → ℕ
part_count Sizes w = 2
part_count Packages w = slice_index w packages_address
part_count Applets w = slice_index w applets_address
part_count Entries w = count_of w
part_count Records w = slice_index w packages_address
part_count Registrations w = slice_index w applets_address

-- the line with a number, from 1 on
abbrev pub part_line : Part → ListedImage → ℕ → Lines
part_line Sizes i n = line (size_text i.words n)
part_line Packages i n = line_if (package_text i.words n)
part_line Applets i n = line_if (applet_text i.words n)
part_line Entries i n = entry_lines i.legend.platform i.words n
part_line Records i n = package_lines i.legend i.words n
part_line Registrations i n = applet_lines i.words n

-- the same, or nothing after the last
abbrev pub line_among : Part → ListedImage → ℕ → Lines
line_among part i n = if nat_le n (part_count part i.words) then part_line part i n else line []

-- the lines with a number of two images
abbrev pub pair_at : Part → ListedImage → ListedImage → ℕ → Lines
pair_at part i j n = pair_lines (line_among part i n) (line_among part j n)

abbrev pub larger : ℕ → ℕ → ℕ
larger a b = if nat_lt a b then b else a

-- those with each number that either has
abbrev pub part_lines : Part → ListedImage → ListedImage → Lines
part_lines part i j = each_line (pair_at part i j) (larger (part_count part i.words) (part_count part j.words))
