-- All that is listed of an image.
use Rattle.std.specs.Prelude.{ℕ, ◌≡◌, ◌⊎◌, true, false, Bool, List, slice_index, Option, Some, None, Ok, Err, Result}
use Rattle.jc_words.specs.Layout.{applets_address, packages_address}
use Rattle.jc_commit.specs.Image.{count_of}
use Rattle.jc_heap.specs.Image.{table_text}
use Rattle.jc_platform.specs.Table.{Reads}
use Rattle.jc_platform.specs.Tokens.{Tokens}
use Rattle.jc_objects.specs.Legend.{IsLegend}
use Rattle.jc_objects.specs.declared.legend.Legend.{Legend}
use Rattle.jc_objects.specs.Bounds.{has_bounds}
use Rattle.jcard_dump.specs.InventoryLines.{Lines, line_if, then_lines}
use Rattle.jcard_dump.specs.Applets.{applet_lines}
use Rattle.jcard_dump.specs.Areas.{areas_line}
use Rattle.jcard_dump.specs.Entries.{entry_lines}
use Rattle.jcard_dump.specs.Fault.{Lists, each_line}
use Rattle.jcard_dump.specs.Image.{ListedImage, hiding, image_of, keys_in}
use Rattle.jcard_dump.specs.Objects.{objects_lines}
use Rattle.jcard_dump.specs.Packages.{package_lines}
use Rattle.jcard_dump.specs.declared.fault.ListFault.{ListFault}
use Rattle.jcard_dump.specs.declared.fault.ListFault.TheVariants.{Unreadable, NoMemory}
use Rattle.jcard_dump.specs.declared.shown.Shown.{Shown}

-- What the cells of objects are read by: the platform of the table text of words, and the packages that they have once they are
-- recovered; nothing where it is no table
abbrev pub IsLegendOf : List ℕ → Option Legend → Type 0
IsLegendOf w (Some t) = Reads (table_text w) (Ok t.platform) × IsLegend t.platform w t
IsLegendOf w None = (t : Tokens) → Reads (table_text w) (Ok t) → ⊥

-- the journal's entries, the packages' records and the applets' entries
abbrev pub tables_lines : Legend → List ℕ → Lines
tables_lines t w = then_lines (each_line (entry_lines t.platform w) (count_of w))
    (then_lines (each_line (package_lines t w) (slice_index w packages_address)) (each_line (applet_lines w) (slice_index w applets_address)))

-- these, and the objects
abbrev pub image_lines : ListedImage → Lines
image_lines i = then_lines (tables_lines i.legend i.words) (objects_lines i)

-- the same, where the bytes of the arrays that hold keys are shown or not
abbrev pub shown_lines : ListedImage → Bool → Lines
shown_lines i secrets = image_lines (hiding i (keys_in i secrets))

-- those of words by what their cells are read by, if that is known
abbrev pub contents_lines : Option Legend → List ℕ → Shown → Lines
contents_lines None w shown = line_if None
contents_lines (Some t) w shown = shown_lines (image_of t w shown.all) shown.secrets

-- these are the lines that list what words hold: nothing after a heap that is out of its bounds, nor after a text that is no table
abbrev pub IsListing : List ℕ → Shown → Lines → Type 0
IsListing w shown l = ((has_bounds w ≡ false) × (l ≡ line_if (areas_line w)))
    ⊎ ((legend : Option Legend) × (has_bounds w ≡ true) × IsLegendOf w legend
    × (l ≡ then_lines (line_if (areas_line w)) (contents_lines legend w shown)))

-- a text grew by such lines, or memory was refused
abbrev pub IsListed : List ℕ → Shown → List ℕ → List ℕ → Result Unit ListFault → Type 0
IsListed w shown old new (Err NoMemory) = Unit {0}
IsListed w shown old new (Ok done) = (l : Lines) × IsListing w shown l × Lists old new l (Ok tt)
IsListed w shown old new (Err Unreadable) = (l : Lines) × IsListing w shown l × Lists old new l (Err Unreadable)
