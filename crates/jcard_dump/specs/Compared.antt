-- The objects of two images, compared.
use Rattle.std.specs.Prelude.{ℕ, ◌==◌, ◌&&◌, ◌++◌, Bool, List, [], codes, slice_index, Option, Some, None, if◌then◌else◌}
use Rattle.std.specs.List.{flat_map}
use Rattle.jc_transient.specs.declared.cell.ClearEvent.{ClearEvent}
use Rattle.jc_heap.specs.Object.{Item, event_number, kind_number}
use Rattle.jc_heap.specs.declared.object.Facts.{Facts}
use Rattle.jc_objects.specs.Places.{standing_at}
use Rattle.jc_objects.specs.Records.{are_whole, standing_items}
use Rattle.jc_objects.specs.declared.places.Standing.{Standing}
use Rattle.jc_objects.specs.declared.places.Standing.TheVariants.{Object, Nothing, Unread}
use Rattle.jcard_dump.specs.InventoryLines.{Lines, line, then_lines}
use Rattle.jc_objects.specs.ClassTexts.{kind_text}
use Rattle.jcard_dump.specs.Image.{ListedImage, cells_in, is_hidden, is_listed, object_here}
use Rattle.jcard_dump.specs.Objects.{object_text, value_text}
use Rattle.jcard_dump.specs.Pairs.{end_lines, sign}
use Rattle.jcard_dump.specs.Texts.{each_text, labelled_text}
use Rattle.jcard_dump.specs.declared.compared.Change.{Change}
use Rattle.jcard_dump.specs.declared.image.PlacedObject.{PlacedObject}
use Rattle.jcard_dump.specs.declared.pairs.Side.{Side}
use Rattle.jcard_dump.specs.declared.pairs.Side.TheVariants.{One, Other}

-- two headers say the same, in one word for a cell or for two
abbrev pub is_same : Facts → Facts → Bool
is_same f p = (f.length == p.length) && ((kind_number f.kind == kind_number p.kind) && ((event_number f.event == event_number p.event)
    && ((f.class == p.class) && ((f.owner == p.owner) && (f.place == p.place)))))

-- what stands in a cell in one image and in the other, or that it is not shown
abbrev pub values_text : ListedImage → PlacedObject → Change → List ℕ
values_text i o c = if is_hidden i o then codes "not shown"
    else value_text i.legend o.facts c.cell c.one ++ (codes ">" ++ value_text i.legend o.facts c.cell c.other)

-- a cell that is not the same: the object, its class, the cell, and what stands in it
abbrev pub change_line : ListedImage → PlacedObject → Change → List ℕ
change_line i o c = labelled_text (codes "@") o.at (codes " ") ++ (kind_text i.legend.platform i.words o.facts.kind o.facts.class
    ++ (labelled_text (codes " [") c.cell (codes "] ") ++ (values_text i o c ++ codes "\n")))

abbrev pub change_text : ListedImage → PlacedObject → Change → List ℕ
change_text i o c = if c.one == c.other then [] else change_line i o c

-- a cell of the objects at an address in two images
abbrev pub change_at : ListedImage → ListedImage → PlacedObject → ℕ → Change
change_at i j o n = record { cell = n; one = slice_index (cells_in i.words o) n; other = slice_index (cells_in j.words o) n }

abbrev pub change_text_at : ListedImage → ListedImage → PlacedObject → ℕ → List ℕ
change_text_at i j o n = change_text i o (change_at i j o n)

-- all their cells, where both are persistent
abbrev pub changes_text : ListedImage → ListedImage → PlacedObject → Option ClearEvent → Option ClearEvent → List ℕ
changes_text i j o None None = each_text (change_text_at i j o) o.facts.length
changes_text i j o None (Some event) = []
changes_text i j o (Some event) other = []

-- an object that one image alone has
abbrev pub alone_text : Side → ListedImage → PlacedObject → List ℕ
alone_text side i o = sign side ++ object_text i o (cells_in i.words o)

-- one that both have, printed as of the first
abbrev pub kept_text : Side → ListedImage → ListedImage → PlacedObject → Facts → List ℕ
kept_text One i j o p = changes_text i j o o.facts.event p.event
kept_text Other i j o p = []

-- an object of an image, beside what begins at its address in the other one: nothing is reported where that cannot be read
abbrev pub beside_text : Side → ListedImage → ListedImage → PlacedObject → Standing → List ℕ
beside_text side i j o (Object p) = if is_same o.facts p then kept_text side i j o p else alone_text side i o
beside_text side i j o Nothing = alone_text side i o
beside_text side i j o Unread = []

-- the same, if it is listed
abbrev pub reported_text : Side → ListedImage → ListedImage → Option PlacedObject → List ℕ
reported_text side i j (Some o) = if is_listed i o then beside_text side i j o (standing_at j.words o.at) else []
reported_text side i j None = []

-- what stands at an address, if it is an object
abbrev pub compared_text : Side → ListedImage → ListedImage → ℕ × Item → List ℕ
compared_text side i j (at, item) = reported_text side i j (object_here at item)

-- all objects that stand in the heap of an image, up to a record that lacks words, beside the other image
abbrev pub compared_lines : Side → ListedImage → ListedImage → Lines
compared_lines side i j = record { text = flat_map (compared_text side i j) (standing_items i.words); readable = are_whole i.words }

-- those of the first image beside the other, then those that the other alone has, and how far both could be read
abbrev pub heap_lines : ListedImage → ListedImage → Lines
heap_lines i j = then_lines (line ((compared_lines One i j).text ++ (compared_lines Other j i).text))
    (end_lines (are_whole i.words) (are_whole j.words))
