-- The lines of the objects.
use Rattle.std.specs.Prelude.{ℕ, ◌+◌, ◌-◌, ◌/◌, ◌%◌, ◌++◌, ◌∷◌, ◌==◌, ◌&&◌, nat_lt, Bool, true, false, [], List, codes, decimal, slice_index, Option, Some, None, if◌then◌else◌}
use Rattle.std.specs.List.{flat_map}
use Rattle.hex.specs.Hex.{encode_upper}
use Rattle.jc_transient.specs.declared.cell.ClearEvent.{ClearEvent}
use Rattle.jc_transient.specs.declared.cell.ClearEvent.TheVariants.{Reset, Deselect}
use Rattle.jc_heap.specs.Object.{Item}
use Rattle.jc_heap.specs.Object.{cells_of as item_cells}
use Rattle.jc_heap.specs.declared.object.Facts.{Facts}
use Rattle.jc_heap.specs.declared.object.Kind.{Kind}
use Rattle.jc_heap.specs.declared.object.Kind.TheVariants.{Instance, BooleanArray, ByteArray, ShortArray, ReferenceArray}
use Rattle.jc_cap.specs.Packages.{NamedPackage}
use Rattle.jc_image.specs.Listing.{NamedApplet, applet_at, package_at}
use Rattle.jc_platform.specs.NamePlaces.{class_word}
use Rattle.jc_platform.specs.Hierarchy.{cells_of}
use Rattle.jc_platform.specs.Hierarchy.{holds_reference as class_holds_reference}
use Rattle.jc_platform.specs.Platform.{class_by_word}
use Rattle.jc_objects.specs.Legend.{holds_reference}
use Rattle.jc_objects.specs.declared.legend.Legend.{Legend}
use Rattle.jc_platform.specs.declared.names.PlatformClass.{PlatformClass}
use Rattle.jc_platform.specs.declared.names.PlatformClass.TheVariants.{Aid, OwnerPin}
use Rattle.jc_objects.specs.Records.{are_whole, standing_items}
use Rattle.jcard_dump.specs.InventoryLines.{Lines}
use Rattle.jc_objects.specs.ClassTexts.{kind_text}
use Rattle.jc_objects.specs.Keys.{is_key}
use Rattle.jcard_dump.specs.Image.{ListedImage, is_hidden, is_listed, object_here}
use Rattle.jcard_dump.specs.Keys.{key_text}
use Rattle.jcard_dump.specs.Texts.{each_text, labelled_text, reference_text, short_text}
use Rattle.jcard_dump.specs.declared.image.PlacedObject.{PlacedObject}

-- the AID of an applet or of a package, or its number where none is known
abbrev pub applet_name : Option NamedApplet → ℕ → List ℕ
applet_name (Some named) number = encode_upper named.aid
applet_name None number = decimal number

abbrev pub package_name : Option NamedPackage → ℕ → List ℕ
package_name (Some named) number = encode_upper named.aid
package_name None number = decimal number

-- the owner that a word of a header names, in an image of these words
abbrev pub owner_text : List ℕ → ℕ → List ℕ
owner_text w owner = if owner == 0 then codes "environment"
    else (if nat_lt owner 256 then codes "applet " ++ applet_name (applet_at w owner) owner
    else codes "package " ++ package_name (package_at w (owner - 256)) (owner - 256))

-- an object's address, its class, its owner, and how many cells it has
abbrev pub header_text : ListedImage → PlacedObject → List ℕ
header_text i o = labelled_text (codes "@") o.at (codes " ") ++ (kind_text i.legend.platform i.words o.facts.kind o.facts.class
    ++ (codes " of " ++ (owner_text i.words o.facts.owner ++ labelled_text (codes ", length ") o.facts.length [])))

-- where the cells of a transient object are: the area that an event clears, and the first of them
abbrev pub area_text : ClearEvent → ℕ → List ℕ
area_text Reset place = labelled_text (codes ", reset area from ") place []
area_text Deselect place = labelled_text (codes ", deselect area from ") place []

-- what stands in a field: a reference or a short
abbrev pub field_text : Bool → ℕ → List ℕ
field_text is_reference cell = if is_reference then reference_text cell else short_text cell

-- what stands in the cell with a number of an object of this class: a byte in hexadecimal, a reference or a short, in a field by the class's record
abbrev pub value_by : Legend → Kind → ℕ → ℕ → ℕ → List ℕ
value_by t Instance class i cell = field_text (holds_reference t class i) cell
value_by t BooleanArray class i cell = encode_upper (cell % 256 ∷ [])
value_by t ByteArray class i cell = encode_upper (cell % 256 ∷ [])
value_by t ShortArray class i cell = short_text cell
value_by t ReferenceArray class i cell = reference_text cell

abbrev pub value_text : Legend → Facts → ℕ → ℕ → List ℕ
value_text t f i cell = value_by t f.kind f.class i cell

abbrev pub cell_text : Legend → Facts → ℕ → ℕ → List ℕ
cell_text t f i cell = codes " " ++ value_text t f i cell

-- all cells, one after another
abbrev pub cell_at : Legend → Facts → List ℕ → ℕ → List ℕ
cell_at t f cells i = cell_text t f i (slice_index cells i)

abbrev pub cells_text : Legend → Facts → List ℕ → List ℕ
cells_text t f cells = codes ":" ++ each_text (cell_at t f cells) f.length

abbrev pub is_instance : Kind → Bool
is_instance Instance = true
is_instance _ = false

-- the header is that of an OwnerPIN
abbrev pub is_pin : Legend → Facts → Bool
is_pin t f = is_instance f.kind && (f.length == 5 && f.class == class_word t.platform OwnerPin)

-- its fields: the tries that are left and their limit, the length of the value and the largest one, the array with the value
abbrev pub pin_text : List ℕ → List ℕ
pin_text cells = labelled_text (codes ": tries ") (slice_index cells 2) (codes " of ")
    ++ (labelled_text [] (slice_index cells 0) (codes ", length ")
    ++ (labelled_text [] (slice_index cells 3) (codes " of ")
    ++ (labelled_text [] (slice_index cells 1) (codes ", value ") ++ reference_text (slice_index cells 4))))

-- a class of engines by its row: its instances have this many cells, of which the second and this one hold references
abbrev pub is_engine_class : Option PlatformClass → ℕ → ℕ → Bool
is_engine_class None cells last = false
is_engine_class (Some class) cells last = cells_of class == cells && (class_holds_reference class 1 && class_holds_reference class last)

-- the header is that of an engine of such a class
abbrev pub is_engine : Legend → Facts → ℕ → ℕ → Bool
is_engine t f cells last = is_instance f.kind && (f.length == cells && is_engine_class (class_by_word t.platform f.class) cells last)

-- its fields: the number of its algorithm, and the array with its state, which is transient: an engine holds nothing in an image
abbrev pub engine_text : List ℕ → List ℕ
engine_text cells = labelled_text (codes ": algorithm ") (slice_index cells 0) (codes ", holds nothing, state ") ++ reference_text (slice_index cells 1)

-- those of an engine with a key, a Cipher or a Signature: the number of its algorithm, its key, its mode, and the array with its state
abbrev pub keyed_engine_text : List ℕ → List ℕ
keyed_engine_text cells = labelled_text (codes ": algorithm ") (slice_index cells 0) (codes ", key ")
    ++ (reference_text (slice_index cells 2)
    ++ (labelled_text (codes ", mode ") (slice_index cells 3) (codes ", holds nothing, state ") ++ reference_text (slice_index cells 1)))

-- the header is that of an AID
abbrev pub is_aid : Legend → Facts → Bool
is_aid t f = is_instance f.kind && (f.length == 9 && f.class == class_word t.platform Aid)

-- how many bytes an AID has; none where an object is no AID, or its first cell states more than an AID can have
abbrev pub aid_length : Legend → Facts → List ℕ → Option ℕ
aid_length t f cells = if is_aid t f then (if nat_lt 16 (slice_index cells 0) then None else Some (slice_index cells 0)) else None

-- a byte of the two in a word
abbrev pub byte_text : ℕ → ℕ → List ℕ
byte_text word i = if i % 2 == 0 then encode_upper (word / 256 ∷ []) else encode_upper (word % 256 ∷ [])

-- the bytes of an AID, two of which stand in each cell after the first
abbrev pub aid_byte : List ℕ → ℕ → List ℕ
aid_byte cells i = byte_text (slice_index cells (1 + i / 2)) i

abbrev pub aid_text : List ℕ → ℕ → List ℕ
aid_text cells long = codes ": " ++ each_text (aid_byte cells) long

-- the cells of a persistent object: an AID by its bytes
abbrev pub plain_text : Legend → Facts → List ℕ → Option ℕ → List ℕ
plain_text t f cells (Some long) = aid_text cells long
plain_text t f cells None = cells_text t f cells

abbrev pub contents_text : ListedImage → PlacedObject → List ℕ → List ℕ
contents_text i o cells = if is_pin i.legend o.facts then pin_text cells
    else (if is_key i.legend.platform o.facts then key_text i.words cells
    else (if is_engine i.legend o.facts 2 1 then engine_text cells
    else (if is_engine i.legend o.facts 12 2 then keyed_engine_text cells
    else (if is_hidden i o then codes ": key bytes, not shown" else plain_text i.legend o.facts cells (aid_length i.legend o.facts cells)))))

-- after the header: the cells, or where they are
abbrev pub rest_text : ListedImage → PlacedObject → Option ClearEvent → List ℕ → List ℕ
rest_text i o (Some event) cells = area_text event o.facts.place
rest_text i o None cells = contents_text i o cells

-- an object with these cells
abbrev pub object_text : ListedImage → PlacedObject → List ℕ → List ℕ
object_text i o cells = header_text i o ++ (rest_text i o o.facts.event cells ++ codes "\n")

-- the same, if it is listed
abbrev pub listed_text : ListedImage → Option PlacedObject → List ℕ → List ℕ
listed_text i (Some o) cells = if is_listed i o then object_text i o cells else []
listed_text i None cells = []

-- what stands at an address: nothing is reported here of a package
abbrev pub item_text : ListedImage → ℕ × Item → List ℕ
item_text i (at, item) = listed_text i (object_here at item) (item_cells item)

-- all objects that stand in the heap, up to a record that lacks words
abbrev pub objects_lines : ListedImage → Lines
objects_lines i = record { text = flat_map (item_text i) (standing_items i.words); readable = are_whole i.words }
