-- An object, and how a record's words say it.
use Rattle.std.specs.Prelude.{ℕ, ◌+◌, ◌*◌, ◌/◌, ◌%◌, ◌≡◌, ◌<◌, ◌==◌, ◌&&◌, ◌||◌, nat_lt, min, Bool, true, false, List, [], ◌∷◌, set, length, replicate, if◌then◌else◌}
use Rattle.std.specs.Prelude.{Option, Some, None}
use Rattle.jc_transient.specs.declared.cell.ClearEvent.{ClearEvent}
use Rattle.jc_transient.specs.declared.cell.ClearEvent.TheVariants.{Reset, Deselect}
use Rattle.jc_heap.specs.declared.object.Kind.{Kind}
use Rattle.jc_heap.specs.declared.object.Kind.TheVariants.{Instance, BooleanArray, ByteArray, ShortArray, ReferenceArray}
use Rattle.jc_heap.specs.declared.object.Facts.{Facts}
use Rattle.jc_heap.specs.Packed.{bytes_of_packed}

-- what the header says, and the cells of a persistent object
pub record Object : Type 0 where
  pub facts : Facts
  pub cells : List ℕ

-- a kind as a number of the image, where each cell has a word of its own
abbrev pub kind_number : Kind → ℕ
kind_number Instance = 1
kind_number BooleanArray = 2
kind_number ByteArray = 3
kind_number ShortArray = 4
kind_number ReferenceArray = 5

-- a kind as a number of the image, where two cells stand in a word or not: 6 are booleans and 7 bytes of which two do
abbrev pub header_number : Kind → Bool → ℕ
header_number kind packed = if packed then kind_number kind + 4 else kind_number kind

abbrev pub kind_of : ℕ → Kind
kind_of n = if n == 2 || n == 6 then BooleanArray else (if n == 3 || n == 7 then ByteArray else (if n == 4 then ShortArray else (if n == 5 then ReferenceArray else Instance)))

-- it is the first word of the header of an array of which two elements stand in a word
abbrev pub is_packed_header : ℕ → Bool
is_packed_header word = word == 6 || word == 7

-- an event as a number of the image: 0 where the object is persistent
abbrev pub event_number : Option ClearEvent → ℕ
event_number None = 0
event_number (Some Reset) = 1
event_number (Some Deselect) = 2

abbrev pub event_of : ℕ → Option ClearEvent
event_of n = if n == 0 then None else (if n == 1 then Some Reset else Some Deselect)

-- the first word of a header
abbrev pub header_word : Kind → Option ClearEvent → ℕ
header_word kind event = kind_number kind + 256 * event_number event

-- it is the first word of a header: it has a kind and an event
abbrev pub is_header : ℕ → Bool
is_header word = is_packed_header word || (nat_lt 0 (word % 256) && (nat_lt (word % 256) 6 && nat_lt (word / 256) 3))

-- how many words hold n cells, where two stand in a word or not
abbrev pub words_of_cells : Bool → ℕ → ℕ
words_of_cells packed long = if packed then (long + 1) / 2 else long

-- how many words follow the header: those of the cells, or the place of the first one. After a word that begins no
-- header more words are missing than there can be
abbrev pub payload : ℕ → ℕ → ℕ
payload word long = if is_header word then (if word / 256 == 0 then words_of_cells (is_packed_header word) long else 1) else 65536

-- the cells that words hold: all the words, or, where two stand in a word, the first n of their bytes
abbrev pub cells_of_words : Bool → ℕ → List ℕ → List ℕ
cells_of_words packed long words = if packed then bytes_of_packed (min long (2 * length words)) words else words

-- the object of a record's words
abbrev pub object_of : List ℕ → Object
object_of (word ∷ class ∷ owner ∷ long ∷ rest) = record {
  facts = record {
    kind = kind_of (word % 256);
    event = event_of (word / 256);
    class = class;
    owner = owner;
    length = long;
    place = (if word / 256 == 0 then 0 else first rest);
    packed = is_packed_header word;
  };
  cells = (if word / 256 == 0 then cells_of_words (is_packed_header word) long rest else []);
}
  where
    first : List ℕ → ℕ
    first [] = 0
    first (w ∷ ws) = w
object_of _ = record { facts = record { kind = Instance; event = None; class = 0; owner = 0; length = 0; place = 0; packed = false }; cells = [] }

-- how many words a header has
abbrev pub header_size : ℕ
header_size = 4

-- elements of byte and boolean arrays are bytes
abbrev pub has_bytes : Kind → Bool
has_bytes BooleanArray = true
has_bytes ByteArray = true
has_bytes _ = false

-- two of its elements stand in a word, which holds for arrays of bytes alone
abbrev pub is_packed : Facts → Bool
is_packed f = has_bytes f.kind && f.packed

-- how many words a new persistent object of a kind takes, with n cells: two bytes stand in a word
abbrev pub object_size : Kind → ℕ → ℕ
object_size kind long = header_size + words_of_cells (has_bytes kind) long

-- how many words a transient object takes: its header, and the place of its first cell
abbrev pub transient_size : ℕ
transient_size = header_size + 1

-- a new persistent object, zeroed
abbrev pub new_object : Kind → ℕ → ℕ → ℕ → Object
new_object kind class owner long = record {
  facts = record { kind = kind; event = None; class = class; owner = owner; length = long; place = 0; packed = has_bytes kind };
  cells = replicate long 0;
}

-- a new transient object, whose cells stand in the area of its event from a place on
abbrev pub new_transient : Kind → ClearEvent → ℕ → ℕ → ℕ → ℕ → Object
new_transient kind event class owner long place = record {
  facts = record { kind = kind; event = Some event; class = class; owner = owner; length = long; place = place; packed = false };
  cells = [];
}

-- what stands at an address of the heap: an object, or the words of a package's record
pub data Item : Type 0 where
  AnObject : Object → Item
  APackage : List ℕ → Item

-- it is an object
abbrev pub is_object : Item → Bool
is_object (AnObject o) = true
is_object (APackage ws) = false

abbrev pub cells_of : Item → List ℕ
cells_of (AnObject o) = o.cells
cells_of (APackage ws) = []

abbrev pub with_cell : Item → ℕ → ℕ → Item
with_cell (AnObject o) i v = AnObject (record o { cells = set o.cells i v })
with_cell (APackage ws) i v = APackage ws

-- what no change of a cell changes
abbrev pub header_only : Item → Item
header_only (AnObject o) = AnObject (record o { cells = replicate (length o.cells) 0 })
header_only (APackage ws) = APackage (replicate (length ws) 0)

abbrev pub facts_of : Item → Facts
facts_of (AnObject o) = o.facts
facts_of (APackage ws) = (object_of []).facts

-- a value that a cell of this kind may hold
abbrev pub IsElement : Kind → ℕ → Type 0
IsElement kind v = has_bytes kind ≡ true → v < 256
