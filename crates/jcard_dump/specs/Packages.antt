-- The lines of the packages' records.
use Rattle.std.specs.Prelude.{ℕ, ◌+◌, ◌-◌, ◌++◌, ◌==◌, ◌&&◌, nat_le, nat_lt, Bool, [], List, codes, decimal, drop, length, slice_index, Option, Some, None, if◌then◌else◌}
use Rattle.std.specs.List.{flat_map}
use Rattle.jc_words.specs.Layout.{addresses_start, most_packages}
use Rattle.jc_commit.specs.Image.{top_of}
use Rattle.jc_heap.specs.Component.{part_sizes, record_parts, words_for}
use Rattle.jc_heap.specs.Walk.{missing_words}
use Rattle.jc_objects.specs.Legend.{static_references}
use Rattle.jc_objects.specs.declared.legend.Legend.{Legend}
use Rattle.jc_objects.specs.Bounds.{first_record}
use Rattle.jc_objects.specs.Records.{record_words, whole_among, whole_size}
use Rattle.jcard_dump.specs.InventoryLines.{Lines, line, line_if, then_lines}
use Rattle.jcard_dump.specs.Texts.{each_text, labelled_text, reference_text, word_text}
use Rattle.jcard_dump.specs.declared.packages.Record.{Record}

-- a component: its tag, and how many bytes its info has
abbrev pub component_text : ℕ → ℕ → List ℕ
component_text tag bytes = labelled_text (codes " ") tag (codes ":") ++ decimal bytes

-- how many bytes the component at an address has, where its words are among this many
abbrev pub component_bytes : List ℕ → ℕ → ℕ → Option ℕ
component_bytes w at left = if nat_lt left 2 then None
    else (if nat_lt left (2 + words_for (slice_index w (at + 1))) then None else Some (slice_index w (at + 1)))

-- a word of a static image: a reference, or two bytes in hexadecimal
abbrev pub static_text : Bool → ℕ → List ℕ
static_text is_reference word = codes " " ++ (if is_reference then reference_text word else word_text word)

-- the words of a static image, of which this many at its beginning are references
abbrev pub static_at : ℕ → List ℕ → ℕ → List ℕ
static_at references words i = static_text (nat_lt i references) (slice_index words i)

abbrev pub image_text : ℕ → List ℕ → List ℕ
image_text references words = codes ", static image" ++ each_text (static_at references words) (length words)

-- a part of a record: a component, or after a word 0 the static image
abbrev pub part_text : ℕ → ℕ × List ℕ → List ℕ
part_text references p = if slice_index p.1 0 == 0 then image_text references (drop 1 p.1) else component_text (slice_index p.1 0) (slice_index p.1 1)

-- no part of a record lacks words
abbrev pub parts_are_whole : List ℕ → Bool
parts_are_whole words = missing_words part_sizes 0 1 (drop 1 words) == 0

-- the parts of a record, but for a last one that lacks words
abbrev pub parts_lines : ℕ → List ℕ → Lines
parts_lines references words = record { text = flat_map (part_text references) (whole_among (parts_are_whole words) (record_parts words)); readable = parts_are_whole words }

-- a record's number, where it stands, and how many words it has
abbrev pub head_text : ℕ → Record → List ℕ
head_text n r = labelled_text (codes "package ") n (codes ": ") ++ (labelled_text (codes "@") r.at (codes ", ")
    ++ labelled_text [] r.size (codes " words, components"))

-- a line feed after lines, also after the last that can be read
abbrev pub ended : Lines → Lines
ended l = record { text = l.text ++ codes "\n"; readable = l.readable }

abbrev pub record_lines : Legend → List ℕ → ℕ → Record → Lines
record_lines t w n r = then_lines (line (head_text n r)) (ended (parts_lines (static_references t n) (record_words w r.at)))

-- the record at an address, where all its words lie in the heap
abbrev pub sized : ℕ → Option ℕ → Option Record
sized at (Some size) = Some (record { at = at; size = size })
sized at None = None

abbrev pub record_from : List ℕ → ℕ → Option Record
record_from w at = if nat_le (first_record w) at && nat_lt at (top_of w) then sized at (whole_size w at) else None

-- that of the package after this many others
abbrev pub record_at : List ℕ → ℕ → Option Record
record_at w before = if nat_lt before most_packages then record_from w (slice_index w (addresses_start + before)) else None

abbrev pub lines_if : Legend → List ℕ → ℕ → Option Record → Lines
lines_if t w n (Some r) = record_lines t w n r
lines_if t w n None = line_if None

-- the line of the record of the package with a number, from 1 on
abbrev pub package_lines : Legend → List ℕ → ℕ → Lines
package_lines t w n = lines_if t w n (record_at w (n - 1))
