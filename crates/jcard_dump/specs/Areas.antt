-- The line of the heap's end and of the ends of the areas.
use Rattle.std.specs.Prelude.{ℕ, ◌-◌, ◌++◌, [], List, codes, slice_index, Option, Some, None, if◌then◌else◌}
use Rattle.jc_words.specs.Layout.{deselect_end_address, reset_end_address}
use Rattle.jc_transient.specs.State.{ram_sizes}
use Rattle.jc_transient.specs.declared.sizes.RamSizes.{RamSizes}
use Rattle.jc_heap.specs.Image.{buffer_address, cells_address}
use Rattle.jc_commit.specs.Image.{limit_of, top_of}
use Rattle.jc_objects.specs.Bounds.{has_bounds}
use Rattle.jcard_dump.specs.Texts.{labelled_text}

-- how many cells the two areas have
abbrev pub sizes_told : List ℕ → RamSizes
sizes_told w = ram_sizes (slice_index w cells_address) (slice_index w buffer_address)

-- the first free word, and how many are free
abbrev pub space_text : List ℕ → List ℕ
space_text w = labelled_text (codes "top ") (top_of w) (codes ", free ") ++ labelled_text [] (limit_of w - top_of w) (codes " words, reset area ")

-- how many cells of an area are taken, of those that it has, and what comes after
abbrev pub taken_text : ℕ → ℕ → List ℕ → List ℕ
taken_text taken size after = labelled_text [] taken (codes " of ") ++ labelled_text [] size after

-- the first free word, how many are free, and how many cells of the two areas are taken, of those that they have
abbrev pub areas_text : List ℕ → List ℕ
areas_text w = space_text w
    ++ (taken_text (slice_index w reset_end_address) (sizes_told w).reset (codes ", deselect area ")
    ++ taken_text (slice_index w deselect_end_address) (sizes_told w).deselect (codes "\n"))

-- the same, where the heap lies within its bounds
abbrev pub areas_line : List ℕ → Option (List ℕ)
areas_line w = if has_bounds w then Some (areas_text w) else None
