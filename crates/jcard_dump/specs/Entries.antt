-- The lines of the journal's entries that count.
use Rattle.std.specs.Prelude.{ℕ, ◌+◌, ◌-◌, ◌++◌, [], nat_lt, List, codes, Option, Some, None, if◌then◌else◌}
use Rattle.jc_words.specs.Image.{log_of}
use Rattle.jc_commit.specs.Image.{address_at, capacity_of, old_at}
use Rattle.jc_heap.specs.Object.{is_packed}
use Rattle.jc_platform.specs.Tokens.{Tokens}
use Rattle.jc_objects.specs.Holders.{holder_in}
use Rattle.jc_objects.specs.Records.{standing_items}
use Rattle.jc_objects.specs.declared.holders.Holder.{Holder}
use Rattle.jc_objects.specs.Changes.{value_text}
use Rattle.jc_objects.specs.ClassTexts.{kind_text}
use Rattle.jcard_dump.specs.InventoryLines.{Lines, line_if}
use Rattle.jcard_dump.specs.Texts.{labelled_text}

-- the old value of a cell, and which it is: the object, its class, the cell
abbrev pub cell_text : Tokens → List ℕ → Holder → ℕ → List ℕ
cell_text t w h old = value_text (is_packed h.facts) old ++ (labelled_text (codes " @") h.object (codes " ")
    ++ (kind_text t w h.facts.kind h.facts.class ++ labelled_text (codes " [") h.cell (codes "]\n")))

-- the old value of a word, and the cell that stands in it, if one does
abbrev pub found_text : Tokens → List ℕ → Option Holder → ℕ → List ℕ
found_text t w (Some h) old = cell_text t w h old
found_text t w None old = labelled_text [] old (codes "\n")

-- an entry by its number, from 1 on: the word that it is of, and its old value
abbrev pub entry_text : Tokens → List ℕ → ℕ → List ℕ
entry_text t w n = labelled_text (codes "entry ") n (codes ": word ")
    ++ (labelled_text [] (address_at (log_of w) w (n - 1)) (codes " was ")
    ++ found_text t w (holder_in (standing_items w) (address_at (log_of w) w (n - 1))) (old_at (log_of w) w (n - 1)))

-- the same, where the journal has a place for it
abbrev pub entry_line : Tokens → List ℕ → ℕ → Option (List ℕ)
entry_line t w n = if nat_lt (n - 1) (capacity_of w) then Some (entry_text t w n) else None

abbrev pub entry_lines : Tokens → List ℕ → ℕ → Lines
entry_lines t w n = line_if (entry_line t w n)
