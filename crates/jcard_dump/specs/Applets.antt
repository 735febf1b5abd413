-- The lines of the applets' entries in the registry.
use Rattle.std.specs.Prelude.{ℕ, ◌+◌, ◌-◌, ◌++◌, nat_lt, List, codes, slice_index, Option, Some, None, if◌then◌else◌}
use Rattle.jc_words.specs.Layout.{most_applets, registry_start}
use Rattle.jc_heap.specs.RegistryLayout.{entry_instance, entry_start}
use Rattle.jcard_dump.specs.InventoryLines.{Lines, line_if}
use Rattle.jcard_dump.specs.Texts.{labelled_text, reference_text}

-- an applet by its number, from 1 on: where its AID object and its instance stand
abbrev pub applet_text : List ℕ → ℕ → List ℕ
applet_text w n = labelled_text (codes "applet ") n (codes ": AID object ")
    ++ (reference_text (slice_index w (registry_start + entry_start (n - 1)))
    ++ (codes ", instance " ++ (reference_text (slice_index w (registry_start + entry_start (n - 1) + entry_instance)) ++ codes "\n")))

-- the same, where the registry has a place for it
abbrev pub applet_line : List ℕ → ℕ → Option (List ℕ)
applet_line w n = if nat_lt (n - 1) most_applets then Some (applet_text w n) else None

abbrev pub applet_lines : List ℕ → ℕ → Lines
applet_lines w n = line_if (applet_line w n)
