-- The cards that rows are given to, from what was asked for.
use Rattle.std.specs.Prelude.{ℕ, ◌≡◌, ◌⊎◌, List, [], Option, option_map}
use Rattle.std.specs.Borrow.{Bor}
use Rattle.jcard_files.specs.FileDeeds.{FileDeed}
use Rattle.jcard_files.specs.ImageSize.{IsExtent, IsNoExtent}
use Rattle.jcard_files.specs.UsualTable.{IsNoPlatform, IsPlatform}
use Rattle.jcard_files.specs.declared.fault.Fault.{Fault}
use Rattle.jcard_test.specs.declared.request.Asked.{Asked}
use Rattle.jcard_test.specs.declared.plan.Plan.{Plan}

-- the name of the platform table that was asked for, and the texts of the cells for the transient objects of each event and of the bytes of the APDU buffer
abbrev pub table_asked : Asked → Option (List ℕ)
table_asked a = option_map (λ (name : Bor (List ℕ)). name.now) a.table

abbrev pub cells_asked : Asked → Option (List ℕ)
cells_asked a = option_map (λ (text : Bor (List ℕ)). text.now) a.size.cells

abbrev pub buffer_asked : Asked → Option (List ℕ)
buffer_asked a = option_map (λ (text : Bor (List ℕ)). text.now) a.size.buffer

-- these cards were asked for, and this was done for their platform table
abbrev pub IsPlanned : Asked → Plan → List FileDeed → Type 0
IsPlanned a p deeds = IsExtent a.size.words.now a.size.journal.now (cells_asked a) (buffer_asked a) p.extent × (p.budget ≡ a.budget)
    × IsPlatform (table_asked a) p.table.items deeds

-- no card is so large, and no file was asked for; or there is no platform table
abbrev pub IsUnplanned : Asked → Fault → List FileDeed → Type 0
IsUnplanned a fault deeds = (IsNoExtent a.size.words.now a.size.journal.now (cells_asked a) (buffer_asked a) fault × (deeds ≡ []))
    ⊎ IsNoPlatform (table_asked a) fault deeds
