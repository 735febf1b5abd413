-- What the cells of an image's objects are read by.
use Rattle.std.specs.Prelude.{ℕ, List, Some, None, Result, Ok, Err}
use Rattle.jc_objects.specs.declared.legend.Legend.{Legend}
use Rattle.jcard_dump.specs.Listing.{IsLegendOf}
use Rattle.jcard_dump.specs.declared.fault.ListFault.{ListFault}
use Rattle.jcard_dump.specs.declared.fault.ListFault.TheVariants.{Unreadable, NoMemory}

-- the legend of an image, none where its table text is no table; or memory was refused
abbrev pub IsLegendFor : List ℕ → Result Legend ListFault → Type 0
IsLegendFor w (Ok t) = IsLegendOf w (Some t)
IsLegendFor w (Err Unreadable) = IsLegendOf w None
IsLegendFor w (Err NoMemory) = Unit {0}
