-- What linked packages know of classes.
use Rattle.std.specs.Prelude.{ℕ, ◌≡◌, List, Some, slice_get}
use Rattle.jc_linker.specs.Values.{Packages}
use Rattle.jc_linker.specs.Values.{LinkerComponents}
use Rattle.law_code.specs.LinkedPackages.{AreLinked}
use Rattle.law_code.specs.Classes.{HasAids, HasFieldCells, HasPlatformCells, HasReceivers, KnowsClasses}
use Rattle.law_code.specs.ReadPackages.{AreRead, HasAppletComponent}

-- instances of the platform's classes, and of those below, have the platform's cells
abbrev pub HaveCells : Type 0
HaveCells = (cs : List LinkerComponents) (p : Packages) → AreRead cs p → HasPlatformCells p

-- fields that entries name are cells of their kind, after the platform's
abbrev pub HaveFields : Type 0
HaveFields = (cs : List LinkerComponents) (p : Packages) → AreRead cs p → HasFieldCells p

-- instances of a class of the platform, or of one below it, alone reach its methods
abbrev pub HaveReceivers : Type 0
HaveReceivers = (cs : List LinkerComponents) (p : Packages) → AreLinked cs p → HasReceivers p

-- they know all this of their classes
abbrev pub HaveClasses : Type 0
HaveClasses = (cs : List LinkerComponents) (p : Packages) → AreRead cs p → KnowsClasses p

-- the AIDs of packages' applets, where those are from Applet components, are AIDs
abbrev pub HaveAids : Type 0
HaveAids = (cs : List LinkerComponents) (p : Packages) → AreLinked cs p → ((i : ℕ) (c : LinkerComponents) → slice_get cs i ≡ Some c
    → HasAppletComponent c.applets) → HasAids p
