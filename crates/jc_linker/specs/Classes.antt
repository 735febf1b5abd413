-- Classes by their words: superclasses, interfaces, subtypes, instances.
use Rattle.std.specs.Prelude.{◌≡◌, ℕ, zero, suc, ◌<◌, ◌+◌, ◌-◌, ◌*◌, ◌/◌, ◌%◌, ◌==◌, ◌||◌, ◌&&◌, not, nat_lt, nat_le, Bool, false, List, [], ◌∷◌, Option}
use Rattle.std.specs.Prelude.{Some, None, if◌then◌else◌, slice_get, slice_index_or, length, is_some}
use Rattle.std.specs.List.{list_any}
use Rattle.std.specs.Option.{option_map, option_and_then}
use Rattle.jc_platform.specs.declared.names.PlatformClass.{PlatformClass}
use Rattle.jc_platform.specs.declared.names.PlatformClass.TheVariants.{Shareable}
use Rattle.jc_platform.specs.NamePlaces.{class_word}
use Rattle.jc_platform.specs.Hierarchy.{cells_of, holds_reference, interfaces_of, is_instantiable, superclass_of}
use Rattle.jc_platform.specs.Platform.{class_by_word}
use Rattle.jc_linker.specs.Values.{ClassValue, Implementation, PackageValue, Packages}

-- the loaded package with this number
unfoldable pub package_in : Packages → ℕ → Option PackageValue
package_in p number = if number == 0 then None else slice_get p.loaded (number - 1)

-- the class of a loaded package with this word
unfoldable pub class_in : Packages → ℕ → Option ClassValue
class_in p word = option_and_then (λ q. slice_get q.classes (word % 256)) (package_in p (word / 256))

-- this word names a class or an interface
unfoldable pub is_class : Packages → ℕ → Bool
is_class p word = is_some (class_in p word) || is_some (class_by_word p.platform word)

-- the superclass of a loaded class, or else of one of the platform
abbrev pub superclass_by : Packages → Option ClassValue → Option PlatformClass → Option ℕ
superclass_by p (Some c) other = if c.is_interface then None else Some c.superclass
superclass_by p None other = option_map (class_word p.platform) (option_and_then superclass_of other)

-- the superclass; Object and interfaces have none
unfoldable pub superclass_in : Packages → ℕ → Option ℕ
superclass_in p word = superclass_by p (class_in p word) (class_by_word p.platform word)

-- a class, its superclass, the superclass of that, and so on up to Object; this many at most. For an interface it alone.
unfoldable pub lineage_from : Packages → ℕ → Option ℕ → List ℕ
lineage_from p zero class = []
lineage_from p (suc n) None = []
lineage_from p (suc n) (Some class) = class ∷ lineage_from p n (superclass_in p class)

-- no more classes than this are in all packages of a card
abbrev pub most_classes : ℕ
most_classes = 8704

abbrev pub lineage : Packages → ℕ → List ℕ
lineage p class = lineage_from p most_classes (Some class)

-- interfaces of the platform, of which no list says which methods carry theirs out
abbrev pub platform_interfaces : Packages → List PlatformClass → List Implementation
platform_interfaces p [] = []
platform_interfaces p (c ∷ cs) = record { interface = class_word p.platform c; tokens = [] } ∷ platform_interfaces p cs

-- the interfaces that a loaded class lists, or else one of the platform
abbrev pub interfaces_by : Packages → Option ClassValue → Option PlatformClass → List Implementation
interfaces_by p (Some c) other = c.interfaces
interfaces_by p None None = []
interfaces_by p None (Some c) = platform_interfaces p (interfaces_of c)

-- the interfaces that a class or an interface lists
unfoldable pub interfaces_in : Packages → ℕ → List Implementation
interfaces_in p word = interfaces_by p (class_in p word) (class_by_word p.platform word)

-- one of these interfaces is it
abbrev pub is_listed : ℕ → List Implementation → Bool
is_listed interface listed = list_any (λ i. i.interface == interface) listed

-- it lists some interface
abbrev pub lists_some : Packages → ℕ → Bool
lists_some p word = not (length (interfaces_in p word) == 0)

-- a superinterface of a loaded interface has the lower word: it is an earlier record, or one of a package that was loaded
-- before. Any other is the platform's, whose interfaces extend none.
abbrev pub stands_before : ℕ → ℕ → Bool
stands_before superinterface interface = nat_lt superinterface interface && nat_lt interface most_classes

-- an interface lists the other one, or one that extends it; over this many lists at most
unfoldable pub extends_within : Packages → ℕ → ℕ → ℕ → Bool
extends_within p of zero interface = false
extends_within p of (suc n) interface = list_any (λ i. i.interface == of || (stands_before i.interface interface && extends_within p of n i.interface))
    (interfaces_in p interface)

-- an interface extends the other one: it lists it, or one that extends it
abbrev pub extends : Packages → ℕ → ℕ → Bool
extends p interface of = extends_within p of most_classes interface

-- one of the interfaces that a loaded interface lists has a list of its own
abbrev pub is_deep : Packages → ℕ → Bool
is_deep p interface = list_any (λ i. nat_lt i.interface interface && lists_some p i.interface) (interfaces_in p interface)

-- of each interface with a lower word a table says whether it extends the other one
abbrev pub AreTold : Packages → ℕ → ℕ → List Bool → Type 0
AreTold p interface of table = (k : ℕ) → k < interface → slice_index_or table k false ≡ extends p k of

-- what a table says of an interface with a lower word
abbrev pub is_told : List Bool → ℕ → ℕ → Bool
is_told table superinterface interface = nat_lt superinterface interface && slice_index_or table superinterface false

-- the class itself lists the interface, or one that extends it
unfoldable pub implements : Packages → ℕ → ℕ → Bool
implements p class of = list_any (λ i. i.interface == of || extends p i.interface of) (interfaces_in p class)

-- it is one of these classes
abbrev pub is_among : ℕ → List ℕ → Bool
is_among of classes = list_any (λ c. c == of) classes

-- one of these classes is it or implements it
unfoldable pub any_is : Packages → ℕ → List ℕ → Bool
any_is p of classes = list_any (λ c. c == of || implements p c of) classes

-- a subtype: the class is the other, below it, or implements it
unfoldable pub is_below : Packages → ℕ → ℕ → Bool
is_below p class of = any_is p of (lineage p class)

-- an interface that extends Shareable, or a class with such an interface
unfoldable pub is_shareable : Packages → ℕ → Bool
is_shareable p class = is_below p class (class_word p.platform Shareable)

-- how many cells an instance of a loaded class, or else of one of the platform, has
abbrev pub size_by : Option ClassValue → Option PlatformClass → ℕ
size_by (Some c) other = c.inherited_cells + c.declared_cells
size_by None None = 0
size_by None (Some c) = cells_of c

-- how many cells an instance has
unfoldable pub size_of : Packages → ℕ → ℕ
size_of p class = size_by (class_in p class) (class_by_word p.platform class)

-- a field that the class itself declares, counted from its first, holds a reference
abbrev pub declares_reference : ClassValue → ℕ → Bool
declares_reference c field = nat_le c.first_reference field && nat_lt field (c.first_reference + c.reference_count)

-- new makes instances of it: a class, no interface, and of the platform's those that are meant for it
abbrev pub is_instantiable_class_by : Option ClassValue → Option PlatformClass → Bool
is_instantiable_class_by (Some c) other = not c.is_interface
is_instantiable_class_by None None = false
is_instantiable_class_by None (Some c) = is_instantiable c

unfoldable pub is_instantiable_class : Packages → ℕ → Bool
is_instantiable_class p class = is_instantiable_class_by (class_in p class) (class_by_word p.platform class)

-- the cell belongs to this class, not to a superclass, and holds a reference
abbrev pub own_reference : Option ClassValue → Option PlatformClass → ℕ → Bool
own_reference (Some c) other cell = nat_le c.inherited_cells cell && declares_reference c (cell - c.inherited_cells)
own_reference None None cell = false
own_reference None (Some c) cell = holds_reference c cell

-- a cell of an instance of one of these classes holds a reference
unfoldable pub any_reference : Packages → ℕ → List ℕ → Bool
any_reference p cell classes = list_any (λ c. own_reference (class_in p c) (class_by_word p.platform c) cell) classes

-- a cell of an instance holds a reference
unfoldable pub reference_cell : Packages → ℕ → ℕ → Bool
reference_cell p class cell = any_reference p cell (lineage p class)

-- a class of the platform, or one below it
abbrev pub is_a : Packages → ℕ → PlatformClass → Bool
is_a p class of = is_below p class (class_word p.platform of)

-- ---- interfaces by what a table says of others

-- the interface lists the other one, or one of which the table says that it extends it
abbrev pub extends_by : Packages → ℕ → List Bool → ℕ → Bool
extends_by p of table interface = list_any (λ i. i.interface == of || is_told table i.interface interface) (interfaces_in p interface)
