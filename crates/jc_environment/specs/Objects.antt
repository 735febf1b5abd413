-- The objects that the runtime environment owns from an image's making on: one exception of each class that it
-- throws itself, the APDU object and the APDU buffer. All are cleared at a reset.
use Rattle.std.specs.Prelude.{ℕ, ◌+◌, ◌-◌, ◌*◌, ◌&&◌, nat_lt, not, Bool, false, List, [], ◌∷◌, ◌++◌, length, map, slice_index, Option, Some, None, is_some, if◌then◌else◌}
use Rattle.jc_transient.specs.State.{buffer_size}
use Rattle.jc_heap.specs.declared.object.Kind.TheVariants.{Instance, ByteArray}
use Rattle.jc_platform.specs.Hierarchy.{cells_of}
use Rattle.jc_platform.specs.Names.{ClassEntry, classes}
use Rattle.jc_platform.specs.Numbers.{same_class}
use Rattle.jc_platform.specs.Tokens.{Tokens, token_of_class}
use Rattle.jc_platform.specs.declared.names.PlatformClass.{PlatformClass}
use Rattle.jc_platform.specs.declared.names.PlatformClass.TheVariants.{ArithmeticException, ArrayIndexOutOfBoundsException, ArrayStoreException}
use Rattle.jc_platform.specs.declared.names.PlatformClass.TheVariants.{ClassCastException, NegativeArraySizeException, NullPointerException, SecurityException}
use Rattle.jc_platform.specs.declared.names.PlatformClass.TheVariants.{CardException, CardRuntimeException, IsoException, PinException, SystemException}
use Rattle.jc_platform.specs.declared.names.PlatformClass.TheVariants.{TransactionException, ApduException, UserException, Apdu}
use Rattle.jc_environment.specs.declared.objects.FixedObject.{FixedObject}

-- an instance of a class with this number of cells
abbrev pub instance : PlatformClass → ℕ → FixedObject
instance class cells = record { kind = Instance; class = Some class; cells = cells }

-- those of each image, in their order; the exceptions of javacard.framework have one cell, the reason
unfoldable pub first_objects : List FixedObject
first_objects =
    instance ArithmeticException 0 ∷
    instance ArrayIndexOutOfBoundsException 0 ∷
    instance ArrayStoreException 0 ∷
    instance ClassCastException 0 ∷
    instance NegativeArraySizeException 0 ∷
    instance NullPointerException 0 ∷
    instance SecurityException 0 ∷
    instance CardException 1 ∷
    instance CardRuntimeException 1 ∷
    instance IsoException 1 ∷
    instance PinException 1 ∷
    instance SystemException 1 ∷
    instance TransactionException 1 ∷
    instance ApduException 1 ∷
    instance UserException 1 ∷
    instance Apdu 0 ∷
    record { kind = ByteArray; class = None; cells = buffer_size } ∷
    []

-- the runtime environment's own instance of a class
abbrev pub own_instance : PlatformClass → FixedObject
own_instance class = instance class (cells_of class)

-- the object is an instance of this class itself
abbrev pub is_of_class : Option PlatformClass → PlatformClass → Bool
is_of_class None class = false
is_of_class (Some of) class = same_class of class

abbrev pub is_of : FixedObject → PlatformClass → Bool
is_of o class = is_of_class o.class class

-- the place of the first instance of a class among these objects; their number where there is none
abbrev pub place_among : PlatformClass → List FixedObject → ℕ
place_among class [] = 0
place_among class (o ∷ more) = if is_of o class then 0 else 1 + place_among class more

-- a class has an instance among those of each image
unfoldable pub is_first : PlatformClass → Bool
is_first class = nat_lt (place_among class first_objects) 17

-- the runtime environment throws an instance of the class, the table has the class, and its instance is none of those of each image
abbrev pub is_further : Tokens → ClassEntry → Bool
is_further t e = e.thrown && not (is_first e.class) && is_some (token_of_class t e.class)

-- the instances of these classes after those of each image
abbrev pub own_instances : Tokens → List ClassEntry → List FixedObject
own_instances t [] = []
own_instances t (e ∷ more) = if is_further t e then own_instance e.class ∷ own_instances t more else own_instances t more

-- the objects of images with a table, in their order: those of each image, and one for each further class of which the runtime
-- environment throws an instance, in the order of the platform's classes
unfoldable pub fixed_objects : Tokens → List FixedObject
fixed_objects t = first_objects ++ own_instances t classes

-- how many cells an object has where the buffer, the only array among them, has n
abbrev pub cells_by : Option PlatformClass → ℕ → ℕ → ℕ
cells_by None n cells = n
cells_by (Some class) n cells = cells

abbrev pub sized : ℕ → FixedObject → FixedObject
sized n o = record o { cells = cells_by o.class n o.cells }

-- the objects of images with a table and with a buffer of n cells
abbrev pub sized_objects : Tokens → ℕ → List FixedObject
sized_objects t n = map (sized n) (fixed_objects t)

-- how many there are
abbrev pub fixed_count : Tokens → ℕ
fixed_count t = length (fixed_objects t)

-- how many words they take: five each
abbrev pub fixed_size : Tokens → ℕ
fixed_size t = 5 * fixed_count t

-- how many cells these objects have together
abbrev pub cells_of_all : List FixedObject → ℕ
cells_of_all [] = 0
cells_of_all (o ∷ more) = o.cells + cells_of_all more

-- the places of the APDU object and of the APDU buffer among them, from 0
abbrev pub apdu_place : ℕ
apdu_place = 15

abbrev pub buffer_place : ℕ
buffer_place = 16

-- the place of the runtime environment's own instance of a class
unfoldable pub own_place : Tokens → PlatformClass → ℕ
own_place t class = place_among class (fixed_objects t)

-- of the addresses of such objects the last one
abbrev pub last_of : List ℕ → ℕ
last_of fixed = slice_index fixed (length fixed - 1)
