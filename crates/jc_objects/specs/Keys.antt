-- Keys as an image has them: objects of the classes of keys, and the arrays that hold the keys.
use Rattle.std.specs.Prelude.{ℕ, ◌-◌, ◌*◌, ◌==◌, ◌&&◌, not, nat_lt, is_some, Bool, true, false, List, [], ◌∷◌, slice_index, Option, Some, None, if◌then◌else◌}
use Rattle.std.specs.List.{flat_map}
use Rattle.jc_transient.specs.declared.cell.ClearEvent.{ClearEvent}
use Rattle.jc_heap.specs.Object.{Item, AnObject, APackage, cells_of}
use Rattle.jc_heap.specs.declared.object.Facts.{Facts}
use Rattle.jc_heap.specs.declared.object.Kind.{Kind}
use Rattle.jc_heap.specs.declared.object.Kind.TheVariants.{Instance, ByteArray}
use Rattle.jc_platform.specs.Platform.{class_by_word}
use Rattle.jc_platform.specs.Tokens.{Tokens}
use Rattle.jc_platform.specs.declared.names.PlatformClass.{PlatformClass}
use Rattle.jc_platform.specs.declared.names.PlatformClass.TheVariants.{DesKeyObject, AesKeyObject, HmacKeyObject}
use Rattle.jc_platform.specs.declared.names.PlatformClass.TheVariants.{RsaPublicKeyObject, RsaPrivateKeyObject, RsaPrivateCrtKeyObject}
use Rattle.jc_platform.specs.declared.names.PlatformClass.TheVariants.{EcPublicKeyObject, EcPrivateKeyObject}
use Rattle.jc_objects.specs.Places.{standing_at}
use Rattle.jc_objects.specs.Records.{item_at, standing_items}
use Rattle.jc_objects.specs.declared.places.Standing.{Standing}
use Rattle.jc_objects.specs.declared.places.Standing.TheVariants.{Object, Nothing, Unread}
use Rattle.jc_objects.specs.declared.keys.KeyFacts.{KeyFacts}

abbrev pub is_instance : Kind → Bool
is_instance Instance = true
is_instance _ = false

abbrev pub is_bytes : Kind → Bool
is_bytes ByteArray = true
is_bytes _ = false

-- the classes of keys
abbrev pub is_key_name : PlatformClass → Bool
is_key_name DesKeyObject = true
is_key_name AesKeyObject = true
is_key_name HmacKeyObject = true
is_key_name RsaPublicKeyObject = true
is_key_name RsaPrivateKeyObject = true
is_key_name RsaPrivateCrtKeyObject = true
is_key_name EcPublicKeyObject = true
is_key_name EcPrivateKeyObject = true
is_key_name _ = false

abbrev pub is_key_class : Option PlatformClass → Bool
is_key_class (Some class) = is_key_name class
is_key_class None = false

-- the header is that of a key, whose cells are the number of its type and the array that holds it
abbrev pub is_key : Tokens → Facts → Bool
is_key t f = is_instance f.kind && (not (is_some f.event) && (f.length == 2 && is_key_class (class_by_word t f.class)))

-- the address of the array of what stands at an address, if that is a key
abbrev pub array_of_key : Tokens → ℕ × Item → List ℕ
array_of_key t (r, AnObject o) = if is_key t o.facts then slice_index o.cells 1 ∷ [] else []
array_of_key t (r, APackage ws) = []

-- the arrays of all keys that stand in the heap that words are, up to a record that lacks words
abbrev pub key_arrays : Tokens → List ℕ → List ℕ
key_arrays t w = flat_map (array_of_key t) (standing_items w)

-- the header is that of an array that can hold a secret key: bytes, of which the first counts those of the key, 128 at most
abbrev pub can_hold : Facts → Bool
can_hold f = is_bytes f.kind && (nat_lt 0 f.length && nat_lt f.length 130)

-- a key is set: the first byte is not 0. Of a transient array an image holds no bytes
abbrev pub is_set_by : Option ClearEvent → List ℕ → Bool
is_set_by None cells = not (slice_index cells 0 == 0)
is_set_by (Some event) cells = false

-- a secret key by its array: how many bits it has, and whether it is set
abbrev pub key_by : Facts → List ℕ → KeyFacts
key_by f cells = record { size = 8 * (f.length - 1); is_set = is_set_by f.event cells }

abbrev pub key_in : List ℕ → ℕ → Standing → Option KeyFacts
key_in w a (Object f) = if can_hold f then Some (key_by f (cells_of (item_at w a))) else None
key_in w a Nothing = None
key_in w a Unread = None

-- the secret key that the array at an address holds; none where no such array stands there
abbrev pub key_at : List ℕ → ℕ → Option KeyFacts
key_at w a = key_in w a (standing_at w a)
