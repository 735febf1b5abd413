-- What the kinds of parameters ask of arguments (API specification).
use Rattle.std.specs.Prelude.{ℕ, ◌==◌, ◌&&◌, ◌||◌, not, Bool, true, false, List, [], ◌∷◌, Option, Some, None}
use Rattle.jc_heap.specs.declared.object.Facts.{Facts}
use Rattle.jc_heap.specs.declared.object.Kind.{Kind}
use Rattle.jc_heap.specs.declared.object.Kind.TheVariants.{Instance, BooleanArray, ByteArray, ShortArray, ReferenceArray}
use Rattle.jc_memory.specs.Cells.{header_at}
use Rattle.jc_memory.specs.State.{MemoryState}
use Rattle.jc_frames.specs.declared.cell.Cell.{Cell}
use Rattle.jc_frames.specs.declared.cell.Cell.TheVariants as cell
use Rattle.jc_platform.specs.declared.kinds.ParameterKind.{ParameterKind}
use Rattle.jc_platform.specs.declared.kinds.ParameterKind.TheVariants as parameter
use Rattle.jc_platform.specs.NamePlaces.{class_word}
use Rattle.jc_linker.specs.Values.{Packages}
use Rattle.jc_world.specs.Objects.{is_instance_of}

-- there is something, and it is so
abbrev pub is_present_and : {A : Type 0} → Option A → (A → Bool) → Bool
is_present_and None so = false
is_present_and (Some a) so = so a

-- numbers of all kinds are shorts
abbrev pub is_number : ParameterKind → Bool
is_number parameter.Byte = true
is_number parameter.Short = true
is_number parameter.Boolean = true
is_number parameter.Bytes = false
is_number parameter.Shorts = false
is_number parameter.Anything = false
is_number (parameter.Instance class) = false

abbrev pub is_bytes : Kind → Bool
is_bytes Instance = false
is_bytes BooleanArray = false
is_bytes ByteArray = true
is_bytes ShortArray = false
is_bytes ReferenceArray = false

abbrev pub is_shorts : Kind → Bool
is_shorts Instance = false
is_shorts BooleanArray = false
is_shorts ByteArray = false
is_shorts ShortArray = true
is_shorts ReferenceArray = false

-- an object is what a kind asks for; a number is none
abbrev pub is_object_of : ParameterKind → Packages → Facts → Bool
is_object_of parameter.Byte p f = false
is_object_of parameter.Short p f = false
is_object_of parameter.Boolean p f = false
is_object_of parameter.Bytes p f = is_bytes f.kind
is_object_of parameter.Shorts p f = is_shorts f.kind
is_object_of parameter.Anything p f = true
is_object_of (parameter.Instance class) p f = is_instance_of p f (class_word p.platform class)

-- null, or a reference to what a kind asks for
abbrev pub refers_to : ParameterKind → Packages → MemoryState → ℕ → Bool
refers_to k p m r = not (is_number k) && (r == 0 || is_present_and (header_at m r) (is_object_of k p))

-- an argument is of a kind
abbrev pub is_of_kind : ParameterKind → Packages → MemoryState → Cell → Bool
is_of_kind k p m (cell.Short v) = is_number k
is_of_kind k p m (cell.Reference r) = refers_to k p m r
is_of_kind k p m (cell.ReturnAddress place) = false

-- the arguments are of these kinds, one after the other
abbrev pub have_kinds : List ParameterKind → Packages → MemoryState → List Cell → Bool
have_kinds [] p m args = true
have_kinds (k ∷ kinds) p m [] = false
have_kinds (k ∷ kinds) p m (argument ∷ args) = is_of_kind k p m argument && have_kinds kinds p m args
