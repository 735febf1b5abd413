-- Static fields: `getstatic` and `putstatic`. The firewall lets all code reach them.
use Rattle.std.specs.Prelude.{ℕ, ◌+◌, ◌/◌, ◌%◌, ◌==◌, List, [], ◌∷◌, Option, if◌then◌else◌}
use Rattle.std.specs.Option.{option_map}
use Rattle.std.specs.Int.{w16, cast_signed}
use Rattle.jc_heap.specs.declared.place.Place.{Place}
use Rattle.jc_heap.specs.Heap.{HeapState}
use Rattle.jc_heap.specs.Moves.{Write, SetPlaces, refusal_of_places}
use Rattle.jc_heap.specs.Place.{places_of}
use Rattle.jc_frames.specs.declared.instr.ValueType.{ValueType}
use Rattle.jc_frames.specs.declared.instr.ValueType.TheVariants as types
use Rattle.jc_frames.specs.declared.cell.Cell.{Cell}
use Rattle.jc_frames.specs.declared.cell.Cell.TheVariants.{Short, Reference}
use Rattle.jc_frames.specs.Frames.{Frames, Next, with_stack}
use Rattle.jc_memory.specs.State.{MemoryState, HeapMove}
use Rattle.jc_memory.specs.Cells.{word_of}
use Rattle.jc_memory.specs.Programs.{Program, Perform}
use Rattle.jc_linker.specs.Values.{Packages}
use Rattle.jc_world.specs.Instructions.{continue_with, if_ok, if_some, unless}
use Rattle.jc_world.specs.Values.{keepable, with_top, signed_byte, value_on}
use Rattle.jc_instructions.specs.declared.static_images.ImageWord.{ImageWord}
use Rattle.jc_instructions.specs.declared.field_names.FieldOfImage.{FieldOfImage}
use Rattle.jc_instructions.specs.StaticImages.{word_value, image_byte, image_pair, image_word, next_word, place_of, with_byte}
use Rattle.jc_instructions.specs.FieldNames.{static_named}
use Rattle.jc_instructions.specs.StackRoom.{if_room}

-- the static field that an entry of the pool of the package that runs names
abbrev pub own_static : ValueType → ℕ → Packages → Frames → Option FieldOfImage
own_static of_type index p s = static_named of_type p s.current.origin.package_number index

-- the value of a static field, as it comes on the stack: a byte with its sign; references and shorts are two bytes,
-- the high one first
abbrev pub static_value : ValueType → HeapState → FieldOfImage → Option Cell
static_value types.Reference h field = option_map Reference (image_pair h field.package_number field.offset)
static_value types.Byte h field = option_map (λ b. Short (signed_byte b)) (image_byte h field.package_number field.offset)
static_value types.Short h field = option_map (λ w. Short (cast_signed w16 w)) (image_pair h field.package_number field.offset)

-- getstatic_a, getstatic_b, getstatic_s: a static field is pushed
unfoldable pub getstatic : ValueType → ℕ → Packages → Frames → MemoryState → Program (Next Frames)
getstatic of_type index p s m =
    if_some (own_static of_type index p s) (λ field. if_some (if_room s (static_value of_type m.heap.now field)) (λ value. continue_with (with_top value s)))

-- a word of an image is set
abbrev pub image_word_write : ImageWord → ℕ → Frames → MemoryState → Program (Next Frames)
image_word_write w v s m = unless s (refusal_of_places m.heap (place_of w ∷ [])) (Perform (HeapMove (Write (place_of w) v)) (continue_with s))

-- a byte of a word is set
abbrev pub image_byte_write : ImageWord → ℕ → ℕ → Frames → MemoryState → Program (Next Frames)
image_byte_write w offset byte s m = image_word_write w (with_byte (word_value m.heap.now w) offset byte) s m

-- two bytes from an odd offset on: the low byte of a word and the high byte of the word after it
abbrev pub halves : HeapState → ImageWord → ImageWord → ℕ → ℕ → List (Place × ℕ)
halves h w behind offset v =
    (place_of w, with_byte (word_value h w) offset (v / 256)) ∷ (place_of behind, with_byte (word_value h behind) (offset + 1) (v % 256)) ∷ []

-- several words are set as one change
abbrev pub image_words_write : List (Place × ℕ) → Frames → MemoryState → Program (Next Frames)
image_words_write changes s m = unless s (refusal_of_places m.heap (places_of changes)) (Perform (HeapMove (SetPlaces changes)) (continue_with s))

-- two bytes are set: as one word, where they are one
abbrev pub image_pair_write : ImageWord → ℕ → ℕ → Frames → MemoryState → Program (Next Frames)
image_pair_write w offset v s m =
    if offset % 2 == 0 then image_word_write w v s m else if_some (next_word m.heap.now w)
    (λ behind. image_words_write (halves m.heap.now w behind offset v) s m)

-- the bytes of a value of this type are set, from those of the word in which they begin
abbrev pub image_write_of : ValueType → ImageWord → ℕ → ℕ → Frames → MemoryState → Program (Next Frames)
image_write_of types.Byte w offset v s m = image_byte_write w offset (v % 256) s m
image_write_of types.Reference w offset v s m = image_pair_write w offset v s m
image_write_of types.Short w offset v s m = image_pair_write w offset v s m

-- a static field is set to this word
unfoldable pub static_write : ValueType → FieldOfImage → ℕ → Frames → MemoryState → Program (Next Frames)
static_write of_type field v s m = if_some (image_word m.heap.now field.package_number (field.offset / 2)) (λ w. image_write_of of_type w field.offset v s m)

-- putstatic_a, putstatic_b, putstatic_s: a static field is set to the value on top
unfoldable pub putstatic : ValueType → ℕ → Packages → Frames → MemoryState → Program (Next Frames)
putstatic of_type index p s m =
    if_some (value_on of_type s.current.stack) (λ v. if_some (own_static of_type index p s) (λ field. if_ok s (keepable p m v.0) (λ value.
    static_write of_type field (word_of value) (with_stack s v.1) m)))
