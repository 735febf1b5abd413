-- What changed of the words of an image, by object and cell.
use Rattle.std.specs.Prelude.{ℕ, zero, suc, ◌+◌, ◌-◌, ◌/◌, ◌%◌, ◌==◌, ◌++◌, Bool, false, List, [], ◌∷◌, codes, decimal, slice_index, Option, Some, None, if◌then◌else◌}
use Rattle.hex.specs.Hex.{encode_upper}
use Rattle.jc_words.specs.Layout.{addresses_start, text_length_address, top_address}
use Rattle.jc_heap.specs.Heap.{heap_of}
use Rattle.jc_heap.specs.Object.{is_packed}
use Rattle.jc_objects.specs.Holders.{holder_in}
use Rattle.jc_objects.specs.declared.holders.Holder.{Holder}
use Rattle.jc_objects.specs.declared.image_objects.ImageObjects.{ImageObjects}
use Rattle.jc_objects.specs.ClassTexts.{kind_text}

-- a word: two elements in hexadecimal, or a number
abbrev pub value_text : Bool → ℕ → List ℕ
value_text packed word = if packed then encode_upper (word / 256 ∷ word % 256 ∷ []) else decimal word

-- a word that was and the one that is
abbrev pub values_text : Bool → ℕ → ℕ → List ℕ
values_text packed old new = value_text packed old ++ codes ">" ++ value_text packed new ++ codes "\n"

-- a cell that changed: the object, its class, the cell, and what was and is there
abbrev pub cell_text : ImageObjects → Holder → ℕ → ℕ → List ℕ
cell_text o h old new = codes "@" ++ decimal h.object ++ codes " " ++ kind_text o.platform o.store.words h.facts.kind h.facts.class
    ++ codes " [" ++ decimal h.cell ++ codes "] " ++ values_text (is_packed h.facts) old new

-- a word that holds no cell and that changed
abbrev pub word_text : ℕ → ℕ → ℕ → List ℕ
word_text a old new = codes "word " ++ decimal a ++ codes " " ++ values_text false old new

-- a word that changed is reported by the cell that stands in it, or by its address where none does
abbrev pub change_by : ImageObjects → Option Holder → ℕ → ℕ → ℕ → List ℕ
change_by o (Some h) a old new = cell_text o h old new
change_by o None a old new = word_text a old new

abbrev pub change_text : ImageObjects → ℕ → ℕ → ℕ → List ℕ
change_text o a old new = change_by o (holder_in (heap_of o.recovered.plain).items a) a old new

-- a word is reported if it is not the one that it was
abbrev pub changed_text : ImageObjects → List ℕ → ℕ → List ℕ
changed_text o now a = if slice_index o.store.words a == slice_index now a then []
    else change_text o a (slice_index o.store.words a) (slice_index now a)

-- n words from an address on are reported so
unfoldable pub words_text : ImageObjects → List ℕ → ℕ → ℕ → List ℕ
words_text o now a zero = []
words_text o now a (suc n) = words_text o now a n ++ changed_text o now (a + n)

-- what changed of an image since it had these objects: of the words with its top, its counts and the ends of its areas; and of those with its
-- packages, its registry and its heap, up to the top that was
abbrev pub changes_text : ImageObjects → List ℕ → List ℕ
changes_text o now = words_text o now top_address (text_length_address - top_address)
    ++ words_text o now addresses_start (slice_index o.store.words top_address - addresses_start)
