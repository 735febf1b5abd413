-- Places: the words that a change may name.
use Rattle.std.specs.Prelude.{ℕ, suc, ◌+◌, ◌/◌, ◌<◌, ◌≡◌, ◌==◌, ◌&&◌, Bool, true, false, List, [], ◌∷◌, set, length, map, if◌then◌else◌}
use Rattle.std.specs.List.{range_with_len}
use Rattle.jc_words.specs.Count.{saturating_count}
use Rattle.jc_words.specs.Layout.{applets_address, registry_start, registry_length}
use Rattle.jc_heap.specs.RegistryLayout.{entry_start, entry_package, entry_instance}
use Rattle.jc_heap.specs.declared.place.Place.{Place}
use Rattle.jc_heap.specs.declared.place.Place.TheVariants.{Cell, Static, Registry, AppletCount}
use Rattle.jc_heap.specs.declared.place.AppletEntry.{AppletEntry}
use Rattle.jc_heap.specs.declared.object.Facts.{Facts}
use Rattle.jc_heap.specs.Object.{IsElement, is_packed}
use Rattle.jc_heap.specs.Image.{IsWellFormed}
use Rattle.jc_heap.specs.Heap.{HeapState, HeapView, cells, facts, heap_of, set_cell, cell_address, heap_after_change, goes_back}
use Rattle.jc_heap.specs.Component.{record_of}
use Rattle.jc_heap.specs.Statics.{set_word, IsStatic}
use Rattle.jc_heap.specs.declared.changes.ByteRun.{ByteRun}

-- the address of a place's word, where each cell has one of its own
abbrev pub place_word : Place → ℕ
place_word (Cell r i) = cell_address r i
place_word (Static r j) = r + j
place_word (Registry i) = registry_start + i
place_word AppletCount = applets_address

-- the address of the word of an object's cell: two elements of a packed array have one
abbrev pub cell_at : Facts → ℕ → ℕ → ℕ
cell_at f r i = cell_address r (if is_packed f then i / 2 else i)

-- the address of a place's word in a heap
abbrev pub place_at : HeapState → Place → ℕ
place_at h (Cell r i) = cell_at (facts h r) r i
place_at h (Static r j) = place_word (Static r j)
place_at h (Registry i) = place_word (Registry i)
place_at h AppletCount = place_word AppletCount

-- the place has a word of its own: it is no element of a packed array
abbrev pub IsPlain : HeapState → Place → Type 0
IsPlain h (Cell r i) = is_packed (facts h r) ≡ false
IsPlain h (Static r j) = Unit {0}
IsPlain h (Registry i) = Unit {0}
IsPlain h AppletCount = Unit {0}

-- each of these has
abbrev pub ArePlain : HeapState → List Place → Type 0
ArePlain h [] = Unit {0}
ArePlain h (p ∷ ps) = IsPlain h p × ArePlain h ps

-- two places stand in one word: they are elements 2j or 2j + 1 of one packed array
abbrev pub share_word : HeapState → Place → Place → Bool
share_word h (Cell r i) (Cell q j) = (r == q) && (is_packed (facts h r) && (i / 2 == j / 2))
share_word h _ _ = false

-- the addresses of the words of places, one for those that stand in the word of the place after them
abbrev pub words_at : HeapState → List Place → List ℕ
words_at h [] = []
words_at h (p ∷ []) = place_at h p ∷ []
words_at h (p ∷ q ∷ ps) = if share_word h p q then words_at h (q ∷ ps) else place_at h p ∷ words_at h (q ∷ ps)

-- n cells of an object, from an index on
abbrev pub cells_from : ℕ → ℕ → ℕ → List Place
cells_from r i n = map (λ k. Cell r k) (range_with_len i n)

-- these values stand in an object's cells from an index on
abbrev pub cell_changes : ℕ → ℕ → List ℕ → List (Place × ℕ)
cell_changes r i [] = []
cell_changes r i (v ∷ vs) = (Cell r i, v) ∷ cell_changes r (suc i) vs

-- the heap has this place
abbrev pub HasPlace : HeapState → Place → Type 0
HasPlace h (Cell r i) = i < length (cells h r)
HasPlace h (Static r j) = IsStatic (record_of h r) j
HasPlace h (Registry i) = i < registry_length
HasPlace h AppletCount = Unit {0}

-- a value that the place may hold
abbrev pub MayHold : HeapState → Place → ℕ → Type 0
MayHold h (Cell r i) v = IsElement (facts h r).kind v
MayHold h (Static r j) v = Unit {0}
MayHold h (Registry i) v = Unit {0}
MayHold h AppletCount v = Unit {0}

abbrev pub set_place : HeapState → Place → ℕ → HeapState
set_place h (Cell r i) v = set_cell h r i v
set_place h (Static r j) v = set_word h r j v
set_place h (Registry i) v = record h { applets = set h.applets i v }
set_place h AppletCount v = record h { counts = (h.counts.0, v) }

-- a place set as one change
abbrev pub write_place : HeapView → Place → ℕ → HeapView
write_place v p x = heap_after_change v (set_place v.now p x) (place_at v.now p ∷ []) 0

-- a place set for good, where an abort does not take its word back already
abbrev pub write_nonatomic : HeapView → Place → ℕ → HeapView
write_nonatomic v p x = record v {
  now = set_place v.now p x;
  durable = (if goes_back v (place_at v.now p) then v.durable else set_place v.durable p x);
  passed = saturating_count v.passed 1;
}

-- the places of several changes
abbrev pub places_of : List (Place × ℕ) → List Place
places_of changes = map (λ c. c.0) changes

-- their words, with the new values
abbrev pub words_of : List (Place × ℕ) → List (ℕ × ℕ)
words_of changes = map (λ c. (place_word c.0, c.1)) changes

-- places set, one after another
abbrev pub set_places : HeapState → List (Place × ℕ) → HeapState
set_places h [] = h
set_places h (c ∷ cs) = set_places (set_place h c.0 c.1) cs

-- the heap has each of these places, and they may hold the values
abbrev pub AreThere : HeapState → List (Place × ℕ) → Type 0
AreThere h [] = Unit {0}
AreThere h (c ∷ cs) = HasPlace h c.0 × MayHold h c.0 c.1 × AreThere h cs

-- the place is none of these
abbrev pub IsBeside : Place → List Place → Type 0
IsBeside p [] = Unit {0}
IsBeside p (q ∷ qs) = (p ≡ q → ⊥) × IsBeside p qs

-- no place stands twice
abbrev pub AreApart : List Place → Type 0
AreApart [] = Unit {0}
AreApart (p ∷ ps) = IsBeside p ps × AreApart ps

-- what one applet more changes: its three words after those of the others, and the number of applets
abbrev pub applet_changes : HeapState → AppletEntry → List (Place × ℕ)
applet_changes h entry =
    (Registry (entry_start h.counts.1), entry.aid)
    ∷ (Registry (entry_start h.counts.1 + entry_package), entry.package)
    ∷ (Registry (entry_start h.counts.1 + entry_instance), entry.instance)
    ∷ (AppletCount, h.counts.1 + 1) ∷ []

-- the places that it changes, where n applets are there before
abbrev pub applet_places : ℕ → List Place
applet_places n = Registry (entry_start n) ∷ Registry (entry_start n + entry_package) ∷ Registry (entry_start n + entry_instance) ∷ AppletCount ∷ []

-- places that differ have different words, in the heap of words that are laid, but for elements that stand in one word
abbrev pub HaveOwnWords : Type 0
HaveOwnWords = (words : List ℕ) → IsWellFormed words → (p q : Place) → HasPlace (heap_of words) p → HasPlace (heap_of words) q → (p ≡ q → ⊥)
    → place_at (heap_of words) p ≡ place_at (heap_of words) q → share_word (heap_of words) p q ≡ true

-- ---- bytes that are set in cells

-- these bytes stand in the cells of their object
abbrev pub run_changes : ByteRun → List (Place × ℕ)
run_changes run = cell_changes run.object run.start run.bytes.now
