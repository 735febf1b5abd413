-- The heap that words stand for, and the changes of a heap.
pub mod Store
use Rattle.std.specs.Prelude.{ℕ, suc, ◌+◌, ◌-◌, ◌≡◌, ◌<◌, ◌≤◌, ◌==◌, Bool, true, false, List, [], ◌∷◌, ◌++◌, map, take, drop, length, slice_index, Option, Some}
use Rattle.std.specs.Prelude.{None, if◌then◌else◌, ◌&&◌, nat_lt, max}
use Rattle.jc_words.specs.Count.{saturating_count}
use Rattle.jc_words.specs.Refusals.{Refusals, refused_once}
use Rattle.jc_words.specs.Layout.{magic_address, size_address, top_address, packages_address, applets_address, reset_end_address, deselect_end_address}
use Rattle.jc_words.specs.Layout.{registry_start, registry_length, addresses_start}
use Rattle.jc_commit.specs.Image.{top_of}
use Rattle.jc_commit.specs.State.{State, IsShort, undo_writes}
use Rattle.jc_commit.specs.Keep as journal
use Rattle.jc_heap.specs.declared.object.Facts.{Facts}
use Rattle.jc_transient.specs.declared.cell.ClearEvent.{ClearEvent}
use Rattle.jc_transient.specs.declared.cell.ClearEvent.TheVariants.{Reset, Deselect}
use Rattle.jc_transient.specs.declared.sizes.RamSizes.{RamSizes}
use Rattle.jc_transient.specs.State.{ram_sizes, size_in}
use Rattle.jc_heap.specs.declared.object.Kind.{Kind}
use Rattle.jc_heap.specs.Object.{Object, header_size, new_transient, transient_size, Item, AnObject, APackage, cells_of, with_cell, header_only, facts_of}
use Rattle.jc_heap.specs.Object.{is_object}
use Rattle.jc_heap.specs.Walk.{entry_or, has_entry, with_entry}
use Rattle.jc_heap.specs.Image.{image, package_addresses, item_entry, records, table_text, lasting_words, capacity_in, IsWellFormed}

-- the magic word and the number of words, as words hold them
abbrev pub head_of : List ℕ → ℕ × ℕ
head_of words = (slice_index words magic_address, slice_index words size_address)

-- the magic word and the number of words; the table text; what stands at each address, in order; the
-- numbers of packages and of applets; the addresses of the packages, by their numbers; the registry's
-- words; the ends of the two transient areas; the first free word; how many old values the journal can keep;
-- the words of the front that no change touches
pub record HeapState : Type 0 where
  pub head : ℕ × ℕ
  pub text : List ℕ
  pub items : List (ℕ × Item)
  pub counts : ℕ × ℕ
  pub packages : List ℕ
  pub applets : List ℕ
  pub area_ends : ℕ × ℕ
  pub top : ℕ
  pub capacity : ℕ
  pub lasting : List ℕ

unfoldable pub read_image : List ℕ → HeapState
read_image image = record {
  head = head_of image;
  text = table_text image;
  items = map (item_entry (package_addresses image)) (records image);
  counts = (slice_index image packages_address, slice_index image applets_address);
  packages = package_addresses image;
  applets = take registry_length (drop registry_start image);
  area_ends = (slice_index image reset_end_address, slice_index image deselect_end_address);
  top = length image;
  capacity = capacity_in image;
  lasting = lasting_words image;
}

-- the heap that words stand for: words at or above the top don't matter
abbrev pub heap_of : List ℕ → HeapState
heap_of words = read_image (image words)

unfoldable pub heap_item_at : HeapState → ℕ → Item
heap_item_at h r = entry_or (APackage []) h.items r

-- the cells of a persistent object: none, where there is no such object
abbrev pub cells : HeapState → ℕ → List ℕ
cells h r = cells_of (heap_item_at h r)

-- what the header of an object says
abbrev pub facts : HeapState → ℕ → Facts
facts h r = facts_of (heap_item_at h r)

-- something stands at this address
unfoldable pub is_allocated : HeapState → ℕ → Bool
is_allocated h r = has_entry h.items r

-- nothing stands at or above its top
abbrev pub HasEnd : HeapState → Type 0
HasEnd h = (r : ℕ) → h.top ≤ r → is_allocated h r ≡ false

-- an object stands at this address
abbrev pub IsObject : HeapState → ℕ → Type 0
IsObject h r = is_object (heap_item_at h r) ≡ true

unfoldable pub set_cell : HeapState → ℕ → ℕ → ℕ → HeapState
set_cell h r i v = record h { items = with_entry h.items r (with_cell (heap_item_at h r) i v) }

-- a new object after the others
unfoldable pub add_object : HeapState → Object → ℕ → HeapState
add_object h o size = record h { items = h.items ++ (h.top, AnObject o) ∷ []; top = h.top + size }

-- the first free cell of an event's area
abbrev pub area_end : HeapState → ClearEvent → ℕ
area_end h Reset = h.area_ends.0
area_end h Deselect = h.area_ends.1

abbrev pub with_area_end : HeapState → ClearEvent → ℕ → HeapState
with_area_end h Reset end = record h { area_ends = (end, h.area_ends.1) }
with_area_end h Deselect end = record h { area_ends = (h.area_ends.0, end) }

-- the words that say how many cells the objects of each event can have, and how many the APDU buffer has
abbrev pub cells_word : HeapState → ℕ
cells_word h = slice_index h.lasting 1

abbrev pub buffer_word : HeapState → ℕ
buffer_word h = slice_index h.lasting 2

-- how many cells the two areas have
abbrev pub area_sizes : HeapState → RamSizes
area_sizes h = ram_sizes (cells_word h) (buffer_word h)

-- how many cells an event's area has
abbrev pub area_limit : HeapState → ClearEvent → ℕ
area_limit h event = size_in (area_sizes h) event

-- the address of the word with an area's end
abbrev pub area_end_address : ClearEvent → ℕ
area_end_address Reset = reset_end_address
area_end_address Deselect = deselect_end_address

-- a new transient object after the others, whose cells are the first free ones of its area
unfoldable pub add_transient : HeapState → Kind → ClearEvent → ℕ → ℕ → ℕ → HeapState
add_transient h kind event class owner long = with_area_end (add_object h (new_transient kind event class owner long (area_end h event)) transient_size) event
    (area_end h event + long)

-- the cells of a persistent object from an index on are these
abbrev pub set_cells : HeapState → ℕ → ℕ → List ℕ → HeapState
set_cells h r i [] = h
set_cells h r i (v ∷ vs) = set_cells (set_cell h r i v) r (suc i) vs

-- the first object above an address
abbrev pub first_above : List (ℕ × Item) → ℕ → Option ℕ
first_above [] r = None
first_above (e ∷ es) r = if nat_lt r e.0 && is_object e.1 then Some e.0 else first_above es r

-- the object after another one, or the first one of all after null
unfoldable pub next_object : HeapState → ℕ → Option ℕ
next_object h r = first_above h.items r

-- below the old heap's top the same things stand in the new one, with the same headers, and the words that no change touches are the same
pub record SameShape (old new : HeapState) : Type 0 where
  pub items : (r : ℕ) → r < old.top → header_only (heap_item_at new r) ≡ header_only (heap_item_at old r)
  pub names : (r : ℕ) → r < old.top → is_allocated new r ≡ is_allocated old r
  pub lasting : new.lasting ≡ old.lasting

-- of what stood, what stands below the top is left, and nothing else
abbrev pub KeepsBelowTop : HeapState → HeapState → Type 0
KeepsBelowTop old new = (r : ℕ) → is_allocated new r ≡ (if nat_lt r new.top then is_allocated old r else false)

-- what the layers above see: the heap now, the heap that a completed recovery would leave, whether a
-- transaction is open, the places whose old values it keeps, the store's state and where the heap ends
pub record HeapView : Type 0 where
  pub now : HeapState
  pub durable : HeapState
  pub begun : Bool
  pub touched : List ℕ
  pub down : Bool
  pub passed : ℕ
  pub refusals : Refusals
  pub size : ℕ

-- what the words of a journal stand for
abbrev pub heap_view : State → ℕ → HeapView
heap_view j size = record {
  now = heap_of j.plain;
  durable = heap_of j.recovered;
  begun = j.in_transaction;
  touched = j.touched;
  down = j.down;
  passed = j.passed;
  refusals = j.refusals;
  size = size;
}

-- what the journal of each heap meets: both images are laid, and below the top of the recovered one they
-- have the same shape. After a refused write only the recovered words count
pub record IsSound (j : State) (size : ℕ) : Type 0 where
  pub back : IsWellFormed j.recovered
  pub size_recovered : length j.recovered ≡ size
  pub small : size < 65536
  pub now : j.down ≡ false → IsWellFormed j.plain
  pub size_now : j.down ≡ false → length j.plain ≡ size
  pub order : j.down ≡ false → top_of j.recovered ≤ top_of j.plain
  pub shape : j.down ≡ false → SameShape (heap_of j.recovered) (heap_of j.plain)
  -- outside a transaction there is nothing to recover
  pub settled : j.down ≡ false → j.in_transaction ≡ false → j.recovered ≡ j.plain

-- what a change has to know of the transaction
abbrev pub keeping : HeapView → journal.Keeping
keeping v = record { begun = v.begun; born = max addresses_start v.durable.top; touched = v.touched; capacity = v.durable.capacity }

-- of these places, those whose old values a change has to keep: its cost
abbrev pub unlogged_places : HeapView → List ℕ → List ℕ
unlogged_places v places = journal.unlogged_addresses (keeping v) places

-- how many word writes it is to change these places
abbrev pub writes_for : HeapView → List ℕ → ℕ
writes_for v places = journal.writes_for (keeping v) places

-- how many more words' old values the transaction can keep
abbrev pub room_left : HeapView → ℕ
room_left v = v.durable.capacity - length v.touched

-- there is room for a change of these places, in the open transaction or in one of its own
abbrev pub has_room_for : HeapView → List ℕ → Bool
has_room_for v places = journal.has_room_for (keeping v) places

-- a heap at rest: no transaction is open, and a loss of power leaves it as it is
abbrev pub heap_at_rest : HeapState → ℕ → Refusals → ℕ → HeapView
heap_at_rest h passed refusals size = record { now = h; durable = h; begun = false; touched = []; down = false; passed = passed; refusals = refusals; size = size }

-- one change, to another heap, by writes to these places and to this number of fresh words
abbrev pub heap_after_change : HeapView → HeapState → List ℕ → ℕ → HeapView
heap_after_change v h places fresh = record v {
  now = h;
  durable = (if v.begun then v.durable else h);
  touched = v.touched ++ unlogged_places v places;
  passed = saturating_count v.passed (fresh + writes_for v places);
}

-- the address of a cell
unfoldable pub cell_address : ℕ → ℕ → ℕ
cell_address r i = r + (header_size + i)

-- the address of the word with the heap's end
unfoldable pub end_address : ℕ
end_address = top_address

-- an abort takes back what is written at this place: its old value is kept, or its word was born in the transaction
abbrev pub goes_back : HeapView → ℕ → Bool
goes_back v place = journal.goes_back (keeping v) place

-- a transaction is open, and what it finds is kept
abbrev pub heap_after_begin : HeapView → HeapView
heap_after_begin v = record v { begun = true; durable = v.now }

-- its changes stay
abbrev pub heap_after_commit : HeapView → HeapView
heap_after_commit v = record v { begun = false; durable = v.now; touched = []; passed = saturating_count v.passed (if length v.touched == 0 then 0 else 1) }

-- its changes are taken back
abbrev pub heap_after_abort : HeapView → HeapView
heap_after_abort v = record v { begun = false; now = v.durable; touched = []; passed = saturating_count v.passed (undo_writes (length v.touched)) }

-- the store refused one of n writes: a recovery leaves what it would have left before
pub record IsTornChange (writes : ℕ) (old new : HeapView) : Type 0 where
  pub durable : new.durable ≡ old.durable
  pub down : new.down ≡ true
  pub from : old.passed ≤ new.passed
  pub short : IsShort writes old.passed new.passed
  pub refusals : new.refusals ≡ refused_once old.down new.passed old.refusals
  pub size : new.size ≡ old.size

-- an event's area has no space for n cells
abbrev pub LacksCells : HeapState → ClearEvent → ℕ → Type 0
LacksCells h event n = area_limit h event < area_end h event + n

-- where the heap ends: no object reaches beyond
abbrev pub limit : HeapView → ℕ
limit v = v.size

-- there is no space for n words
abbrev pub LacksSpace : HeapView → ℕ → Type 0
LacksSpace v n = limit v < v.now.top + n
