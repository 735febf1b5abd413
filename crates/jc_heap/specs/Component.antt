-- What a package's record says of its components.
use Rattle.std.specs.Prelude.{ℕ, ◌≡◌, ◌+◌, ◌-◌, ◌/◌, ◌==◌, ◌<◌, ◌≤◌, List, [], ◌∷◌, length, drop, slice_index, slice_index_or, Option, Some, None}
use Rattle.std.specs.Prelude.{if◌then◌else◌, nat_lt}
use Rattle.jc_heap.specs.declared.component.Span.{Span}
use Rattle.jc_heap.specs.Walk.{Sizes, records_from}
use Rattle.jc_heap.specs.Object.{Item, AnObject, APackage}
use Rattle.jc_heap.specs.declared.object.Kind.{Kind}
use Rattle.jc_heap.specs.Packed.{packed_byte}
use Rattle.jc_heap.specs.Heap.{HeapState, heap_item_at}
use Rattle.jc_heap.specs.Package.{AreComponents, package_record}

-- the words of a package's record; none, where no package's record stands
abbrev pub words_of : Item → List ℕ
words_of (AnObject o) = []
words_of (APackage ws) = ws

abbrev pub record_of : HeapState → ℕ → List ℕ
record_of h r = words_of (heap_item_at h r)

-- n bytes as words
abbrev pub words_for : ℕ → ℕ
words_for bytes = (bytes + 1) / 2

-- how many words a part of a record has after its first: a component's size and info; after a word 0 all the rest
abbrev pub part_sizes : Sizes
part_sizes at ws = if slice_index ws 0 == 0 then length ws - 1 else 1 + words_for (slice_index ws 1)

-- the parts of a record after its length, each named by its offset: its components, and its static image with the 0 before it
abbrev pub record_parts : List ℕ → List (ℕ × List ℕ)
record_parts words = records_from part_sizes 0 1 (drop 1 words)

-- where the info of a component stands; nowhere, where the record ends before it does
abbrev pub span_in : ℕ × List ℕ → Option Span
span_in p = if nat_lt (length p.1) (2 + words_for (slice_index p.1 1)) then None else Some (record { at = p.0 + 2; size = slice_index p.1 1 })

-- the first of these parts with a tag
abbrev pub info_span : List (ℕ × List ℕ) → ℕ → Option Span
info_span [] tag = None
info_span (p ∷ ps) tag = if slice_index p.1 0 == tag then span_in p else info_span ps tag

-- where the info of a record's component stands
unfoldable pub info_of : List ℕ → ℕ → Option Span
info_of words tag = info_span (record_parts words) tag

-- a span lies within a record
abbrev pub IsWithin : Span → List ℕ → Type 0
IsWithin s words = s.at + words_for s.size ≤ length words

-- each info is of bytes
abbrev pub AreInfosOfBytes : List (ℕ × List ℕ) → Type 0
AreInfosOfBytes cs = (k i : ℕ) → k < length cs → slice_index ((slice_index_or cs k (0, [])).1) i < 256

-- a span of a record has these bytes
pub record HasBytes (s : Span) (words info : List ℕ) : Type 0 where
  pub size : s.size ≡ length info
  pub bytes : (i : ℕ) → i < length info → packed_byte (drop s.at words) i ≡ slice_index info i

-- from a package's record each of its components is read, byte by byte, and no other one
pub record ReadsBack : Type 0 where
  pub each : (at : ℕ) (cs : List (ℕ × List ℕ)) (xs : List (Kind × List ℕ)) (rest : List ℕ) → AreComponents cs → AreInfosOfBytes cs → (k : ℕ) → k < length cs →
      (s : Span) × ((info_of (package_record at cs xs rest) ((slice_index_or cs k (0, [])).0) ≡ Some s)
      × HasBytes s (package_record at cs xs rest) ((slice_index_or cs k (0, [])).1))
  pub no_other : (at : ℕ) (cs : List (ℕ × List ℕ)) (xs : List (Kind × List ℕ)) (rest : List ℕ) → AreComponents cs → (tag : ℕ) → 0 < tag →
      ((k : ℕ) → k < length cs → (slice_index_or cs k (0, [])).0 ≡ tag → ⊥) → info_of (package_record at cs xs rest) tag ≡ None
