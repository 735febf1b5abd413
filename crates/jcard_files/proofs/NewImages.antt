-- Images that were made, and that were not.
use Rattle.std.proofs.Common.{◌≡◌, ◌∙◌, ◌⊎◌, ℕ, Bool, true, List, Option, Some, None, Result, Ok, Err, sym, ap, subst, inl, inr, arith, lit≤, if◌then◌else◌}
use Rattle.std.proofs.lemmas.Bool.{ne_eqb}
use Rattle.std.specs.Prelude.{◌<◌, ◌≤◌, ◌≢◌, length, replicate, slice_index}
use Rattle.jc_words.specs.Image.{IsCapacity}
use Rattle.jc_words.specs.Layout.{least_size, magic, magic_address}
use Rattle.jc_words.specs.Refusals.{Refusals}
use Rattle.jc_words.specs.Store.{MemStoreValue, StoreValue}
use Rattle.jc_transient.specs.State.{AreSizes, buffer_size, buffer_told, cells_told, most_buffer, most_cells, told_or, usual_cells}
use Rattle.jc_image.specs.declared.laying.ImageRoom.{ImageRoom}
use Rattle.jc_platform.specs.declared.fault.TableFault.TheVariants.{BadTable as BadLine}
use Rattle.jc_platform.proofs.OneAnswer.{no_fault}
use Rattle.jc_card.specs.Formatting.{Formats, IsStoppedFormat, IsTooSmall}
use Rattle.jc_card.specs.declared.formatting.FormatFault.{FormatFault}
use Rattle.jc_card.specs.declared.formatting.FormatFault.TheVariants.{StoreDown, BadSize, BadCapacity, BadCells, BadTable, TooSmall}
use Rattle.jcard_files.specs.FileDeeds.{untouched}
use Rattle.jcard_files.specs.ImageSize.{IsBufferLength, IsCellCount}
use Rattle.jcard_files.specs.NewImage.{IsFormatFault, IsLaid, IsLaidInMemory, IsNewImageInMemory, IsNewImageOf, IsTable}
use Rattle.jcard_files.specs.declared.fault.Fault.{Fault}
use Rattle.jcard_files.specs.declared.fault.Fault.TheVariants.{ImageTooSmall}

-- a format that made an image
pub laid_new : {S : Type 0} (words : S → List ℕ) (down : S → Bool) (passed : S → ℕ) (refusals : S → Refusals) (old new : S) (room : ImageRoom) (text : List ℕ)
    → Formats words down passed refusals old room text new (Ok tt) → IsNewImageOf (length (words old)) room text (words new)
laid_new words down passed refusals old new room text came = record {
  size = came.2.size;
  made = came.2.made;
  heap = (came.0, came.1.reads, came.2.heap);
}

-- a format that ended by a fault
pub laid_with : {S : Type 0} (words : S → List ℕ) (down : S → Bool) (passed : S → ℕ) (refusals : S → Refusals) (old new : S) (room : ImageRoom) (text image : List ℕ)
    (cause : FormatFault) (fault : Fault) (after : StoreValue) → Formats words down passed refusals old room text new (Err cause)
    → IsTable text → least_size ≤ length (words old) → IsCapacity room.capacity → AreSizes room.cells room.buffer
    → (new ≡ old → after ≡ untouched (replicate (length (words old)) 0))
    → (IsStoppedFormat words down passed refusals old new → (after.down ≡ true) × (after.refused ≡ 1)
    × ((after.words ≡ replicate (length (words old)) 0) ⊎ (slice_index after.words magic_address ≢ magic)))
    → IsFormatFault image cause fault → IsLaid image (length (words old)) room text (Err fault) after
laid_with words down passed refusals old new room text image StoreDown fault after came table enough journal sizes kept stopped told =
    let s = stopped came.1 in
    subst (λ f. IsLaid image (length (words old)) room text (Err f) after) (sym told.1) (told.2, s.0, s.1, s.2)
laid_with words down passed refusals old new room text image BadSize fault after came table enough journal sizes kept stopped told =
    absurd (omega (arith, enough, came.0))
laid_with words down passed refusals old new room text image BadCapacity fault after came table enough journal sizes kept stopped told =
    absurd (came.0.1 journal)
laid_with words down passed refusals old new room text image BadCells fault after came table enough journal sizes kept stopped told =
    absurd (came.0.2 sizes)
laid_with words down passed refusals old new room text image (BadTable k) fault after came table enough journal sizes kept stopped told =
    absurd (no_fault text table.0 (BadLine k) table.1 came.0.3)
laid_with words down passed refusals old new room text image TooSmall fault after came table enough journal sizes kept stopped told =
    subst (λ f. IsLaid image (length (words old)) room text (Err f) after) (sym told) (came.0.3, kept came.1)

-- what stands in a store that refused a write of a format
pub stopped_words : (n : ℕ) (w v after : List ℕ) → after ≡ v → w ≡ replicate n 0 → (v ≡ w) ⊎ (slice_index v magic_address ≢ magic)
    → (after ≡ replicate n 0) ⊎ (slice_index after magic_address ≢ magic)
stopped_words n w v after same zeros (inl e) = inl (same ∙ (e ∙ zeros))
stopped_words n w v after same zeros (inr h) = inr (subst (λ (x : List ℕ). slice_index x magic_address ≢ magic) (sym same) h)

-- the sizes that words say are those of texts, or the usual ones
told_is : (usual n : ℕ) → 0 < usual → usual ≤ n → told_or usual n ≡ n
told_is usual n some low = ap (λ b. if b then usual else n) (ne_eqb n 0 (λ e. omega (arith, e, low, some)))

cells_told_within : (text : Option (List ℕ)) (n : ℕ) → IsCellCount text n → (usual_cells ≤ cells_told n) × (cells_told n ≤ most_cells)
cells_told_within None n none = subst (λ k. (usual_cells ≤ cells_told k) × (cells_told k ≤ most_cells)) (sym none) (lit≤ tt, lit≤ tt)
cells_told_within (Some text) n count =
    let is = told_is usual_cells n (omega arith) count.low in
    (subst (λ k. usual_cells ≤ k) (sym is) count.low, subst (λ k. k ≤ most_cells) (sym is) count.high)

buffer_told_within : (text : Option (List ℕ)) (n : ℕ) → IsBufferLength text n → (buffer_size ≤ buffer_told n) × (buffer_told n ≤ most_buffer)
buffer_told_within None n none = subst (λ k. (buffer_size ≤ buffer_told k) × (buffer_told k ≤ most_buffer)) (sym none) (lit≤ tt, lit≤ tt)
buffer_told_within (Some text) n count =
    let is = told_is buffer_size n (omega arith) count.low in
    (subst (λ k. buffer_size ≤ k) (sym is) count.low, subst (λ k. k ≤ most_buffer) (sym is) count.high)

pub are_sizes_told : (cells buffer : Option (List ℕ)) (n b : ℕ) → IsCellCount cells n → IsBufferLength buffer b → AreSizes n b
are_sizes_told cells buffer n b count long =
    let of_cells = cells_told_within cells n count in
    let of_buffer = buffer_told_within buffer b long in
    record { cells_least = of_cells.0; cells_most = of_cells.1; buffer_least = of_buffer.0; buffer_most = of_buffer.1 }

-- a format in memory that ended by a fault
pub not_in_memory : {S : Type 0} (words : S → List ℕ) (down : S → Bool) (passed : S → ℕ) (refusals : S → Refusals) (old new : S) (room : ImageRoom)
    (text image : List ℕ) (cause : FormatFault) (fault : Fault) → Formats words down passed refusals old room text new (Err cause)
    → IsTable text → least_size ≤ length (words old) → IsCapacity room.capacity → AreSizes room.cells room.buffer → (down new ≡ true → ⊥)
    → IsFormatFault image cause fault → IsLaidInMemory (length (words old)) room text (Err fault)
not_in_memory words down passed refusals old new room text image StoreDown fault came table enough journal sizes up told = absurd (up came.1.is_down)
not_in_memory words down passed refusals old new room text image BadSize fault came table enough journal sizes up told = absurd (omega (arith, enough, came.0))
not_in_memory words down passed refusals old new room text image BadCapacity fault came table enough journal sizes up told = absurd (came.0.1 journal)
not_in_memory words down passed refusals old new room text image BadCells fault came table enough journal sizes up told = absurd (came.0.2 sizes)
not_in_memory words down passed refusals old new room text image (BadTable k) fault came table enough journal sizes up told =
    absurd (no_fault text table.0 (BadLine k) table.1 came.0.3)
not_in_memory words down passed refusals old new room text image TooSmall fault came table enough journal sizes up told =
    subst (λ f. IsLaidInMemory (length (words old)) room text (Err f)) (sym told) came.0.3

-- an image that is laid in memory is a new one
pub laid_is_new : (m n : ℕ) (room : ImageRoom) (text : List ℕ) (made : Result MemStoreValue Fault) → m ≡ n → IsLaidInMemory m room text made
    → IsNewImageInMemory n room text made
laid_is_new m n room text (Ok store) same h = subst (λ k. IsNewImageOf k room text store.words × (store.passed ≡ 0)) same h
laid_is_new m n room text (Err ImageTooSmall) same h = subst (λ k. IsTooSmall k room text) same h
laid_is_new m n room text (Err other) same h = absurd h
