-- What an AID object that holds an AID says of it.
use Rattle.std.proofs.Common.{◌≡◌, ℕ, ◌+◌, ◌-◌, ◌/◌, ◌<◌, ◌≤◌, Bool, true, false, List, get_or, length, map, refl, sym, ◌∙◌, ap, arith, inl, inr, Option}
use Rattle.std.proofs.Common.{Some, None}
use Rattle.std.specs.List.{range_with_len}
use Rattle.std.specs.Prelude.{◌%◌, ◌==◌, slice_index, nat_eq, nat_le, if◌then◌else◌}
use Rattle.std.proofs.lemmas.Bool.{cases_Bool, eq-eqb, false≢true, leb-true, true≢false}
use Rattle.std.proofs.lemmas.List.FromFn.{get_or-map-range_with_len, length-map-range_with_len}
use Rattle.std.proofs.lemmas.Slice.Eq.{bytes_eq-Decides}
use Rattle.jc_heap.specs.declared.object.Facts.{Facts}
use Rattle.jc_memory.specs.State.{MemoryState}
use Rattle.jc_memory.specs.Cells.{header_at, word_at, words_at}
use Rattle.jc_environment.specs.Aid.{aid_at, aid_behind, aid_byte, aid_of_cells}
use Rattle.jc_environment.specs.Registry.{is_aid}

-- the AID is that of the cells
abbrev pub Told : List ℕ → List ℕ → Type 0
Told cells aid = (slice_index cells 0 ≡ length aid) × ((length aid ≤ 16) × ((i : ℕ) → i < length aid → aid_byte cells i ≡ get_or aid i 0))

same_if : (b : Bool) (held aid : List ℕ) → is_aid aid (if b then Some held else None) ≡ true → (b ≡ true) × (held ≡ aid)
same_if true held aid is = (refl, (bytes_eq-Decides held aid).0 is)
same_if false held aid is = absurd (false≢true is)

told : (cells aid : List ℕ) → is_aid aid (aid_of_cells cells) ≡ true → Told cells aid
unfolding aid_of_cells
told cells aid is =
    let long = slice_index cells 0 in
    let both = same_if (nat_le long 16) (map (aid_byte cells) (range_with_len 0 long)) aid is in
    let same = both.1 in
    let first : long ≡ length aid = sym (length-map-range_with_len (aid_byte cells) 0 long) ∙ ap length same in (
      first,
      (
        omega (arith, leb-true long 16 both.0, first),
        λ i below. sym (get_or-map-range_with_len (aid_byte cells) 0 long i i 0
            (omega (arith, below, first)) (omega arith)) ∙ ap (λ l. get_or l i 0) same,
      ),
    )

-- where something of it differs, it is not that
differs : (b : Bool) (cells aid : List ℕ) → (Told cells aid → ⊥) → is_aid aid (if b then aid_of_cells cells else None) ≡ false
differs false cells aid never = refl
differs true cells aid never = elim (cases_Bool (is_aid aid (aid_of_cells cells))) [
  | inl holds ↦ absurd (never (told cells aid holds))
  | inr other ↦ other
]

pub not_held : (s : MemoryState) (r : ℕ) (f : Facts) (h : Option Facts) (aid : List ℕ) → h ≡ header_at s r → h ≡ Some f → (Told (words_at s r 0 9) aid → ⊥)
    → is_aid aid (aid_at s r) ≡ false
not_held s r f h aid is some never = ap (λ g. is_aid aid (aid_behind s r g)) (sym is ∙ some) ∙ differs (f.length == 9) (words_at s r 0 9) aid never

-- a cell among those
pub cell_of : (s : MemoryState) (r k : ℕ) → k < 9 → slice_index (words_at s r 0 9) k ≡ word_at s r k
cell_of s r k below = get_or-map-range_with_len (word_at s r) 0 9 k k 0 below (omega arith)

-- another length than its first cell says
pub other_length : (s : MemoryState) (r : ℕ) (aid : List ℕ) (first : ℕ) → first ≡ word_at s r 0 → (first ≡ length aid → ⊥) → Told (words_at s r 0 9) aid → ⊥
other_length s r aid first is other t = other (is ∙ sym (cell_of s r 0 (omega arith)) ∙ t.0)

-- another last byte than its cells say
pub other_last : (s : MemoryState) (r : ℕ) (aid : List ℕ) (word byte last : ℕ) → last + 1 ≡ length aid → word ≡ word_at s r (1 + last / 2)
    → byte ≡ (if last % 2 == 0 then word / 256 else word % 256) → nat_eq byte (get_or aid last 0) ≡ false → Told (words_at s r 0 9) aid → ⊥
other_last s r aid word byte last end word_is byte_is other t =
    let below : 1 + last / 2 < 9 = omega (arith, t.1.0, end) in
    let cell : word ≡ slice_index (words_at s r 0 9) (1 + last / 2) = word_is ∙ sym (cell_of s r (1 + last / 2) below) in
    let same : byte ≡ get_or aid last 0 = byte_is ∙ ap (λ w. if last % 2 == 0 then w / 256 else w % 256) cell ∙ t.1.1 last (omega (arith, end)) in
    true≢false (sym (eq-eqb byte (get_or aid last 0) same) ∙ other)
