-- What was saved differs in what was set for good alone.
use Rattle.std.proofs.Common.{◌≡◌, ℕ, Bool, true, false, List, [], ◌∷◌, refl, sym, subst, ap, ◌∙◌, get_or, inl, inr, if◌then◌else◌}
use Rattle.std.proofs.lemmas.Bool.{cases_Bool, cases_eq}
use Rattle.std.proofs.lemmas.List.{get_or-set_other}
use Rattle.jc_heap.specs.declared.place.Place.{Place}
use Rattle.jc_heap.specs.declared.place.Place.TheVariants.{Cell}
use Rattle.jc_heap.specs.Object.{Item, AnObject, APackage, cells_of, header_only, with_cell}
use Rattle.jc_heap.specs.Heap.{HeapState, heap_item_at, goes_back, is_allocated, set_cell}
use Rattle.jc_heap.specs.Place.{place_at, set_place}
use Rattle.jc_heap.specs.Moves.{Write, SetPlaces, WriteNonAtomic, SetCells, AddObject, AddTransient, AddPackage, Begin, Commit, Abort}
use Rattle.jc_heap.proofs.Laws.{set_cell-absent, heap_item_at-set_cell, heap_item_at-set_other, header_only-set_cell, is_allocated-set_cell}
use Rattle.jc_memory.specs.State.{MemoryState, Effect, HeapMove, SetTransient, SetFlag, ClearTransient, SetRegisters, BeginCommand, SendBytes}
use Rattle.jc_memory.specs.State.{apply_effect}
use Rattle.law_code.specs.Orderly.{MayBeSetForGood}
use Rattle.law_code.specs.TransactionLaws.{SavedHeapAfter, IsSameButSet, SameButSet, SetForGood}

-- ---- a cell is set

-- another cell of an item stays
other_cell : (t : Item) (i v j : ℕ) → (i ≡ j → ⊥) → get_or (cells_of (with_cell t i v)) j 0 ≡ get_or (cells_of t) j 0
other_cell (AnObject o) i v j other = get_or-set_other o.cells i j v 0 (λ e. other (sym e))
other_cell (APackage ws) i v j other = refl

-- so each other cell of a heap stays
pub stays_beside : (h : HeapState) (q i v r j : ℕ) → (Cell q i ≡ Cell r j → ⊥)
    → get_or (cells_of (heap_item_at (set_cell h q i v) r)) j 0 ≡ get_or (cells_of (heap_item_at h r)) j 0
stays_beside h q i v r j other = elim (cases_eq q r) [
  | inr apart ↦ ap (λ t. get_or (cells_of t) j 0) (heap_item_at-set_other h q i v r apart)
  | inl same ↦ elim (cases_Bool (is_allocated h q)) [
    | inl there ↦ subst (λ x. get_or (cells_of (heap_item_at (set_cell h q i v) x)) j 0 ≡ get_or (cells_of (heap_item_at h x)) j 0) same
        (ap (λ t. get_or (cells_of t) j 0) (heap_item_at-set_cell h q i v there)
        ∙ other_cell (heap_item_at h q) i v j (λ e. other (λ k. Cell (same k) (e k))))
    | inr gone ↦ ap (λ g. get_or (cells_of (heap_item_at g r)) j 0) (set_cell-absent h q i v gone)
  ]
]

rest_kept : (h : HeapState) (r i v : ℕ) → record (set_cell h r i v) { items = h.items } ≡ h
unfolding set_cell
rest_kept h r i v = refl

abbrev with_items : HeapState → HeapState → HeapState
with_items old h = record h { items = old.items }

-- a place that may be set for good is a cell
cell_of : (s : MemoryState) (place : Place) → MayBeSetForGood s place → (r i : ℕ) × (place ≡ Cell r i)
cell_of s place (inl counter) = (counter.0, 2, counter.1)
cell_of s place (inr element) = (element.array, element.index, element.is)

module _ (es : List Effect) (place : Place) (x : ℕ) where
  abbrev more : List Effect
  more = HeapMove (WriteNonAtomic place x) ∷ es

  all_weaker : (old new : HeapState) → SameButSet es old new → SameButSet more old new
  all_weaker old new d = record {
    rest = d.rest;
    stands = d.stands;
    items = λ q. record { header = (d.items q).header; cells = λ i none. (d.items q).cells i (λ was. none (inr was)) };
  }

  -- a heap after one more that was set
  behind_set : (r i : ℕ) (old new : HeapState) → place ≡ Cell r i → SameButSet es (set_cell old r i x) new → SameButSet more old new
  behind_set r i old new is d = record {
    rest = ap (with_items old) d.rest ∙ rest_kept old r i x;
    stands = λ q. d.stands q ∙ is_allocated-set_cell old r i x q;
    items = λ q. record {
      header = (d.items q).header ∙ header_only-set_cell old r i x q;
      cells = λ j none. (d.items q).cells j (λ was. none (inr was)) ∙ stays_beside old r i x q j (λ e. none (inl (is ∙ e)));
    };
  }

  one_more : (touched : Bool) (r i : ℕ) (old new : HeapState) → place ≡ Cell r i → SameButSet es (if touched then old else set_place old place x) new
      → SameButSet more old new
  one_more true r i old new is d = all_weaker old new d
  one_more false r i old new is d = behind_set r i old new is (subst (λ p. SameButSet es (set_place old p x) new) is d)

pub differ : (es : List Effect) (s : MemoryState) (old new : HeapState) → SavedHeapAfter es s old new → SameButSet es old new
differ [] s old new same = subst (λ h. SameButSet [] old h) (sym same) (record { rest = refl; stands = λ r. refl; items = λ r. record { header = refl; cells = λ i none. refl } })
differ (HeapMove (WriteNonAtomic place x) ∷ es) s old new saved =
    let cell = cell_of s place saved.0 in
    one_more es place x (goes_back s.heap (place_at s.heap.now place)) cell.0 cell.1 old new cell.2
    (differ es (apply_effect (HeapMove (WriteNonAtomic place x)) s) (if goes_back s.heap (place_at s.heap.now place) then old else set_place old place x) new saved.1)
differ (HeapMove (Write p v) ∷ es) s old new saved = other (differ es (apply_effect (HeapMove (Write p v)) s) old new saved)
  where
    other : SameButSet es old new → SameButSet (HeapMove (Write p v) ∷ es) old new
    other d = record { rest = d.rest; stands = d.stands; items = λ r. record { header = (d.items r).header; cells = λ i none. (d.items r).cells i none } }
differ (HeapMove (SetPlaces cs) ∷ es) s old new saved = other (differ es (apply_effect (HeapMove (SetPlaces cs)) s) old new saved)
  where
    other : SameButSet es old new → SameButSet (HeapMove (SetPlaces cs) ∷ es) old new
    other d = record { rest = d.rest; stands = d.stands; items = λ r. record { header = (d.items r).header; cells = λ i none. (d.items r).cells i none } }
differ (HeapMove (SetCells r i vs) ∷ es) s old new saved = other (differ es (apply_effect (HeapMove (SetCells r i vs)) s) old new saved)
  where
    other : SameButSet es old new → SameButSet (HeapMove (SetCells r i vs) ∷ es) old new
    other d = record { rest = d.rest; stands = d.stands; items = λ r. record { header = (d.items r).header; cells = λ i none. (d.items r).cells i none } }
differ (HeapMove (AddObject o size) ∷ es) s old new saved = other (differ es (apply_effect (HeapMove (AddObject o size)) s) old new saved)
  where
    other : SameButSet es old new → SameButSet (HeapMove (AddObject o size) ∷ es) old new
    other d = record { rest = d.rest; stands = d.stands; items = λ r. record { header = (d.items r).header; cells = λ i none. (d.items r).cells i none } }
differ (HeapMove (AddTransient kind event class owner long) ∷ es) s old new saved =
    other (differ es (apply_effect (HeapMove (AddTransient kind event class owner long)) s) old new saved)
  where
    other : SameButSet es old new → SameButSet (HeapMove (AddTransient kind event class owner long) ∷ es) old new
    other d = record { rest = d.rest; stands = d.stands; items = λ r. record { header = (d.items r).header; cells = λ i none. (d.items r).cells i none } }
differ (HeapMove (AddPackage components arrays image) ∷ es) s old new saved = other
    (differ es (apply_effect (HeapMove (AddPackage components arrays image)) s) old new saved)
  where
    other : SameButSet es old new → SameButSet (HeapMove (AddPackage components arrays image) ∷ es) old new
    other d = record { rest = d.rest; stands = d.stands; items = λ r. record { header = (d.items r).header; cells = λ i none. (d.items r).cells i none } }
differ (HeapMove Begin ∷ es) s old new saved = other (differ es (apply_effect (HeapMove Begin) s) old new saved)
  where
    other : SameButSet es old new → SameButSet (HeapMove Begin ∷ es) old new
    other d = record { rest = d.rest; stands = d.stands; items = λ r. record { header = (d.items r).header; cells = λ i none. (d.items r).cells i none } }
differ (HeapMove Commit ∷ es) s old new saved = other (differ es (apply_effect (HeapMove Commit) s) old new saved)
  where
    other : SameButSet es old new → SameButSet (HeapMove Commit ∷ es) old new
    other d = record { rest = d.rest; stands = d.stands; items = λ r. record { header = (d.items r).header; cells = λ i none. (d.items r).cells i none } }
differ (HeapMove Abort ∷ es) s old new saved = other (differ es (apply_effect (HeapMove Abort) s) old new saved)
  where
    other : SameButSet es old new → SameButSet (HeapMove Abort ∷ es) old new
    other d = record { rest = d.rest; stands = d.stands; items = λ r. record { header = (d.items r).header; cells = λ i none. (d.items r).cells i none } }
differ (SetTransient r i values ∷ es) s old new saved = other (differ es (apply_effect (SetTransient r i values) s) old new saved)
  where
    other : SameButSet es old new → SameButSet (SetTransient r i values ∷ es) old new
    other d = record { rest = d.rest; stands = d.stands; items = λ r. record { header = (d.items r).header; cells = λ i none. (d.items r).cells i none } }
differ (SetFlag r flag ∷ es) s old new saved = other (differ es (apply_effect (SetFlag r flag) s) old new saved)
  where
    other : SameButSet es old new → SameButSet (SetFlag r flag ∷ es) old new
    other d = record { rest = d.rest; stands = d.stands; items = λ r. record { header = (d.items r).header; cells = λ i none. (d.items r).cells i none } }
differ (ClearTransient event ∷ es) s old new saved = other (differ es (apply_effect (ClearTransient event) s) old new saved)
  where
    other : SameButSet es old new → SameButSet (ClearTransient event ∷ es) old new
    other d = record { rest = d.rest; stands = d.stands; items = λ r. record { header = (d.items r).header; cells = λ i none. (d.items r).cells i none } }
differ (SetRegisters registers ∷ es) s old new saved = other (differ es (apply_effect (SetRegisters registers) s) old new saved)
  where
    other : SameButSet es old new → SameButSet (SetRegisters registers ∷ es) old new
    other d = record { rest = d.rest; stands = d.stands; items = λ r. record { header = (d.items r).header; cells = λ i none. (d.items r).cells i none } }
differ (BeginCommand bytes ∷ es) s old new saved = other (differ es (apply_effect (BeginCommand bytes) s) old new saved)
  where
    other : SameButSet es old new → SameButSet (BeginCommand bytes ∷ es) old new
    other d = record { rest = d.rest; stands = d.stands; items = λ r. record { header = (d.items r).header; cells = λ i none. (d.items r).cells i none } }
differ (SendBytes bytes ∷ es) s old new saved = other (differ es (apply_effect (SendBytes bytes) s) old new saved)
  where
    other : SameButSet es old new → SameButSet (SendBytes bytes ∷ es) old new
    other d = record { rest = d.rest; stands = d.stands; items = λ r. record { header = (d.items r).header; cells = λ i none. (d.items r).cells i none } }
