-- Cells that are set, and objects that are made, of another object.
use Rattle.std.proofs.Common.{◌≡◌, ℕ, ◌+◌, ◌<◌, ◌≤◌, false, List, length, Option, Some, None, refl, sym, ◌∙◌, ap, subst, arith}
use Rattle.std.proofs.lemmas.Bool.{true≢false}
use Rattle.std.proofs.lemmas.List.{length-map}
use Rattle.jc_transient.specs.Cell.{number_of}
use Rattle.jc_transient.specs.declared.cell.CellValue.{CellValue}
use Rattle.jc_transient.specs.declared.cell.ClearEvent.{ClearEvent}
use Rattle.jc_heap.specs.Heap.{IsObject, facts, is_allocated}
use Rattle.jc_heap.proofs.Laws.{object_named}
use Rattle.jc_memory.specs.declared.making.NewObject.{NewObject}
use Rattle.jc_memory.specs.State.{MemoryState, HeapMove, IsNew}
use Rattle.jc_memory.specs.Programs.{Program}
use Rattle.jc_memory.specs.Reading.{AllDue}
use Rattle.jc_memory.specs.Cells.{cell_effect, cell_effect_in, cells_effect, cells_effect_in}
use Rattle.jc_memory.specs.Making.{object_creation, creation_move}
use Rattle.law_code.specs.IsolationLaws.SparingEffects.{LeavesObject}
use Rattle.jc_api.proofs.Passing.{Makes}

module _ (q : ℕ) (m : MemoryState) where
  set_in_spares : (event : Option ClearEvent) (r i : ℕ) (v : CellValue) → (r ≡ q → ⊥) → i < (facts m.heap.now r).length
      → LeavesObject q (cell_effect_in event r i v) m
  set_in_spares None r i v other within = other
  set_in_spares (Some event) r i v other within = (other, omega (arith, within))

  -- a cell of another object
  pub set_spares : (r i : ℕ) (v : CellValue) → (r ≡ q → ⊥) → i < (facts m.heap.now r).length → LeavesObject q (cell_effect m r i v) m
  set_spares r i v other within = set_in_spares (facts m.heap.now r).event r i v other within

  run_in_spares : (event : Option ClearEvent) (r i : ℕ) (words : List ℕ) → (r ≡ q → ⊥) → i + length words ≤ (facts m.heap.now r).length
      → LeavesObject q (cells_effect_in event r i words) m
  run_in_spares None r i words other within = other
  run_in_spares (Some event) r i words other within = (other, (let long = length-map words number_of in omega (arith, within, long)))

  -- cells of another object
  pub run_spares : (r i : ℕ) (words : List ℕ) → (r ≡ q → ⊥) → i + length words ≤ (facts m.heap.now r).length → LeavesObject q (cells_effect m r i words) m
  run_spares r i words other within = run_in_spares (facts m.heap.now r).event r i words other within

-- a new object is another one
pub new_other : (m : MemoryState) (q r : ℕ) → IsObject m.heap.now q → IsNew m.heap.now r → r ≡ q → ⊥
new_other m q r there new same = true≢false (sym (object_named m.heap.now q there) ∙ (ap (is_allocated m.heap.now) (sym same) ∙ new.free))

made_in : (event : Option ClearEvent) (o : NewObject) (q : ℕ) (m : MemoryState) (r : ℕ) → IsNew m.heap.now r
    → LeavesObject q (HeapMove (creation_move event o)) m
made_in None o q m r new = (refl, subst (λ t. is_allocated m.heap.now t ≡ false) new.chosen new.free)
made_in (Some event) o q m r new = subst (λ t. is_allocated m.heap.now t ≡ false) new.chosen new.free

-- a new object is made
pub new_makes : (q : ℕ) (m : MemoryState) (o : NewObject) → Makes (LeavesObject q) m o
new_makes q m o r new = made_in o.event o q m r new

-- and what follows is due wherever the new object is another one
pub new_spares : {A : Type 0} (q : ℕ) (o : NewObject) (rest : ℕ → Program A) (m : MemoryState) → IsObject m.heap.now q
    → ((r : ℕ) (v : MemoryState) → (r ≡ q → ⊥) → AllDue (LeavesObject q) (rest r) v) → AllDue (LeavesObject q) (object_creation o rest) m
new_spares q o rest m there follows = λ r new. (new_makes q m o r new, follows r _ (new_other m q r there new))
