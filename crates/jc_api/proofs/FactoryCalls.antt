-- Form 3: whatever object with a state a call makes, what it does is due where such objects may be made.
use Rattle.std.proofs.Common.{◌≡◌, ℕ, List, Result, Ok}
use Rattle.jc_heap.specs.Moves.{Write}
use Rattle.jc_heap.specs.declared.place.Place.TheVariants as place
use Rattle.jc_transient.specs.declared.cell.CellValue.TheVariants.{Short}
use Rattle.jc_memory.specs.Cells.{word_of}
use Rattle.jc_memory.specs.Making.{creation_move, creation_refusal}
use Rattle.jc_memory.specs.Reading.{AllResults}
use Rattle.jc_memory.specs.State.{MemoryState, Effect, HeapMove, apply_effect}
use Rattle.jc_platform.specs.declared.names.PlatformMethod.{PlatformMethod}
use Rattle.jc_linker.specs.Values.{Packages}
use Rattle.jc_frames.specs.declared.cell.Cell.{Cell}
use Rattle.jc_frames.specs.declared.outcome.FrameExit.{FrameExit}
use Rattle.jc_api.specs.Exits.{plainly}
use Rattle.jc_api.specs.Factory.{HasState, engine_creation, engine_object, factory_call, has_space_for_both, is_in_table, keeps_no_cells, number_cell, state_array, state_cell}
use Rattle.jc_api.specs.declared.factory.NewEngine.{NewEngine}
use Rattle.jc_api.proofs.Due.{IsPlainAnswer, IsPlainCall, called_if, called_ok, called_unless, due_then}
use Rattle.jc_api.proofs.EngineRoom.{with_array}
use Rattle.jc_api.proofs.Passing.{CallPasses, RefersToNew}
use Rattle.jc_api.proofs.Plain.{plainly_faults, plainly_ok}

module _ (P : Effect → MemoryState → Type 0) (L : MemoryState → ℕ → Type 0) (method : PlatformMethod) (args : List Cell) (p : Packages) (m : MemoryState)
    (pass : CallPasses P method args p m) (refers : RefersToNew L) where
  -- the reference to the instance is answered, in the memory that setting its cells leaves
  answered : (e : NewEngine) → AllResults (engine_creation e p m) m (IsPlainAnswer L)
  answered e array new r other =
      let made = with_array e m in
      let o = engine_object e p made in
      let with_instance = apply_effect (HeapMove (creation_move o.event o)) made in
      let with_number = apply_effect (HeapMove (Write (place.Cell r number_cell) (word_of (Short e.number)))) with_instance in
      refers.stays r state_cell array with_number r (refers.stays r number_cell (word_of (Short e.number)) with_instance r (refers.new o made r other))

  -- each effect of such a call is due, and it answers plainly
  pub factory_due : (answer : Result NewEngine FrameExit) → ((e : NewEngine) → answer ≡ Ok e → HasState e.class) → IsPlainCall P L (factory_call answer p m) m
  factory_due answer classes = called_ok P L m (plainly answer) _ (plainly_faults answer) (λ e is.
      called_if P L m (is_in_table e.class p) _ _ (λ there. called_if P L m (has_space_for_both e m) _ _ (λ space.
      called_if P L m (keeps_no_cells e m) _ _ (λ cells. called_unless P L m (creation_refusal m (state_array e m)) _ (λ room.
      due_then P (IsPlainAnswer L) (engine_creation e p m) m (pass.engine e (classes e (plainly_ok answer e is)) there space room) (answered e)))
      (λ full. tt)) (λ full. tt)) (λ lacks. tt))
