-- Form 2: whatever a call answers that puts bytes into an array and sets a state, what it does is due where the elements of arrays within
-- reach may be set, and after them the cells of a transient one.
use Rattle.std.proofs.Common.{◌≡◌, ◌∙◌, ℕ, List, length, map, Option, Some, None, Result, ap, subst}
use Rattle.std.proofs.lemmas.Option.{same_Some}
use Rattle.std.specs.Prelude.{ℤ, pos}
use Rattle.jc_transient.specs.Cell.{number_of}
use Rattle.jc_heap.specs.Heap.{facts}
use Rattle.jc_memory.specs.Cells.{cells_effect_in, cells_refusal}
use Rattle.jc_memory.specs.State.{MemoryState, Effect, SetTransient}
use Rattle.jc_platform.specs.declared.names.PlatformMethod.{PlatformMethod}
use Rattle.jc_linker.specs.Values.{Packages}
use Rattle.jc_frames.specs.declared.cell.Cell.{Cell}
use Rattle.jc_frames.specs.declared.outcome.FrameExit.{FrameExit}
use Rattle.jc_world.specs.NativeCalls.{return_value}
use Rattle.jc_world.specs.declared.arrays.Stretch.{Stretch}
use Rattle.jc_api.specs.Arguments.{elements_at}
use Rattle.jc_api.specs.Changing.{EngineAnswer, change_then, changing_call, state_at}
use Rattle.jc_api.specs.Exits.{plainly}
use Rattle.jc_api.specs.Forms.{Output, result_value}
use Rattle.jc_api.proofs.Due.{IsPlainCall, called_ok, called_unless}
use Rattle.jc_api.proofs.Forms.{at_is, told_due}
use Rattle.jc_api.proofs.Passing.{CallPasses}
use Rattle.jc_api.proofs.Plain.{at_faults, plainly_faults}
use Rattle.jc_api.proofs.States.{IsStateStretch, plain_state, state_is}

module _ (P : Effect → MemoryState → Type 0) (L : MemoryState → ℕ → Type 0) (method : PlatformMethod) (args : List Cell) (p : Packages) (m : MemoryState)
    (pass : CallPasses P method args p m) where
  -- cells of a state alone
  set_due : (array start : ℕ) (words : List ℕ) (s : Stretch) → IsStateStretch p m array start (length words) s
      → P (SetTransient s.array s.start (map number_of words)) m
  set_due array start words s is =
      let kept : (facts m.heap.now s.array).event ≡ Some is.event = ap (λ r. (facts m.heap.now r).event) is.stretch.array ∙ is.transient in
      subst (λ event. P (cells_effect_in event s.array s.start words) m) kept
      (pass.stretch array (pos (length words)) s words is.stretch (same_Some (length words) s.count is.stretch.counted))

  change_due : (o : Option Output) (result : Option ℤ) (array start : ℕ) (words : List ℕ) (s : Stretch) → IsStateStretch p m array start (length words) s
      → IsPlainCall P L (change_then o (SetTransient s.array s.start (map number_of words)) p m (return_value (result_value result))) m
  change_due None result array start words s is = (set_due array start words s is, told_due P L result _)
  change_due (Some o) result array start words s is = called_ok P L m (elements_at p m o.array o.start (pos (length o.bytes))) _
      (at_faults p m o.array o.start (pos (length o.bytes)))
      (λ e fine.
      let elements = (at_is p m o e fine).0 in
      let count = same_Some (length o.bytes) e.count elements.counted in
      called_unless P L m (cells_refusal m e.array e.start o.bytes) _ (λ room. (
        pass.stretch o.array (pos (length o.bytes)) e o.bytes elements count,
        (
          pass.behind o.array (pos (length o.bytes)) e o.bytes elements count array (pos (length words)) s words is.event is.stretch is.transient
              (same_Some (length words) s.count is.stretch.counted),
          told_due P L result _,
        ),
      )))

  -- each effect of such a call is due, and it answers plainly
  pub changing_due : (answer : Result EngineAnswer FrameExit) → IsPlainCall P L (changing_call answer p m) m
  changing_due answer = called_ok P L m (plainly answer) _ (plainly_faults answer) (λ a fine.
      called_ok P L m (state_at p m a.state.array a.state.start (length a.state.words)) _
      (plain_state p m a.state.array a.state.start (length a.state.words))
      (λ s there. change_due a.output a.result a.state.array a.state.start a.state.words s
      (state_is p m a.state.array a.state.start (length a.state.words) s there)))
