-- Form 1: whatever a call answers that only reads, what it does is due where elements of arrays within reach may be set.
use Rattle.std.proofs.Common.{◌≡◌, ℕ, Bool, true, false, List, length, Option, Some, None, Result, Ok}
use Rattle.std.proofs.lemmas.Option.{same_Some}
use Rattle.std.specs.Prelude.{ℤ, pos}
use Rattle.jc_heap.specs.Heap.{facts}
use Rattle.jc_heap.specs.declared.object.Kind.TheVariants.{ByteArray}
use Rattle.jc_memory.specs.Cells.{cells_refusal}
use Rattle.jc_memory.specs.Changes.{nonatomic_store}
use Rattle.jc_memory.specs.State.{MemoryState, Effect}
use Rattle.jc_platform.specs.declared.names.PlatformMethod.{PlatformMethod}
use Rattle.jc_linker.specs.Values.{Packages}
use Rattle.jc_frames.specs.declared.cell.Cell.{Cell}
use Rattle.jc_frames.specs.declared.outcome.FrameExit.{FrameExit}
use Rattle.jc_world.specs.Arrays.{bytes_argument, elements_of}
use Rattle.jc_world.specs.NativeCalls.{return_value}
use Rattle.jc_world.specs.declared.arrays.Stretch.{Stretch}
use Rattle.jc_api.specs.Arguments.{elements_at}
use Rattle.jc_api.specs.Exits.{plainly}
use Rattle.jc_api.specs.Forms.{CallAnswer, Output, output_then, put_then, reading_call, result_value}
use Rattle.jc_api.proofs.Due.{IsPlainCall, called_after, called_ok, called_unless}
use Rattle.jc_api.proofs.Passing.{CallPasses}
use Rattle.jc_api.proofs.Plain.{at_faults, plainly_faults}
use Rattle.jc_api.proofs.Stretches.{both_ok, IsStretch, stretch_bytes, stretch_is}

-- elements that a form was given: of an array of bytes within reach
pub at_is : (p : Packages) (m : MemoryState) (o : Output) (e : Stretch) → elements_at p m o.array o.start (pos (length o.bytes)) ≡ Ok e
    → IsStretch p m o.array (pos (length o.bytes)) e × ((facts m.heap.now o.array).kind ≡ ByteArray)
unfolding elements_at
at_is p m o e fine =
    let b = both_ok (bytes_argument m o.array) (λ h. elements_of p m o.array h o.start (pos (length o.bytes))) e fine in (
      stretch_is p m o.array o.start (pos (length o.bytes)) e b.0 b.1 b.2,
      stretch_bytes p m o.array o.start (pos (length o.bytes)) e b.0 b.1 b.2,
    )

-- a call that returns a number or nothing
pub told_due : (P : Effect → MemoryState → Type 0) (L : MemoryState → ℕ → Type 0) (result : Option ℤ) (v : MemoryState)
    → IsPlainCall P L (return_value (result_value result)) v
told_due P L None v = tt
told_due P L (Some n) v = tt

module _ (P : Effect → MemoryState → Type 0) (L : MemoryState → ℕ → Type 0) (method : PlatformMethod) (args : List Cell) (p : Packages) (m : MemoryState)
    (pass : CallPasses P method args p m) where
  put_due : (o : Output) (e : Stretch) (result : Option ℤ) → IsStretch p m o.array (pos (length o.bytes)) e → (facts m.heap.now o.array).kind ≡ ByteArray
      → (lasting : Bool) → IsPlainCall P L (put_then lasting o.bytes m e (return_value (result_value result))) m
  put_due o e result is kind false = called_unless P L m (cells_refusal m e.array e.start o.bytes) _
      (λ room. (pass.stretch o.array (pos (length o.bytes)) e o.bytes is (same_Some (length o.bytes) e.count is.counted), told_due P L result _))
  put_due o e result is kind true = called_after P L _ (nonatomic_store m e.array e.start o.bytes) m
      (pass.bytes o.array (pos (length o.bytes)) e o.bytes is (same_Some (length o.bytes) e.count is.counted) kind) (λ u v. told_due P L result v)

  output_due : (o : Option Output) (lasting : Bool) (result : Option ℤ) → IsPlainCall P L (output_then o lasting p m (return_value (result_value result))) m
  output_due None lasting result = told_due P L result m
  output_due (Some o) lasting result = called_ok P L m (elements_at p m o.array o.start (pos (length o.bytes))) _
      (at_faults p m o.array o.start (pos (length o.bytes)))
      (λ e fine. let is = at_is p m o e fine in put_due o e result is.0 is.1 lasting)

  -- each effect of such a call is due, and it answers plainly
  pub reading_due : (answer : Result CallAnswer FrameExit) → IsPlainCall P L (reading_call answer p m) m
  reading_due answer = called_ok P L m (plainly answer) _ (plainly_faults answer) (λ a is. output_due a.output a.lasting a.result)
