-- References that a memory keeps, that code begins with, and that it ends with.
use Rattle.std.specs.Prelude.{ℕ, ◌≡◌, ◌<◌, ◌+◌, ◌==◌, true, false, List, [], length, slice_index, Option}
use Rattle.jc_heap.specs.declared.object.Kind.TheVariants.{ReferenceArray}
use Rattle.jc_heap.specs.Heap.{IsObject, cells, facts}
use Rattle.jc_heap.specs.WholeHeap.{IsReference}
use Rattle.jc_frames.specs.declared.outcome.Outcome.{Outcome}
use Rattle.jc_frames.specs.Frames.{Frames, Ends}
use Rattle.jc_memory.specs.Cells.{word_at}
use Rattle.jc_transient.specs.Owners.{owner_number}
use Rattle.jc_memory.specs.Reading.{HasTrace}
use Rattle.jc_memory.specs.State.{MemoryState, Effect, apply_effects}
use Rattle.jc_linker.specs.Classes.{reference_cell}
use Rattle.jc_linker.specs.Lookups.{statics_at}
use Rattle.jc_linker.specs.Values.{Packages}
use Rattle.jc_interp.specs.declared.attacks.Attack.{Attack}
use Rattle.jc_interp.specs.Attacks.{attacked_step}
use Rattle.jc_packages.specs.Objects.{is_persistent_instance}
use Rattle.jc_packages.specs.Sound.{HoldsStatics, package_record_at}
use Rattle.jc_dispatch.specs.Buffer.{apdu_buffer, apdu_object}
use Rattle.jc_dispatch.specs.Phase.{instance_of}
use Rattle.law_soundness.specs.LivingReferences.{IsLivingFrame, IsLivingOutcome}
use Rattle.law_soundness.specs.MemoryLaws.State.{IsSteady}

-- each reference in an array, persistent or transient, in a field and in a static field is null or names an object that is there
pub record NamesObjects (p : Packages) (m : MemoryState) : Type 0 where
  pub elements : (r i : ℕ) → (facts m.heap.now r).kind ≡ ReferenceArray → i < (facts m.heap.now r).length → IsReference m.heap.now (word_at m r i)
  pub fields : (r i : ℕ) → IsObject m.heap.now r → is_persistent_instance (facts m.heap.now r) ≡ true → i < length (cells m.heap.now r)
      → reference_cell p (facts m.heap.now r).class i ≡ true → IsReference m.heap.now (slice_index (cells m.heap.now r) i)
  pub statics : (k : ℕ) → k < length m.heap.now.packages → HoldsStatics m.heap.now (package_record_at m.heap.now k) (statics_at p (k + 1))

-- and each that the runtime environment hands to methods: an applet's instance, the APDU object, the APDU buffer
pub record HandsObjects (m : MemoryState) : Type 0 where
  pub instances : (a : ℕ) → IsReference m.heap.now (instance_of m a)
  pub object : IsReference m.heap.now (apdu_object m)
  pub buffer : IsReference m.heap.now (apdu_buffer m)

-- a method that nothing called may begin so: with such arguments, while no applet is registered but not committed, and not for the
-- runtime environment, if it is a package's
pub record MayBegin (s : Frames) (m : MemoryState) : Type 0 where
  pub first : s.callers ≡ []
  pub living : IsLivingFrame m.heap.now s.current
  pub steady : IsSteady m
  pub owner : s.current.origin.package_number == 0 ≡ false → owner_number m.registers.active ≡ 0 → ⊥

-- where the next step ends the run, also one after a fault, the value that it returns, or the exception that nothing caught, is such a
-- reference
abbrev pub EndsLiving : List ℕ → Packages → Frames → MemoryState → Type 0
EndsLiving lent p s m = (attack : Option Attack) (left : ℕ) (es : List Effect) (o : Outcome) → HasTrace (attacked_step attack left lent p s m) m es (Ends o)
    → IsLivingOutcome (apply_effects es m).heap.now o
