-- Cells that methods of the platform set: numbers of an array, and those of an AID.
use Rattle.std.proofs.Common.{◌≡◌, ℕ, ◌+◌, ◌≤◌, Bool, true, false, inl, inr, List, length, Option, Some, None, refl, sym, ◌∙◌, ap}
use Rattle.std.proofs.lemmas.Bool.{and_parts, false_from_ne_true, true≢false}
use Rattle.jc_transient.specs.declared.cell.ClearEvent.{ClearEvent}
use Rattle.jc_heap.specs.declared.object.Kind.{Kind}
use Rattle.jc_heap.specs.declared.object.Kind.TheVariants.{ReferenceArray}
use Rattle.jc_heap.specs.Heap.{facts}
use Rattle.jc_memory.specs.State.{MemoryState}
use Rattle.jc_memory.specs.Cells.{cells_effect, cells_effect_in}
use Rattle.jc_linker.specs.Values.{Packages}
use Rattle.jc_platform.specs.declared.names.PlatformClass.TheVariants.{Aid, OwnerPin}
use Rattle.jc_platform.specs.Hierarchy.{cells_of, is_interface}
use Rattle.jc_platform.specs.Names.{classes}
use Rattle.jc_packages.specs.Objects.{is_instance}
use Rattle.jc_linker.specs.Classes.{is_a}
use Rattle.jc_world.specs.Instances.{IsInstanceWith}
use Rattle.jc_api_framework.specs.Aid.Cells.{cells_of_aid, is_aid_length}
use Rattle.jc_api.proofs.Stretches.{HoldsNumbers}
use Rattle.law_code.proofs.ClassFacts.{numbers_before}
use Rattle.law_code.specs.Classes.{KnowsClasses}
use Rattle.law_soundness.specs.MemoryLaws.Fit.{FitsRun, IsFit}
use Rattle.law_soundness.specs.MemoryLaws.State.{IsSoundMemory}
use Rattle.law_soundness.proofs.RunObjects.{instance_no_array, kept_fits}
use Rattle.law_soundness.proofs.Below.{aid_no_pin}
use Rattle.law_soundness.proofs.Transients.{numbers_fit}

-- elements of an array of numbers may be set
module _ (p : Packages) (m : MemoryState) (r i : ℕ) (words : List ℕ) where
  pub run_in : (event : Option ClearEvent) → (facts m.heap.now r).event ≡ event → i + length words ≤ (facts m.heap.now r).length → FitsRun p m r i words → IsFit p (cells_effect_in event r i words) m
  run_in None is within fits = ((is, within), fits)
  run_in (Some event) is within fits = numbers_fit m r i words within fits.1

  numbers_run : (kind : Kind) → (facts m.heap.now r).kind ≡ kind → HoldsNumbers kind → FitsRun p m r i words
  numbers_run kind is numbers = (
    λ stays. absurd (true≢false (sym (and_parts (is_instance (facts m.heap.now r).kind) _ stays).0 ∙ ap is_instance is ∙ no_instance kind numbers)),
    λ array. absurd (true≢false (ap has_references (sym array ∙ is) ∙ no_references kind numbers)),
  )
    where
      has_references : Kind → Bool
      has_references ReferenceArray = true
      has_references _ = false

      no_instance : (kind : Kind) → HoldsNumbers kind → is_instance kind ≡ false
      no_instance kind (inl e) = ap is_instance e
      no_instance kind (inr e) = ap is_instance e

      no_references : (kind : Kind) → HoldsNumbers kind → has_references kind ≡ false
      no_references kind (inl e) = ap has_references e
      no_references kind (inr e) = ap has_references e

  pub elements_fit : HoldsNumbers (facts m.heap.now r).kind → i + length words ≤ (facts m.heap.now r).length → IsFit p (cells_effect m r i words) m
  elements_fit numbers within = run_in (facts m.heap.now r).event refl within (numbers_run (facts m.heap.now r).kind refl numbers)

-- the constructor of AID, on an instance that is none of the runtime environment's
module _ (p : Packages) (m : MemoryState) (known : KnowsClasses p) (sound : IsSoundMemory p m) where
  pub aid_fits : (own : ℕ) (bytes : List ℕ) → is_a p (facts m.heap.now own).class Aid ≡ true → ((facts m.heap.now own).owner ≡ 0 → ⊥) → IsInstanceWith m own 9
      → is_aid_length (length bytes) ≡ true → FitsRun p m own 0 (cells_of_aid bytes)
  unfolding cells_of is_interface classes
  aid_fits own bytes class owned there fine = (
    λ stays. inl (let instances = kept_fits p m sound own there.there stays in record {
      bytes = bytes;
      first = refl;
      is = refl;
      long = fine;
      numbers = λ k lt. known.platform.kinds (facts m.heap.now own).class k Aid instances refl class lt ∙ numbers_before Aid 9 refl k lt;
      pin = false_from_ne_true (is_a p (facts m.heap.now own).class OwnerPin) (aid_no_pin p known (facts m.heap.now own).class instances class);
      apart = λ a lt same. owned (ap (λ r. (facts m.heap.now r).owner) (sym same) ∙ (sound.now.aids a lt).environments);
    }),
    λ array. absurd (instance_no_array (facts m.heap.now own).kind (ap is_instance there.instance) array),
  )
