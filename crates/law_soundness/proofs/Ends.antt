-- The end of a load leaves the packages that are read.
use Rattle.std.proofs.Common.{◌≡◌, ℕ, false, Bool, true, inl, inr, List, length, refl, sym, ◌∙◌, ap, subst, Option, Some, None, Result, Ok, Err, if◌then◌else◌}
use Rattle.std.proofs.Common.{nat_le}
use Rattle.std.specs.Prelude.{IfSome, is_none}
use Rattle.jc_cap.specs.declared.texts.LoadedComponents.{LoadedComponents}
use Rattle.jc_heap.specs.declared.object.Kind.{Kind}
use Rattle.jc_heap.specs.declared.refusal.HeapRefusal.{HeapRefusal}
use Rattle.jc_heap.specs.Heap.{HeapState}
use Rattle.jc_heap.specs.HeapLaws.{AreConsistent}
use Rattle.jc_heap.specs.Moves.{AddPackage, refusal_of_package}
use Rattle.jc_heap.specs.Completions.{Done}
use Rattle.jc_memory.specs.Programs.{Completes, Program, Finish, TearLeaves, Choose, Perform, bind, unless_refused}
use Rattle.jc_memory.specs.State.{MemoryState, HeapMove}
use Rattle.jc_linker.specs.Values.{Packages}
use Rattle.jc_platform.specs.Tokens.{Tokens}
use Rattle.jc_packages.specs.RecordContents.{arrays_of, image_of, parts_of, statics_of}
use Rattle.jc_packages.specs.PendingPackages.{PendingPackageValue, linked_components}
use Rattle.jc_packages.specs.Reading.{packages_of}
use Rattle.jc_packages.specs.declared.load_refusal.LoadRefusal.{LoadRefusal}
use Rattle.jc_packages.specs.declared.load.OpenLoad.{OpenLoad}
use Rattle.jc_packages.specs.LoadEnd.{LoadResult, assembly_result, after_addition, after_preparation, end_of_load}
use Rattle.law_soundness.specs.StableReading.{IsReadAs}
use Rattle.law_soundness.specs.LoadedPackages.{IsReadable}
use Rattle.law_soundness.specs.ReadingLoads.{IsOpenReadable, LoadEndsKeepReading}
use Rattle.law_soundness.proofs.AddedPackages.{read_back}

-- one way or the other
either : (P : Program LoadResult → Type 0) (G : Type 0) (b : Bool) (x y : Program LoadResult) → (P x → G) → (P y → G) → P (if b then x else y) → G
either P G true x y first second d = first d
either P G false x y first second d = second d

-- a package's record is written, or there is a reason against it
abbrev writes : Packages → PendingPackageValue → MemoryState → Option HeapRefusal → List (ℕ × List ℕ) → List (Kind × List ℕ) → List ℕ → Program LoadResult
writes p q m reason cs xs image = bind (unless_refused reason (Choose (λ r. Perform (HeapMove (AddPackage cs xs image)) (Finish (Done r))))) m
    (λ answer after. after_addition p q answer)

-- ---- what a loss of power leaves

module _ (t : Tokens) (p : Packages) (m : MemoryState) (passed : ℕ) (h : HeapState) (r : IsReadAs t p m) where
  abbrev Before : Type 0
  Before = packages_of t h ≡ Some p

  lost_writing : (q : PendingPackageValue) (reason : Option HeapRefusal) (cs : List (ℕ × List ℕ)) (xs : List (Kind × List ℕ)) (image : List ℕ)
      → TearLeaves (writes p q m reason cs xs image) m passed h → Before
  lost_writing q None cs xs image (at, new, inl e) = ap (packages_of t) e.0 ∙ r.durable
  lost_writing q None cs xs image (at, new, inr none) = absurd none
  lost_writing q (Some reason) cs xs image none = absurd none

  lost_prepared : (said : Result PendingPackageValue LoadRefusal) → TearLeaves (after_preparation p m said) m passed h → Before
  lost_prepared (Err refusal) none = absurd none
  lost_prepared (Ok q) d =
      let cs : List (ℕ × List ℕ) = parts_of q.texts in
      let xs : List (Kind × List ℕ) = arrays_of (statics_of q.texts) in
      let image : List ℕ = image_of (statics_of q.texts) in
      either (λ x. TearLeaves x m passed h) Before (nat_le 32 (length m.heap.now.packages)) _ _ (λ none. absurd none)
      (lost_writing q (refusal_of_package m.heap cs xs image) cs xs image) d

  lost_coming : (texts : LoadedComponents) → TearLeaves (assembly_result p m texts) m passed h → Before
  unfolding assembly_result
  lost_coming texts (inl d) = lost_prepared (linked_components p texts) d
  lost_coming texts (inr none) = absurd none

  lost_ending : (load : Option OpenLoad) → TearLeaves (end_of_load p m load) m passed h → Before
  lost_ending None none = absurd none
  lost_ending (Some load) d = either (λ x. TearLeaves x m passed h) Before (is_none load.coming) _ _ (lost_coming load.texts) (λ none. absurd none) d

-- ---- what the end leaves

module _ (t : Tokens) (p : Packages) (m new : MemoryState) (left : LoadResult) (w : AreConsistent m.heap) (off : m.heap.begun ≡ false)
    (r : IsReadAs t p m) where
  abbrev Reads : LoadResult → MemoryState → Type 0
  Reads l n = IsReadAs t l.packages n × IfSome l.load IsOpenReadable

  leaves : (l : LoadResult) (n : MemoryState) → left ≡ l → new ≡ n → Reads l n → Reads left new
  leaves l n same stays reads = subst (λ x. Reads x new) (sym same) (subst (Reads l) (sym stays) reads)

  done_writing : (load : LoadedComponents) (q : PendingPackageValue) (reason : Option HeapRefusal) (xs : List (Kind × List ℕ)) (image : List ℕ)
      → IsReadable load → linked_components p load ≡ Ok q →
      Completes (writes p q m reason (parts_of q.texts) xs image) m left new → Reads left new
  done_writing load q None xs image readable made (at, chosen, d) = leaves _ _ d.0 d.1 (read_back.memory t p load q m xs image readable made w off r, tt)
  done_writing load q (Some reason) xs image readable made d = leaves _ _ d.0 d.1 (r, tt)

  done_prepared : (load : LoadedComponents) (said : Result PendingPackageValue LoadRefusal) → IsReadable load → linked_components p load ≡ said
      → Completes (after_preparation p m said) m left new → Reads left new
  done_prepared load (Err refusal) readable made d = leaves _ _ d.0 d.1 (r, tt)
  done_prepared load (Ok q) readable made d =
      let xs : List (Kind × List ℕ) = arrays_of (statics_of q.texts) in
      let image : List ℕ = image_of (statics_of q.texts) in
      either (λ x. Completes x m left new) (Reads left new) (nat_le 32 (length m.heap.now.packages)) _ _ (λ full. leaves _ _ full.0 full.1 (r, tt))
      (done_writing load q (refusal_of_package m.heap (parts_of q.texts) xs image) xs image readable made) d

  done_coming : (load : LoadedComponents) → IsReadable load → Completes (assembly_result p m load) m left new → Reads left new
  unfolding assembly_result
  done_coming load readable (inl d) = done_prepared load (linked_components p load) readable refl d
  done_coming load readable (inr d) = leaves _ _ d.0 d.1 (r, tt)

  done_ending : (load : Option OpenLoad) → IfSome load IsOpenReadable → Completes (end_of_load p m load) m left new → Reads left new
  done_ending None readable d = leaves _ _ d.0 d.1 (r, tt)
  done_ending (Some load) readable d = either (λ x. Completes x m left new) (Reads left new) (is_none load.coming) _ _ (done_coming load.texts readable.texts)
      (λ kept. leaves _ _ kept.0 kept.1 (r, readable)) d

pub ends_keep : LoadEndsKeepReading
ends_keep = record {
  done = λ t p load m new left readable w off r d. done_ending t p m new left w off r load readable d;
  lost = λ t p load m passed h r d. lost_ending t p m passed h r load d;
}
