-- A package that is added is read after the others.
use Rattle.std.proofs.Common.{◌≡◌, ℕ, ◌+◌, ◌<◌, false, inl, inr, List, [], ◌∷◌, ◌++◌, map, length, get_or, refl, sym, ◌∙◌, ap, arith, Option, Some, None, Ok}
use Rattle.std.proofs.Common.{if◌then◌else◌}
use Rattle.std.specs.Option.{option_and_then}
use Rattle.std.proofs.lemmas.List.{map-append}
use Rattle.std.proofs.lemmas.Bool.{cases_lt, false≢true}
use Rattle.jc_cap.specs.declared.texts.LoadedComponents.{LoadedComponents}
use Rattle.jc_heap.specs.declared.object.Kind.{Kind}
use Rattle.jc_heap.specs.Component.{record_of, words_of}
use Rattle.jc_heap.specs.Heap.{HeapState, add_object, heap_item_at}
use Rattle.jc_heap.specs.HeapLaws.{AreConsistent, IsConsistentHeap}
use Rattle.jc_heap.specs.Moves.{AddPackage}
use Rattle.jc_heap.specs.Object.{APackage}
use Rattle.jc_heap.specs.Package.{add_arrays, add_package, array_object, array_size, package_owner, package_record, push_package}
use Rattle.jc_heap.proofs.NewPackages.{item-package, top-push}
use Rattle.jc_heap.proofs.Tables.{at_or-push_other}
use Rattle.jc_memory.specs.State.{MemoryState, HeapMove, apply_effect}
use Rattle.jc_linker.specs.Values.{Packages}
use Rattle.jc_platform.specs.Tokens.{Tokens}
use Rattle.jc_linker.specs.Linking.{with_package}
use Rattle.jc_packages.specs.RecordContents.{parts_of}
use Rattle.jc_packages.specs.PendingPackages.{PendingPackageValue, linked_components}
use Rattle.jc_packages.specs.Reading.{load_of, packages_of, with_prepared, with_records}
use Rattle.law_soundness.specs.StableReading.{IsReadAs}
use Rattle.law_soundness.specs.LoadedPackages.{IsReadable, LoadedPackagesReadBack}
use Rattle.law_soundness.proofs.ReadingHeaps.{records_same}
use Rattle.law_soundness.proofs.RecordPackages.{Prepares, are_read, assembled_is, has_all, prepares}
use Rattle.law_soundness.proofs.ReadingTexts.{AreRead, load_back}
use Rattle.jc_packages.proofs.RecordArrays.{item_behind}
use Rattle.law_soundness.proofs.Objects.{packages-add_object}

-- ---- what stands in the heap

packages-push : (h : HeapState) (words : List ℕ) → (push_package h words).packages ≡ h.packages ++ h.top ∷ []
unfolding push_package
packages-push h words = refl

packages-arrays : (h : HeapState) (owner : ℕ) (xs : List (Kind × List ℕ)) → (add_arrays h owner xs).packages ≡ h.packages
packages-arrays h owner [] = refl
packages-arrays h owner (x ∷ xs) = packages-arrays (add_object h (array_object owner x) (array_size x)) owner xs
    ∙ packages-add_object h (array_object owner x) (array_size x)

pub item-push_other : (h : HeapState) (words : List ℕ) (q : ℕ) → q < h.top → heap_item_at (push_package h words) q ≡ heap_item_at h q
unfolding push_package heap_item_at
item-push_other h words q lt = at_or-push_other (APackage []) h.items h.top q (APackage words) (λ e. omega (arith, e, lt))

module _ (h : HeapState) (cs : List (ℕ × List ℕ)) (xs : List (Kind × List ℕ)) (rest : List ℕ) where
  abbrev g : HeapState
  g = add_package h cs xs rest

  packages-added : g.packages ≡ h.packages ++ h.top ∷ []
  packages-added = packages-arrays (push_package h (package_record h.top cs xs rest)) (package_owner (h.counts.0 + 1)) xs
      ∙ packages-push h (package_record h.top cs xs rest)

  record-low : (q : ℕ) → q < h.top → record_of g q ≡ record_of h q
  record-low q lt =
      let top = top-push h (package_record h.top cs xs rest) in
      ap words_of (item_behind (push_package h (package_record h.top cs xs rest)) (package_owner (h.counts.0 + 1)) xs q (omega (arith, top, lt))
      ∙ item-push_other h (package_record h.top cs xs rest) q lt)

  module _ (s : IsConsistentHeap h) where
    low : (k : ℕ) → k < length h.packages → get_or h.packages k 0 < h.top
    low k lt = elim (cases_lt (get_or h.packages k 0) h.top) [
      | inl below ↦ below
      | inr above ↦ absurd (false≢true (sym (s.end (get_or h.packages k 0) above) ∙ s.whole.met k lt))
    ]

    record-new : record_of g h.top ≡ package_record h.top cs xs rest
    record-new = ap words_of (item-package h cs xs rest (s.end h.top (omega arith)))

-- ---- what is read

and_then-more : (f g k : Packages → Option Packages) (o : Option Packages) → ((q : Packages) → f q ≡ option_and_then g (k q))
    → option_and_then f o ≡ option_and_then g (option_and_then k o)
and_then-more f g k None same = refl
and_then-more f g k (Some q) same = same q

records-more : (p : Packages) (front back : List (List ℕ)) → with_records p (front ++ back) ≡ option_and_then (λ q. with_records q back) (with_records p front)
records-more p [] back = refl
records-more p (words ∷ front) back =
    and_then-more (λ q. with_records q (front ++ back)) (λ q. with_records q back) (λ q. with_records q front)
    (with_prepared p (linked_components p (load_of words))) (λ q. records-more q front back)

module _ (t : Tokens) (p : Packages) (load : LoadedComponents) (q : PendingPackageValue) (readable : IsReadable load)
    (made : linked_components p load ≡ Ok q) where
  done : Prepares p load q
  done = prepares p load q made

  all_read : AreRead q.texts
  all_read = are_read load q.texts done.contents readable (has_all load q.texts (assembled_is load q.texts done.assembled).0) done.read

  record_prepared : (at : ℕ) (xs : List (Kind × List ℕ)) (rest : List ℕ) → with_records p (package_record at (parts_of q.texts) xs rest ∷ [])
      ≡ Some (with_package p q.linked)
  record_prepared at xs rest = ap (λ r. option_and_then (λ n. with_records n []) (with_prepared p r))
      (ap (linked_components p) (load_back at q.texts xs rest all_read) ∙ done.again)

  package_read : (h : HeapState) (xs : List (Kind × List ℕ)) (rest : List ℕ) → IsConsistentHeap h → packages_of t h ≡ Some p
      → packages_of t (add_package h (parts_of q.texts) xs rest) ≡ Some (with_package p q.linked)
  unfolding packages_of
  package_read h xs rest s read =
      let cs : List (ℕ × List ℕ) = parts_of q.texts in
      let g : HeapState = add_package h cs xs rest in
      let none : Packages = record { platform = t; loaded = [] } in
      let new : List ℕ = record_of g h.top in
      ap (λ l. with_records none (map (record_of g) l)) (packages-added h cs xs rest)
      ∙ ap (with_records none) (map-append (record_of g) h.packages (h.top ∷ []))
      ∙ records-more none (map (record_of g) h.packages) (record_of g h.top ∷ [])
      ∙ ap (option_and_then (λ n. with_records n (record_of g h.top ∷ []))) (records_same h g none h.packages
      (λ k lt. ap load_of (record-low h cs xs rest (get_or h.packages k 0) (low h cs xs rest s k lt))) ∙ read)
      ∙ ap (λ words. with_records p (words ∷ [])) (record-new h cs xs rest s)
      ∙ record_prepared h.top xs rest

  memory_read : (m : MemoryState) (xs : List (Kind × List ℕ)) (rest : List ℕ) → AreConsistent m.heap → m.heap.begun ≡ false → IsReadAs t p m
      → IsReadAs t (with_package p q.linked) (apply_effect (HeapMove (AddPackage (parts_of q.texts) xs rest)) m)
  memory_read m xs rest w off r =
      let now : packages_of t (add_package m.heap.now (parts_of q.texts) xs rest) ≡ Some (with_package p q.linked) =
      package_read m.heap.now xs rest w.now r.now in
      record { now = now; durable = ap (λ b. packages_of t (if b then m.heap.durable else add_package m.heap.now (parts_of q.texts) xs rest)) off ∙ now }

pub read_back : LoadedPackagesReadBack
read_back = record {
  heap = λ t p load q h arrays image readable made s read. package_read t p load q readable made h arrays image s read;
  memory = λ t p load q m arrays image readable made w off r. memory_read t p load q readable made m arrays image w off r;
}
