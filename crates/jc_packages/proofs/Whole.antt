-- A heap with one package more stays whole.
use Rattle.std.proofs.Common.{◌≡◌, ℕ, ◌+◌, ◌<◌, List, [], ◌∷◌, ◌++◌, length, refl, ap, subst, arith}
use Rattle.std.proofs.lemmas.List.{length-append}
use Rattle.jc_words.specs.Layout.{most_packages}
use Rattle.jc_heap.specs.declared.object.Kind.{Kind}
use Rattle.jc_heap.specs.Heap.{HasEnd, HeapState}
use Rattle.jc_heap.specs.HeapLaws.{IsConsistentHeap}
use Rattle.jc_heap.specs.Package.{AreArrays, add_package, array_addresses, components_words, package_owner, package_record, push_package, record_size}
use Rattle.jc_heap.specs.Packed.{packed_words}
use Rattle.jc_heap.specs.WholeHeap.{IsConsistent}
use Rattle.jc_heap.proofs.KeepingPackages.{package_whole}
use Rattle.jc_heap.proofs.NewPackages.{top-package}
use Rattle.jc_heap.proofs.Packing.{length-array_addresses}
use Rattle.jc_packages.proofs.RecordArrays.{AreInitial, arrays_whole}

-- bytes that are packed to these words
abbrev spread : List ℕ → List ℕ
spread [] = []
spread (w ∷ ws) = 0 ∷ w ∷ spread ws

packed_spread : (ws rest : List ℕ) → packed_words (spread ws ++ rest) ≡ ws ++ packed_words rest
packed_spread [] rest = refl
packed_spread (w ∷ ws) rest = let e : 0 + w ≡ w = omega arith in λ i. e i ∷ packed_spread ws rest i

module _ (h : HeapState) (cs : List (ℕ × List ℕ)) (xs : List (Kind × List ℕ)) (rest : List ℕ) where
  abbrev addresses : List ℕ
  addresses = array_addresses (h.top + record_size cs xs rest) xs

  -- the same record is that of a package with no arrays
  abbrev other : List ℕ
  other = spread addresses ++ rest

  size_alike : record_size cs [] other ≡ record_size cs xs rest
  unfolding record_size
  size_alike = omega (
    arith,
    ap length (packed_spread addresses rest),
    length-append addresses (packed_words rest),
    length-array_addresses (h.top + record_size cs xs rest) xs,
  )

  record_alike : package_record h.top cs [] other ≡ package_record h.top cs xs rest
  unfolding package_record
  record_alike = λ t. size_alike t ∷ (components_words cs ++ 0 ∷ packed_spread addresses rest t)

  no_arrays : AreArrays []
  no_arrays = record { kinds = λ k lt. absurd (omega arith); sizes = λ k lt. absurd (omega arith) }

  pushed_whole : h.counts.0 < most_packages → HasEnd h → IsConsistent h → IsConsistent (push_package h (package_record h.top cs xs rest))
      × HasEnd (push_package h (package_record h.top cs xs rest))
  pushed_whole few end w = subst (λ words. IsConsistent (push_package h words) × HasEnd (push_package h words)) record_alike
      (package_whole h cs [] other few no_arrays end w)

  pub package_stands : h.counts.0 < most_packages → AreInitial xs → IsConsistentHeap h → IsConsistentHeap (add_package h cs xs rest)
  package_stands few kinds s =
      let first = pushed_whole few s.end s.whole in
      let all = arrays_whole (push_package h (package_record h.top cs xs rest)) (package_owner (h.counts.0 + 1)) xs kinds first.1 first.0 in
      record { whole = all.0; end = all.1; some = omega (arith, s.some, top-package h cs xs rest) }
