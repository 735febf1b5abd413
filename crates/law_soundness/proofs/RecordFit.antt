-- The record of a package that a load brings fits what was linked of it.
use Rattle.std.proofs.Common.{◌≡◌, ℕ, ◌+◌, ◌-◌, ◌*◌, ◌<◌, ◌==◌, true, inl, inr, List, [], ◌∷◌, ◌++◌, length, get_or, replicate, refl, sym, ◌∙◌, ap, subst}
use Rattle.std.proofs.Common.{arith, Some, None, if◌then◌else◌}
use Rattle.std.specs.Prelude.{slice_get}
use Rattle.std.proofs.lemmas.Bool.{cases_lt, eq-eqb, ne_eqb, or_left, or_right}
use Rattle.std.proofs.lemmas.List.{length-append, length-map, length-replicate}
use Rattle.jc_cap.specs.StaticValues.{StaticParts}
use Rattle.jc_cap.specs.declared.texts.PackageBytes.{PackageBytes}
use Rattle.jc_heap.specs.Heap.{HeapState, IsObject}
use Rattle.jc_heap.specs.HeapLaws.{IsConsistentHeap}
use Rattle.jc_heap.specs.Package.{array_addresses, components_words, package_owner, package_record, push_package, record_size}
use Rattle.jc_heap.proofs.KeepingPackages.{end-push}
use Rattle.jc_heap.proofs.NewPackages.{length-package_record, top-push}
use Rattle.jc_linker.specs.Classes.{package_in}
use Rattle.jc_linker.specs.Lookups.{statics_at, statics_of as statics_in}
use Rattle.jc_linker.specs.Values.{PackageValue, Packages}
use Rattle.jc_linker.specs.Linking.{with_package}
use Rattle.jc_packages.specs.RecordContents.{array_of, arrays_of, image_of, parts_of, statics_of, zeros_of}
use Rattle.jc_packages.specs.PendingPackages.{PendingPackageValue}
use Rattle.jc_packages.specs.Objects.{is_reference, is_object_address}
use Rattle.jc_packages.specs.Sound.{HoldsStatics}
use Rattle.law_soundness.specs.Loads.{RecordsFit, with_record}
use Rattle.jc_packages.proofs.RecordArrays.{arrays_stand}
use Rattle.jc_packages.proofs.LoadImages.{address_is, null_is}
use Rattle.law_soundness.proofs.PreparedPackages.{IsPrepared, adds_up, image_references_is, image_size_is, initial_arrays, is_prepared, some_parts, tagged_parts}
use Rattle.law_soundness.proofs.LoadRecords.{fits_grown, image_held}

-- the last package's static image
slice_last : {A : Type 0} (xs : List A) (y : A) → slice_get (xs ++ y ∷ []) (length xs) ≡ Some y
slice_last [] y = refl
slice_last (x ∷ xs) y = slice_last xs y

package_last : (p : Packages) (q : PackageValue) → package_in (with_package p q) (length p.loaded + 1) ≡ Some q
unfolding package_in
package_last p q =
    ap (λ b. if b then None else slice_get (p.loaded ++ q ∷ []) (length p.loaded + 1 - 1)) (ne_eqb (length p.loaded + 1) 0 (λ e. omega (arith, e)))
    ∙ ap (slice_get (p.loaded ++ q ∷ [])) (omega arith)
    ∙ slice_last p.loaded q

statics_last : (p : Packages) (q : PackageValue) (n : ℕ) → n ≡ length p.loaded → statics_at (with_package p q) (n + 1) ≡ (q.image_size, q.image_references)
unfolding statics_at
statics_last p q n is = ap (λ k. statics_in (package_in (with_package p q) (k + 1))) is ∙ ap statics_in (package_last p q)

module _ (h : HeapState) (t : PackageBytes) (s : IsConsistentHeap h) where
  abbrev parts : StaticParts
  parts = statics_of t

  abbrev words : List ℕ
  words = package_record h.top (parts_of t) (arrays_of parts) (image_of parts)

  abbrev g : HeapState
  g = with_record h t

  abbrev begin : ℕ
  begin = 2 + length (components_words (parts_of t))

  arrays_long : length (arrays_of parts) ≡ length parts.arrays
  arrays_long = length-map parts.arrays array_of

  image_long : length (image_of parts) ≡ zeros_of parts + length parts.non_default_values
  image_long = length-append (replicate (zeros_of parts) 0) parts.non_default_values
      ∙ ap (λ n. n + length parts.non_default_values) (length-replicate {A = ℕ} (zeros_of parts) 0)

  some_words : 0 < length words
  unfolding package_record
  some_words = omega arith

  array_there : (i : ℕ) → i < length (arrays_of parts) → IsObject g (get_or words (begin + i) 0)
  array_there i lt =
      let long : length words ≡ record_size (parts_of t) (arrays_of parts) (image_of parts) =
      length-package_record h.top (parts_of t) (arrays_of parts) (image_of parts) in
      let top : (push_package h words).top ≡ h.top + record_size (parts_of t) (arrays_of parts) (image_of parts) = top-push h words
      ∙ ap (λ n. h.top + n) long in
      subst (IsObject g) (ap (λ at. get_or (array_addresses at (arrays_of parts)) i 0) top
      ∙ sym (address_is h.top (parts_of t) (arrays_of parts) (image_of parts) i lt))
      (arrays_stand (push_package h words) (package_owner (h.counts.0 + 1)) (arrays_of parts) (end-push h words some_words s.end) i lt)

  refers : (i : ℕ) → i < parts.reference_count → is_reference g (get_or words (begin + i) 0) ≡ true
  refers i lt = elim (cases_lt i (length (arrays_of parts))) [
    | inl array ↦ or_right (get_or words (begin + i) 0 == 0) (is_object_address g (get_or words (begin + i) 0)) (array_there i array)
    | inr behind ↦ or_left (get_or words (begin + i) 0 == 0) (is_object_address g (get_or words (begin + i) 0))
        (eq-eqb (get_or words (begin + i) 0) 0 (null_is h.top (parts_of t) (arrays_of parts) (zeros_of parts) parts.non_default_values i behind
        (omega (arith, behind, lt, arrays_long))))
  ]

  held : (p : Packages) (q : PendingPackageValue) → IsPrepared p q → q.texts ≡ t → HoldsStatics g words (parts.image_size, parts.reference_count)
  held p q is same =
      let all : 2 * length parts.arrays + (zeros_of parts + length parts.non_default_values) ≡ parts.image_size =
      subst (λ x. 2 * length (statics_of x).arrays + (zeros_of (statics_of x) + length (statics_of x).non_default_values) ≡ (statics_of x).image_size)
      same (adds_up p q is) in
      image_held h (parts_of t) (arrays_of parts) (image_of parts) s parts.image_size parts.reference_count (tagged_parts t) (some_parts t)
      (omega (arith, all, arrays_long, image_long)) refers

new_holds : (p : Packages) (q : PendingPackageValue) (h : HeapState) → IsPrepared p q → length h.packages ≡ length p.loaded → IsConsistentHeap h →
    HoldsStatics (with_record h q.texts) (package_record h.top (parts_of q.texts) (arrays_of (statics_of q.texts)) (image_of (statics_of q.texts)))
    (statics_at (with_package p q.linked) (length h.packages + 1))
new_holds p q h is loaded s =
    let said : statics_at (with_package p q.linked) (length h.packages + 1) ≡ ((statics_of q.texts).image_size, (statics_of q.texts).reference_count) =
    statics_last p q.linked (length h.packages) loaded ∙ (λ i. (image_size_is p q is i, image_references_is p q is i)) in
    subst (HoldsStatics (with_record h q.texts) (package_record h.top (parts_of q.texts) (arrays_of (statics_of q.texts)) (image_of (statics_of q.texts))))
    (sym said) (held h q.texts s p q is refl)

pub records_fit : RecordsFit
records_fit = λ most p load q h own is loaded counted s behind old.
    fits_grown h (parts_of q.texts) (arrays_of (statics_of q.texts)) (image_of (statics_of q.texts)) s most own (with_package p q.linked)
    (initial_arrays (statics_of q.texts).arrays) counted (new_holds p q h (is_prepared p load q is) loaded s) old
