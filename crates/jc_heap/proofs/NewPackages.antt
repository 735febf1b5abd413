-- A new package through the journal: fresh words, then its address, the number of packages and the top.
use Rattle.std.proofs.Common.{◌≡◌, ℕ, zero, suc, ◌+◌, ◌<◌, ◌≤◌, false, List, [], ◌∷◌, length, get_or, refl, sym, ◌∙◌, ap, subst, arith, true}
use Rattle.std.proofs.lemmas.List.{length-append, length-take-le, get_or-take}
use Rattle.jc_words.specs.Layout.{top_address, packages_address, addresses_start, most_packages, text_start}
use Rattle.jc_commit.specs.Image.{with_words, IsPlace}
use Rattle.jc_commit.specs.Keep.{has_room_for as journal_room}
use Rattle.jc_commit.specs.State.{State, Changes, keeping as journal_keeping}
use Rattle.jc_heap.proofs.JournalViews.{keeping_view}
use Rattle.jc_heap.specs.declared.object.Kind.{Kind}
use Rattle.jc_heap.specs.Object.{APackage, header_only}
use Rattle.jc_heap.specs.Image.{IsWellFormed}
use Rattle.jc_heap.specs.Fresh.{KeepsBelow, Fills}
use Rattle.jc_heap.specs.Heap.{HeapState, HeapView, heap_view, read_image, heap_of, add_object, end_address, heap_after_change, has_room_for, IsSound}
use Rattle.jc_heap.specs.Heap.{SameShape, is_allocated, heap_item_at}
use Rattle.jc_heap.specs.Package.{components_words, image_words, record_size, package_record, package_size, package_owner, package_words, addresses_of_package}
use Rattle.jc_heap.specs.Package.{push_package, add_arrays, add_package, array_object, array_size, arrays_words, array_addresses, AreArraysOfBytes}
use Rattle.jc_heap.specs.Packed.{packed_words}
use Rattle.jc_heap.proofs.Tables.{at_or-push_same, at_or-push_other, has-push}
use Rattle.jc_heap.proofs.Laws.{shape-add, heap_item_at-add_other, top-add_object}
use Rattle.jc_heap.proofs.Packing.{length-arrays_words, length-array_addresses}
use Rattle.jc_heap.proofs.PackageAdded.{heap_of-packaged, laid-packaged, top-packaged}
use Rattle.jc_heap.proofs.NewObjects.{view_then, sound_then}

-- shapes stay
pub shape-push : (d h : HeapState) (words : List ℕ) → d.top ≤ h.top → SameShape d h → SameShape d (push_package h words)
unfolding push_package heap_item_at is_allocated
shape-push d h words le s = record {
  items = λ q lt. ap header_only (at_or-push_other (APackage []) h.items h.top q (APackage words) (λ e. omega arith)) ∙ s.items q lt;
  names = λ q lt. has-push h.items h.top q (APackage words) (λ e. omega arith) ∙ s.names q lt;
  lasting = s.lasting;
}

shape-arrays : (d h : HeapState) (owner : ℕ) (xs : List (Kind × List ℕ)) → d.top ≤ h.top → SameShape d h → SameShape d (add_arrays h owner xs)
shape-arrays d h owner [] le s = s
shape-arrays d h owner (x ∷ xs) le s =
    shape-arrays d (add_object h (array_object owner x) (array_size x)) owner xs (omega (arith, top-add_object h (array_object owner x) (array_size x)))
    (shape-add d h (array_object owner x) (array_size x) le s)

pub top-push : (h : HeapState) (words : List ℕ) → (push_package h words).top ≡ h.top + length words
unfolding push_package
top-push h words = refl

top-arrays : (h : HeapState) (owner : ℕ) (xs : List (Kind × List ℕ)) → h.top ≤ (add_arrays h owner xs).top
top-arrays h owner [] = omega arith
top-arrays h owner (x ∷ xs) = omega (
  arith,
  top-arrays (add_object h (array_object owner x) (array_size x)) owner xs,
  top-add_object h (array_object owner x) (array_size x),
)

-- a package leaves what stood, and moves the end on
pub shape-package : (d h : HeapState) (cs : List (ℕ × List ℕ)) (xs : List (Kind × List ℕ)) (rest : List ℕ) → d.top ≤ h.top → SameShape d h
    → SameShape d (add_package h cs xs rest)
shape-package d h cs xs rest le s =
    shape-arrays d (push_package h (package_record h.top cs xs rest)) (package_owner (h.counts.0 + 1)) xs
    (omega (arith, le, top-push h (package_record h.top cs xs rest)))
    (shape-push d h (package_record h.top cs xs rest) le s)

pub top-package : (h : HeapState) (cs : List (ℕ × List ℕ)) (xs : List (Kind × List ℕ)) (rest : List ℕ) → h.top ≤ (add_package h cs xs rest).top
top-package h cs xs rest =
    omega (
      arith,
      top-arrays (push_package h (package_record h.top cs xs rest)) (package_owner (h.counts.0 + 1)) xs,
      top-push h (package_record h.top cs xs rest),
    )

-- what stands at a new package's address
item-push : (h : HeapState) (words : List ℕ) → is_allocated h h.top ≡ false → heap_item_at (push_package h words) h.top ≡ APackage words
unfolding push_package heap_item_at is_allocated
item-push h words free = at_or-push_same (APackage []) h.items h.top (APackage words) free

item-arrays : (h : HeapState) (owner : ℕ) (xs : List (Kind × List ℕ)) (q : ℕ) → q < h.top → heap_item_at (add_arrays h owner xs) q ≡ heap_item_at h q
item-arrays h owner [] q lt = refl
item-arrays h owner (x ∷ xs) q lt =
    item-arrays (add_object h (array_object owner x) (array_size x)) owner xs q (omega (arith, top-add_object h (array_object owner x) (array_size x)))
    ∙ heap_item_at-add_other h (array_object owner x) (array_size x) q (λ e. omega arith)

pub length-package_record : (at : ℕ) (cs : List (ℕ × List ℕ)) (xs : List (Kind × List ℕ)) (rest : List ℕ)
    → length (package_record at cs xs rest) ≡ record_size cs xs rest
unfolding package_record record_size
length-package_record at cs xs rest =
    let first : ℕ = at + (length (components_words cs) + (length xs + length (packed_words rest)) + 2) in
    omega (
      arith,
      length-append (components_words cs) (0 ∷ image_words first xs rest),
      length-append (array_addresses first xs) (packed_words rest),
      length-array_addresses first xs,
    )

first-package_record : (at : ℕ) (cs : List (ℕ × List ℕ)) (xs : List (Kind × List ℕ)) (rest : List ℕ)
    → get_or (package_record at cs xs rest) 0 0 ≡ record_size cs xs rest
unfolding package_record
first-package_record at cs xs rest = refl

some-record_size : (cs : List (ℕ × List ℕ)) (xs : List (Kind × List ℕ)) (rest : List ℕ) → 1 < record_size cs xs rest
unfolding record_size
some-record_size cs xs rest = omega arith

pub length-package_words : (at number : ℕ) (cs : List (ℕ × List ℕ)) (xs : List (Kind × List ℕ)) (rest : List ℕ)
    → length (package_words at number cs xs rest) ≡ package_size cs xs rest
length-package_words at number cs xs rest =
    omega (
      arith,
      length-append (package_record at cs xs rest) (arrays_words (package_owner number) xs),
      length-package_record at cs xs rest,
      length-arrays_words (package_owner number) xs,
    )

pub item-package : (h : HeapState) (cs : List (ℕ × List ℕ)) (xs : List (Kind × List ℕ)) (rest : List ℕ) → is_allocated h h.top ≡ false
    → heap_item_at (add_package h cs xs rest) h.top ≡ APackage (package_record h.top cs xs rest)
item-package h cs xs rest free =
    item-arrays (push_package h (package_record h.top cs xs rest)) (package_owner (h.counts.0 + 1)) xs h.top
    (omega (arith, top-push h (package_record h.top cs xs rest), length-package_record h.top cs xs rest, some-record_size cs xs rest))
    ∙ item-push h (package_record h.top cs xs rest) free

pub count_is : (ws : List ℕ) → IsWellFormed ws → (heap_of ws).counts.0 ≡ get_or ws packages_address 0
unfolding read_image
count_is ws laid = get_or-take (get_or ws top_address 0) ws packages_address 0 (omega (arith, laid.based))

pub top_is : (ws : List ℕ) → IsWellFormed ws → (heap_of ws).top ≡ get_or ws top_address 0
unfolding read_image
top_is ws laid = length-take-le (get_or ws top_address 0) ws laid.fits

pub view_count : (j : State) (v : HeapView) (n : ℕ) → heap_view j n ≡ v → IsWellFormed j.plain → v.now.counts.0 ≡ get_or j.plain packages_address 0
view_count j v n is laid = ap (λ u. u.now.counts.0) (sym is) ∙ count_is j.plain laid

module _ (j k m : State) (n : ℕ) (cs : List (ℕ × List ℕ)) (xs : List (Kind × List ℕ)) (rest : List ℕ) (number end : ℕ) (bytes : AreArraysOfBytes xs) (s : IsSound j n)
    (up : j.down ≡ false)
    (b : KeepsBelow (get_or j.plain top_address 0) j k)
    (f : Fills (get_or j.plain top_address 0) (package_words (get_or j.plain top_address 0) (number + 1) cs xs rest) j k)
    (is_number : number ≡ get_or j.plain packages_address 0) (few : number < most_packages)
    (e : end ≡ get_or j.plain top_address 0 + package_size cs xs rest) (fits : end ≤ n)
    (c : Changes ((addresses_start + number, get_or j.plain top_address 0) ∷ (packages_address, number + 1) ∷ (top_address, end) ∷ []) k m) where
  abbrev rec : List ℕ
  rec = package_record (get_or j.plain top_address 0) cs xs rest

  abbrev new : List ℕ
  new = package_words (get_or j.plain top_address 0) (number + 1) cs xs rest

  long : length new ≡ package_size cs xs rest
  long = length-package_words (get_or j.plain top_address 0) (number + 1) cs xs rest

  own : get_or rec 0 0 ≡ length rec
  own = first-package_record (get_or j.plain top_address 0) cs xs rest ∙ sym (length-package_record (get_or j.plain top_address 0) cs xs rest)

  some : 0 < length rec
  some = omega (arith, length-package_record (get_or j.plain top_address 0) cs xs rest, some-record_size cs xs rest)

  few_there : get_or j.plain packages_address 0 < most_packages
  few_there = omega (arith, is_number, few)

  fits_now : get_or j.plain top_address 0 + length new ≤ length k.plain
  fits_now = omega (arith, fits, e, long, b.size, s.size_now up)

  -- the change as it is written
  abbrev cs_written : ℕ → ℕ → List (ℕ × ℕ)
  cs_written number end = (addresses_start + number, get_or j.plain top_address 0) ∷ (packages_address, number + 1) ∷ (top_address, end) ∷ []

  there : Changes (cs_written (get_or j.plain packages_address 0) (get_or j.plain top_address 0 + length new)) k m
  there = subst (λ n. Changes (cs_written n (get_or j.plain top_address 0 + length new)) k m) is_number
      (subst (λ n. Changes (cs_written number n) k m) (e ∙ ap (λ l. get_or j.plain top_address 0 + l) (sym long)) c)

  heap_words : heap_of (with_words k.plain (cs_written (get_or j.plain packages_address 0) (get_or j.plain top_address 0 + length new)))
      ≡ add_arrays (push_package (heap_of j.plain) rec) (package_owner (number + 1)) xs
  heap_words = heap_of-packaged j.plain k.plain rec (package_owner (number + 1)) xs bytes (s.now up) few_there f.words fits_now own some

  heap_is : heap_of (with_words k.plain (cs_written (get_or j.plain packages_address 0) (get_or j.plain top_address 0 + length new)))
      ≡ add_package (heap_of j.plain) cs xs rest
  heap_is =
      heap_words
      ∙ ap (λ t. add_arrays (push_package (heap_of j.plain) (package_record t cs xs rest)) (package_owner (number + 1)) xs) (sym (top_is j.plain (s.now up)))
      ∙ ap (λ n. add_arrays (push_package (heap_of j.plain) (package_record ((heap_of j.plain).top) cs xs rest)) (package_owner (n + 1)) xs)
      (is_number ∙ sym (count_is j.plain (s.now up)))

  laid_is : IsWellFormed (with_words k.plain (cs_written (get_or j.plain packages_address 0) (get_or j.plain top_address 0 + length new)))
  laid_is = laid-packaged j.plain k.plain rec (package_owner (number + 1)) xs bytes (s.now up) few_there f.words fits_now own some

  top_new : get_or (with_words k.plain (cs_written (get_or j.plain packages_address 0) (get_or j.plain top_address 0 + length new))) top_address 0
      ≡ get_or j.plain top_address 0 + length new
  top_new = top-packaged j.plain k.plain rec (package_owner (number + 1)) xs bytes (s.now up) few_there f.words fits_now own some

  tops : (heap_of j.recovered).top ≤ (heap_of j.plain).top
  tops = omega (arith, top_is j.plain (s.now up), top_is j.recovered s.back, s.order up)

  shape_is : SameShape (heap_of j.recovered) (add_package (heap_of j.plain) cs xs rest)
  shape_is = shape-arrays (heap_of j.recovered) (push_package (heap_of j.plain) (package_record ((heap_of j.plain).top) cs xs rest))
      (package_owner ((heap_of j.plain).counts.0 + 1)) xs
      (omega (arith, tops, top-push (heap_of j.plain) (package_record ((heap_of j.plain).top) cs xs rest)))
      (shape-push (heap_of j.recovered) (heap_of j.plain) (package_record ((heap_of j.plain).top) cs xs rest) tops (s.shape up))

  pub package_sound : IsSound m n
  package_sound = sound_then j k n s up b new f (cs_written (get_or j.plain packages_address 0) (get_or j.plain top_address 0 + length new))
      (add_package (heap_of j.plain) cs xs rest) m there heap_is laid_is (omega (arith, top_new)) shape_is

  pub package_view : (v : HeapView) → heap_view j n ≡ v → heap_view m n ≡ heap_after_change v (add_package v.now cs xs rest) (addresses_of_package v.now)
      (package_size cs xs rest)
  unfolding addresses_of_package end_address
  package_view v is = subst (λ u. heap_view m n ≡ heap_after_change u (add_package (u.now) cs xs rest)
      ((addresses_start + u.now.counts.0) ∷ packages_address ∷ top_address ∷ []) (package_size cs xs rest)) is
      (subst (λ a. heap_view m n ≡ heap_after_change (heap_view j n) (add_package (heap_of j.plain) cs xs rest)
      ((addresses_start + a) ∷ packages_address ∷ top_address ∷ []) (package_size cs xs rest)) (sym (count_is j.plain (s.now up)))
      (subst (λ l. heap_view m n ≡ heap_after_change (heap_view j n) (add_package (heap_of j.plain) cs xs rest)
      ((addresses_start + get_or j.plain packages_address 0) ∷ packages_address ∷ top_address ∷ []) l) long
      (view_then j k n s up b new f (cs_written (get_or j.plain packages_address 0) (get_or j.plain top_address 0 + length new))
      (add_package (heap_of j.plain) cs xs rest) m there heap_is)))

-- the three words are places
pub package_are_places : (n number t e : ℕ) → text_start ≤ n → number < most_packages → (k : ℕ) → k < 3
    → IsPlace n ((get_or {A = ℕ × ℕ} ((addresses_start + number, t) ∷ (packages_address, number + 1) ∷ (top_address, e) ∷ []) k (0, 0)).0)
package_are_places n number t e wide few zero h = record { above = omega arith; below = omega arith; beside = λ _. omega arith }
package_are_places n number t e wide few (suc zero) h = record { above = omega arith; below = omega arith; beside = λ l. absurd (omega arith) }
package_are_places n number t e wide few (suc (suc zero)) h = record { above = omega arith; below = omega arith; beside = λ l. absurd (omega arith) }
package_are_places n number t e wide few (suc (suc (suc k))) h = absurd (omega arith)

-- what the journal has no room for the heap has none for
pub view_no_room : (j : State) (v : HeapView) (n number : ℕ) → heap_view j n ≡ v → IsWellFormed j.plain → IsWellFormed j.recovered
    → number ≡ get_or j.plain packages_address 0
    → journal_room (journal_keeping j) ((addresses_start + number) ∷ packages_address ∷ top_address ∷ []) ≡ false
    → has_room_for v (addresses_of_package v.now) ≡ false
unfolding addresses_of_package end_address
view_no_room j v n number is laid back e none =
    let count : number ≡ (heap_of j.plain).counts.0 = e ∙ sym (count_is j.plain laid) in
    subst (λ u. has_room_for u ((addresses_start + u.now.counts.0) ∷ packages_address ∷ top_address ∷ []) ≡ false) is
    (subst (λ a. has_room_for (heap_view j n) ((addresses_start + a) ∷ packages_address ∷ top_address ∷ []) ≡ false) count
    (ap (λ k. journal_room k ((addresses_start + number) ∷ packages_address ∷ top_address ∷ [])) (keeping_view j n back) ∙ none))

pub view_room : (j : State) (v : HeapView) (n number : ℕ) → heap_view j n ≡ v → IsWellFormed j.plain → IsWellFormed j.recovered
    → number ≡ get_or j.plain packages_address 0
    → journal_room (journal_keeping j) ((addresses_start + number) ∷ packages_address ∷ top_address ∷ []) ≡ true
    → has_room_for v (addresses_of_package v.now) ≡ true
unfolding addresses_of_package end_address
view_room j v n number is laid back e some =
    let count : number ≡ (heap_of j.plain).counts.0 = e ∙ sym (count_is j.plain laid) in
    subst (λ u. has_room_for u ((addresses_start + u.now.counts.0) ∷ packages_address ∷ top_address ∷ []) ≡ true) is
    (subst (λ a. has_room_for (heap_view j n) ((addresses_start + a) ∷ packages_address ∷ top_address ∷ []) ≡ true) count
    (ap (λ k. journal_room k ((addresses_start + number) ∷ packages_address ∷ top_address ∷ [])) (keeping_view j n back) ∙ some))
