-- A word of a package's record changed, in all the words.
use Rattle.std.proofs.Common.{◌≡◌, ℕ, ◌+◌, ◌<◌, ◌≤◌, false, true, inl, inr, List, [], length, set, get_or, replicate, refl, sym, ◌∙◌, ap}
use Rattle.std.proofs.Common.{subst, arith, if◌then◌else◌}
use Rattle.std.proofs.lemmas.List.{length-set, length-replicate}
use Rattle.std.proofs.lemmas.Bool.{cases_Bool, cases_eq}
use Rattle.jc_words.specs.Layout.{top_address, registry_start}
use Rattle.jc_heap.specs.Walk.{entry_or, with_entry}
use Rattle.jc_heap.specs.Object.{Item, AnObject, APackage, object_of, header_only}
use Rattle.jc_heap.specs.Image.{image, base, package_addresses, is_package, item, records, missing_words_of_image, IsWellFormed}
use Rattle.jc_heap.specs.Heap.{HeapState, heap_of, read_image, heap_item_at, is_allocated, SameShape}
use Rattle.jc_heap.specs.Component.{words_of, record_of}
use Rattle.jc_heap.specs.Statics.{with_word, set_word}
use Rattle.jc_heap.proofs.Tables.{at_or-put_same, at_or-put_other, has-put, put-absent}
use Rattle.jc_heap.proofs.Images.{image-set, get_or_front, package_addresses-set, base-set, read-set, missing-set}
use Rattle.jc_heap.proofs.RecordReading.{is_item, is_one, is_record, behind}

module _ (ws : List ℕ) (r j v : ℕ) (laid : IsWellFormed ws) (four : 4 ≤ j) (h : j < length (record_of (heap_of ws) r)) where
  some : 0 < length (record_of (heap_of ws) r)
  some = omega arith

  abbrev img : List ℕ
  img = image ws

  abbrev old : List ℕ
  old = entry_or [] (records (image ws)) r

  within : j < length old
  within = omega (arith, h, ap length (is_record ws r laid some))

  low : base (image ws) ≤ r
  low = behind ws r laid some

  far : registry_start ≤ r + j
  far = omega (arith, low)

  same_packages : package_addresses (set img (r + j) v) ≡ package_addresses img
  same_packages = package_addresses-set img (r + j) v far

  as_package : (us : List ℕ) → item (package_addresses img) r us ≡ APackage us
  as_package us = ap (λ b. if b then APackage us else AnObject (object_of us)) (is_one ws r laid some)

  item-set : item (package_addresses img) r (set old j v) ≡ with_word (heap_item_at (heap_of ws) r) j v
  item-set = as_package (set old j v) ∙ ap (λ t. with_word t j v) (sym (as_package old) ∙ sym (is_item ws r laid some))

  set_word-read : read_image (set img (r + j) v) ≡ set_word (read_image img) r j v
  unfolding set_word
  set_word-read = read-set img r j v four within ∙ ap (λ t. record (read_image img) { items = with_entry ((read_image img).items) r t }) item-set

  pub heap_of-set_word : heap_of (set ws (r + j) v) ≡ set_word (heap_of ws) r j v
  heap_of-set_word = ap read_image (image-set ws (r + j) v (omega (arith, far))) ∙ set_word-read

  pub top-set_word : get_or (set ws (r + j) v) top_address 0 ≡ get_or ws top_address 0
  top-set_word = get_or_front ws (r + j) top_address v (omega (arith, far))

  pub laid-set_word : IsWellFormed (set ws (r + j) v)
  laid-set_word =
      let same_image : image (set ws (r + j) v) ≡ set (image ws) (r + j) v = image-set ws (r + j) v (omega (arith, far)) in
      let same_base : base (image (set ws (r + j) v)) ≡ base (image ws) = ap base same_image ∙ base-set (image ws) (r + j) v far in
      record {
        based = rw (same_base, top-set_word) laid.based;
        fits = rw (top-set_word, length-set ws (r + j) v) laid.fits;
        whole = ap missing_words_of_image same_image ∙ missing-set img r j v four within ∙ laid.whole;
        packages = λ a le. ap (λ ps. is_package ps a) (ap package_addresses same_image ∙ same_packages) ∙ laid.packages a (rw top-set_word at le);
      }

-- what a word of a record does not say stays as it is
module _ {X : Type 0} (f : Item → X) (same : (t : Item) (j v : ℕ) → f (with_word t j v) ≡ f t) where
  pub of_item-set_word : (h : HeapState) (r j v q : ℕ) → f (heap_item_at (set_word h r j v) q) ≡ f (heap_item_at h q)
  unfolding heap_item_at set_word is_allocated
  of_item-set_word h r j v q = elim (cases_eq r q) [
    | inl is ↦ elim (cases_Bool (is_allocated h r)) [
      | inl e ↦
          ap (λ p. f (entry_or (APackage []) (with_entry h.items r (with_word (heap_item_at h r) j v)) p)) (sym is)
          ∙ ap f (at_or-put_same (APackage []) h.items r (with_word (heap_item_at h r) j v) e)
          ∙ same (heap_item_at h r) j v
          ∙ ap (λ p. f (heap_item_at h p)) is
      | inr e ↦ ap (λ l. f (entry_or (APackage []) l q)) (put-absent h.items r (with_word (heap_item_at h r) j v) e)
    ]
    | inr n ↦ ap f (at_or-put_other (APackage []) h.items r q (with_word (heap_item_at h r) j v) n)
  ]

pub is_allocated-set_word : (h : HeapState) (r j v q : ℕ) → is_allocated (set_word h r j v) q ≡ is_allocated h q
unfolding is_allocated set_word
is_allocated-set_word h r j v q = has-put h.items r q (with_word (heap_item_at h r) j v)

pub top_after-set_word : (h : HeapState) (r j v : ℕ) → (set_word h r j v).top ≡ h.top
unfolding set_word
top_after-set_word h r j v = refl

pub set_word-absent : (h : HeapState) (r j v : ℕ) → is_allocated h r ≡ false → set_word h r j v ≡ h
unfolding is_allocated set_word
set_word-absent h r j v e = ap (λ l. record h { items = l }) (put-absent h.items r (with_word (heap_item_at h r) j v) e)

-- shapes stay
header_only-with_word : (t : Item) (j v : ℕ) → header_only (with_word t j v) ≡ header_only t
header_only-with_word (AnObject o) j v = refl
header_only-with_word (APackage ws) j v = ap (λ n. APackage (replicate n 0)) (length-set ws j v)

pub header_only-set_word : (h : HeapState) (r j v q : ℕ) → header_only (heap_item_at (set_word h r j v) q) ≡ header_only (heap_item_at h q)
header_only-set_word = of_item-set_word header_only header_only-with_word

lasting-set_word : (h : HeapState) (r j v : ℕ) → (set_word h r j v).lasting ≡ h.lasting
unfolding set_word
lasting-set_word h r j v = refl

pub shape-set_word : (d h : HeapState) (r j v : ℕ) → SameShape d h → SameShape d (set_word h r j v)
shape-set_word d h r j v s = record {
  items = λ q lt. header_only-set_word h r j v q ∙ s.items q lt;
  names = λ q lt. is_allocated-set_word h r j v q ∙ s.names q lt;
  lasting = lasting-set_word h r j v ∙ s.lasting;
}

pub shape-set_word_both : (d h : HeapState) (r j v : ℕ) → SameShape d h → SameShape (set_word d r j v) (set_word h r j v)
shape-set_word_both d h r j v s = record {
  items = λ q lt. header_only-set_word h r j v q ∙ s.items q (subst (λ n. q < n) (top_after-set_word d r j v) lt) ∙ sym (header_only-set_word d r j v q);
  names = λ q lt. is_allocated-set_word h r j v q ∙ s.names q (subst (λ n. q < n) (top_after-set_word d r j v) lt) ∙ sym (is_allocated-set_word d r j v q);
  lasting = lasting-set_word h r j v ∙ s.lasting ∙ sym (lasting-set_word d r j v);
}

-- the same length
length-header_only : (t : Item) → length (words_of (header_only t)) ≡ length (words_of t)
length-header_only (AnObject o) = refl
length-header_only (APackage ws) = length-replicate {A = ℕ} (length ws) 0

pub same_words : (a b : Item) → header_only a ≡ header_only b → length (words_of a) ≡ length (words_of b)
same_words a b e = sym (length-header_only a) ∙ ap (λ t. length (words_of t)) e ∙ length-header_only b

-- the words of a record of which one is set
pub words-with_word : (t : Item) (j v : ℕ) → words_of (with_word t j v) ≡ set (words_of t) j v
words-with_word (AnObject o) j v = refl
words-with_word (APackage ws) j v = refl

pub heap_item_at-set_word : (h : HeapState) (r j v : ℕ) → is_allocated h r ≡ true → heap_item_at (set_word h r j v) r ≡ with_word (heap_item_at h r) j v
unfolding heap_item_at is_allocated set_word
heap_item_at-set_word h r j v e = at_or-put_same (APackage []) h.items r (with_word (heap_item_at h r) j v) e

pub record-other : (h : HeapState) (r j v q : ℕ) → (r ≡ q → ⊥) → record_of (set_word h r j v) q ≡ record_of h q
unfolding heap_item_at set_word
record-other h r j v q ne = ap words_of (at_or-put_other (APackage []) h.items r q (with_word (heap_item_at h r) j v) ne)
