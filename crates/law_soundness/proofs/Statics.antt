-- A word of a package's static image is set.
use Rattle.std.proofs.Common.{◌≡◌, ℕ, ◌+◌, ◌<◌, true, inl, inr, length, set, get_or, refl, sym, ◌∙◌, ap, subst, arith}
use Rattle.std.proofs.Common.{Some}
use Rattle.std.proofs.lemmas.List.{length-set, get_or-set_same, get_or-set_other}
use Rattle.std.proofs.lemmas.Bool.{cases_Bool, cases_eq}
use Rattle.std.proofs.lemmas.Option.{same_Some}
use Rattle.jc_heap.specs.Object.{AnObject, APackage, Item, cells_of, facts_of, is_object}
use Rattle.jc_heap.specs.Component.{record_of, words_of}
use Rattle.jc_heap.specs.Heap.{HeapState, IsObject, heap_item_at, is_allocated}
use Rattle.jc_heap.specs.Statics.{IsStatic, set_word, statics_of, with_word}
use Rattle.jc_heap.proofs.Laws.{heap_item_at-absent}
use Rattle.jc_heap.proofs.RecordWords.{header_only-set_word, heap_item_at-set_word, of_item-set_word, record-other, same_words, words-with_word}
use Rattle.jc_heap.proofs.StaticImages.{statics_set}
use Rattle.jc_linker.specs.Lookups.{statics_at}
use Rattle.jc_linker.specs.Values.{Packages}
use Rattle.jc_packages.specs.Objects.{is_reference}
use Rattle.jc_packages.specs.Sound.{HoldsStatics, entry_word, package_record_at}
use Rattle.law_soundness.specs.MemoryLaws.Fit.{FitsStatic}
use Rattle.law_soundness.proofs.HeapChanges.{Carries, IsSoundBut, object_kept, reference_kept, sound_kept, statics_kept}
use Rattle.law_code.proofs.SparedObjects.{applets-set_word}

cells-with_word : (t : Item) (j v : ℕ) → cells_of (with_word t j v) ≡ cells_of t
cells-with_word (AnObject o) j v = refl
cells-with_word (APackage ws) j v = refl

facts-with_word : (t : Item) (j v : ℕ) → facts_of (with_word t j v) ≡ facts_of t
facts-with_word (AnObject o) j v = refl
facts-with_word (APackage ws) j v = refl

pub object-with_word : (t : Item) (j v : ℕ) → is_object (with_word t j v) ≡ is_object t
object-with_word (AnObject o) j v = refl
object-with_word (APackage ws) j v = refl

record_named : (h : HeapState) (r : ℕ) → 0 < length (record_of h r) → is_allocated h r ≡ true
record_named h r some = elim (cases_Bool (is_allocated h r)) [
  | inl e ↦ e
  | inr e ↦ absurd (let none : 0 < 0 = subst (λ t. 0 < length (words_of t)) (heap_item_at-absent h r e) some in omega (arith, none))
]

packages-set_word : (h : HeapState) (r j v : ℕ) → (set_word h r j v).packages ≡ h.packages
unfolding set_word
packages-set_word h r j v = refl

module _ (h : HeapState) (r j v : ℕ) (static : IsStatic (record_of h r) j) where
  abbrev g : HeapState
  g = set_word h r j v

  pub record-set_word : record_of g r ≡ set (record_of h r) j v
  record-set_word =
      let within = static.within in
      ap words_of (heap_item_at-set_word h r j v (record_named h r (omega (arith, within)))) ∙ words-with_word (heap_item_at h r) j v

  begins : (q b : ℕ) → statics_of (record_of h q) ≡ Some b → statics_of (record_of g q) ≡ Some b
  begins q b e = elim (cases_eq r q) [
    | inl is ↦ subst (λ n. statics_of (record_of g n) ≡ Some b) is (ap statics_of record-set_word
        ∙ statics_set (record_of h r) j v b static (ap (λ n. statics_of (record_of h n)) is ∙ e))
    | inr ne ↦ ap statics_of (record-other h r j v q ne) ∙ e
  ]

  pub word_carries : Carries h g
  word_carries = record {
    there = λ q o. of_item-set_word is_object object-with_word h r j v q ∙ o;
    same = λ q o. of_item-set_word facts_of facts-with_word h r j v q;
    packages = packages-set_word h r j v;
  }

  -- what fits another word of an image still does
  pub static_stays : (p : Packages) (q i w : ℕ) → FitsStatic p h q i w → FitsStatic p g q i w
  static_stays p q i w fits = record {
    there = record {
      begin = fits.there.begin;
      image = begins q fits.there.begin fits.there.image;
      behind = fits.there.behind;
      within = let within = fits.there.within in omega (arith, within, same_words (heap_item_at g q) (heap_item_at h q) (header_only-set_word h r j v q));
    };
    reference = λ k begin lt is image le.
        let same : fits.there.begin ≡ begin = same_Some fits.there.begin begin (sym (begins q fits.there.begin fits.there.image) ∙ image) in
        reference_kept p h g word_carries w
        (fits.reference k begin (subst (λ l. k < length l) (packages-set_word h r j v) lt) (sym (ap (λ l. get_or l k 0) (packages-set_word h r j v)) ∙ is)
        (fits.there.image ∙ ap Some same) le);
  }

  module _ (x most own : ℕ) (p : Packages) (fits : FitsStatic p h r j v) where
    image_held : (k : ℕ) → k < length h.packages → get_or h.packages k 0 ≡ r → HoldsStatics h (record_of h r) (statics_at p (k + 1))
        → HoldsStatics g (set (record_of h r) j v) (statics_at p (k + 1))
    image_held k lt is old = record {
      begin = old.begin;
      image = statics_set (record_of h r) j v old.begin static old.image;
      end = old.end ∙ sym (length-set (record_of h r) j v);
      references = references;
    }
      where
        references : (i : ℕ) → i < (statics_at p (k + 1)).1 → is_reference g (get_or (set (record_of h r) j v) (old.begin + i) 0) ≡ true
        references i low = elim (cases_eq (old.begin + i) j) [
          | inl e ↦
              let value : get_or (set (record_of h r) j v) (old.begin + i) 0 ≡ v = ap (λ n. get_or (set (record_of h r) j v) n 0) e
              ∙ get_or-set_same (record_of h r) j v 0 static.within in
              ap (is_reference g) value ∙ reference_kept p h g word_carries v (fits.reference k old.begin lt is old.image (omega (arith, e, low)))
          | inr ne ↦ ap (is_reference g) (get_or-set_other (record_of h r) j (old.begin + i) v 0 ne)
              ∙ reference_kept p h g word_carries (get_or (record_of h r) (old.begin + i) 0) (old.references i low)
        ]

    images_held : ((k : ℕ) → k < length h.packages → HoldsStatics h (package_record_at h k) (statics_at p (k + 1))) → (k : ℕ) → k < length h.packages
        → HoldsStatics g (record_of g (get_or h.packages k 0)) (statics_at p (k + 1))
    images_held old k lt = elim (cases_eq r (get_or h.packages k 0)) [
      | inl e ↦
          let before : HoldsStatics h (record_of h r) (statics_at p (k + 1)) = subst (λ n. HoldsStatics h (record_of h n) (statics_at p (k + 1))) (sym e)
          (old k lt) in
          subst (λ n. HoldsStatics g (record_of g n) (statics_at p (k + 1))) e (subst (λ ws. HoldsStatics g ws (statics_at p (k + 1))) (sym record-set_word)
          (image_held k lt (sym e) before))
      | inr ne ↦ subst (λ ws. HoldsStatics g ws (statics_at p (k + 1))) (sym (record-other h r j v (get_or h.packages k 0) ne))
          (statics_kept p h g word_carries (record_of h (get_or h.packages k 0)) (statics_at p (k + 1)) (old k lt))
    ]

    word_kept : IsSoundBut x most p h own → IsSoundBut x most p g own
    word_kept s = sound_kept p h g word_carries (applets-set_word h r j v)
        (λ a lt k low. ap (λ l. get_or l k 0) (of_item-set_word cells_of cells-with_word h r j v (entry_word h a 0))) x most own
        (λ q above there.
        let old : IsObject h q = sym (of_item-set_word is_object object-with_word h r j v q) ∙ there in
        object_kept p h g word_carries x most q old (of_item-set_word cells_of cells-with_word h r j v q) (s.objects q above old))
        (λ k lt. subst (λ l. HoldsStatics g (record_of g (get_or l k 0)) (statics_at p (k + 1))) (sym (packages-set_word h r j v))
        (images_held s.statics k (subst (λ l. k < length l) (packages-set_word h r j v) lt)))
        s

pub static_kept : (x most own : ℕ) (p : Packages) (h : HeapState) (r j v : ℕ) → FitsStatic p h r j v → IsSoundBut x most p h own
    → IsSoundBut x most p (set_word h r j v) own
static_kept x most own p h r j v fits s = word_kept h r j v fits.there x most own p fits s
