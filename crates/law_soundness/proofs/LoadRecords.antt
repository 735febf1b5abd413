-- A heap that fits packages, of which the last one's record and arrays are added.
use Rattle.std.proofs.Common.{◌≡◌, ℕ, suc, ◌+◌, ◌-◌, ◌*◌, ◌/◌, ◌<◌, ◌≤◌, ◌⊎◌, ◌==◌, true, false, inl, inr, List, [], ◌∷◌, ◌++◌, length, get_or, refl, sym, ◌∙◌}
use Rattle.std.proofs.Common.{ap, subst, arith, nat_lt, nat_le}
use Rattle.std.specs.Prelude.{slice_index}
use Rattle.std.proofs.lemmas.Bool.{and_from, and_parts, cases_eq, cases_lt, false≢true, le-leb, leb-true, lt-ltb, or_cases, or_left, or_right}
use Rattle.std.proofs.lemmas.List.{get_or_append_left, get_or-append_right, length-append}
use Rattle.jc_heap.specs.declared.object.Kind.{Kind}
use Rattle.jc_heap.specs.declared.object.Kind.TheVariants.{Instance, BooleanArray, ByteArray, ShortArray, ReferenceArray}
use Rattle.jc_heap.specs.Component.{record_of, words_for, words_of}
use Rattle.jc_heap.specs.Heap.{HasEnd, HeapState, IsObject, cells, facts, heap_item_at, is_allocated}
use Rattle.jc_heap.specs.HeapLaws.{IsConsistentHeap}
use Rattle.jc_heap.specs.Object.{APackage, Object, cells_of, facts_of, is_object}
use Rattle.jc_heap.specs.Package.{add_package, array_object, components_words, is_array_init, package_owner, package_record, push_package}
use Rattle.jc_heap.proofs.KeepingPackages.{end-push}
use Rattle.jc_heap.proofs.NewPackages.{item-package, top-push}
use Rattle.jc_heap.proofs.Tables.{at_or-push_other, at_or-push_same}
use Rattle.jc_linker.specs.Lookups.{statics_at}
use Rattle.jc_linker.specs.Values.{Packages}
use Rattle.jc_packages.specs.Objects.{HoldsValues, fits_class, is_instance, is_reference, is_object_address}
use Rattle.jc_packages.specs.Sound.{HoldsStatics, IsRegistered, aid_in, aid_of_entry, entry_word, package_record_at}
use Rattle.law_soundness.specs.MemoryLaws.State.{IsFitObject, IsOwnAid, IsSoundUpTo, is_owner_up_to}
use Rattle.law_soundness.proofs.HeapChanges.{Carries, HoldsBut, IsFitBut, object_kept, registered_kept, statics_kept}
use Rattle.jc_packages.proofs.RecordArrays.{AreInitial, IsArrayOf, below_end, item_behind, old_or_array, same_registry}
use Rattle.jc_packages.proofs.LoadImages.{AreTagged, image_begins, image_ends}

-- initialised arrays fit any packages
fits_initial : (p : Packages) (kind : Kind) (class long : ℕ) → is_array_init kind ≡ true → fits_class p kind class long ≡ true
fits_initial p Instance class long initial = absurd (false≢true initial)
fits_initial p BooleanArray class long initial = refl
fits_initial p ByteArray class long initial = refl
fits_initial p ShortArray class long initial = refl
fits_initial p ReferenceArray class long initial = absurd (false≢true initial)

pub no_instance : (kind : Kind) → is_array_init kind ≡ true → is_instance kind ≡ false
no_instance Instance initial = absurd (false≢true initial)
no_instance BooleanArray initial = refl
no_instance ByteArray initial = refl
no_instance ShortArray initial = refl
no_instance ReferenceArray initial = refl

-- what is named lies below the end
below : (h : HeapState) (r : ℕ) → HasEnd h → is_allocated h r ≡ true → r < h.top
below h r end there = elim (cases_lt r h.top) [
  | inl lt ↦ lt
  | inr above ↦ absurd (false≢true (sym (end r above) ∙ there))
]

pub item_pushed : (h : HeapState) (words : List ℕ) → is_allocated h h.top ≡ false → heap_item_at (push_package h words) h.top ≡ APackage words
unfolding heap_item_at is_allocated push_package
item_pushed h words free = at_or-push_same (APackage []) h.items h.top (APackage words) free

pub item_beside : (h : HeapState) (words : List ℕ) (r : ℕ) → (h.top ≡ r → ⊥) → heap_item_at (push_package h words) r ≡ heap_item_at h r
unfolding heap_item_at push_package
item_beside h words r other = at_or-push_other (APackage []) h.items h.top r (APackage words) other

module _ (h : HeapState) (cs : List (ℕ × List ℕ)) (xs : List (Kind × List ℕ)) (rest : List ℕ) (s : IsConsistentHeap h) where
  abbrev words : List ℕ
  words = package_record h.top cs xs rest

  abbrev pushed : HeapState
  pushed = push_package h words

  abbrev owner : ℕ
  owner = package_owner (h.counts.0 + 1)

  abbrev g : HeapState
  g = add_package h cs xs rest

  free : is_allocated h h.top ≡ false
  free = s.end h.top (omega arith)

  some_words : 0 < length words
  unfolding package_record
  some_words = omega arith

  pushed_end : HasEnd pushed
  pushed_end = end-push h words some_words s.end

  pub packages_grown : g.packages ≡ h.packages ++ h.top ∷ []
  unfolding push_package
  packages_grown = (same_registry pushed owner xs).packages

  pub counts_grown : g.counts ≡ (h.counts.0 + 1, h.counts.1)
  unfolding push_package
  counts_grown = (same_registry pushed owner xs).counts

  pub applets_same : g.applets ≡ h.applets
  unfolding push_package
  applets_same = (same_registry pushed owner xs).applets

  pub longer : length g.packages ≡ length h.packages + 1
  longer = ap length packages_grown ∙ length-append h.packages (h.top ∷ [])

  -- what stood stays
  pub item_low : (r : ℕ) → r < h.top → heap_item_at g r ≡ heap_item_at h r
  item_low r low = item_behind pushed owner xs r (omega (arith, low, top-push h words)) ∙ item_beside h words r (λ e. omega (arith, e, low))

  pub item_old : (r : ℕ) → IsObject h r → heap_item_at g r ≡ heap_item_at h r
  item_old r there = item_low r (below_end h r s.end there)

  -- and what is new is an array
  pub old_or_new : AreInitial xs → (r : ℕ) → IsObject g r → IsObject h r ⊎ IsArrayOf g owner r
  old_or_new kinds r there = elim (old_or_array pushed owner xs kinds pushed_end r there) [
    | inr array ↦ inr array
    | inl before ↦ elim (cases_eq h.top r) [
      | inl e ↦ absurd (false≢true (ap is_object (sym (item_pushed h words free)) ∙ subst (λ n. IsObject pushed n) (sym e) before))
      | inr other ↦ inl (ap is_object (sym (item_beside h words r other)) ∙ before)
    ]
  ]

  -- the heap before, with the packages after
  abbrev viewed : HeapState
  viewed = record h { packages = g.packages }

  carries : Carries viewed g
  unfolding heap_item_at
  carries = record {
    there = λ q there. ap is_object (item_old q there) ∙ there;
    same = λ q there. ap facts_of (item_old q there);
    packages = refl;
  }

  owner_grown : (most n : ℕ) → is_owner_up_to most h n ≡ true → is_owner_up_to most viewed n ≡ true
  owner_grown most n is = elim (or_cases (n == 0) _ is) [
    | inl z ↦ or_left (n == 0) _ z
    | inr other ↦ or_right (n == 0) _ (elim (or_cases (nat_le n most) _ other) [
      | inl low ↦ or_left (nat_le n most) _ low
      | inr home ↦ or_right (nat_le n most) _
          (let both = and_parts (nat_lt 256 n) _ home in
          and_from (nat_lt 256 n) _ both.0 (le-leb (n - 256) (length g.packages) (let l = leb-true (n - 256) (length h.packages) both.1 in omega
          (arith, l, longer))))
    ])
  ]

  object_viewed : (most r : ℕ) (p : Packages) → IsFitObject most p h r → IsFitBut (suc r) most p viewed r
  unfolding heap_item_at
  object_viewed most r p o = record {
    class = o.class;
    owner = owner_grown most (facts h r).owner o.owner;
    values = λ kept. let v : HoldsValues p h r = o.values kept in record { references = v.references; aid = v.aid; pin = λ ne. v.pin };
    cells = o.cells;
    small = o.small;
    persistent = o.persistent;
  }

  there_viewed : (r : ℕ) → IsObject h r → IsObject viewed r
  unfolding heap_item_at
  there_viewed r there = there

  cells_viewed : (r : ℕ) → IsObject h r → cells g r ≡ cells viewed r
  unfolding heap_item_at
  cells_viewed r there = ap cells_of (item_old r there)

  -- an object that stood
  object_old : (most r : ℕ) (p : Packages) → IsObject h r → IsFitObject most p h r → IsFitObject most p g r
  object_old most r p there o =
      let b : IsFitBut (suc r) most p g r = object_kept p viewed g carries (suc r) most r (there_viewed r there) (cells_viewed r there)
      (object_viewed most r p o) in
      record {
        class = b.class;
        owner = b.owner;
        values = λ kept.
            let v : HoldsBut (suc r) p g r = b.values kept in record { references = v.references; aid = v.aid; pin = v.pin (λ e. omega (arith, e)) };
        cells = b.cells;
        small = b.small;
        persistent = b.persistent;
      }

  -- an array
  owner_new : (most : ℕ) → h.counts.0 ≡ length h.packages → is_owner_up_to most g owner ≡ true
  owner_new most counted =
      or_right (owner == 0) _ (or_right (nat_le owner most) _ (and_from (nat_lt 256 owner) _ (lt-ltb 256 owner (omega arith))
      (le-leb (owner - 256) (length g.packages) (omega (arith, counted, longer)))))

  array_fits : (most r : ℕ) (p : Packages) → h.counts.0 ≡ length h.packages → IsArrayOf g owner r → IsFitObject most p g r
  array_fits most r p counted a =
      let o : Object = array_object owner a.array in
      let header : facts g r ≡ o.facts = ap facts_of a.item in
      let other : is_instance (facts g r).kind ≡ false = ap (λ f. is_instance f.kind) header ∙ no_instance a.array.0 a.initial in
      record {
        class = ap (λ f. fits_class p f.kind f.class f.length) header ∙ fits_initial p a.array.0 0 (length o.cells) a.initial;
        owner = ap (λ f. is_owner_up_to most g f.owner) header ∙ owner_new most counted;
        values = λ kept. absurd (false≢true (sym other ∙ (and_parts (is_instance (facts g r).kind) _ kept).0));
        cells = λ none. ap (λ t. length (cells_of t)) a.item ∙ ap (λ f. f.length) (sym header);
        small = λ instance. absurd (false≢true (sym other ∙ instance));
        persistent = λ instance. absurd (false≢true (sym other ∙ instance));
      }

  -- the registry's entries
  entry_same : (a j : ℕ) → entry_word g a j ≡ entry_word h a j
  entry_same a j = ap (λ l. get_or l (3 * a + j) 0) applets_same

  registered_viewed : (p : Packages) (a : ℕ) → IsRegistered p h a → IsRegistered p viewed a
  unfolding heap_item_at
  registered_viewed p a old = record {
    aid = old.aid;
    number =
        (let both = and_parts (nat_lt 0 (entry_word h a 1)) _ old.number in
        and_from (nat_lt 0 (entry_word h a 1)) _ both.0 (le-leb (entry_word h a 1) (length g.packages)
        (let l = leb-true (entry_word h a 1) (length h.packages) both.1 in omega (arith, l, longer))));
    instance = old.instance;
  }

  aid_there : (p : Packages) (a : ℕ) → IsRegistered p h a → IsObject h (entry_word h a 0)
  aid_there p a old = (and_parts (is_object_address h (entry_word h a 0)) _ old.aid).0

  registered : (p : Packages) (a : ℕ) → IsRegistered p h a → IsRegistered p g a
  registered p a old = registered_kept p viewed g carries a (λ j lt. entry_same a j)
      (ap (λ l. get_or l 0 0) (cells_viewed (entry_word h a 0) (aid_there p a old))) (registered_viewed p a old)

  aid_stays : (p : Packages) (a : ℕ) → IsRegistered p h a → aid_of_entry g a ≡ aid_of_entry h a
  aid_stays p a old = ap (λ e. aid_in (cells g e)) (entry_same a 0) ∙ ap (λ t. aid_in (cells_of t)) (item_old (entry_word h a 0) (aid_there p a old))

  own_stays : (p : Packages) (own a : ℕ) → IsRegistered p h a → IsOwnAid h own a → IsOwnAid g own a
  own_stays p own a is old = record {
    environments = ap (λ e. (facts g e).owner) (entry_same a 0) ∙ ap (λ t. (facts_of t).owner) (item_old (entry_word h a 0) (aid_there p a is))
        ∙ old.environments;
    behind = subst (λ e. own < e) (sym (entry_same a 0)) old.behind;
  }

  -- the static images of the packages before
  old_record : (k : ℕ) → k < length h.packages → package_record_at g k ≡ package_record_at h k
  old_record k lt =
      let at : get_or g.packages k 0 ≡ get_or h.packages k 0 = ap (λ l. get_or l k 0) packages_grown ∙ get_or_append_left h.packages (h.top ∷ []) 0 k lt in
      ap (record_of g) at ∙ ap words_of (item_low (get_or h.packages k 0) (below h (get_or h.packages k 0) s.end (s.whole.met k lt)))

  statics_viewed : (l : List ℕ) (image : ℕ × ℕ) → HoldsStatics h l image → HoldsStatics viewed l image
  unfolding heap_item_at
  statics_viewed l image old = record { begin = old.begin; image = old.image; end = old.end; references = old.references }

  new_record : (k : ℕ) → k < length g.packages → length h.packages ≤ k → package_record_at g k ≡ words
  new_record k lt le =
      let first : k - length h.packages ≡ 0 = omega (arith, lt, le, longer) in
      let at : get_or g.packages k 0 ≡ h.top = ap (λ l. get_or l k 0) packages_grown
      ∙ get_or-append_right h.packages (h.top ∷ []) (length h.packages) k 0 refl le ∙ ap (λ n. get_or (h.top ∷ []) n 0) first in
      ap (record_of g) at ∙ ap words_of (item-package h cs xs rest free)

  statics_all : (p : Packages) → ((k : ℕ) → k < length h.packages → HoldsStatics h (package_record_at h k) (statics_at p (k + 1)))
      → HoldsStatics g words (statics_at p (length h.packages + 1)) →
      (k : ℕ) → k < length g.packages → HoldsStatics g (package_record_at g k) (statics_at p (k + 1))
  statics_all p old new k lt = elim (cases_lt k (length h.packages)) [
    | inl before ↦ subst (λ l. HoldsStatics g l (statics_at p (k + 1))) (sym (old_record k before))
        (statics_kept p viewed g carries (package_record_at h k) (statics_at p (k + 1))
        (statics_viewed (package_record_at h k) (statics_at p (k + 1)) (old k before)))
    | inr behind ↦
        let last : length h.packages ≡ k = omega (arith, behind, lt, longer) in
        subst (λ l. HoldsStatics g l (statics_at p (k + 1))) (sym (new_record k lt behind)) (subst (λ n. HoldsStatics g words (statics_at p (n + 1))) last new)
  ]

  before : (a : ℕ) → a < g.counts.1 → a < h.counts.1
  before a lt = subst (λ c. a < c.1) counts_grown lt

  -- where the new record holds its image
  pub fits_grown : (most own : ℕ) (p : Packages) → AreInitial xs → h.counts.0 ≡ length h.packages → HoldsStatics g words (statics_at p (length h.packages + 1))
      → IsSoundUpTo most p h own → IsSoundUpTo most p g own
  fits_grown most own p kinds counted new old = record {
    objects = λ r above there. elim (old_or_new kinds r there) [
      | inl stood ↦ object_old most r p stood (old.objects r above stood)
      | inr array ↦ array_fits most r p counted array
    ];
    statics = statics_all p old.statics new;
    applets = λ a lt. registered p a (old.applets a (before a lt));
    distinct = λ b lt a less same. old.distinct b (before b lt) a less
        (sym (aid_stays p a (old.applets a (let l = before b lt in omega (arith, l, less)))) ∙ same ∙ aid_stays p b (old.applets b (before b lt)));
    aids = λ a lt. own_stays p own a (old.applets a (before a lt)) (old.aids a (before a lt));
  }

  -- the references with which it begins
  pub image_held : (size references : ℕ) → AreTagged cs → 0 < length cs → words_for size ≡ length xs + (length rest + 1) / 2 →
      ((i : ℕ) → i < references → is_reference g (slice_index words (2 + length (components_words cs) + i)) ≡ true) → HoldsStatics g words (size, references)
  image_held size references tagged some long refer = record {
    begin = 2 + length (components_words cs);
    image = image_begins h.top cs xs rest tagged some;
    end = ap (λ n. 2 + length (components_words cs) + n) long ∙ image_ends h.top cs xs rest;
    references = refer;
  }
