-- A heap of which a cell is set fits its packages as before, where its object does.
use Rattle.std.proofs.Common.{◌≡◌, ◌∙◌, ℕ, ◌+◌, ◌<◌, ◌==◌, ◌&&◌, ◌||◌, nat_le, nat_lt, true, arith, inl, inr, Bool, List, [], ◌∷◌, length, map, refl, sym, ap, ap₂, subst, if◌then◌else◌}
use Rattle.std.specs.Prelude.{not, slice_index, Option, Some}
use Rattle.std.proofs.Math.Path.{fun_ext}
use Rattle.std.proofs.lemmas.Bool.{and_parts, cases_Bool, cases_eq, eqb-true}
use Rattle.jc_platform.specs.NamePlaces.{class_word}
use Rattle.jc_platform.specs.Tokens.{Tokens}
use Rattle.jc_platform.specs.declared.names.PlatformClass.TheVariants.{Aid, Applet, OwnerPin}
use Rattle.jc_heap.specs.declared.object.Facts.{Facts}
use Rattle.jc_heap.specs.Object.{AnObject, APackage, Item, is_object, with_cell}
use Rattle.jc_heap.specs.Walk.{entry_or, with_entry}
use Rattle.jc_heap.specs.Component.{record_of, words_of}
use Rattle.jc_heap.specs.Heap.{HeapState, IsObject, cells, facts, heap_item_at, is_allocated, set_cell}
use Rattle.jc_heap.specs.RegistryLayout.{entry_aid, entry_instance, entry_package}
use Rattle.jc_heap.proofs.Laws.{header_only-set_cell, cells-set_other, facts-set_cell, heap_item_at-set_cell, heap_item_at-set_other, set_cell-absent}
use Rattle.jc_heap.proofs.Keeping.{object-header_only}
use Rattle.jc_linker.specs.Classes.{reference_cell, is_a}
use Rattle.jc_linker.specs.Lookups.{statics_at}
use Rattle.jc_linker.specs.Values.{Packages}
use Rattle.jc_packages.specs.Objects.{IsSoundObject, MarksObjects, fits_aid, fits_class, fits_pin, is_byte_array, is_instance, is_object_address, is_owner}
use Rattle.jc_packages.specs.Objects.{is_persistent_instance, is_reference}
use Rattle.jc_packages.specs.Reading.{packages_of, with_records}
use Rattle.jc_packages.specs.Sound.{HasOwnAid, HoldsStatics, IsRegistered, IsSound, aid_in, aid_of_entry, entry_word, holds_aid, package_record_at}

-- the package of an applet is there
abbrev IsNumber : HeapState → ℕ → Type 0
IsNumber h a = (nat_lt 0 (entry_word h a entry_package) && nat_le (entry_word h a entry_package) (length h.packages)) ≡ true

words-with_cell : (t : Item) (i v : ℕ) → words_of (with_cell t i v) ≡ words_of t
words-with_cell (AnObject o) i v = refl
words-with_cell (APackage ws) i v = refl

module _ (h : HeapState) (r i v : ℕ) where
  abbrev g : HeapState
  g = set_cell h r i v

  pub packages_same : g.packages ≡ h.packages
  unfolding set_cell
  packages_same = refl

  count_same : g.counts.1 ≡ h.counts.1
  unfolding set_cell
  count_same = refl

  entry_same : (a j : ℕ) → entry_word g a j ≡ entry_word h a j
  unfolding set_cell
  entry_same a j = refl

  number_same : (a : ℕ) → IsNumber h a → IsNumber g a
  unfolding set_cell
  number_same a is = is

  owner_same : (n : ℕ) → is_owner g n ≡ is_owner h n
  unfolding set_cell
  owner_same n = refl

  pub object_same : (q : ℕ) → is_object_address g q ≡ is_object_address h q
  object_same q = sym (object-header_only (heap_item_at g q)) ∙ ap is_object (header_only-set_cell h r i v q) ∙ object-header_only (heap_item_at h q)

  reference_same : (x : ℕ) → is_reference g x ≡ is_reference h x
  reference_same x = ap (λ (b : Bool). x == 0 || b) (object_same x)

  pub record_same : (q : ℕ) → record_of g q ≡ record_of h q
  record_same q = elim (cases_eq r q) [
    | inl is ↦ elim (cases_Bool (is_allocated h r)) [
      | inl e ↦ subst (λ n. record_of (set_cell h r i v) n ≡ record_of h n) is (ap words_of (heap_item_at-set_cell h r i v e)
          ∙ words-with_cell (heap_item_at h r) i v)
      | inr e ↦ ap (λ k. record_of k q) (set_cell-absent h r i v e)
    ]
    | inr n ↦ ap words_of (heap_item_at-set_other h r i v q n)
  ]

  pub marks_same : (marks : List Bool) → MarksObjects marks h → MarksObjects marks g
  marks_same marks is q = is q ∙ sym (object_same q)

  -- the packages of its records
  pub linked_same : (t : Tokens) → packages_of t g ≡ packages_of t h
  unfolding packages_of
  linked_same t =
      ap (λ (l : List ℕ). with_records (record { platform = t; loaded = [] }) (map (record_of g) l)) packages_same
      ∙ ap (λ (f : ℕ → List ℕ). with_records (record { platform = t; loaded = [] }) (map f h.packages)) (fun_ext record_same)

  module _ (p : Packages) where
    pin_same : (class : ℕ) (held : List ℕ) → fits_pin p g class held ≡ fits_pin p h class held
    pin_same class held = ap₂ (λ (there : Bool) (f : Facts). not (is_a p class OwnerPin) || (nat_le (slice_index held 3) (slice_index held 1) &&
        (if slice_index held 4 == 0 then slice_index held 1 == 0 else there && is_byte_array f (slice_index held 1))))
        (object_same (slice_index held 4)) (facts-set_cell h r i v (slice_index held 4))

    other_sound : (q : ℕ) → (r ≡ q → ⊥) → IsSoundObject p h q → IsSoundObject p g q
    other_sound q ne old =
        let same : facts g q ≡ facts h q = facts-set_cell h r i v q in
        let held : cells g q ≡ cells h q = cells-set_other h r i v q ne in
        record {
          class = ap (λ (f : Facts). fits_class p f.kind f.class f.length) same ∙ old.class;
          owner = owner_same (facts g q).owner ∙ ap (λ (f : Facts). is_owner h f.owner) same ∙ old.owner;
          values = λ kept.
              let was = old.values (sym (ap is_persistent_instance same) ∙ kept) in
              record {
                references = λ k lt is. ap (λ (l : List ℕ). is_reference g (slice_index l k)) held ∙ reference_same (slice_index (cells h q) k)
                    ∙ was.references k (subst (λ (l : List ℕ). k < length l) held lt) (sym (ap (λ (f : Facts). reference_cell p f.class k) same) ∙ is);
                aid = ap₂ (λ (f : Facts) (l : List ℕ). fits_aid p f.class l) same held ∙ was.aid;
                pin = ap₂ (λ (f : Facts) (l : List ℕ). fits_pin p g f.class l) same held ∙ pin_same (facts h q).class (cells h q) ∙ was.pin;
              };
        }

    statics_same : (words : List ℕ) (s : ℕ × ℕ) → HoldsStatics h words s → HoldsStatics g words s
    statics_same words s is = record {
      begin = is.begin;
      image = is.image;
      end = is.end;
      references = λ k lt. reference_same (slice_index words (is.begin + k)) ∙ is.references k lt;
    }

    package_same : (k : ℕ) → package_record_at g k ≡ package_record_at h k
    package_same k = ap (λ (l : List ℕ). record_of g (slice_index l k)) packages_same ∙ record_same (slice_index h.packages k)

    module _ (other : (facts h r).class ≡ class_word p.platform Aid → ⊥) where
      -- the AID object of an applet is another one
      apart : (a : ℕ) → IsRegistered p h a → r ≡ entry_word h a entry_aid → ⊥
      apart a is e =
          let held = (and_parts (is_object_address h (entry_word h a entry_aid)) _ is.aid).1 in
          let kind = (and_parts (is_persistent_instance (facts h (entry_word h a entry_aid))) _ held).1 in
          let class = (and_parts ((facts h (entry_word h a entry_aid)).class == class_word p.platform Aid) _ kind).0 in
          other (ap (λ (q : ℕ). (facts h q).class) e ∙ eqb-true (facts h (entry_word h a entry_aid)).class (class_word p.platform Aid) class)

      aid_same : (a : ℕ) → IsRegistered p h a → aid_of_entry g a ≡ aid_of_entry h a
      aid_same a is = ap (λ (q : ℕ). aid_in (cells g q)) (entry_same a entry_aid) ∙ ap aid_in (cells-set_other h r i v (entry_word h a entry_aid) (apart a is))

      registered : (a : ℕ) → IsRegistered p h a → IsRegistered p g a
      registered a is =
          let e : ℕ = entry_word h a entry_aid in
          let f : ℕ = entry_word h a entry_instance in
          record {
            aid = ap (λ (q : ℕ). is_object_address g q && holds_aid p (facts g q) (cells g q)) (entry_same a entry_aid)
                ∙ ap (λ (b : Bool). b && holds_aid p (facts g e) (cells g e)) (object_same e)
                ∙ ap₂ (λ (x : Facts) (l : List ℕ). is_object_address h e && holds_aid p x l) (facts-set_cell h r i v e) (cells-set_other h r i v e (apart a is))
                ∙ is.aid;
            number = number_same a is.number;
            instance = ap (λ (q : ℕ). is_object_address g q && (is_instance (facts g q).kind && is_a p (facts g q).class Applet)) (entry_same a entry_instance)
                ∙ ap₂ (λ (b : Bool) (x : Facts). b && (is_instance x.kind && is_a p x.class Applet)) (object_same f) (facts-set_cell h r i v f)
                ∙ is.instance;
          }

      -- where its object fits them, the heap does
      pub still_sound : (own : ℕ) → IsSoundObject p g r → IsSound p h own → IsSound p g own
      still_sound own new old = record {
        objects = λ q above there. elim (cases_eq r q) [
          | inl e ↦ subst (IsSoundObject p g) e new
          | inr ne ↦ other_sound q ne (old.objects q above (sym (object_same q) ∙ there))
        ];
        statics = λ k lt. subst (λ (words : List ℕ). HoldsStatics g words (statics_at p (k + 1))) (sym (package_same k))
            (statics_same (package_record_at h k) (statics_at p (k + 1)) (old.statics k (subst (λ (l : List ℕ). k < length l) packages_same lt)));
        applets = λ a lt. registered a (old.applets a (subst (λ (n : ℕ). a < n) count_same lt));
        distinct = λ b lt a before same.
            let low : b < h.counts.1 = subst (λ (n : ℕ). b < n) count_same lt in
            old.distinct b low a before (sym (aid_same a (old.applets a (before_too a b before low))) ∙ same ∙ aid_same b (old.applets b low));
      }
        where
          before_too : (a b : ℕ) → a < b → b < h.counts.1 → a < h.counts.1
          before_too a b before low = omega (arith, before, low)
