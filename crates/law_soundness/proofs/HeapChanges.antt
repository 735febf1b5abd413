-- What a change of a heap has to leave, so that it fits the packages as before.
use Rattle.std.proofs.Common.{◌≡◌, ℕ, ◌+◌, ◌-◌, ◌*◌, ◌<◌, ◌≤◌, ◌==◌, ◌&&◌, ◌||◌, true, inl, inr, List, length, get_or, sym, ◌∙◌, ap, subst, arith}
use Rattle.std.proofs.Common.{if◌then◌else◌, nat_lt, nat_le}
use Rattle.std.specs.Prelude.{not, slice_index, None}
use Rattle.std.proofs.lemmas.Bool.{and_parts, and_from, or_cases, or_left, or_right, cases_Bool, cases_eq, leb-true, le-leb}
use Rattle.jc_platform.specs.declared.names.PlatformClass.TheVariants.{Aid, Applet, OwnerPin}
use Rattle.jc_platform.specs.NamePlaces.{class_word}
use Rattle.jc_heap.specs.declared.object.Facts.{Facts}
use Rattle.jc_heap.specs.Component.{record_of}
use Rattle.jc_heap.specs.Heap.{HeapState, IsObject, cells, facts}
use Rattle.jc_linker.specs.Classes.{reference_cell, is_a}
use Rattle.jc_linker.specs.Lookups.{statics_at}
use Rattle.jc_linker.specs.Values.{Packages}
use Rattle.jc_packages.specs.Objects.{HoldsReferences, HoldsValues, fits_aid, fits_class, fits_pin, has_value, is_byte_array, is_instance}
use Rattle.jc_packages.specs.Objects.{is_persistent_instance, is_reference, is_object_address}
use Rattle.jc_packages.specs.Sound.{HasOwnAid, HoldsStatics, IsRegistered, aid_of_entry, aid_in, entry_word, holds_aid, package_record_at}
use Rattle.law_soundness.specs.MemoryLaws.State.{IsFitObject, IsOwnAid, IsSoundUpTo, is_owner_up_to}
use Rattle.jc_packages.proofs.Lists.{Agree, aid_same}
use Rattle.law_code.proofs.SparedObjects.{SameApplets}

-- what an instance holds fits its class; of one instance, what a PIN's cells say of one another need not
pub record HoldsBut (x : ℕ) (p : Packages) (h : HeapState) (r : ℕ) : Type 0 where
  pub references : HoldsReferences p h r
  pub aid : fits_aid p (facts h r).class (cells h r) ≡ true
  pub pin : (r ≡ x → ⊥) → fits_pin p h (facts h r).class (cells h r) ≡ true

pub record IsFitBut (x most : ℕ) (p : Packages) (h : HeapState) (r : ℕ) : Type 0 where
  pub class : fits_class p (facts h r).kind (facts h r).class (facts h r).length ≡ true
  pub owner : is_owner_up_to most h (facts h r).owner ≡ true
  pub values : is_persistent_instance (facts h r) ≡ true → HoldsBut x p h r
  pub cells : (facts h r).event ≡ None → length (cells h r) ≡ (facts h r).length
  pub small : is_instance (facts h r).kind ≡ true → (facts h r).length < 65536
  pub persistent : is_instance (facts h r).kind ≡ true → (facts h r).event ≡ None

pub record IsSoundBut (x most : ℕ) (p : Packages) (h : HeapState) (own : ℕ) : Type 0 where
  pub objects : (r : ℕ) → own < r → IsObject h r → IsFitBut x most p h r
  pub statics : (k : ℕ) → k < length h.packages → HoldsStatics h (package_record_at h k) (statics_at p (k + 1))
  pub applets : (a : ℕ) → a < h.counts.1 → IsRegistered p h a
  pub distinct : (b : ℕ) → b < h.counts.1 → HasOwnAid h b
  pub aids : (a : ℕ) → a < h.counts.1 → IsOwnAid h own a

pub but_one : (x most : ℕ) (p : Packages) (h : HeapState) (own : ℕ) → IsSoundUpTo most p h own → IsSoundBut x most p h own
but_one x most p h own s = record {
  objects = λ r above there. let o : IsFitObject most p h r = s.objects r above there in record {
    class = o.class;
    owner = o.owner;
    values = λ kept. let v : HoldsValues p h r = o.values kept in record { references = v.references; aid = v.aid; pin = λ _. v.pin };
    cells = o.cells;
    small = o.small;
    persistent = o.persistent;
  };
  statics = s.statics;
  applets = s.applets;
  distinct = s.distinct;
  aids = s.aids;
}

-- and back, where that instance's cells say the right thing, too
pub with_one : (x most : ℕ) (p : Packages) (h : HeapState) (own : ℕ) → (own < x → IsObject h x → is_persistent_instance (facts h x) ≡ true
    → fits_pin p h (facts h x).class (cells h x) ≡ true) → IsSoundBut x most p h own → IsSoundUpTo most p h own
with_one x most p h own one s = record {
  objects = λ r above there. let o : IsFitBut x most p h r = s.objects r above there in record {
    class = o.class;
    owner = o.owner;
    values = λ kept. let v : HoldsBut x p h r = o.values kept in record { references = v.references; aid = v.aid; pin = pin r above there kept v };
    cells = o.cells;
    small = o.small;
    persistent = o.persistent;
  };
  statics = s.statics;
  applets = s.applets;
  distinct = s.distinct;
  aids = s.aids;
}
  where
    pin : (r : ℕ) → own < r → IsObject h r → is_persistent_instance (facts h r) ≡ true → HoldsBut x p h r → fits_pin p h (facts h r).class (cells h r) ≡ true
    pin r above there kept v = elim (cases_eq r x) [
      | inl e ↦ subst (λ n. fits_pin p h (facts h n).class (cells h n) ≡ true) (sym e)
          (one (subst (λ n. own < n) e above) (subst (IsObject h) e there) (subst (λ n. is_persistent_instance (facts h n) ≡ true) e kept))
      | inr ne ↦ v.pin ne
    ]

-- what stood stands, with the same headers
pub record Carries (h g : HeapState) : Type 0 where
  pub there : (q : ℕ) → IsObject h q → IsObject g q
  pub same : (q : ℕ) → IsObject h q → facts g q ≡ facts h q
  pub packages : g.packages ≡ h.packages

-- owners
pub owner_same : (most : ℕ) (h g : HeapState) (n : ℕ) → g.packages ≡ h.packages → is_owner_up_to most g n ≡ is_owner_up_to most h n
owner_same most h g n e = ap (λ l. n == 0 || (nat_le n most || (nat_lt 256 n && nat_le (n - 256) (length l)))) e

pub owner_more : (most more : ℕ) (h : HeapState) (n : ℕ) → most ≤ more → is_owner_up_to most h n ≡ true → is_owner_up_to more h n ≡ true
owner_more most more h n le is = elim (or_cases (n == 0) _ is) [
  | inl z ↦ or_left (n == 0) _ z
  | inr other ↦ or_right (n == 0) _ (elim (or_cases (nat_le n most) _ other) [
    | inl low ↦ or_left (nat_le n more) _ (le-leb n more (let l = leb-true n most low in omega (arith, l, le)))
    | inr home ↦ or_right (nat_le n more) _ home
  ])
]

pub more_owners : (most more : ℕ) (p : Packages) (h : HeapState) (own : ℕ) → most ≤ more → IsSoundUpTo most p h own → IsSoundUpTo more p h own
more_owners most more p h own le s = record {
  objects = λ r above there.
      let o : IsFitObject most p h r = s.objects r above there in
      record {
        class = o.class;
        owner = owner_more most more h (facts h r).owner le o.owner;
        values = o.values;
        cells = o.cells;
        small = o.small;
        persistent = o.persistent;
      };
  statics = s.statics;
  applets = s.applets;
  distinct = s.distinct;
  aids = s.aids;
}

-- what a PIN's cells say depends on three of them
pub pin_same : (p : Packages) (h : HeapState) (class : ℕ) (a b : List ℕ) → get_or a 1 0 ≡ get_or b 1 0 → get_or a 3 0 ≡ get_or b 3 0
    → get_or a 4 0 ≡ get_or b 4 0 → fits_pin p h class a ≡ fits_pin p h class b
pin_same p h class a b one three four = λ t. not (is_a p class OwnerPin) || (nat_le (three t) (one t) &&
    (if four t == 0 then one t == 0 else is_object_address h (four t) && is_byte_array (facts h (four t)) (one t)))

module _ (p : Packages) (h g : HeapState) (c : Carries h g) where
  pub reference_kept : (v : ℕ) → is_reference h v ≡ true → is_reference g v ≡ true
  reference_kept v is = elim (or_cases (v == 0) (is_object_address h v) is) [
    | inl z ↦ or_left (v == 0) (is_object_address g v) z
    | inr there ↦ or_right (v == 0) (is_object_address g v) (c.there v there)
  ]

  pub value_kept : (held : List ℕ) → has_value h held ≡ true → has_value g held ≡ true
  value_kept held is = elim (cases_Bool (slice_index held 4 == 0)) [
    | inl z ↦ rw z (rw z at is)
    | inr n ↦
        let both = and_parts (is_object_address h (slice_index held 4)) _ (rw n at is) in
        rw n (and_from (is_object_address g (slice_index held 4)) _ (c.there (slice_index held 4) both.0)
        (ap (λ f. is_byte_array f (slice_index held 1)) (c.same (slice_index held 4) both.0) ∙ both.1))
  ]

  pub pin_kept : (class : ℕ) (held : List ℕ) → fits_pin p h class held ≡ true → fits_pin p g class held ≡ true
  pin_kept class held is = elim (or_cases (not (is_a p class OwnerPin)) _ is) [
    | inl other ↦ or_left (not (is_a p class OwnerPin)) _ other
    | inr pin ↦
        let both = and_parts (nat_le (slice_index held 3) (slice_index held 1)) _ pin in
        or_right (not (is_a p class OwnerPin)) _ (and_from (nat_le (slice_index held 3) (slice_index held 1)) _ both.0 (value_kept held both.1))
  ]

  -- an object whose cells hold what fits it
  pub object_new : (x most r : ℕ) → IsObject h r → length (cells g r) ≡ length (cells h r) → IsFitBut x most p h r
      → (HoldsBut x p h r → is_persistent_instance (facts h r) ≡ true → HoldsBut x p g r) → IsFitBut x most p g r
  object_new x most r there long o values = record {
    class = ap (λ f. fits_class p f.kind f.class f.length) (c.same r there) ∙ o.class;
    owner = owner_same most h g (facts g r).owner c.packages ∙ ap (λ f. is_owner_up_to most h f.owner) (c.same r there) ∙ o.owner;
    values = λ kept. let old : is_persistent_instance (facts h r) ≡ true = ap is_persistent_instance (sym (c.same r there)) ∙ kept in values (o.values old) old;
    cells = λ none. long ∙ o.cells (ap (λ f. f.event) (sym (c.same r there)) ∙ none) ∙ ap (λ f. f.length) (sym (c.same r there));
    small = λ instance. subst (λ f. f.length < 65536) (sym (c.same r there)) (o.small (ap (λ f. is_instance f.kind) (sym (c.same r there)) ∙ instance));
    persistent = λ instance. ap (λ f. f.event) (c.same r there) ∙ o.persistent (ap (λ f. is_instance f.kind) (sym (c.same r there)) ∙ instance);
  }

  -- an object whose cells stay
  pub object_kept : (x most r : ℕ) → IsObject h r → cells g r ≡ cells h r → IsFitBut x most p h r → IsFitBut x most p g r
  object_kept x most r there cells_same o = object_new x most r there (ap length cells_same) o (λ v kept. record {
    references = λ i lt is.
        let old : i < length (cells h r) = subst (λ l. i < length l) cells_same lt in
        let refers : reference_cell p (facts h r).class i ≡ true = ap (λ f. reference_cell p f.class i) (sym (c.same r there)) ∙ is in
        ap (λ l. is_reference g (get_or l i 0)) cells_same ∙ reference_kept (get_or (cells h r) i 0) (v.references i old refers);
    aid = (λ t. fits_aid p (c.same r there t).class (cells_same t)) ∙ v.aid;
    pin = λ ne. (λ t. fits_pin p g (c.same r there t).class (cells_same t)) ∙ pin_kept (facts h r).class (cells h r) (v.pin ne);
  })

  -- static images whose words stay
  pub statics_kept : (words : List ℕ) (s : ℕ × ℕ) → HoldsStatics h words s → HoldsStatics g words s
  statics_kept words s old = record {
    begin = old.begin;
    image = old.image;
    end = old.end;
    references = λ i lt. reference_kept (slice_index words (old.begin + i)) (old.references i lt);
  }

  pub records_kept : ((k : ℕ) → k < length h.packages → HoldsStatics h (package_record_at h k) (statics_at p (k + 1)))
      → ((k : ℕ) → k < length h.packages → record_of g (slice_index h.packages k) ≡ record_of h (slice_index h.packages k)) →
      (k : ℕ) → k < length g.packages → HoldsStatics g (package_record_at g k) (statics_at p (k + 1))
  records_kept old same k lt =
      let before : k < length h.packages = subst (λ l. k < length l) c.packages lt in
      let is : package_record_at g k ≡ package_record_at h k = ap (λ l. record_of g (get_or l k 0)) c.packages ∙ same k before in
      subst (λ words. HoldsStatics g words (statics_at p (k + 1))) (sym is) (statics_kept (package_record_at h k) (statics_at p (k + 1)) (old k before))

  -- an applet's entry whose AID stays
  pub registered_kept : (a : ℕ) → ((j : ℕ) → j < 3 → entry_word g a j ≡ entry_word h a j)
      → get_or (cells g (entry_word h a 0)) 0 0 ≡ get_or (cells h (entry_word h a 0)) 0 0 → IsRegistered p h a → IsRegistered p g a
  registered_kept a entry first old =
      let at : ℕ = entry_word h a 0 in
      let aid = and_parts (is_object_address h at) _ old.aid in
      let instance = and_parts (is_object_address h (entry_word h a 2)) _ old.instance in
      record {
        aid = ap (λ e. is_object_address g e && holds_aid p (facts g e) (cells g e)) (entry 0 (omega arith))
            ∙ and_from (is_object_address g at) _ (c.there at aid.0) (holds_same (facts g at) (facts h at) (cells g at) (cells h at) (c.same at aid.0) first
            ∙ aid.1);
        number = (λ t. nat_lt 0 (entry 1 (omega arith) t) && nat_le (entry 1 (omega arith) t) (length (c.packages t))) ∙ old.number;
        instance = ap (λ e. is_object_address g e && (is_instance (facts g e).kind && is_a p (facts g e).class Applet)) (entry 2 (omega arith))
            ∙ and_from (is_object_address g (entry_word h a 2)) _ (c.there (entry_word h a 2) instance.0)
            (ap (λ f. is_instance f.kind && is_a p f.class Applet) (c.same (entry_word h a 2) instance.0) ∙ instance.1);
      }
    where
      holds_same : (f k : Facts) (xs ys : List ℕ) → f ≡ k → get_or xs 0 0 ≡ get_or ys 0 0 → holds_aid p f xs ≡ holds_aid p k ys
      holds_same f k xs ys e first = λ t. is_persistent_instance (e t) && ((e t).class == class_word p.platform Aid &&
          (nat_le 5 (first t) && nat_le (first t) 16))

-- the AID that a registered entry has is 16 bytes at most
pub short_aid : (p : Packages) (h : HeapState) (a : ℕ) → IsRegistered p h a → get_or (cells h (entry_word h a 0)) 0 0 ≤ 16
short_aid p h a old =
    let at : ℕ = entry_word h a 0 in
    let aid = and_parts (is_object_address h at) _ old.aid in
    let holds = and_parts (is_persistent_instance (facts h at)) _ aid.1 in
    let class = and_parts ((facts h at).class == class_word p.platform Aid) _ holds.1 in
    let long = and_parts (nat_le 5 (slice_index (cells h at) 0)) _ class.1 in
    leb-true (slice_index (cells h at) 0) 16 long.1

-- the AIDs of the applets stay
abbrev pub AidsStay : HeapState → HeapState → Type 0
AidsStay h g = (a : ℕ) → a < h.counts.1 → Agree 9 (cells g (entry_word h a 0)) (cells h (entry_word h a 0))

module _ (p : Packages) (h g : HeapState) (c : Carries h g) (applets : SameApplets h g) (stay : AidsStay h g) where
  entry_same : (a j : ℕ) → entry_word g a j ≡ entry_word h a j
  entry_same a j = ap (λ l. get_or l (3 * a + j) 0) applets.1

  before : (a : ℕ) → a < g.counts.1 → a < h.counts.1
  before a lt = subst (λ n. a < n) applets.0 lt

  aid_kept : (a : ℕ) → a < h.counts.1 → IsRegistered p h a → aid_of_entry g a ≡ aid_of_entry h a
  aid_kept a lt old = ap (λ e. aid_in (cells g e)) (entry_same a 0) ∙ aid_same (cells g (entry_word h a 0)) (cells h (entry_word h a 0)) (stay a lt)
      (short_aid p h a old)

  own_kept : (own a : ℕ) → IsRegistered p h a → IsOwnAid h own a → IsOwnAid g own a
  own_kept own a registered old =
      let there : IsObject h (entry_word h a 0) = (and_parts (is_object_address h (entry_word h a 0)) _ registered.aid).0 in
      record {
        environments = ap (λ e. (facts g e).owner) (entry_same a 0) ∙ ap (λ f. f.owner) (c.same (entry_word h a 0) there) ∙ old.environments;
        behind = subst (λ e. own < e) (sym (entry_same a 0)) old.behind;
      }

  pub sound_kept : (x most own : ℕ) → ((r : ℕ) → own < r → IsObject g r → IsFitBut x most p g r)
      → ((k : ℕ) → k < length g.packages → HoldsStatics g (package_record_at g k) (statics_at p (k + 1))) →
      IsSoundBut x most p h own → IsSoundBut x most p g own
  sound_kept x most own objects statics s = record {
    objects = objects;
    statics = statics;
    applets = λ a lt. registered_kept p h g c a (λ j _. entry_same a j) (stay a (before a lt) 0 (omega arith)) (s.applets a (before a lt));
    distinct = λ b lt a less same. s.distinct b (before b lt) a less
        (sym (aid_kept a (let l = before b lt in omega (arith, l, less)) (s.applets a (let l = before b lt in omega (arith, l, less)))) ∙ same
        ∙ aid_kept b (before b lt) (s.applets b (before b lt)));
    aids = λ a lt. own_kept own a (s.applets a (before a lt)) (s.aids a (before a lt));
  }
