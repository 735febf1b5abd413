-- A new object.
use Rattle.std.proofs.Common.{◌≡◌, ℕ, ◌+◌, ◌<◌, ◌==◌, true, false, inl, inr, [], length, get_or, refl, sym, ◌∙◌, ap, subst, None, nat_le}
use Rattle.std.specs.Prelude.{not}
use Rattle.std.proofs.lemmas.List.{length-replicate}
use Rattle.std.proofs.lemmas.Option.{none-some}
use Rattle.std.proofs.lemmas.Bool.{and_parts, both_ways, cases_eq, true≢false, or_left, or_right}
use Rattle.jc_transient.specs.declared.cell.ClearEvent.{ClearEvent}
use Rattle.jc_transient.specs.declared.cell.ClearEvent.TheVariants.{Reset, Deselect}
use Rattle.jc_platform.specs.declared.names.PlatformClass.TheVariants.{Aid, OwnerPin}
use Rattle.jc_heap.specs.declared.object.Kind.{Kind}
use Rattle.jc_heap.specs.Object.{AnObject, Object, cells_of, facts_of, is_object, new_object, new_transient}
use Rattle.jc_heap.specs.Component.{words_of}
use Rattle.jc_heap.specs.Heap.{HeapState, IsObject, add_object, add_transient, area_end, cells, facts, heap_item_at, is_allocated, with_area_end}
use Rattle.jc_heap.specs.WholeHeap.{AreAllocated}
use Rattle.jc_heap.proofs.Laws.{heap_item_at-add_object, heap_item_at-add_other, object_named}
use Rattle.jc_linker.specs.Values.{Packages}
use Rattle.jc_packages.specs.Objects.{fits_aid, fits_class, fits_pin, is_instance, is_reference, is_object_address}
use Rattle.jc_linker.specs.Classes.{is_a}
use Rattle.jc_packages.specs.Sound.{entry_word}
use Rattle.law_soundness.specs.MemoryLaws.State.{is_owner_up_to}
use Rattle.jc_packages.proofs.Lists.{zeros}
use Rattle.law_soundness.proofs.HeapChanges.{Carries, HoldsBut, IsFitBut, IsSoundBut, object_kept, owner_same, pin_same, records_kept, sound_kept}
use Rattle.law_code.proofs.SparedObjects.{applets-add_object}

pub packages-add_object : (h : HeapState) (o : Object) (n : ℕ) → (add_object h o n).packages ≡ h.packages
unfolding add_object
packages-add_object h o n = refl

-- what is new fits: its class and its owner are there, and its cells are zeros
pub record IsFitNew (most : ℕ) (p : Packages) (h : HeapState) (o : Object) : Type 0 where
  pub class : fits_class p o.facts.kind o.facts.class o.facts.length ≡ true
  pub owner : is_owner_up_to most h o.facts.owner ≡ true
  pub zeroed : (k : ℕ) → get_or o.cells k 0 ≡ 0
  pub long : o.facts.event ≡ None → length o.cells ≡ o.facts.length
  pub small : is_instance o.facts.kind ≡ true → o.facts.length < 65536
  pub persistent : is_instance o.facts.kind ≡ true → o.facts.event ≡ None

module _ (p : Packages) (h : HeapState) (o : Object) (n : ℕ) (free : is_allocated h h.top ≡ false) where
  abbrev g : HeapState
  g = add_object h o n

  apart : (q : ℕ) → is_allocated h q ≡ true → h.top ≡ q → ⊥
  apart q there e = true≢false (sym there ∙ ap (is_allocated h) (sym e) ∙ free)

  stays : (q : ℕ) → IsObject h q → heap_item_at g q ≡ heap_item_at h q
  stays q there = heap_item_at-add_other h o n q (apart q (object_named h q there))

  add_carries : Carries h g
  add_carries = record {
    there = λ q there. ap is_object (stays q there) ∙ there;
    same = λ q there. ap facts_of (stays q there);
    packages = packages-add_object h o n;
  }

  -- zeros
  held : (x class : ℕ) → (facts g h.top).class ≡ class → cells g h.top ≡ o.cells → ((k : ℕ) → get_or o.cells k 0 ≡ 0) → HoldsBut x p g h.top
  held x class is same zeroed = record {
    references = λ i lt refers. ap (λ l. is_reference g (get_or l i 0)) same ∙ ap (is_reference g) (zeroed i) ∙ or_left (0 == 0) (is_object_address g 0) refl;
    aid = (λ t. fits_aid p (is t) (same t)) ∙ or_right (not (is_a p class Aid)) _ (ap (λ k. nat_le k 16) (zeroed 0));
    pin = λ ne. (λ t. fits_pin p g (is t) (same t)) ∙ pin_same p g class o.cells [] (zeroed 1) (zeroed 3) (zeroed 4)
        ∙ or_right (not (is_a p class OwnerPin)) _ refl;
  }

  new_fits : (x most : ℕ) → IsFitNew most p h o → IsFitBut x most p g h.top
  new_fits x most fits =
      let item : heap_item_at g h.top ≡ AnObject o = heap_item_at-add_object h o n free in
      let header : facts g h.top ≡ o.facts = ap facts_of item in
      let same : cells g h.top ≡ o.cells = ap cells_of item in
      record {
        class = ap (λ f. fits_class p f.kind f.class f.length) header ∙ fits.class;
        owner = owner_same most h g (facts g h.top).owner (packages-add_object h o n) ∙ ap (λ f. is_owner_up_to most h f.owner) header ∙ fits.owner;
        values = λ kept. held x (o.facts.class) (ap (λ f. f.class) header) same fits.zeroed;
        cells = λ none. ap length same ∙ fits.long (ap (λ f. f.event) (sym header) ∙ none) ∙ ap (λ f. f.length) (sym header);
        small = λ instance. subst (λ f. f.length < 65536) (sym header) (fits.small (ap (λ f. is_instance f.kind) (sym header) ∙ instance));
        persistent = λ instance. ap (λ f. f.event) header ∙ fits.persistent (ap (λ f. is_instance f.kind) (sym header) ∙ instance);
      }

  pub added_kept : (x most own : ℕ) → AreAllocated h h.packages → IsFitNew most p h o → IsSoundBut x most p h own → IsSoundBut x most p (add_object h o n) own
  added_kept x most own met fits s = sound_kept p h g add_carries (applets-add_object h o n)
      (λ a lt k low. ap (λ t. get_or (cells_of t) k 0) (stays (entry_word h a 0) (and_parts (is_object_address h (entry_word h a 0)) _ (s.applets a lt).aid).0))
      x most own
      (λ q above there. elim (cases_eq h.top q) [
        | inl e ↦ subst (IsFitBut x most p g) e (new_fits x most fits)
        | inr ne ↦
            let old : IsObject h q = ap is_object (sym (heap_item_at-add_other h o n q ne)) ∙ there in
            object_kept p h g add_carries x most q old (ap cells_of (stays q old)) (s.objects q above old)
      ])
      (records_kept p h g add_carries s.statics (λ k lt. ap words_of (heap_item_at-add_other h o n (get_or h.packages k 0)
      (apart (get_or h.packages k 0) (met k lt))))) s

-- the ends of the areas are none of an object's
pub ended_kept : (x most own : ℕ) (p : Packages) (h : HeapState) (event : ClearEvent) (end : ℕ) → IsSoundBut x most p h own
    → IsSoundBut x most p (with_area_end h event end) own
unfolding heap_item_at
ended_kept x most own p h Reset end s = record {
  objects = λ r above there.
      let o : IsFitBut x most p h r = s.objects r above there in
      record {
        class = o.class;
        owner = o.owner;
        values = λ kept. let v = o.values kept in record { references = v.references; aid = v.aid; pin = v.pin };
        cells = o.cells;
        small = o.small;
        persistent = o.persistent;
      };
  statics = λ k lt. let old = s.statics k lt in record { begin = old.begin; image = old.image; end = old.end; references = old.references };
  applets = λ a lt. let old = s.applets a lt in record { aid = old.aid; number = old.number; instance = old.instance };
  distinct = s.distinct;
  aids = λ a lt. let old = s.aids a lt in record { environments = old.environments; behind = old.behind };
}
ended_kept x most own p h Deselect end s = record {
  objects = λ r above there.
      let o : IsFitBut x most p h r = s.objects r above there in
      record {
        class = o.class;
        owner = o.owner;
        values = λ kept. let v = o.values kept in record { references = v.references; aid = v.aid; pin = v.pin };
        cells = o.cells;
        small = o.small;
        persistent = o.persistent;
      };
  statics = λ k lt. let old = s.statics k lt in record { begin = old.begin; image = old.image; end = old.end; references = old.references };
  applets = λ a lt. let old = s.applets a lt in record { aid = old.aid; number = old.number; instance = old.instance };
  distinct = s.distinct;
  aids = λ a lt. let old = s.aids a lt in record { environments = old.environments; behind = old.behind };
}

pub object_added : (x most own : ℕ) (p : Packages) (h : HeapState) (kind : Kind) (class owner long size : ℕ) → is_allocated h h.top ≡ false
    → AreAllocated h h.packages → fits_class p kind class long ≡ true → is_owner_up_to most h owner ≡ true → (is_instance kind ≡ true → long < 65536) →
    IsSoundBut x most p h own → IsSoundBut x most p (add_object h (new_object kind class owner long) size) own
object_added x most own p h kind class owner long size free met there known small s =
    added_kept p h (new_object kind class owner long) size free x most own met (record
    { class = there; owner = known; zeroed = zeros long; long = λ none. length-replicate long 0; small = small; persistent = λ instance. refl }) s

pub transient_added : (x most own : ℕ) (p : Packages) (h : HeapState) (kind : Kind) (event : ClearEvent) (class owner long : ℕ) → is_allocated h h.top ≡ false
    → AreAllocated h h.packages → fits_class p kind class long ≡ true → is_owner_up_to most h owner ≡ true → is_instance kind ≡ false →
    IsSoundBut x most p h own → IsSoundBut x most p (add_transient h kind event class owner long) own
unfolding add_transient
transient_added x most own p h kind event class owner long free met there known array s =
    ended_kept x most own p (add_object h (new_transient kind event class owner long (area_end h event)) 5) event (area_end h event + long)
    (added_kept p h (new_transient kind event class owner long (area_end h event)) 5 free x most own met
    (record {
      class = there;
      owner = known;
      zeroed = λ k. refl;
      long = λ none. absurd (none-some event (sym none));
      small = λ instance. absurd (both_ways (is_instance kind) array instance);
      persistent = λ instance. absurd (both_ways (is_instance kind) array instance);
    }) s)
