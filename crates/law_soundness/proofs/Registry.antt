-- An applet is registered.
use Rattle.std.proofs.Common.{◌≡◌, ℕ, ◌+◌, ◌*◌, ◌<◌, ◌≤◌, ◌&&◌, true, inl, inr, List, length, set, get_or, refl, sym, ◌∙◌, ap, subst, arith, nat_lt, nat_le}
use Rattle.std.proofs.lemmas.List.{length-set, get_or-set_same, get_or-set_other}
use Rattle.std.proofs.lemmas.Bool.{and_from, cases_lt, lt-ltb, le-leb}
use Rattle.jc_words.specs.Layout.{most_applets, registry_length}
use Rattle.jc_platform.specs.declared.names.PlatformClass.TheVariants.{Applet}
use Rattle.jc_heap.specs.declared.place.AppletEntry.{AppletEntry}
use Rattle.jc_heap.specs.Object.{cells_of, facts_of, is_object}
use Rattle.jc_heap.specs.Component.{words_of}
use Rattle.jc_heap.specs.Heap.{HeapState, IsObject, cells, facts, heap_item_at}
use Rattle.jc_heap.specs.Place.{applet_changes, set_places}
use Rattle.jc_linker.specs.Values.{Packages}
use Rattle.jc_packages.specs.Objects.{is_instance, is_object_address}
use Rattle.jc_linker.specs.Classes.{is_a}
use Rattle.jc_packages.specs.Sound.{IsRegistered, aid_in, aid_of_entry, entry_word, holds_aid}
use Rattle.law_soundness.specs.MemoryLaws.State.{IsOwnAid}
use Rattle.law_soundness.proofs.HeapChanges.{Carries, IsSoundBut, object_kept, records_kept, registered_kept}

-- an entry that the registry may have after the others
pub record IsEntry (p : Packages) (h : HeapState) (own : ℕ) (entry : AppletEntry) : Type 0 where
  pub few : h.counts.1 < most_applets
  pub registry : length h.applets ≡ registry_length
  pub aid : is_object_address h entry.aid ≡ true
  pub holds : holds_aid p (facts h entry.aid) (cells h entry.aid) ≡ true
  pub environments : (facts h entry.aid).owner ≡ 0
  pub behind : own < entry.aid
  pub unlike : (a : ℕ) → a < h.counts.1 → aid_of_entry h a ≡ aid_in (cells h entry.aid) → ⊥
  pub some : 0 < entry.«package»
  pub home : entry.«package» ≤ length h.packages
  pub instance : is_object_address h entry.instance ≡ true
  pub applet : is_instance (facts h entry.instance).kind ≡ true
  pub class : is_a p (facts h entry.instance).class Applet ≡ true

module _ (p : Packages) (h : HeapState) (own : ℕ) (entry : AppletEntry) (new : IsEntry p h own entry) where
  abbrev g : HeapState
  g = set_places h (applet_changes h entry)

  abbrev count : ℕ
  count = h.counts.1

  pub item_still : (q : ℕ) → heap_item_at g q ≡ heap_item_at h q
  unfolding heap_item_at
  item_still q = refl

  carry : Carries h g
  carry = record {
    there = λ q there. ap is_object (item_still q) ∙ there;
    same = λ q there. ap facts_of (item_still q);
    packages = refl;
  }

  abbrev first : List ℕ
  first = set h.applets (3 * count) entry.aid

  abbrev second : List ℕ
  second = set first (3 * count + 1) entry.«package»

  old_word : (a j : ℕ) → a < count → j < 3 → entry_word g a j ≡ entry_word h a j
  old_word a j lt low =
      get_or-set_other second (3 * count + 2) (3 * a + j) entry.instance 0 (λ e. omega (arith, e, lt, low))
      ∙ get_or-set_other first (3 * count + 1) (3 * a + j) entry.«package» 0 (λ e. omega (arith, e, lt, low))
      ∙ get_or-set_other h.applets (3 * count) (3 * a + j) entry.aid 0 (λ e. omega (arith, e, lt, low))

  room : 3 * count + 2 < length h.applets
  room = let few = new.few in let long = new.registry in omega (arith, few, long)

  aid_word : entry_word g count 0 ≡ entry.aid
  aid_word =
      get_or-set_other second (3 * count + 2) (3 * count + 0) entry.instance 0 (λ e. omega (arith, e))
      ∙ get_or-set_other first (3 * count + 1) (3 * count + 0) entry.«package» 0 (λ e. omega (arith, e))
      ∙ ap (λ n. get_or first n 0) (let e : 3 * count + 0 ≡ 3 * count = omega arith in e)
      ∙ get_or-set_same h.applets (3 * count) entry.aid 0 (let r = room in omega (arith, r))

  package_word : entry_word g count 1 ≡ entry.«package»
  package_word =
      get_or-set_other second (3 * count + 2) (3 * count + 1) entry.instance 0 (λ e. omega (arith, e))
      ∙ get_or-set_same first (3 * count + 1) entry.«package» 0 (let r = room in let l = length-set h.applets (3 * count) entry.aid in omega (arith, r, l))

  instance_word : entry_word g count 2 ≡ entry.instance
  instance_word = get_or-set_same second (3 * count + 2) entry.instance 0
      (let r = room in let l = length-set h.applets (3 * count) entry.aid in let k = length-set first (3 * count + 1) entry.«package» in omega (arith, r, l, k))

  cells_still : (q : ℕ) → cells g q ≡ cells h q
  cells_still q = ap cells_of (item_still q)

  pub facts_still : (q : ℕ) → facts g q ≡ facts h q
  facts_still q = ap facts_of (item_still q)

  new_registered : IsRegistered p g count
  new_registered = record {
    aid = ap (λ e. is_object_address g e && holds_aid p (facts g e) (cells g e)) aid_word
        ∙ (λ t. is_object (item_still entry.aid t) && holds_aid p (facts_still entry.aid t) (cells_still entry.aid t))
        ∙ and_from (is_object_address h entry.aid) _ new.aid new.holds;
    number = ap (λ n. nat_lt 0 n && nat_le n (length h.packages)) package_word ∙ and_from (nat_lt 0 entry.«package») _ (lt-ltb 0 entry.«package» new.some)
        (le-leb entry.«package» (length h.packages) new.home);
    instance = ap (λ e. is_object_address g e && (is_instance (facts g e).kind && is_a p (facts g e).class Applet)) instance_word
        ∙ (λ t. is_object (item_still entry.instance t) && (is_instance (facts_still entry.instance t).kind && is_a p
        (facts_still entry.instance t).class Applet))
        ∙ and_from (is_object_address h entry.instance) _ new.instance (and_from (is_instance (facts h entry.instance).kind) _ new.applet new.class);
  }

  old_aid : (a : ℕ) → a < count → aid_of_entry g a ≡ aid_of_entry h a
  old_aid a lt = ap (λ e. aid_in (cells g e)) (old_word a 0 lt (omega arith)) ∙ ap aid_in (cells_still (entry_word h a 0))

  new_aid : aid_of_entry g count ≡ aid_in (cells h entry.aid)
  new_aid = ap (λ e. aid_in (cells g e)) aid_word ∙ ap aid_in (cells_still entry.aid)

  -- one before the others, or the last one
  last : (a : ℕ) → a < count + 1 → (count ≤ a) → count ≡ a
  last a lt le = omega (arith, lt, le)

  pub entered : (x most : ℕ) → IsSoundBut x most p h own → IsSoundBut x most p g own
  entered x most s = record {
    objects = λ r above there.
        let old : IsObject h r = ap is_object (sym (item_still r)) ∙ there in object_kept p h g carry x most r old (cells_still r) (s.objects r above old);
    statics = records_kept p h g carry s.statics (λ k lt. ap words_of (item_still (get_or h.packages k 0)));
    applets = λ a lt. elim (cases_lt a count) [
      | inl low ↦ registered_kept p h g carry a (λ j three. old_word a j low three) (ap (λ l. get_or l 0 0) (cells_still (entry_word h a 0))) (s.applets a low)
      | inr high ↦ subst (IsRegistered p g) (last a lt high) new_registered
    ];
    distinct = λ b lt a less same. elim (cases_lt b count) [
      | inl low ↦ s.distinct b low a less (sym (old_aid a (omega (arith, less, low))) ∙ same ∙ old_aid b low)
      | inr high ↦
          let is : count ≡ b = last b lt high in
          new.unlike a (omega (arith, less, is)) (sym (old_aid a (omega (arith, less, is))) ∙ same ∙ ap (aid_of_entry g) (sym is) ∙ new_aid)
    ];
    aids = λ a lt. elim (cases_lt a count) [
      | inl low ↦ record {
        environments = ap (λ e. (facts g e).owner) (old_word a 0 low (omega arith)) ∙ ap (λ f. f.owner) (facts_still (entry_word h a 0))
            ∙ (s.aids a low).environments;
        behind = subst (λ e. own < e) (sym (old_word a 0 low (omega arith))) (s.aids a low).behind;
      }
      | inr high ↦ subst (IsOwnAid g own) (last a lt high) (record {
        environments = ap (λ e. (facts g e).owner) aid_word ∙ ap (λ f. f.owner) (facts_still entry.aid) ∙ new.environments;
        behind = subst (λ e. own < e) (sym aid_word) new.behind;
      })
    ];
  }
