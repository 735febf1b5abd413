-- Applet: an applet is registered, with an AID object that is made for it.
use Rattle.std.proofs.Common.{◌≡◌, ℕ, ◌+◌, ◌*◌, ◌<◌, ◌≤◌, Bool, true, false, inl, List, length, Option, Some, None, Result, Ok, refl, sym, ◌∙◌, ap, subst, arith}
use Rattle.std.proofs.Common.{if◌then◌else◌}
use Rattle.std.proofs.lemmas.Bool.{and_from, and_parts, cond-true, eq-eqb, false_from_ne_true, leb-true, ltb-true, true≢false}
use Rattle.std.proofs.lemmas.List.{length-replicate}
use Rattle.std.proofs.lemmas.List.FromFn.{get_or-map-range_with_len}
use Rattle.std.proofs.lemmas.Option.{none-some, same_Some}
use Rattle.std.specs.Option.{option_map}
use Rattle.std.specs.Prelude.{◌==◌, ◌&&◌, nat_le, nat_lt, not, slice_index}
use Rattle.jc_words.specs.Layout.{most_applets}
use Rattle.jc_heap.specs.declared.object.Facts.{Facts}
use Rattle.jc_heap.specs.declared.object.Kind.TheVariants.{Instance}
use Rattle.jc_heap.specs.declared.place.AppletEntry.{AppletEntry}
use Rattle.jc_heap.specs.Heap.{HeapState, IsObject, add_object, cells, facts, heap_item_at, is_allocated, set_cells}
use Rattle.jc_heap.specs.Moves.{Commit, SetCells, SetPlaces, new_move}
use Rattle.jc_heap.specs.Object.{AnObject, Object, header_only, cells_of, facts_of, is_object, new_object, object_size}
use Rattle.jc_heap.specs.Place.{applet_changes}
use Rattle.jc_heap.proofs.Laws.{heap_item_at-add_object, heap_item_at-add_other, object_named, same_facts}
use Rattle.jc_heap.proofs.Keeping.{object-header_only}
use Rattle.jc_frames.specs.declared.outcome.FrameExit.{FrameExit}
use Rattle.jc_memory.specs.declared.registers.Installation.{Installation}
use Rattle.jc_memory.specs.declared.registers.Installation.TheVariants.{Idle, Open, Registered}
use Rattle.jc_transient.specs.declared.owner.PackageNumber.{PackageNumber}
use Rattle.jc_transient.specs.Owners.{owner_number}
use Rattle.jc_memory.specs.State.{MemoryState, HeapMove, IsNew, SetRegisters, apply_effect}
use Rattle.jc_memory.specs.Cells.{byte_at, header_at}
use Rattle.jc_linker.specs.Classes.{is_class, reference_cell, size_of, is_a}
use Rattle.jc_linker.specs.Lookups.{applet_entry}
use Rattle.jc_linker.specs.Resolve.{names_interface}
use Rattle.jc_linker.specs.Values.{Packages}
use Rattle.jc_platform.specs.declared.names.PlatformClass.TheVariants.{Aid, Applet, OwnerPin}
use Rattle.jc_platform.specs.NamePlaces.{class_word}
use Rattle.jc_platform.specs.Hierarchy.{is_interface}
use Rattle.jc_platform.specs.Hierarchy as platform
use Rattle.jc_platform.specs.Names.{classes}
use Rattle.jc_packages.specs.Objects.{is_instance, is_object_address}
use Rattle.jc_packages.specs.Sound.{aid_in, aid_of_entry, entry_word, holds_aid}
use Rattle.jc_world.specs.declared.arrays.Stretch.{Stretch}
use Rattle.jc_world.specs.declared.native_result.NativeResult.{NativeResult}
use Rattle.jc_world.specs.declared.native_result.NativeResult.TheVariants.{ReturnVoid}
use Rattle.jc_world.specs.Arrays.{bytes_in}
use Rattle.jc_world.proofs.Below.{below_itself}
use Rattle.jc_api_framework.specs.Aid.Cells.{cells_of_aid, is_aid_length}
use Rattle.jc_api_framework.specs.Applet.{install_aid}
use Rattle.jc_api_framework.specs.Applet.Register.{is_owned, next_number, open_installation, with_installation}
use Rattle.law_code.proofs.ClassFacts.{numbers_before}
use Rattle.law_code.specs.Classes.{HasAids, KnowsClasses}
use Rattle.law_soundness.specs.MemoryLaws.Fit.{AreCellsOf, FitsNew, FitsObject, FitsRun, FitsTurn, IsFit, KeepsSound, OfRegistry, RegistersApplet}
use Rattle.law_soundness.specs.MemoryLaws.State.{IsSoundMemory, IsSteady, is_home, is_open, is_owner_up_to}
use Rattle.jc_api.proofs.Reaching.{header_is}
use Rattle.jc_api.proofs.Stretches.{length_bytes}
use Rattle.jc_api_framework.proofs.AppletCalls.Registering.{MayRegister, Registering}
use Rattle.law_code.proofs.SparedObjects.{applets-add_object, applets-set_cells}
use Rattle.law_soundness.proofs.Below.{aid_no_pin}
use Rattle.law_soundness.proofs.Frames.{run_headers}
use Rattle.law_code.proofs.Natives.{nine}
use Rattle.law_soundness.proofs.RunCells.{aid_put, all_set, item-set_cells}
use Rattle.law_soundness.proofs.RunRegistry.{unlike}

-- an installation that is open is of a package that is there
pub open_home : (i : Installation) (k : PackageNumber) → open_installation i ≡ Some k → is_open i ≡ true
open_home Idle k e = absurd (none-some k e)
open_home (Open home entry) k e = refl
open_home (Registered home) k e = absurd (none-some k e)

home_number : (h : HeapState) (i : Installation) (k : PackageNumber) → open_installation i ≡ Some k → is_home h i ≡ true
    → (nat_lt 0 k.0 && nat_le k.0 (length h.packages)) ≡ true
home_number h Idle k e is = absurd (none-some k e)
home_number h (Open home entry) k e is = subst (λ x. (nat_lt 0 x.0 && nat_le x.0 (length h.packages)) ≡ true) (same_Some home k e) is
home_number h (Registered home) k e is = absurd (none-some k e)

-- the applet's instance
owned_there : (m : MemoryState) (n r : ℕ) (o : Option Facts) → header_at m r ≡ o → is_owned n o ≡ true → IsObject m.heap.now r
owned_there m n r None is e = absurd (true≢false (sym e))
owned_there m n r (Some f) is e = (header_is m r f is).0

durable_stays : {A : Type 0} (b : Bool) → b ≡ true → (x y z : A) → (if b then (if b then x else y) else z) ≡ x
durable_stays true is x y z = refl
durable_stays false is x y z = absurd (true≢false (sym is))

module _ (keeps : KeepsSound) (p : Packages) (m : MemoryState) (known : KnowsClasses p) (sound : IsSoundMemory p m) (steady : IsSteady m) where
  abbrev aid_class : ℕ
  aid_class = class_word p.platform Aid

  abbrev aid_new : Object
  aid_new = new_object Instance aid_class 0 9

  -- the heap with the AID object, and as its cells are set
  abbrev with_object : HeapState
  with_object = add_object m.heap.now aid_new (object_size Instance 9)

  abbrev with_cells : List ℕ → ℕ → HeapState
  with_cells aid r = set_cells with_object r 0 (cells_of_aid aid)

  made_fits : FitsNew p m Instance aid_class 0 9
  unfolding platform.cells_of is_interface classes
  made_fits =
      let one = and_parts (is_class p aid_class) _ (known.platform.own Aid (known.platform.needed Aid refl) refl) in
      let two = and_parts (not (names_interface p aid_class)) _ one.1 in
      record {
        there = and_from (is_class p aid_class) _ one.0 (and_from (not (names_interface p aid_class)) _ two.0
            (eq-eqb 9 (size_of p aid_class) (sym (known.platform.exact Aid (known.platform.needed Aid refl)))));
        known = refl;
        small = λ is. omega arith;
        environments = λ is zero. (Aid, refl, refl);
      }

  no_pin : is_a p aid_class OwnerPin ≡ false
  unfolding is_interface classes
  no_pin = false_from_ne_true (is_a p aid_class OwnerPin) (aid_no_pin p known aid_class (known.platform.own Aid (known.platform.needed Aid refl) refl) (below_itself p aid_class))

  numbers : (k : ℕ) → k < 9 → reference_cell p aid_class k ≡ false
  unfolding platform.cells_of is_interface classes
  numbers k lt = known.platform.kinds aid_class k Aid (known.platform.own Aid (known.platform.needed Aid refl) refl) refl (below_itself p aid_class) lt ∙ numbers_before Aid 9 refl k lt

  module _ (r : ℕ) (new : IsNew m.heap.now r) where
    free : is_allocated m.heap.now m.heap.now.top ≡ false
    free = subst (λ t. is_allocated m.heap.now t ≡ false) new.chosen new.free

    item_new : heap_item_at with_object r ≡ AnObject aid_new
    item_new = subst (λ x. heap_item_at with_object x ≡ AnObject aid_new) (sym new.chosen) (heap_item_at-add_object m.heap.now aid_new (object_size Instance 9) free)

    other : (q : ℕ) → IsObject m.heap.now q → r ≡ q → ⊥
    other q there same = true≢false (sym (object_named m.heap.now q there) ∙ ap (is_allocated m.heap.now) (sym same) ∙ new.free)

    item_old : (q : ℕ) → IsObject m.heap.now q → heap_item_at with_object q ≡ heap_item_at m.heap.now q
    item_old q there = heap_item_at-add_other m.heap.now aid_new (object_size Instance 9) q (λ same. other q there (new.chosen ∙ same))

    -- the AID object of an applet is another one
    entry_old : (a : ℕ) → a < m.heap.now.counts.1 → IsObject m.heap.now (entry_word m.heap.now a 0)
    entry_old a lt = (and_parts (is_object_address m.heap.now (entry_word m.heap.now a 0)) _ (sound.now.applets a lt).aid).0

    entry_same : (a : ℕ) → entry_word with_object a 0 ≡ entry_word m.heap.now a 0
    entry_same a = ap (λ l. slice_index l (3 * a + 0)) (applets-add_object m.heap.now aid_new (object_size Instance 9)).1

    abbrev after_new : MemoryState
    after_new = apply_effect (HeapMove (new_move Instance aid_class 0 9)) m

    facts_new : facts with_object r ≡ aid_new.facts
    facts_new = ap facts_of item_new

    cells_fit : (aid : List ℕ) → is_aid_length (length aid) ≡ true → FitsRun p after_new r 0 (cells_of_aid aid)
    cells_fit aid long = (
      λ stays. inl (record {
        bytes = aid;
        first = refl;
        is = refl;
        long = long;
        numbers = λ k lt. subst (λ f. reference_cell p f.class k ≡ false) (sym facts_new) (numbers k lt);
        pin = subst (λ f. is_a p f.class OwnerPin ≡ false) (sym facts_new) no_pin;
        apart = λ a lt same.
            let there : a < m.heap.now.counts.1 = subst (λ n. a < n) (applets-add_object m.heap.now aid_new (object_size Instance 9)).0 lt in
            other (entry_word m.heap.now a 0) (entry_old a there) (sym same ∙ entry_same a);
      }),
      λ array. absurd (true≢false (ap is_instance (ap (λ f. f.kind) (sym facts_new) ∙ array))),
    )

    cells_there : (aid : List ℕ) → AreCellsOf with_object r (0 + length (cells_of_aid aid))
    cells_there aid = (
      ap (λ f. f.event) facts_new,
      (let n = nine aid in let long : (facts with_object r).length ≡ 9 = ap (λ f. f.length) facts_new in omega (arith, n, long)),
    )

    module _ (aid : List ℕ) (instance : ℕ) (k : PackageNumber) (may : MayRegister m aid instance k) (long : is_aid_length (length aid) ≡ true)
        (bytes : (i : ℕ) → i < length aid → slice_index aid i < 256)
        (is : is_instance (facts m.heap.now instance).kind ≡ true) (class : is_a p (facts m.heap.now instance).class Applet ≡ true) where
      abbrev after_cells : MemoryState
      after_cells = apply_effect (HeapMove (SetCells r 0 (cells_of_aid aid))) after_new

      abbrev entry : AppletEntry
      entry = record { aid = r; «package» = k.0; instance = instance }

      open_now : is_open m.registers.installation ≡ true
      open_now = open_home m.registers.installation k may.opened_by

      after_cells_sound : IsSoundMemory p after_cells
      after_cells_sound = keeps p (HeapMove (SetCells r 0 (cells_of_aid aid))) after_new (cells_there aid, cells_fit aid long)
          (keeps p (HeapMove (new_move Instance aid_class 0 9)) m made sound)
        where
          made : FitsObject p m (new_move Instance aid_class 0 9)
          made = record { kind = Instance; class = aid_class; owner = 0; long = 9; is = refl; fits = made_fits }

      -- what stands in it
      bare_after_cells : (q : ℕ) → header_only (heap_item_at (with_cells aid r) q) ≡ header_only (heap_item_at with_object q)
      bare_after_cells q = run_headers (cells_of_aid aid) with_object r 0 q

      stands_after_cells : (q : ℕ) → is_object (heap_item_at (with_cells aid r) q) ≡ is_object (heap_item_at with_object q)
      stands_after_cells q = sym (object-header_only (heap_item_at (with_cells aid r) q)) ∙ ap is_object (bare_after_cells q) ∙ object-header_only (heap_item_at with_object q)

      facts_after_cells : (q : ℕ) → facts (with_cells aid r) q ≡ facts with_object q
      facts_after_cells q = same_facts (heap_item_at (with_cells aid r) q) (heap_item_at with_object q) (bare_after_cells q)

      facts_aid : facts (with_cells aid r) r ≡ aid_new.facts
      facts_aid = facts_after_cells r ∙ facts_new

      cells_aid : cells (with_cells aid r) r ≡ cells_of_aid aid
      cells_aid = all_set (cells_of_aid aid) with_object r (ap (λ t. length (cells_of t)) item_new ∙ length-replicate {A = ℕ} 9 0 ∙ sym (nine aid))

      instance_old : IsObject m.heap.now instance
      instance_old = owned_there m (next_number m) instance (header_at m instance) refl may.owned

      instance_same : heap_item_at with_object instance ≡ heap_item_at m.heap.now instance
      instance_same = item_old instance instance_old

      facts_instance : facts (with_cells aid r) instance ≡ facts m.heap.now instance
      facts_instance = facts_after_cells instance ∙ ap facts_of instance_same

      counts_after_cells : (with_cells aid r).counts.1 ≡ m.heap.now.counts.1
      counts_after_cells = (applets-set_cells (cells_of_aid aid) with_object r 0).0 ∙ (applets-add_object m.heap.now aid_new (object_size Instance 9)).0

      entry_after_cells : (a : ℕ) → entry_word (with_cells aid r) a 0 ≡ entry_word m.heap.now a 0
      entry_after_cells a = ap (λ l. slice_index l (3 * a + 0)) (applets-set_cells (cells_of_aid aid) with_object r 0).1 ∙ entry_same a

      aid_after_cells : (a : ℕ) → a < m.heap.now.counts.1 → aid_of_entry (with_cells aid r) a ≡ aid_of_entry m.heap.now a
      aid_after_cells a lt =
          ap (λ q. aid_in (cells (with_cells aid r) q)) (entry_after_cells a)
          ∙ ap (λ t. aid_in (cells_of t)) (item-set_cells (cells_of_aid aid) with_object r 0 (entry_word m.heap.now a 0)
          (other (entry_word m.heap.now a 0) (entry_old a lt)) ∙ item_old (entry_word m.heap.now a 0) (entry_old a lt))

      parts_long : (5 ≤ length aid) × (length aid ≤ 16)
      parts_long =
          let parts = and_parts (nat_le 5 (length aid)) (nat_le (length aid) 16) long in (leb-true 5 (length aid) parts.0, leb-true (length aid) 16 parts.1)

      holds_new : holds_aid p aid_new.facts (cells_of_aid aid) ≡ true
      holds_new = and_from (aid_class == aid_class) _ (eq-eqb aid_class aid_class refl) long

      durable_after_cells : after_cells.heap.durable ≡ m.heap.durable
      durable_after_cells = durable_stays m.heap.begun may.begun m.heap.durable with_object (with_cells aid r)

      next_after_cells : after_cells.heap.now.counts.1 ≡ after_cells.heap.durable.counts.1
      next_after_cells = counts_after_cells ∙ ap (λ c. c.1) steady.counts ∙ ap (λ h. h.counts.1) (sym durable_after_cells)

      registers_fit : RegistersApplet p after_cells (applet_changes after_cells.heap.now entry)
      registers_fit =
          let number = and_parts (nat_lt 0 k.0) _ (home_number after_cells.heap.now m.registers.installation k may.opened_by after_cells_sound.home) in
          let behind = sound.behind in
          let order = sound.whole.order in
          let top = new.chosen in
          record {
            entry = entry;
            is = refl;
            few = subst (λ n. n < most_applets) (sym counts_after_cells) may.few;
            installing = open_now;
            next = next_after_cells;
            begun = may.begun;
            aid = stands_after_cells r ∙ ap is_object item_new;
            holds = ap (λ f. holds_aid p f (cells (with_cells aid r) r)) facts_aid ∙ ap (holds_aid p aid_new.facts) cells_aid ∙ holds_new;
            environments = ap (λ f. f.owner) facts_aid;
            behind = omega (arith, behind, order, top);
            unlike = λ a lt same.
                let there : a < m.heap.now.counts.1 = subst (λ n. a < n) counts_after_cells lt in
                unlike p m known sound aid a may.none may.few there (sym (aid_after_cells a there) ∙ same ∙ ap aid_in cells_aid ∙ aid_put aid parts_long.1 bytes);
            some = ltb-true 0 k.0 number.0;
            home = leb-true k.0 (length after_cells.heap.now.packages) number.1;
            instance = stands_after_cells instance ∙ ap is_object instance_same ∙ instance_old;
            applet = ap (λ f. is_instance f.kind) facts_instance ∙ is;
            class = ap (λ f. is_a p f.class Applet) facts_instance ∙ class;
          }

      abbrev after_entry : MemoryState
      after_entry = apply_effect (HeapMove (SetPlaces (applet_changes after_cells.heap.now entry))) after_cells

      after_entry_sound : IsSoundMemory p after_entry
      after_entry_sound = keeps p (HeapMove (SetPlaces (applet_changes after_cells.heap.now entry))) after_cells (OfRegistry registers_fit) after_cells_sound

      durable_after_entry : after_entry.heap.durable ≡ after_cells.heap.durable
      durable_after_entry = cond-true m.heap.begun after_cells.heap.durable after_entry.heap.now may.begun

      one_more : after_entry.heap.now.counts.1 ≡ after_entry.heap.durable.counts.1 + 1
      one_more = ap (λ n. n + 1) (next_after_cells ∙ ap (λ h. h.counts.1) (sym durable_after_entry))

      -- the installation's transaction ends, and an instance is registered
      abbrev after_commit : MemoryState
      after_commit = apply_effect (HeapMove Commit) after_entry

      after_commit_sound : IsSoundMemory p after_commit
      after_commit_sound = keeps p (HeapMove Commit) after_entry (may.begun, λ on. one_more) after_entry_sound

      known_after_entry : is_owner_up_to after_entry.heap.now.counts.1 after_entry.heap.now (owner_number m.registers.active) ≡ true
      known_after_entry =
          subst (λ n. is_owner_up_to n after_entry.heap.now (owner_number m.registers.active) ≡ true)
          (cond-true (is_open m.registers.installation) (after_entry.heap.durable.counts.1 + 1) after_entry.heap.now.counts.1 open_now ∙ sym one_more)
          after_entry_sound.active

      turn_registered : FitsTurn after_commit (with_installation after_entry (Registered k))
      turn_registered = record {
        active = known_after_entry;
        leaves = λ one none. refl;
        home = refl;
        selected = λ a is. after_commit_sound.selected a is;
        opens = λ on. absurd (true≢false (sym on));
      }

      -- so an applet is registered
      pub registering_fits : (R : Result NativeResult FrameExit → MemoryState → Type 0)
          → R (Ok ReturnVoid) (apply_effect (SetRegisters (with_installation after_entry (Registered k))) after_commit)
          → Registering (IsFit p) R p m aid instance k r
      registering_fits R follows = record {
        makes = record { kind = Instance; class = aid_class; owner = 0; long = 9; is = refl; fits = made_fits };
        sets = (cells_there aid, cells_fit aid long);
        enters = OfRegistry registers_fit;
        commits = (may.begun, λ on. one_more);
        turns = turn_registered;
        follows = follows;
      }

-- the AID of an entry, and one whose bytes are those of an array
module _ (p : Packages) (aids : HasAids p) where
  -- an AID, of bytes
  abbrev pub IsAid : List ℕ → Type 0
  IsAid aid = (is_aid_length (length aid) ≡ true) × ((i : ℕ) → i < length aid → slice_index aid i < 256)

  found : (number k : ℕ) (o : _) → applet_entry p number k ≡ o → (aid : List ℕ) → option_map (λ a. a.aid) o ≡ Some aid → IsAid aid
  found number k None is aid e = absurd (none-some aid e)
  found number k (Some a) is aid e = subst IsAid (same_Some a.aid aid e) (aids.long number k a is, λ i lt. aids.bytes number k i a is lt)

  pub entry_named : (i : Installation) (aid : List ℕ) → install_aid p i ≡ Some aid → IsAid aid
  entry_named Idle aid e = absurd (none-some aid e)
  entry_named (Open home k) aid e = found home.0 k (applet_entry p home.0 k) refl aid e
  entry_named (Registered home) aid e = absurd (none-some aid e)

pub bytes_small : (m : MemoryState) (e : Stretch) (i : ℕ) → i < length (bytes_in m e) → slice_index (bytes_in m e) i < 256
bytes_small m e i lt =
    let long = length_bytes m e in
    let same : slice_index (bytes_in m e) i ≡ byte_at m e.array (e.start + i) = get_or-map-range_with_len (byte_at m e.array) e.start e.count i (e.start + i) 0
    (omega (arith, lt, long)) refl in
    omega (arith, same)
