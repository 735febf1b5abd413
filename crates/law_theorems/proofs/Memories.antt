-- A memory with the package that a load brings.
use Rattle.std.proofs.Common.{◌≡◌, ℕ, ◌+◌, ◌-◌, ◌<◌, ◌≤◌, ◌==◌, ◌&&◌, true, false, inl, inr, List, [], ◌∷◌, length, refl, sym, ◌∙◌, ap, subst, arith}
use Rattle.std.proofs.Common.{if◌then◌else◌, nat_lt, nat_le, Ok}
use Rattle.std.specs.Prelude.{slice_index}
use Rattle.std.proofs.lemmas.Bool.{and_from, and_parts, false≢true, le-leb, leb-true, or_cases, or_left, or_right}
use Rattle.std.proofs.lemmas.List.{length-append}
use Rattle.jc_cap.specs.declared.texts.LoadedComponents.{LoadedComponents}
use Rattle.jc_heap.specs.declared.object.Kind.{Kind}
use Rattle.jc_heap.specs.Heap.{HeapState, SameShape}
use Rattle.jc_heap.specs.HeapLaws.{IsConsistentHeap}
use Rattle.jc_heap.specs.Object.{facts_of, is_object}
use Rattle.jc_heap.proofs.Changing.{shape-same}
use Rattle.jc_heap.proofs.NewPackages.{top-package}
use Rattle.jc_memory.specs.declared.registers.Installation.{Installation}
use Rattle.jc_memory.specs.declared.registers.Installation.TheVariants.{Idle, Open, Registered}
use Rattle.jc_transient.specs.Owners.{owner_number}
use Rattle.jc_memory.specs.State.{HeapMove, MemoryState, apply_effect}
use Rattle.jc_linker.specs.Values.{Packages}
use Rattle.jc_linker.specs.Values.{LinkerComponents}
use Rattle.jc_linker.specs.Linking.{with_package}
use Rattle.law_code.specs.LinkedPackages.{AreLinked}
use Rattle.jc_packages.specs.RecordContents.{arrays_of, image_of, parts_of, statics_of}
use Rattle.jc_packages.specs.PendingPackages.{PendingPackageValue, linked_components}
use Rattle.jc_packages.specs.Objects.{is_instance, is_persistent_instance}
use Rattle.law_soundness.specs.MemoryLaws.Environment.{HasEnvironment, AreEnvironmentObjects}
use Rattle.law_soundness.specs.MemoryLaws.State.{IsSoundMemory, IsSoundUpTo, is_home, is_open, is_owner_up_to, last_own, most_owner}
use Rattle.law_soundness.specs.Growth.{GrowthKeepsSound}
use Rattle.law_soundness.proofs.Grows.{growth_keeps}
use Rattle.law_soundness.specs.Loads.{AreLaidOut, CountsPackages, IsLaidOut, IsSoundForLoads, LoadsKeepSound, load_move, with_record}
use Rattle.law_soundness.proofs.RecordFit.{records_fit}
use Rattle.law_soundness.proofs.PreparedPackages.{initial_arrays}
use Rattle.law_soundness.proofs.LoadRecords.{applets_same, counts_grown, item_low, item_old, longer, no_instance, old_or_new}
use Rattle.law_theorems.proofs.LivingLoads.{package_carried}
use Rattle.jc_packages.proofs.Whole.{package_stands}
use Rattle.law_theorems.proofs.Separation.{package_apart}

-- owners, with one package more
owner_more : (most : ℕ) (h g : HeapState) (n : ℕ) → length h.packages ≤ length g.packages → is_owner_up_to most h n ≡ true → is_owner_up_to most g n ≡ true
owner_more most h g n le is = elim (or_cases (n == 0) _ is) [
  | inl z ↦ or_left (n == 0) _ z
  | inr other ↦ or_right (n == 0) _ (elim (or_cases (nat_le n most) _ other) [
    | inl low ↦ or_left (nat_le n most) _ low
    | inr home ↦ or_right (nat_le n most) _
        (let both = and_parts (nat_lt 256 n) _ home in
        and_from (nat_lt 256 n) _ both.0 (le-leb (n - 256) (length g.packages) (let l = leb-true (n - 256) (length h.packages) both.1 in omega (arith, l, le))))
  ])
]

-- no installation is open
home_closed : (h : HeapState) (i : Installation) → is_open i ≡ false → is_home h i ≡ true
home_closed h Idle closed = refl
home_closed h (Open home entry) closed = absurd (false≢true (sym closed))
home_closed h (Registered home) closed = refl

module _ (all : List LinkerComponents) (p : Packages) (load : LoadedComponents) (q : PendingPackageValue) (m : MemoryState) (linked : AreLinked all p)
    (is : linked_components p load ≡ Ok q) (off : m.heap.begun ≡ false) (closed : is_open m.registers.installation ≡ false)
    (room : length m.heap.now.packages < 32)
    (sound : IsSoundMemory p m) (environment : HasEnvironment p m) (both : AreLaidOut m) (grows : GrowthKeepsSound) where
  abbrev more : Packages
  more = with_package p q.linked

  abbrev own : ℕ
  own = last_own m

  abbrev h : HeapState
  h = m.heap.now

  abbrev g : HeapState
  g = with_record h q.texts

  abbrev after : MemoryState
  after = apply_effect (HeapMove (load_move q.texts)) m

  s : IsConsistentHeap h
  s = sound.whole.now

  counted : CountsPackages h
  counted = both.now.counted

  abbrev cs : List (ℕ × List ℕ)
  cs = parts_of q.texts

  abbrev xs : List (Kind × List ℕ)
  xs = arrays_of (statics_of q.texts)

  abbrev rest : List ℕ
  rest = image_of (statics_of q.texts)

  settled : after.heap.durable ≡ g
  settled = ap (λ b. if b then m.heap.durable else g) off

  stands_whole : IsConsistentHeap g
  stands_whole = package_stands h cs xs rest (omega (arith, room, counted)) (initial_arrays (statics_of q.texts).arrays) s

  behind : own < h.top
  behind = let low = sound.behind in let order = sound.whole.order in omega (arith, low, order)

  -- the applets are those that are committed
  counts_settled : h.counts ≡ m.heap.durable.counts
  counts_settled = ap (λ k. k.counts) (sound.settled off)

  counts_are : g.counts ≡ (h.counts.0 + 1, h.counts.1)
  counts_are = counts_grown h cs xs rest s

  most_before : most_owner m ≡ h.counts.1
  most_before = ap (λ b. if b then m.heap.durable.counts.1 + 1 else h.counts.1) closed

  most_after : most_owner after ≡ h.counts.1
  most_after = ap (λ b. if b then after.heap.durable.counts.1 + 1 else g.counts.1) closed ∙ ap (λ c. c.1) counts_are

  fits_now : IsSoundUpTo h.counts.1 more g own
  fits_now = records_fit h.counts.1 p load q h own is sound.loaded counted s behind
      (grows all h.counts.1 p load q h own linked is sound.loaded (subst (λ n. IsSoundUpTo n p h own) most_before sound.now))

  fits_durable : IsSoundUpTo g.counts.1 more g own
  fits_durable = subst (λ n. IsSoundUpTo n more g own) (ap (λ c. c.1) (sym counts_are)) fits_now

  packages_more : length h.packages ≤ length g.packages
  packages_more = omega (arith, longer h cs xs rest s)

  memory_sound : IsSoundMemory more after
  memory_sound = record {
    whole = record {
      now = stands_whole;
      durable = subst IsConsistentHeap (sym settled) stands_whole;
      shape = subst (λ k. SameShape k g) (sym settled) (shape-same g);
      order = subst (λ k. k.top ≤ g.top) (sym settled) (omega arith);
    };
    registry = ap length (applets_same h cs xs rest s) ∙ sound.registry;
    registry_kept = ap (λ k. length k.applets) settled ∙ ap length (applets_same h cs xs rest s) ∙ sound.registry;
    now = subst (λ n. IsSoundUpTo n more g own) (sym most_after) fits_now;
    durable = subst (λ k. IsSoundUpTo k.counts.1 more k own) (sym settled) fits_durable;
    settled = λ still. sym settled;
    packages = ap (λ k. k.packages) (sym settled);
    loaded = longer h cs xs rest s ∙ ap (λ n. n + 1) sound.loaded ∙ sym (length-append p.loaded (q.linked ∷ []));
    counts = λ still. ap (λ k. k.counts) (sym settled);
    active = ap (λ n. is_owner_up_to n g (owner_number m.registers.active)) (most_after ∙ sym most_before)
        ∙ owner_more (most_owner m) h g (owner_number m.registers.active) packages_more sound.active;
    behind = subst (λ k. own < k.top) (sym settled) (omega (arith, behind, top-package h cs xs rest));
    own = λ r low there.
        let item = item_low h cs xs rest s r (omega (arith, low, behind)) in
        ap (λ t. is_persistent_instance (facts_of t)) item ∙ sound.own r low (sym (ap is_object item) ∙ there);
    home = home_closed g m.registers.installation closed;
    selected = λ a e. (λ t. nat_lt 0 a.0 && nat_le a.0 ((ap (λ k. k.counts.1) settled ∙ ap (λ c. c.1) counts_are ∙ ap (λ c. c.1) counts_settled) t))
        ∙ sound.selected a e;
    transients = package_carried h m.ram cs xs rest s.end sound.transients;
  }

  environments_now : AreEnvironmentObjects more g m.fixed
  environments_now = record {
    long = environment.now.long;
    there = λ k low. ap is_object (item_old h cs xs rest s (slice_index m.fixed k) (environment.now.there k low)) ∙ environment.now.there k low;
    first = λ r low. ap (λ t. (facts_of t).owner) (item_low h cs xs rest s r (omega (arith, low, behind))) ∙ environment.now.first r low;
    classes = λ r there instance zero. elim (old_or_new h cs xs rest s (initial_arrays (statics_of q.texts).arrays) r there) [
      | inl stood ↦
          let item = item_old h cs xs rest s r stood in
          let old = environment.now.classes r stood (ap (λ t. is_instance (facts_of t).kind) (sym item) ∙ instance)
          (ap (λ t. (facts_of t).owner) (sym item) ∙ zero) in
          (old.0, old.1, ap (λ t. (facts_of t).class) item ∙ old.2)
      | inr array ↦ absurd (false≢true (sym (ap (λ t. is_instance (facts_of t).kind) array.item ∙ no_instance array.array.0 array.initial) ∙ instance))
    ];
  }

  counts_after : CountsPackages g
  counts_after = ap (λ c. c.0) counts_are ∙ ap (λ n. n + 1) counted ∙ sym (longer h cs xs rest s)

  layout_after : IsLaidOut g
  layout_after = record { counted = counts_after; apart = package_apart h cs xs rest s.end both.now.apart }

  sound_with : IsSoundForLoads more after
  sound_with = record {
    sound = memory_sound;
    environment = record { now = environments_now; durable = subst (λ k. AreEnvironmentObjects more k m.fixed) (sym settled) environments_now };
    layout = record { now = layout_after; durable = subst IsLaidOut (sym settled) layout_after };
  }

-- where more packages leave what a heap fits
pub loads_keep_sound : GrowthKeepsSound → LoadsKeepSound
loads_keep_sound grows = λ all p load q m linked is off closed room old. sound_with all p load q m linked is off closed room old.sound old.environment
    old.layout grows

pub loads_are_sound : LoadsKeepSound
loads_are_sound = loads_keep_sound growth_keeps
