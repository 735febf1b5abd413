-- A memory after one change of its heap, or after a step of its transaction.
use Rattle.std.proofs.Common.{◌≡◌, ℕ, ◌+◌, ◌<◌, ◌≤◌, ◌&&◌, Bool, true, false, inl, inr, List, length, refl, sym, ◌∙◌, ap, subst, arith, Some, if◌then◌else◌}
use Rattle.std.proofs.Common.{nat_lt, nat_le}
use Rattle.std.proofs.lemmas.Bool.{and_from, and_parts, cases_Bool, le-leb, leb-true}
use Rattle.jc_words.specs.Layout.{registry_length}
use Rattle.jc_transient.specs.State.{RamState}
use Rattle.jc_heap.specs.Heap.{HeapState, heap_after_change, heap_item_at}
use Rattle.jc_heap.specs.HeapLaws.{AreConsistent}
use Rattle.jc_heap.specs.Moves.{Begin, Commit, Abort}
use Rattle.jc_heap.proofs.KeepingMoves.{keeps}
use Rattle.jc_heap.proofs.Laws.{same_facts}
use Rattle.jc_transient.specs.declared.owner.AppletNumber.{AppletNumber}
use Rattle.jc_memory.specs.declared.registers.Installation.{Installation}
use Rattle.jc_memory.specs.declared.registers.Installation.TheVariants.{Idle, Open, Registered}
use Rattle.jc_memory.specs.declared.registers.Registers.{Registers}
use Rattle.jc_transient.specs.Owners.{owner_number}
use Rattle.jc_memory.specs.State.{MemoryState, HeapMove, SetRegisters, apply_effect}
use Rattle.jc_linker.specs.Values.{Packages}
use Rattle.jc_packages.specs.Objects.{is_persistent_instance}
use Rattle.law_soundness.specs.MemoryLaws.State.{IsSoundMemory, IsSoundUpTo, TransientCells, is_applet, is_home, is_open, is_owner_up_to, last_own, most_in, most_new, most_owner}
use Rattle.law_soundness.proofs.HeapChanges.{more_owners, owner_more, owner_same}
use Rattle.law_soundness.proofs.Frames.{Frames, SameHeaders, same_object}
use Rattle.law_soundness.proofs.Transients.{abort_carried, same_carried}

-- registers that suit a memory; an installation may begin with them
pub record IsTurned (m : MemoryState) (g : Registers) : Type 0 where
  pub active : is_owner_up_to (most_in g m) m.heap.now (owner_number g.active) ≡ true
  pub leaves : is_open m.registers.installation ≡ true → is_open g.installation ≡ false → m.heap.begun ≡ false
  pub home : is_home m.heap.now g.installation ≡ true
  pub selected : (a : AppletNumber) → g.selected ≡ Some a → is_applet m.heap.durable a ≡ true

-- what is so of the heap that a change leaves durable
pub choose : {X : Type 0} (P : X → Type 0) (b : Bool) (x y : X) → (b ≡ true → P x) → (b ≡ false → P y) → P (if b then x else y)
choose P true x y on off = on refl
choose P false x y on off = off refl

-- the rest of a memory says nothing of its heap
pub again : (p : Packages) (m : MemoryState) (ram : RamState) (command sent : List ℕ) → TransientCells m.heap.now ram
    → IsSoundMemory p m → IsSoundMemory p (record m { ram = ram; command = command; sent = sent })
again p m ram command sent lives s = record {
  whole = s.whole;
  registry = s.registry;
  registry_kept = s.registry_kept;
  now = s.now;
  durable = s.durable;
  settled = s.settled;
  packages = s.packages;
  loaded = s.loaded;
  counts = s.counts;
  active = s.active;
  behind = s.behind;
  own = s.own;
  home = s.home;
  selected = s.selected;
  transients = lives;
}

-- whether an applet is registered depends on their number
pub applet_same : (h g : HeapState) (a : AppletNumber) → g.counts ≡ h.counts → is_applet g a ≡ is_applet h a
applet_same h g a e = λ t. nat_lt 0 a.0 && nat_le a.0 (e t).1

pub applet_more : (h g : HeapState) (a : AppletNumber) → h.counts.1 ≤ g.counts.1 → is_applet h a ≡ true → is_applet g a ≡ true
applet_more h g a le is =
    let both = and_parts (nat_lt 0 a.0) _ is in
    and_from (nat_lt 0 a.0) _ both.0 (le-leb a.0 g.counts.1 (let l = leb-true a.0 h.counts.1 both.1 in omega (arith, l, le)))

-- an installation's package depends on the packages
pub home_same : (h g : HeapState) (i : Installation) → g.packages ≡ h.packages → is_home g i ≡ is_home h i
home_same h g Idle e = refl
home_same h g (Open home entry) e = λ t. nat_lt 0 home.0 && nat_le home.0 (length (e t))
home_same h g (Registered home) e = refl

module _ (p : Packages) (m : MemoryState) (s : IsSoundMemory p m) where
  abbrev own : ℕ
  own = last_own m

  abbrev now : HeapState
  now = m.heap.now

  abbrev durable : HeapState
  durable = m.heap.durable

  pub most_opened : (g : Registers) → is_open g.installation ≡ true → most_in g m ≡ durable.counts.1 + 1
  most_opened g e = ap (λ b. if b then durable.counts.1 + 1 else now.counts.1) e

  most_closed : (g : Registers) → is_open g.installation ≡ false → most_in g m ≡ now.counts.1
  most_closed g e = ap (λ b. if b then durable.counts.1 + 1 else now.counts.1) e

  -- outside a transaction
  pub low_now : m.heap.begun ≡ false → IsSoundUpTo now.counts.1 p now own
  low_now e = subst (λ h. IsSoundUpTo h.counts.1 p h own) (sym (s.settled e)) s.durable

  top_behind : own < now.top
  top_behind = let low = s.behind in let order = s.whole.order in omega (arith, low, order)

  -- one change
  module _ (h : HeapState) (places : List ℕ) (fresh : ℕ) (f : Frames now h) (w : AreConsistent (heap_after_change m.heap h places fresh))
      (sound : IsSoundUpTo (most_owner m) p h own) (low : m.heap.begun ≡ false → IsSoundUpTo now.counts.1 p h own) where
    abbrev left : HeapState
    left = if m.heap.begun then durable else h

    counts_left : left.counts ≡ durable.counts
    counts_left = choose (λ k. k.counts ≡ durable.counts) m.heap.begun durable h (λ on. refl) (λ off. f.counts ∙ ap (λ k. k.counts) (s.settled off))

    most_same : (if is_open m.registers.installation then left.counts.1 + 1 else h.counts.1) ≡ most_owner m
    most_same = λ t. if is_open m.registers.installation then (counts_left t).1 + 1 else (f.counts t).1

    pub change_kept : (ram : RamState) → TransientCells h ram → IsSoundMemory p (record m { heap = heap_after_change m.heap h places fresh; ram = ram })
    change_kept ram lives = record {
      whole = w;
      registry = f.registry ∙ s.registry;
      registry_kept = choose (λ k. length k.applets ≡ registry_length) m.heap.begun durable h (λ on. s.registry_kept) (λ off. f.registry ∙ s.registry);
      now = subst (λ n. IsSoundUpTo n p h own) (sym most_same) sound;
      durable = choose (λ k. IsSoundUpTo k.counts.1 p k own) m.heap.begun durable h (λ on. s.durable)
          (λ off. subst (λ n. IsSoundUpTo n p h own) (ap (λ c. c.1) (sym f.counts)) (low off));
      settled = λ off. sym (ap (λ b. if b then durable else h) off);
      packages = choose (λ k. h.packages ≡ k.packages) m.heap.begun durable h (λ on. f.packages ∙ s.packages) (λ off. refl);
      loaded = ap length f.packages ∙ s.loaded;
      counts = λ closed. f.counts ∙ s.counts closed ∙ sym counts_left;
      active = owner_same _ now h (owner_number m.registers.active) f.packages ∙ ap (λ n. is_owner_up_to n now (owner_number m.registers.active)) most_same
          ∙ s.active;
      behind = choose (λ k. own < k.top) m.heap.begun durable h (λ on. s.behind) (λ off. let top = f.top in let first = top_behind in omega
          (arith, top, first));
      own = λ r low there. let first = top_behind in let inside : r < now.top = omega (arith, low, first) in
          ap is_persistent_instance (f.headers r inside) ∙ s.own r low (sym (f.objects r inside) ∙ there);
      home = home_same now h m.registers.installation f.packages ∙ s.home;
      selected = λ a e. applet_same durable left a counts_left ∙ s.selected a e;
      transients = lives;
    }

  -- a change that keeps what fits, whoever may own objects, and each header
  pub kept_changed : (h : HeapState) (places : List ℕ) (fresh : ℕ) → Frames now h → SameHeaders now h → AreConsistent (heap_after_change m.heap h places fresh)
      → ((most : ℕ) → IsSoundUpTo most p now own → IsSoundUpTo most p h own) → IsSoundMemory p (record m { heap = heap_after_change m.heap h places fresh })
  kept_changed h places fresh f headers w keep = change_kept h places fresh f w (keep (most_owner m) s.now) (λ off. keep now.counts.1 (low_now off)) m.ram
      (same_carried now h m.ram f.lasting headers s.transients)

  -- a new object's owner
  new_most : most_new m ≤ most_owner m
  new_most = choose (λ n. n ≤ most_owner m) m.heap.begun (most_owner m) now.counts.1 (λ on. omega arith)
      (λ off. choose (λ n. now.counts.1 ≤ n) (is_open m.registers.installation) (durable.counts.1 + 1) now.counts.1
      (λ opened. let same : now.counts.1 ≡ durable.counts.1 = ap (λ h. h.counts.1) (s.settled off) in omega (arith, same)) (λ closed. omega arith))

  pub known_now : (owner : ℕ) → is_owner_up_to (most_new m) now owner ≡ true → is_owner_up_to (most_owner m) now owner ≡ true
  known_now owner known = owner_more (most_new m) (most_owner m) now owner new_most known

  pub known_low : (owner : ℕ) → is_owner_up_to (most_new m) now owner ≡ true → m.heap.begun ≡ false → is_owner_up_to now.counts.1 now owner ≡ true
  known_low owner known off = subst (λ n. is_owner_up_to n now owner ≡ true) (ap (λ b. if b then most_owner m else now.counts.1) off) known

  -- steps of the transaction
  pub begun_kept : m.heap.begun ≡ false → IsSoundMemory p (apply_effect (HeapMove Begin) m)
  begun_kept off =
      let same : most_owner (apply_effect (HeapMove Begin) m) ≡ most_owner m = ap (λ h. if is_open m.registers.installation then h.counts.1
      + 1 else now.counts.1) (s.settled off) in
      record {
        whole = keeps Begin m.heap tt s.whole;
        registry = s.registry;
        registry_kept = s.registry;
        now = subst (λ n. IsSoundUpTo n p now own) (sym same) s.now;
        durable = low_now off;
        settled = λ no_more. refl;
        packages = refl;
        loaded = s.loaded;
        counts = λ closed. refl;
        active = ap (λ n. is_owner_up_to n now (owner_number m.registers.active)) same ∙ s.active;
        behind = top_behind;
        own = s.own;
        home = s.home;
        selected = λ a e. applet_same durable now a (ap (λ h. h.counts) (s.settled off)) ∙ s.selected a e;
        transients = s.transients;
      }

  module _ (ends : is_open m.registers.installation ≡ true → now.counts.1 ≡ durable.counts.1 + 1) where
    all_committed : most_owner m ≡ now.counts.1
    all_committed = choose (λ n. n ≡ now.counts.1) (is_open m.registers.installation) (durable.counts.1 + 1) now.counts.1 (λ opened. sym (ends opened))
        (λ closed. refl)

    more_committed : most_owner m ≤ most_owner (apply_effect (HeapMove Commit) m)
    more_committed = choose (λ n. most_owner m ≤ n) (is_open m.registers.installation) (now.counts.1 + 1) now.counts.1 (λ opened. omega (arith, all_committed))
        (λ closed. omega (arith, all_committed))

    counts_committed : durable.counts.1 ≤ now.counts.1
    counts_committed = elim (cases_Bool (is_open m.registers.installation)) [
      | inl opened ↦ let e = ends opened in omega (arith, e)
      | inr closed ↦ let e : now.counts.1 ≡ durable.counts.1 = ap (λ c. c.1) (s.counts closed) in omega (arith, e)
    ]

    pub committed_kept : IsSoundMemory p (apply_effect (HeapMove Commit) m)
    committed_kept = record {
      whole = keeps Commit m.heap tt s.whole;
      registry = s.registry;
      registry_kept = s.registry;
      now = more_owners (most_owner m) (most_owner (apply_effect (HeapMove Commit) m)) p now own more_committed s.now;
      durable = subst (λ n. IsSoundUpTo n p now own) all_committed s.now;
      settled = λ off. refl;
      packages = refl;
      loaded = s.loaded;
      counts = λ closed. refl;
      active = owner_more (most_owner m) (most_owner (apply_effect (HeapMove Commit) m)) now (owner_number m.registers.active) more_committed s.active;
      behind = top_behind;
      own = s.own;
      home = s.home;
      selected = λ a e. applet_more durable now a counts_committed (s.selected a e);
      transients = s.transients;
    }

  aborted_most : most_owner (apply_effect (HeapMove Abort) m) ≡ most_owner m
  aborted_most = elim (cases_Bool (is_open m.registers.installation)) [
    | inl opened ↦ ap (λ b. if b then durable.counts.1 + 1 else durable.counts.1) opened ∙ sym (most_opened m.registers opened)
    | inr closed ↦ ap (λ b. if b then durable.counts.1 + 1 else durable.counts.1) closed ∙ ap (λ c. c.1) (sym (s.counts closed))
        ∙ sym (most_closed m.registers closed)
  ]

  more_aborted : durable.counts.1 ≤ most_owner (apply_effect (HeapMove Abort) m)
  more_aborted = choose (λ n. durable.counts.1 ≤ n) (is_open m.registers.installation) (durable.counts.1 + 1) durable.counts.1 (λ opened. omega arith)
      (λ closed. omega arith)

  pub aborted_kept : IsSoundMemory p (apply_effect (HeapMove Abort) m)
  aborted_kept = record {
    whole = keeps Abort m.heap tt s.whole;
    registry = s.registry_kept;
    registry_kept = s.registry_kept;
    now = more_owners durable.counts.1 (most_owner (apply_effect (HeapMove Abort) m)) p durable own more_aborted s.durable;
    durable = s.durable;
    settled = λ off. refl;
    packages = refl;
    loaded = ap length (sym s.packages) ∙ s.loaded;
    counts = λ closed. refl;
    active = owner_same _ now durable (owner_number m.registers.active) (sym s.packages)
        ∙ ap (λ n. is_owner_up_to n now (owner_number m.registers.active)) aborted_most ∙ s.active;
    behind = s.behind;
    own = λ r low there. let first = s.behind in let same = s.whole.shape.items r (omega (arith, low, first)) in
        ap is_persistent_instance (sym (same_facts (heap_item_at now r) (heap_item_at durable r) same))
        ∙ s.own r low (same_object (heap_item_at now r) (heap_item_at durable r) same ∙ there);
    home = home_same now durable m.registers.installation (sym s.packages) ∙ s.home;
    selected = s.selected;
    transients = abort_carried m.heap s.whole m.ram s.transients;
  }

  -- the registers are set
  module _ (g : Registers) (fits : IsTurned m g) where
    turned_counts : is_open g.installation ≡ false → now.counts ≡ durable.counts
    turned_counts closed = elim (cases_Bool (is_open m.registers.installation)) [
      | inl opened ↦ ap (λ h. h.counts) (s.settled (fits.leaves opened closed))
      | inr before ↦ s.counts before
    ]

    turned_now : IsSoundUpTo (most_in g m) p now own
    turned_now = elim (cases_Bool (is_open g.installation)) [
      | inl opened ↦ subst (λ n. IsSoundUpTo n p now own) (sym (most_opened g opened)) (elim (cases_Bool (is_open m.registers.installation)) [
        | inl before ↦ subst (λ n. IsSoundUpTo n p now own) (most_opened m.registers before) s.now
        | inr closed ↦
            let same : now.counts.1 ≡ durable.counts.1 = ap (λ c. c.1) (s.counts closed) in
            more_owners now.counts.1 (durable.counts.1 + 1) p now own (omega (arith, same))
            (subst (λ n. IsSoundUpTo n p now own) (most_closed m.registers closed) s.now)
      ])
      | inr closed ↦ subst (λ n. IsSoundUpTo n p now own) (sym (most_closed g closed)) (elim (cases_Bool (is_open m.registers.installation)) [
        | inl before ↦ low_now (fits.leaves before closed)
        | inr still ↦ subst (λ n. IsSoundUpTo n p now own) (most_closed m.registers still) s.now
      ])
    ]

    pub turned_kept : IsSoundMemory p (apply_effect (SetRegisters g) m)
    turned_kept = record {
      whole = s.whole;
      registry = s.registry;
      registry_kept = s.registry_kept;
      now = turned_now;
      durable = s.durable;
      settled = s.settled;
      packages = s.packages;
      loaded = s.loaded;
      counts = turned_counts;
      active = fits.active;
      behind = s.behind;
      own = s.own;
      home = fits.home;
      selected = fits.selected;
      transients = s.transients;
    }
