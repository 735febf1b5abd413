-- What a loss of power leaves of a sound memory.
use Rattle.std.proofs.Common.{◌≡◌, ◌+◌, ◌≤◌, length, sym, ◌∙◌, ap, subst, arith, if◌then◌else◌}
use Rattle.std.proofs.lemmas.Option.{none-some}
use Rattle.jc_environment.specs.Objects.{last_of}
use Rattle.jc_transient.specs.State.{IsCleared}
use Rattle.jc_heap.specs.Heap.{SameShape, area_sizes, facts, heap_item_at}
use Rattle.jc_heap.specs.HeapLaws.{AreConsistent, IsConsistentHeap}
use Rattle.jc_heap.proofs.Changing.{shape-same}
use Rattle.jc_heap.proofs.Laws.{same_facts}
use Rattle.jc_transient.specs.Owners.{owner_number}
use Rattle.jc_memory.specs.Registers.{at_reset}
use Rattle.jc_memory.specs.State.{MemoryState}
use Rattle.jc_linker.specs.Values.{Packages}
use Rattle.jc_packages.specs.Objects.{is_persistent_instance, is_object_address}
use Rattle.jc_packages.specs.Sound.{IsSound}
use Rattle.law_soundness.proofs.Frames.{same_object}
use Rattle.law_soundness.proofs.Transients.{blank_lives}
use Rattle.law_soundness.specs.MemoryLaws.State.{IsFitObject, IsSoundMemory, IsSoundUpTo, OutlastsLosses, is_home, is_open, is_owner_up_to, last_own, most_owner}

found : (p : Packages) (m : MemoryState) → IsSoundMemory p m → IsSound p m.heap.durable (last_own m)
found p m s = record {
  objects = λ r above there.
      let o : IsFitObject m.heap.durable.counts.1 p m.heap.durable r = s.durable.objects r above there in
      record { class = o.class; owner = o.owner; values = o.values };
  statics = s.durable.statics;
  applets = s.durable.applets;
  distinct = s.durable.distinct;
}

module _ (p : Packages) (m n : MemoryState) (s : IsSoundMemory p m) (now : n.heap.now ≡ m.heap.durable) (durable : n.heap.durable ≡ m.heap.durable)
    (fixed : n.fixed ≡ m.fixed) (reset : n.registers ≡ at_reset) (clear : IsCleared n.ram)
    (fits : n.ram.sizes ≡ area_sizes n.heap.now) where
  most_is : most_owner n ≡ n.heap.now.counts.1
  most_is = ap (λ g. if is_open g.installation then n.heap.durable.counts.1 + 1 else n.heap.now.counts.1) reset

  own_is : last_own n ≡ last_own m
  own_is = ap last_of fixed

  low : IsSoundUpTo m.heap.durable.counts.1 p m.heap.durable (last_own n)
  low = subst (IsSoundUpTo m.heap.durable.counts.1 p m.heap.durable) (sym own_is) s.durable

  left_whole : AreConsistent n.heap
  left_whole = record {
    now = subst IsConsistentHeap (sym now) s.whole.durable;
    durable = subst IsConsistentHeap (sym durable) s.whole.durable;
    shape = subst (λ h. SameShape h n.heap.now) (sym durable) (subst (SameShape m.heap.durable) (sym now) (shape-same m.heap.durable));
    order = let a = ap (λ h. h.top) now in let b = ap (λ h. h.top) durable in omega (arith, a, b);
  }

  powered : IsSoundMemory p n
  powered = record {
    whole = left_whole;
    registry = ap (λ h. length h.applets) now ∙ s.registry_kept;
    registry_kept = ap (λ h. length h.applets) durable ∙ s.registry_kept;
    now = subst (λ k. IsSoundUpTo k p n.heap.now (last_own n)) (sym most_is) (subst (λ h. IsSoundUpTo h.counts.1 p h (last_own n)) (sym now) low);
    durable = subst (λ h. IsSoundUpTo h.counts.1 p h (last_own n)) (sym durable) low;
    settled = λ off. now ∙ sym durable;
    packages = ap (λ h. h.packages) (now ∙ sym durable);
    loaded = ap (λ h. length h.packages) now ∙ ap length (sym s.packages) ∙ s.loaded;
    counts = λ closed. ap (λ h. h.counts) (now ∙ sym durable);
    active = ap (λ g. is_owner_up_to (most_owner n) n.heap.now (owner_number g.active)) reset;
    behind = let a = ap (λ h. h.top) durable in let b = own_is in let c = s.behind in omega (arith, a, b, c);
    own = λ r below there.
        let b = own_is in let c = s.behind in
        let here : r ≤ last_own m = omega (arith, below, b) in
        let same = s.whole.shape.items r (omega (arith, here, c)) in
        ap (λ h. is_persistent_instance (facts h r)) now ∙ ap is_persistent_instance
        (sym (same_facts (heap_item_at m.heap.now r) (heap_item_at m.heap.durable r) same))
        ∙ s.own r here (same_object (heap_item_at m.heap.now r) (heap_item_at m.heap.durable r) same ∙ ap (λ h. is_object_address h r) (sym now) ∙ there);
    home = ap (λ g. is_home n.heap.now g.installation) reset;
    selected = λ a e. absurd (none-some a (ap (λ g. g.selected) (sym reset) ∙ e));
    transients = blank_lives n.heap.now n.ram clear fits;
  }

pub outlast_losses : OutlastsLosses
outlast_losses = record { left = found; again = powered }
