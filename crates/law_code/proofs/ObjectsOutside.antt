-- An object outside reach stands, and what stands stays outside reach.
use Rattle.std.proofs.Common.{◌≡◌, ℕ, ◌+◌, ◌%◌, ◌≤◌, ◌⊎◌, true, inl, inr, List, [], ◌∷◌, length, refl, sym, ◌∙◌, ap, subst, arith, Some}
use Rattle.std.proofs.lemmas.Bool.{true≢false}
use Rattle.std.specs.Prelude.{slice_index}
use Rattle.jc_transient.specs.declared.cell.ClearEvent.{ClearEvent}
use Rattle.jc_transient.specs.declared.sizes.RamSizes.{RamSizes}
use Rattle.jc_transient.specs.declared.cell.ClearEvent.TheVariants.{Reset, Deselect}
use Rattle.jc_transient.specs.State.{RamState, HasSizes, area, area_size, size_in}
use Rattle.jc_heap.specs.Object.{Object, Item, AnObject, APackage, is_object, facts_of}
use Rattle.jc_heap.specs.Heap.{IsObject, heap_item_at, facts, area_end}
use Rattle.jc_heap.proofs.OwnCells.{owns_cells}
use Rattle.jc_transient.specs.declared.owner.Owner.{Owner}
use Rattle.jc_transient.specs.declared.owner.Owner.TheVariants.{Runtime, Applet, Package}
use Rattle.jc_transient.specs.Owners.{owner_of}
use Rattle.jc_memory.specs.State.{MemoryState, Effect, apply_effect, apply_effects}
use Rattle.jc_memory.specs.Reading.{AllEffectsDue}
use Rattle.jc_linker.specs.Values.{Packages}
use Rattle.jc_firewall.specs.declared.subject.Context.TheVariants as context
use Rattle.jc_firewall.specs.FirewallLaws.{IsInReach}
use Rattle.jc_firewall.specs.Situation.{global_array}
use Rattle.jc_world.specs.Contexts.{context_of, package_of_applet, designation_of, situation_of, subject_of}
use Rattle.law_code.specs.Reach.{IsOutside, KeepsCells}
use Rattle.law_code.specs.IsolationLaws.SparingEffects.{LeavesObject, AreQuiet, IsSet, LeaveObjects}
use Rattle.law_code.proofs.SparedObjects.{Stands, HasCells, keeps}

is_an_object : (t : Item) → is_object t ≡ true → (o : Object) × (t ≡ AnObject o)
is_an_object (AnObject o) e = (o, refl)
is_an_object (APackage ws) e = absurd (true≢false (sym e))

pub area_long : (ram : RamState) (event : ClearEvent) → HasSizes ram → length (area ram event) ≡ area_size ram event
area_long ram Reset sizes = sizes.reset_cells
area_long ram Deselect sizes = sizes.deselect_cells

-- the object that a reference names
pub behind : (m : MemoryState) (q : ℕ) → IsObject m.heap.now q → (o : Object) × (heap_item_at m.heap.now q ≡ AnObject o)
behind m q there = is_an_object (heap_item_at m.heap.now q) there

pub stands_first : (m : MemoryState) (q : ℕ) (o : Object) → IsSet m → heap_item_at m.heap.now q ≡ AnObject o → Stands q o m m
stands_first m q o set is =
    let own = owns_cells m.heap.now set.whole in
    let header : facts m.heap.now q ≡ o.facts = ap facts_of is in
    let event_of : (event : ClearEvent) → o.facts.event ≡ Some event → (facts m.heap.now q).event ≡ Some event = λ event e. ap (λ f. f.event) header ∙ e in
    record {
      heap = record {
        item = is;
        beside = λ event e r ne there. subst (λ f. ((facts m.heap.now r).place + (facts m.heap.now r).length ≤ f.place)
            ⊎ (f.place + f.length ≤ (facts m.heap.now r).place)) header (own.apart r q event ne there (event_of event e));
        below = λ event e. subst (λ f. f.place + f.length ≤ area_end m.heap.now event) header (own.below q event (event_of event e));
      };
      ram = record {
        cells = λ event e i lt. refl;
        long = λ event e.
            let below : o.facts.place + o.facts.length ≤ area_end m.heap.now event = subst (λ f. f.place + f.length ≤ area_end m.heap.now event) header
            (own.below q event (event_of event e)) in
            let fits = (set.whole.areas event).fits in
            let size = area_long m.ram event set.sizes in
            let same = ap (λ (z : RamSizes). size_in z event) set.fits in
            omega (arith, below, fits, size, same);
      };
      flag = refl;
      active = refl;
      packages = λ a. refl;
      fixed = refl;
      applets = set.applets;
    }

pub stands_after : (q : ℕ) (o : Object) (start m : MemoryState) (es : List Effect) → AllEffectsDue (LeavesObject q) es m → AreQuiet es m → Stands q o start m
    → Stands q o start (apply_effects es m)
stands_after q o start m [] due quiet st = st
stands_after q o start m (e ∷ es) due quiet st = stands_after q o start (apply_effect e m) es due.1 quiet.1 (keeps q o start e m due.0 quiet.0 st)

-- the context of an owner stays
context_stays : (start m : MemoryState) → ((a : ℕ) → package_of_applet m a ≡ package_of_applet start a) → (owner : Owner)
    → context_of m owner ≡ context_of start owner
context_stays start m same Runtime = refl
context_stays start m same (Applet a) = ap (λ n. context.Package (n % 256)) (same a.0)
context_stays start m same (Package p) = refl

-- what the firewall sees of an object, but for the selected applet, stays
in_reach_before : (p : Packages) (q : ℕ) (o : Object) (start m : MemoryState) → heap_item_at start.heap.now q ≡ AnObject o → Stands q o start m
    → IsInReach (situation_of p m (facts m.heap.now q)) → IsInReach (situation_of p start (facts start.heap.now q))
unfolding situation_of subject_of
in_reach_before p q o start m is st reach =
    let header : facts m.heap.now q ≡ facts start.heap.now q = ap facts_of (st.heap.item ∙ sym is) in
    let owner : context_of m (owner_of (facts m.heap.now q).owner) ≡ context_of start (owner_of (facts start.heap.now q).owner) =
    ap (λ f. context_of m (owner_of f.owner)) header ∙ context_stays start m st.packages _ in
    let active : context_of m m.registers.active ≡ context_of start start.registers.active = ap (λ a. context_of m a) st.active
    ∙ context_stays start m st.packages _ in
    elim reach [
      | inl environment ↦ inl (sym active ∙ environment)
      | inr others ↦ inr (elim others [
        | inl own ↦ inl (sym owner ∙ (own ∙ active))
        | inr global ↦ inr (ap (λ f. global_array (designation_of p f)) (sym header) ∙ global)
      ])
    ]

pub outside_still : (p : Packages) (q : ℕ) (o : Object) (start m : MemoryState) → heap_item_at start.heap.now q ≡ AnObject o → IsOutside p start q
    → Stands q o start m → IsOutside p m q
outside_still p q o start m is out st = record {
  there = ap is_object st.heap.item;
  apart = λ reach. out.apart (in_reach_before p q o start m is st reach);
  others = λ k. out.others (k.0, k.1 ∙ ap (λ l. slice_index l k.0) st.fixed);
}

pub keeps_cells : (q : ℕ) (o : Object) (start m : MemoryState) → heap_item_at start.heap.now q ≡ AnObject o → Stands q o start m → KeepsCells q start m
keeps_cells q o start m is st =
    let header : o.facts ≡ facts start.heap.now q = sym (ap facts_of is) in
    record {
      item = st.heap.item ∙ sym is;
      cells = (subst (λ f. HasCells f start.ram m.ram) header st.ram).cells;
      flag = st.flag;
    }

pub are_sparing : LeaveObjects
are_sparing p m q es set out due quiet =
    let b = behind m q out.there in
    let st = stands_after q b.0 m m es due quiet (stands_first m q b.0 set b.1) in
    (keeps_cells q b.0 m (apply_effects es m) b.1 st, outside_still p q b.0 m (apply_effects es m) b.1 out st)
