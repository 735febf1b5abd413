-- What effects that spare an object leave of it, and of the context for which code runs.
use Rattle.std.proofs.Common.{◌≡◌, ℕ, suc, ◌+◌, ◌-◌, ◌*◌, ◌<◌, ◌≤◌, ◌⊎◌, Bool, true, false, inl, inr, List, [], ◌∷◌, length, replicate, set, get_or, refl, sym, ◌∙◌, ap}
use Rattle.std.proofs.Common.{subst, arith, Option, Some, None, if◌then◌else◌}
use Rattle.std.proofs.lemmas.Bool.{and_parts, not-true, eqb-false, cases_lt, le-leb, lt-leb, true≢false}
use Rattle.std.proofs.lemmas.List.{length-set, get_or-set_same, get_or-set_other}
use Rattle.std.specs.Prelude.{pos, not, ◌&&◌, ◌==◌, nat_le, slice_index}
use Rattle.jc_words.specs.Layout.{most_applets, registry_length}
use Rattle.jc_transient.specs.declared.cell.CellValue.{CellValue}
use Rattle.jc_transient.specs.declared.cell.CellValue.TheVariants.{Short}
use Rattle.jc_transient.specs.declared.cell.ClearEvent.{ClearEvent}
use Rattle.jc_transient.specs.declared.cell.ClearEvent.TheVariants.{Reset, Deselect}
use Rattle.jc_transient.specs.State.{RamState, area, with_area, with_cells, cell_at, flag_of}
use Rattle.jc_heap.specs.declared.object.Facts.{Facts}
use Rattle.jc_heap.specs.declared.object.Kind.{Kind}
use Rattle.jc_heap.specs.declared.place.AppletEntry.{AppletEntry}
use Rattle.jc_heap.specs.declared.place.Place.{Place}
use Rattle.jc_heap.specs.declared.place.Place.TheVariants.{Cell, Static, Registry, AppletCount}
use Rattle.jc_heap.specs.Object.{Object, AnObject, is_object, new_transient}
use Rattle.jc_heap.proofs.Laws.{object_named}
use Rattle.jc_heap.specs.Statics.{set_word}
use Rattle.jc_heap.specs.Heap.{HeapState, facts, heap_item_at, is_allocated, set_cell, set_cells, add_object, add_transient, area_end, with_area_end}
use Rattle.jc_heap.specs.Moves.{Move, Write, SetPlaces, WriteNonAtomic, SetCells, AddObject, AddTransient, AddPackage, Begin, Commit, Abort}
use Rattle.jc_heap.specs.Place.{set_place, set_places, applet_changes}
use Rattle.jc_memory.specs.State.{MemoryState, Effect, HeapMove, SetTransient, SetFlag, ClearTransient, SetRegisters, BeginCommand, SendBytes}
use Rattle.jc_memory.specs.State.{apply_effect, ram_after_move, ram_after_set, ram_unflagged, zero_of}
use Rattle.jc_world.specs.Contexts.{installed_package, package_of_applet}
use Rattle.law_code.specs.IsolationLaws.SparingEffects.{IsBeside, AreBeside, MoveLeavesObject, LeavesObject, IsQuiet}
use Rattle.law_code.proofs.OnHeap.{StandsBeside, place_set, places_set, cells_set, object_added, transient_added, registry_set, count_set}
use Rattle.law_code.proofs.InAreas.{below_set, above_set, as_long}

-- ---- the registry

-- the package of an applet, by the number of applets, the registry's words and the package that is being installed
abbrev package_in : ℕ → List ℕ → ℕ → ℕ → ℕ
package_in count applets installed a = if not (a == 0) && nat_le a 64 && nat_le a count then slice_index applets (3 * (a - 1) + 1) else installed

-- the same registry
abbrev pub SameApplets : HeapState → HeapState → Type 0
SameApplets h new = (new.counts.1 ≡ h.counts.1) × (new.applets ≡ h.applets)

packages_stay : (m n : MemoryState) → SameApplets m.heap.now n.heap.now → installed_package n.registers.installation
    ≡ installed_package m.registers.installation → (a : ℕ) → package_of_applet n a ≡ package_of_applet m a
unfolding package_of_applet
packages_stay m n same home a =
    ap (λ c. package_in c n.heap.now.applets (installed_package n.registers.installation) a) same.0
    ∙ ap (λ l. package_in m.heap.now.counts.1 l (installed_package n.registers.installation) a) same.1
    ∙ ap (λ i. package_in m.heap.now.counts.1 m.heap.now.applets i a) home

pub applets-set_cell : (h : HeapState) (r i v : ℕ) → SameApplets h (set_cell h r i v)
unfolding set_cell
applets-set_cell h r i v = (refl, refl)

pub applets-set_word : (h : HeapState) (r j v : ℕ) → SameApplets h (set_word h r j v)
unfolding set_word
applets-set_word h r j v = (refl, refl)

pub applets-add_object : (h : HeapState) (o : Object) (n : ℕ) → SameApplets h (add_object h o n)
unfolding add_object
applets-add_object h o n = (refl, refl)

applets-with_end : (h : HeapState) (event : ClearEvent) (n : ℕ) → SameApplets h (with_area_end h event n)
applets-with_end h Reset n = (refl, refl)
applets-with_end h Deselect n = (refl, refl)

also : (h mid new : HeapState) → SameApplets h mid → SameApplets mid new → SameApplets h new
also h mid new first second = (second.0 ∙ first.0, second.1 ∙ first.1)

abbrev made : HeapState → Kind → ClearEvent → ℕ → ℕ → ℕ → HeapState
made h kind event class owner long = add_object h (new_transient kind event class owner long (area_end h event)) 5

applets-add_transient : (h : HeapState) (kind : Kind) (event : ClearEvent) (class owner long : ℕ) → SameApplets h (add_transient h kind event class owner long)
unfolding add_transient
applets-add_transient h kind event class owner long = also h (made h kind event class owner long)
    (with_area_end (made h kind event class owner long) event (area_end h event + long))
    (applets-add_object h (new_transient kind event class owner long (area_end h event)) 5)
    (applets-with_end (made h kind event class owner long) event (area_end h event + long))

applets-set_place : (q : ℕ) (h : HeapState) (place : Place) (v : ℕ) → IsBeside q place → SameApplets h (set_place h place v)
applets-set_place q h (Cell r i) v beside = applets-set_cell h r i v
applets-set_place q h (Static r j) v beside = applets-set_word h r j v
applets-set_place q h (Registry i) v beside = absurd beside
applets-set_place q h AppletCount v beside = absurd beside

applets-set_places : (q : ℕ) (cs : List (Place × ℕ)) (h : HeapState) → AreBeside q cs → SameApplets h (set_places h cs)
applets-set_places q [] h beside = (refl, refl)
applets-set_places q (c ∷ cs) h beside = also h (set_place h c.0 c.1) (set_places (set_place h c.0 c.1) cs) (applets-set_place q h c.0 c.1 beside.0)
    (applets-set_places q cs (set_place h c.0 c.1) beside.1)

pub applets-set_cells : (vs : List ℕ) (h : HeapState) (r i : ℕ) → SameApplets h (set_cells h r i vs)
applets-set_cells [] h r i = (refl, refl)
applets-set_cells (v ∷ vs) h r i = also h (set_cell h r i v) (set_cells (set_cell h r i v) r (suc i) vs) (applets-set_cell h r i v)
    (applets-set_cells vs (set_cell h r i v) r (suc i))

-- the registry's words with one applet more
abbrev with_applet : List ℕ → ℕ → AppletEntry → List ℕ
with_applet applets count entry = set (set (set applets (3 * count) entry.aid) (3 * count + 1) entry.package) (3 * count + 2) entry.instance

choose : (b c d : Bool) (x y z : ℕ) → (b ≡ true → (if c then x else z) ≡ (if d then y else z)) → (if b && c then x else z) ≡ (if b && d then y else z)
choose true c d x y z same = same refl
choose false c d x y z same = refl

-- its package is the one that is being installed, and those of the others stay
package_more : (count : ℕ) (applets : List ℕ) (entry : AppletEntry) (a : ℕ) → count < most_applets → length applets ≡ registry_length
    → package_in (count + 1) (with_applet applets count entry) entry.package a ≡ package_in count applets entry.package a
package_more count applets entry a few long = choose (not (a == 0) && nat_le a 64) (nat_le a (count + 1)) (nat_le a count) _ _ entry.package
    (λ e. more (number_of (and_parts _ _ e).0))
  where
    place : ℕ
    place = 3 * (a - 1) + 1

    other : (l : List ℕ) (i v : ℕ) → (place ≡ i → ⊥) → get_or (set l i v) place 0 ≡ get_or l place 0
    other l i v ne = get_or-set_other l i place v 0 ne

    number_of : not (a == 0) ≡ true → a ≡ 0 → ⊥
    number_of e = eqb-false a 0 (not-true (a == 0) e)

    size : length (set applets (3 * count) entry.aid) ≡ length applets
    size = length-set applets (3 * count) entry.aid

    stays : a ≤ count → (a ≡ 0 → ⊥) → get_or (with_applet applets count entry) place 0 ≡ get_or applets place 0
    stays le some =
        other (set (set applets (3 * count) entry.aid) (3 * count + 1) entry.package) (3 * count + 2) entry.instance (λ e. omega (arith, e, le))
        ∙ other (set applets (3 * count) entry.aid) (3 * count + 1) entry.package (λ e. omega (arith, e, le, some))
        ∙ other applets (3 * count) entry.aid (λ e. omega (arith, e, le))

    added : a ≡ count + 1 → get_or (with_applet applets count entry) place 0 ≡ entry.package
    added is =
        other (set (set applets (3 * count) entry.aid) (3 * count + 1) entry.package) (3 * count + 2) entry.instance (λ e. omega (arith, e, is))
        ∙ ap (λ i. get_or (set (set applets (3 * count) entry.aid) i entry.package) place 0) (let here : 3 * count + 1 ≡ place = omega (arith, is) in here)
        ∙ get_or-set_same (set applets (3 * count) entry.aid) place entry.package 0 (omega (arith, is, few, long, size))

    more : (a ≡ 0 → ⊥) → (if nat_le a (count + 1) then get_or (with_applet applets count entry) place 0 else entry.package)
        ≡ (if nat_le a count then get_or applets place 0 else entry.package)
    more some = elim (cases_lt count a) [
      | inr le ↦ rw (le-leb a (count + 1) (omega (arith, le)), le-leb a count le) (stays le some)
      | inl above ↦ elim (cases_lt (count + 1) a) [
        | inl far ↦ rw (lt-leb a (count + 1) far, lt-leb a count above) refl
        | inr near ↦ rw (le-leb a (count + 1) near, lt-leb a count above) (added (omega (arith, near, above)))
      ]
    ]

package_registered : (m : MemoryState) (entry : AppletEntry) → m.heap.now.counts.1 < most_applets → entry.package ≡ installed_package m.registers.installation
    → length m.heap.now.applets ≡ registry_length →
    (a : ℕ) → package_of_applet (apply_effect (HeapMove (SetPlaces (applet_changes m.heap.now entry))) m) a ≡ package_of_applet m a
unfolding package_of_applet
package_registered m entry few home long a =
    ap (λ i. package_in (m.heap.now.counts.1 + 1) (with_applet m.heap.now.applets m.heap.now.counts.1 entry) i a) (sym home)
    ∙ package_more m.heap.now.counts.1 m.heap.now.applets entry a few long
    ∙ ap (λ i. package_in m.heap.now.counts.1 m.heap.now.applets i a) home

abbrev registered : HeapState → AppletEntry → HeapState
registered h entry = set_place (set_place (set_place h (Registry (3 * h.counts.1)) entry.aid) (Registry (3 * h.counts.1 + 1)) entry.package)
    (Registry (3 * h.counts.1 + 2)) entry.instance

-- ---- transient cells

-- the cells of an object in an area, and the area's length
pub record HasCells (f : Facts) (old new : RamState) : Type 0 where
  pub cells : (event : ClearEvent) → f.event ≡ Some event → (i : ℕ) → i < f.length → cell_at new event (f.place + i) ≡ cell_at old event (f.place + i)
  pub long : (event : ClearEvent) → f.event ≡ Some event → f.place + f.length ≤ length (area new event)

-- cells of another object are set
area_filled : (f : Facts) (ram : RamState) (e : ClearEvent) (at : ℕ) (vs : List CellValue) →
    (f.event ≡ Some e → (at + length vs ≤ f.place) ⊎ (f.place + f.length ≤ at)) → ((event : ClearEvent) → f.event ≡ Some event
    → f.place + f.length ≤ length (area ram event)) →
    HasCells f ram (with_area ram e (with_cells (area ram e) at vs))
area_filled f ram Reset at vs apart long = record { cells = cells; long = longer }
  where
    one : f.event ≡ Some Reset → (i : ℕ) → i < f.length → get_or (with_cells ram.reset_cells at vs) (f.place + i) (Short (pos 0))
        ≡ get_or ram.reset_cells (f.place + i) (Short (pos 0))
    one e i lt = let l = long Reset e in elim (apart e) [
      | inl le ↦ above_set ram.reset_cells vs at (f.place + i) (Short (pos 0)) (omega (arith, le)) (omega (arith, l, lt))
      | inr le ↦ below_set ram.reset_cells vs at (f.place + i) (Short (pos 0)) (omega (arith, le, lt)) (omega (arith, l, lt))
    ]

    cells : (event : ClearEvent) → f.event ≡ Some event → (i : ℕ) → i < f.length → cell_at (with_area ram Reset (with_cells (area ram Reset) at vs)) event
        (f.place + i) ≡ cell_at ram event (f.place + i)
    cells Reset e i lt = one e i lt
    cells Deselect e i lt = refl

    longer : (event : ClearEvent) → f.event ≡ Some event → f.place + f.length ≤ length (area (with_area ram Reset (with_cells (area ram Reset) at vs)) event)
    longer Reset e = let l = long Reset e in let more = as_long ram.reset_cells vs at in omega (arith, l, more)
    longer Deselect e = long Deselect e
area_filled f ram Deselect at vs apart long = record { cells = cells; long = longer }
  where
    one : f.event ≡ Some Deselect → (i : ℕ) → i < f.length → get_or (with_cells ram.deselect_cells at vs) (f.place + i) (Short (pos 0))
        ≡ get_or ram.deselect_cells (f.place + i) (Short (pos 0))
    one e i lt = let l = long Deselect e in elim (apart e) [
      | inl le ↦ above_set ram.deselect_cells vs at (f.place + i) (Short (pos 0)) (omega (arith, le)) (omega (arith, l, lt))
      | inr le ↦ below_set ram.deselect_cells vs at (f.place + i) (Short (pos 0)) (omega (arith, le, lt)) (omega (arith, l, lt))
    ]

    cells : (event : ClearEvent) → f.event ≡ Some event → (i : ℕ) → i < f.length → cell_at (with_area ram Deselect (with_cells (area ram Deselect) at vs)) event
        (f.place + i) ≡ cell_at ram event (f.place + i)
    cells Reset e i lt = refl
    cells Deselect e i lt = one e i lt

    longer : (event : ClearEvent) → f.event ≡ Some event → f.place + f.length ≤ length
        (area (with_area ram Deselect (with_cells (area ram Deselect) at vs)) event)
    longer Reset e = long Reset e
    longer Deselect e = let l = long Deselect e in let more = as_long ram.deselect_cells vs at in omega (arith, l, more)

-- the cells stay where those of another object are set, from its place on
ram_filled : (f : Facts) (ram : RamState) (event : Option ClearEvent) (at : ℕ) (vs : List CellValue) →
    ((e : ClearEvent) → event ≡ Some e → f.event ≡ Some e → (at + length vs ≤ f.place) ⊎ (f.place + f.length ≤ at))
    → ((event : ClearEvent) → f.event ≡ Some event → f.place + f.length ≤ length (area ram event)) →
    HasCells f ram (ram_after_set ram event at vs)
ram_filled f ram None at vs apart long = record { cells = λ event e i lt. refl; long = long }
ram_filled f ram (Some e) at vs apart long = area_filled f ram e at vs (apart e refl) long

has_still : (f : Facts) (old mid new : RamState) → HasCells f old mid → HasCells f mid new → HasCells f old new
has_still f old mid new first second = record {
  cells = λ event e i lt. second.cells event e i lt ∙ first.cells event e i lt;
  long = second.long;
}

-- a flag is no cell
area_flagged : (ram : RamState) (flags : List Bool) (event : ClearEvent) → area (record ram { flags = flags }) event ≡ area ram event
area_flagged ram flags Reset = refl
area_flagged ram flags Deselect = refl

has_unflagged : (f : Facts) (old ram : RamState) (r : ℕ) → HasCells f old ram → HasCells f old (ram_unflagged r ram)
has_unflagged f old ram r has = record {
  cells = λ event e i lt. ap (λ l. get_or l (f.place + i) (Short (pos 0))) (area_flagged ram (set ram.flags r false) event) ∙ has.cells event e i lt;
  long = λ event e. subst (λ l. f.place + f.length ≤ length l) (sym (area_flagged ram (set ram.flags r false) event)) (has.long event e);
}

-- cells that are set leave the flags, and a new object's flag is another one
flags_set : (ram : RamState) (event : Option ClearEvent) (at : ℕ) (vs : List CellValue) → (ram_after_set ram event at vs).flags ≡ ram.flags
flags_set ram None at vs = refl
flags_set ram (Some Reset) at vs = refl
flags_set ram (Some Deselect) at vs = refl

other_flag : (ram : RamState) (q r : ℕ) (flag : Bool) → (r ≡ q → ⊥) → flag_of (record ram { flags = set ram.flags r flag }) q ≡ flag_of ram q
other_flag ram q r flag other = get_or-set_other ram.flags r q flag false (λ same. other (sym same))

-- ---- an object stands

pub record Stands (q : ℕ) (o : Object) (start m : MemoryState) : Type 0 where
  pub heap : StandsBeside q o m.heap.now
  pub ram : HasCells o.facts start.ram m.ram
  pub flag : flag_of m.ram q ≡ flag_of start.ram q
  pub active : m.registers.active ≡ start.registers.active
  pub packages : (a : ℕ) → package_of_applet m a ≡ package_of_applet start a
  pub fixed : m.fixed ≡ start.fixed
  pub applets : length m.heap.now.applets ≡ registry_length

module _ (q : ℕ) (o : Object) (start : MemoryState) where
  -- nothing stands where something new comes
  new_behind : (m : MemoryState) → heap_item_at m.heap.now q ≡ AnObject o → is_allocated m.heap.now m.heap.now.top ≡ false → m.heap.now.top ≡ q → ⊥
  new_behind m item free same = true≢false (sym (object_named m.heap.now q (ap is_object item)) ∙ (ap (is_allocated m.heap.now) (sym same) ∙ free))

  -- a move that keeps the object and the registry
  moved : (move : Move) (m : MemoryState) → Stands q o start m → HasCells o.facts start.ram (ram_after_move move m.heap m.ram)
      → flag_of (ram_after_move move m.heap m.ram) q ≡ flag_of m.ram q → StandsBeside q o (apply_effect (HeapMove move) m).heap.now
      → SameApplets m.heap.now (apply_effect (HeapMove move) m).heap.now → Stands q o start (apply_effect (HeapMove move) m)
  moved move m st cells flags beside same = record {
    heap = beside;
    ram = cells;
    flag = flags ∙ st.flag;
    active = st.active;
    packages = λ a. packages_stay m (apply_effect (HeapMove move) m) same refl a ∙ st.packages a;
    fixed = st.fixed;
    applets = ap length same.1 ∙ st.applets;
  }

  -- an applet of the package that is being installed is registered
  applet_keeps : (entry : AppletEntry) (m : MemoryState) → m.heap.now.counts.1 < most_applets → entry.package ≡ installed_package m.registers.installation
      → Stands q o start m → Stands q o start (apply_effect (HeapMove (SetPlaces (applet_changes m.heap.now entry))) m)
  applet_keeps entry m few home st = record {
    heap = count_set q o (registered m.heap.now entry) (m.heap.now.counts.1 + 1) (registry_set q o _ _ _
        (registry_set q o _ _ _ (registry_set q o m.heap.now (3 * m.heap.now.counts.1) entry.aid st.heap)));
    ram = st.ram;
    flag = st.flag;
    active = st.active;
    packages = λ a. package_registered m entry few home st.applets a ∙ st.packages a;
    fixed = st.fixed;
    applets = length-set _ _ _ ∙ length-set _ _ _ ∙ length-set m.heap.now.applets (3 * m.heap.now.counts.1) entry.aid ∙ st.applets;
  }

  move_keeps : (move : Move) (m : MemoryState) → MoveLeavesObject q move m → IsQuiet (HeapMove move) m → Stands q o start m
      → Stands q o start (apply_effect (HeapMove move) m)
  move_keeps (Write place v) m spares quiet st = moved (Write place v) m st st.ram refl (place_set q o m.heap.now place v spares st.heap)
      (applets-set_place q m.heap.now place v spares)
  move_keeps (SetPlaces changes) m (inl beside) quiet st = moved (SetPlaces changes) m st st.ram refl (places_set q o changes m.heap.now beside st.heap)
      (applets-set_places q changes m.heap.now beside)
  move_keeps (SetPlaces changes) m (inr registers) quiet st = subst (λ cs. Stands q o start (apply_effect (HeapMove (SetPlaces cs)) m)) (sym registers.is)
      (applet_keeps registers.entry m registers.few registers.home st)
  move_keeps (WriteNonAtomic place v) m spares quiet st = moved (WriteNonAtomic place v) m st st.ram refl (place_set q o m.heap.now place v spares st.heap)
      (applets-set_place q m.heap.now place v spares)
  move_keeps (SetCells r i words) m spares quiet st = moved (SetCells r i words) m st st.ram refl (cells_set q o words m.heap.now r i spares st.heap)
      (applets-set_cells words m.heap.now r i)
  move_keeps (AddObject x size) m spares quiet st =
      moved (AddObject x size) m st (has_unflagged o.facts start.ram m.ram m.heap.now.top st.ram)
      (other_flag m.ram q m.heap.now.top false (new_behind m st.heap.item spares.1))
      (object_added q o m.heap.now x size spares.1 (λ event e. absurd cc) st.heap) (applets-add_object m.heap.now x size)
  move_keeps (AddTransient kind event class owner long) m spares quiet st =
      moved (AddTransient kind event class owner long) m st (has_unflagged o.facts start.ram _ m.heap.now.top (has_still o.facts start.ram m.ram _ st.ram
      (area_filled o.facts m.ram event (area_end m.heap.now event) (replicate long (zero_of kind)) (λ e. inr (st.heap.below event e)) st.ram.long)))
      (other_flag (ram_after_set m.ram (Some event) (area_end m.heap.now event) (replicate long (zero_of kind))) q m.heap.now.top false
      (new_behind m st.heap.item spares)
      ∙ ap (λ l. get_or l q false) (flags_set m.ram (Some event) (area_end m.heap.now event) (replicate long (zero_of kind))))
      (transient_added q o m.heap.now kind event class owner long spares st.heap)
      (applets-add_transient m.heap.now kind event class owner long)
  move_keeps (AddPackage components arrays image) m spares quiet st = absurd spares
  move_keeps Begin m spares quiet st = moved Begin m st st.ram refl st.heap (refl, refl)
  move_keeps Commit m spares quiet st = moved Commit m st st.ram refl st.heap (refl, refl)
  move_keeps Abort m spares quiet st = absurd quiet

  -- transient cells of another object are set
  fill_keeps : (r i : ℕ) (vs : List CellValue) (m : MemoryState) → LeavesObject q (SetTransient r i vs) m → Stands q o start m
      → Stands q o start (apply_effect (SetTransient r i vs) m)
  fill_keeps r i vs m spares st = record {
    heap = st.heap;
    ram = has_still o.facts start.ram m.ram _ st.ram (ram_filled o.facts m.ram (facts m.heap.now r).event
        ((facts m.heap.now r).place + i) vs apart st.ram.long);
    flag = ap (λ l. get_or l q false) (flags_set m.ram (facts m.heap.now r).event ((facts m.heap.now r).place + i) vs) ∙ st.flag;
    active = st.active;
    packages = λ a. packages_stay m (apply_effect (SetTransient r i vs) m) (refl, refl) refl a ∙ st.packages a;
    fixed = st.fixed;
    applets = st.applets;
  }
    where
      apart : (e : ClearEvent) → (facts m.heap.now r).event ≡ Some e → o.facts.event ≡ Some e
          → ((facts m.heap.now r).place + i + length vs ≤ o.facts.place) ⊎ (o.facts.place + o.facts.length ≤ (facts m.heap.now r).place + i)
      apart e is own = let within = spares.1 in elim (st.heap.beside e own r spares.0 is) [
        | inl le ↦ inl (omega (arith, le, within))
        | inr le ↦ inr (omega (arith, le))
      ]

  -- an effect that changes neither heap nor cells, nor the object's flag
  rest_keeps : (m n : MemoryState) → n.heap.now ≡ m.heap.now → ((event : ClearEvent) → area n.ram event ≡ area m.ram event)
      → flag_of n.ram q ≡ flag_of m.ram q → n.registers.active ≡ m.registers.active → installed_package n.registers.installation ≡ installed_package m.registers.installation →
      n.fixed ≡ m.fixed → Stands q o start m → Stands q o start n
  rest_keeps m n heap ram flag active home fixed st = record {
    heap = subst (StandsBeside q o) (sym heap) st.heap;
    ram = record {
      cells = λ event e i lt. ap (λ l. get_or l (o.facts.place + i) (Short (pos 0))) (ram event) ∙ st.ram.cells event e i lt;
      long = λ event e. subst (λ l. o.facts.place + o.facts.length ≤ length l) (sym (ram event)) (st.ram.long event e);
    };
    flag = flag ∙ st.flag;
    active = active ∙ st.active;
    packages = λ a. packages_stay m n (ap (λ h. h.counts.1) heap, ap (λ h. h.applets) heap) home a ∙ st.packages a;
    fixed = fixed ∙ st.fixed;
    applets = ap (λ h. length h.applets) heap ∙ st.applets;
  }

  pub keeps : (e : Effect) (m : MemoryState) → LeavesObject q e m → IsQuiet e m → Stands q o start m → Stands q o start (apply_effect e m)
  keeps (HeapMove move) m spares quiet st = move_keeps move m spares quiet st
  keeps (SetTransient r i vs) m spares quiet st = fill_keeps r i vs m spares st
  keeps (SetFlag r flag) m spares quiet st = rest_keeps m (apply_effect (SetFlag r flag) m) refl (area_flagged m.ram (set m.ram.flags r flag))
      (other_flag m.ram q r flag spares) refl refl refl st
  keeps (ClearTransient event) m spares quiet st = absurd quiet
  keeps (SetRegisters registers) m spares quiet st = rest_keeps m (apply_effect (SetRegisters registers) m) refl (λ event. refl) refl quiet.0 quiet.1 refl st
  keeps (BeginCommand bytes) m spares quiet st = absurd quiet
  keeps (SendBytes bytes) m spares quiet st = rest_keeps m (apply_effect (SendBytes bytes) m) refl (λ event. refl) refl refl refl refl st
