-- What effects of commands leave.
use Rattle.std.proofs.Common.{◌≡◌, ℕ, ◌+◌, ◌≤◌, true, false, inl, inr, List, sym, ◌∙◌, ap, subst, arith}
use Rattle.std.proofs.Common.{if◌then◌else◌}
use Rattle.std.proofs.lemmas.Bool.{both_ways, cases_Bool}
use Rattle.jc_heap.specs.declared.place.Place.{Place}
use Rattle.jc_heap.specs.declared.place.Place.TheVariants.{Cell, Static, Registry, AppletCount}
use Rattle.jc_heap.specs.Heap.{HeapState, goes_back}
use Rattle.jc_heap.specs.Place.{place_at, set_place, set_places}
use Rattle.jc_heap.specs.Moves.{Move, Write, SetPlaces, WriteNonAtomic, SetCells, AddObject, AddTransient, AddPackage, Begin, Commit, Abort}
use Rattle.jc_memory.specs.declared.registers.Registers.{Registers}
use Rattle.jc_transient.specs.Owners.{owner_number}
use Rattle.jc_memory.specs.State.{MemoryState, Effect, HeapMove, SetTransient, SetFlag, ClearTransient, SetRegisters, BeginCommand, SendBytes}
use Rattle.jc_memory.specs.State.{apply_effect}
use Rattle.jc_memory.specs.Programs.{Program, Finish, Perform, Choose, Either}
use Rattle.jc_memory.specs.Reading.{AllDue, AllResults}
use Rattle.jc_linker.specs.Values.{Packages}
use Rattle.law_soundness.specs.MemoryLaws.Environment.{HasEnvironment}
use Rattle.jc_environment.specs.Pins.{record_of as pin_of}
use Rattle.jc_environment.specs.Pins.PinInit.{first_record}
use Rattle.jc_environment.specs.Pins.Updates.{changes_of_update}
use Rattle.law_soundness.specs.MemoryLaws.Fit.{FitsChange, FitsMove, FitsPlace, FitsTurn, IsFit, OfPin, OfPlaces, OfRegistry, OfValue}
use Rattle.law_soundness.specs.MemoryLaws.State.{IsSoundMemory, is_home, is_open, is_owner_up_to, most_owner}
use Rattle.law_soundness.proofs.Effects.{keeps_sound}
use Rattle.law_soundness.proofs.Environment.{keeps_environment}
use Rattle.law_soundness.proofs.Frames.{bytes_held, cell_frames, object_frames, places_frames, run_frames, places_held, transient_frames, word_frames}
use Rattle.law_soundness.proofs.HeapChanges.{owner_more}
use Rattle.law_soundness.proofs.Memories.{choose, turned_kept}
use Rattle.law_soundness.specs.MachineLaws.Commands.{IsServed, OpensInstallation, ServingKeeps}

-- ---- an installation begins

module _ (p : Packages) (m : MemoryState) (s : IsSoundMemory p m) (g : Registers) (o : OpensInstallation m g) where
  most_is : most_owner m ≡ m.heap.now.counts.1
  most_is = ap (λ b. if b then m.heap.durable.counts.1 + 1 else m.heap.now.counts.1) o.none

  same_counts : m.heap.now.counts.1 ≡ m.heap.durable.counts.1
  same_counts = ap (λ c. c.1) (s.counts o.none)

  more : most_owner m ≤ (if is_open g.installation then m.heap.durable.counts.1 + 1 else m.heap.now.counts.1)
  more = elim (cases_Bool (is_open g.installation)) [
    | inl opened ↦ rw opened (let a = most_is in let b = same_counts in omega (arith, a, b))
    | inr closed ↦ rw closed (let a = most_is in omega (arith, a))
  ]

  pub opened_kept : IsSoundMemory p (apply_effect (SetRegisters g) m)
  opened_kept = turned_kept p m s g (record {
    active = owner_more (most_owner m) _ m.heap.now (owner_number g.active) more (subst (λ a. is_owner_up_to (most_owner m) m.heap.now (owner_number a) ≡ true)
        (sym o.active) s.active);
    leaves = λ one other. absurd (both_ways (is_open m.registers.installation) o.none one);
    home = o.home;
    selected = λ a e. s.selected a (sym o.selected ∙ e);
  })

-- ---- effects of commands

sound_served : (p : Packages) (e : Effect) (m : MemoryState) → IsServed p e m → IsSoundMemory p m → IsSoundMemory p (apply_effect e m)
sound_served p (HeapMove move) m due s = keeps_sound p (HeapMove move) m due s
sound_served p (SetTransient r i values) m due s = keeps_sound p (SetTransient r i values) m due s
sound_served p (SetFlag r flag) m due s = keeps_sound p (SetFlag r flag) m due s
sound_served p (ClearTransient event) m due s = keeps_sound p (ClearTransient event) m due s
sound_served p (SetRegisters g) m (inl fits) s = keeps_sound p (SetRegisters g) m fits s
sound_served p (SetRegisters g) m (inr opens) s = opened_kept p m s g opens
sound_served p (BeginCommand bytes) m due s = keeps_sound p (BeginCommand bytes) m due s
sound_served p (SendBytes bytes) m due s = keeps_sound p (SendBytes bytes) m due s

environment_served : (p : Packages) (e : Effect) (m : MemoryState) → IsServed p e m → IsSoundMemory p m → HasEnvironment p m
    → HasEnvironment p (apply_effect e m)
environment_served p (HeapMove move) m due s h = keeps_environment p (HeapMove move) m due s h
environment_served p (SetTransient r i values) m due s h = keeps_environment p (SetTransient r i values) m due s h
environment_served p (SetFlag r flag) m due s h = keeps_environment p (SetFlag r flag) m due s h
environment_served p (ClearTransient event) m due s h = keeps_environment p (ClearTransient event) m due s h
environment_served p (SetRegisters g) m due s h = record { now = h.now; durable = h.durable }
environment_served p (BeginCommand bytes) m due s h = keeps_environment p (BeginCommand bytes) m due s h
environment_served p (SendBytes bytes) m due s h = keeps_environment p (SendBytes bytes) m due s h

pub serving_keeps : ServingKeeps
serving_keeps = record { sound = sound_served; environment = environment_served }

served : (p : Packages) (e : Effect) (m : MemoryState) → IsFit p e m → IsServed p e m
served p (HeapMove move) m fits = fits
served p (SetTransient r i values) m fits = fits
served p (SetFlag r flag) m fits = fits
served p (ClearTransient event) m fits = fits
served p (SetRegisters g) m fits = inl fits
served p (BeginCommand bytes) m fits = fits
served p (SendBytes bytes) m fits = fits

pub all_served : (p : Packages) {A : Type 0} (d : Program A) (m : MemoryState) → AllDue (IsFit p) d m → AllDue (IsServed p) d m
all_served p (Finish a) m due = tt
all_served p (Perform e rest) m due = (served p e m due.0, all_served p rest (apply_effect e m) due.1)
all_served p (Choose choose) m due = λ r new. all_served p (choose r) m (due r new)
all_served p (Either x y) m due = (all_served p x m due.0, all_served p y m due.1)

-- ---- the number of applets never falls

module _ (p : Packages) (m : MemoryState) (s : IsSoundMemory p m) where
  abbrev durable : HeapState
  durable = m.heap.durable

  -- what a change leaves durable, with as many applets as there were
  left_more : (h : HeapState) → h.counts ≡ m.heap.now.counts → durable.counts.1 ≤ (if m.heap.begun then durable else h).counts.1
  left_more h same = choose (λ k. durable.counts.1 ≤ k.counts.1) m.heap.begun durable h (λ on. omega arith)
      (λ off. let e : h.counts.1 ≡ durable.counts.1 = ap (λ c. c.1) (same ∙ ap (λ k. k.counts) (s.settled off)) in omega (arith, e))

  place_more : (place : Place) (v : ℕ) → FitsPlace p m.heap.now place v → durable.counts.1 ≤ (apply_effect (HeapMove (Write place v)) m).heap.durable.counts.1
  place_more (Cell r i) v fits = left_more (set_place m.heap.now (Cell r i) v) (cell_frames m.heap.now r i v).counts
  place_more (Static r j) v fits = left_more (set_place m.heap.now (Static r j) v) (word_frames m.heap.now r j v).counts
  place_more (Registry i) v fits = absurd fits
  place_more AppletCount v fits = absurd fits

  changes_more : (changes : List (Place × ℕ)) → FitsChange p m changes → durable.counts.1
      ≤ (apply_effect (HeapMove (SetPlaces changes)) m).heap.durable.counts.1
  changes_more changes (OfPlaces fits) = left_more (set_places m.heap.now changes)
      (places_frames changes m.heap.now (places_held p m.heap.now changes fits)).counts
  changes_more changes (OfPin f) = subst (λ cs. durable.counts.1 ≤ (apply_effect (HeapMove (SetPlaces cs)) m).heap.durable.counts.1) (sym f.is)
      (left_more (set_places m.heap.now (first_record f.pin f.limit f.maximum f.value))
      (places_frames (first_record f.pin f.limit f.maximum f.value) m.heap.now tt).counts)
  changes_more changes (OfValue f) = subst (λ cs. durable.counts.1 ≤ (apply_effect (HeapMove (SetPlaces cs)) m).heap.durable.counts.1) (sym f.is)
      (left_more (set_places m.heap.now (changes_of_update (pin_of m f.pin) f.pin f.bytes))
      (places_frames (changes_of_update (pin_of m f.pin) f.pin f.bytes) m.heap.now (bytes_held f.bytes _ 0 _ tt)).counts)
  changes_more changes (OfRegistry f) =
      let e : (if m.heap.begun then durable else set_places m.heap.now changes).counts.1 ≡ durable.counts.1 =
      ap (λ b. (if b then durable else set_places m.heap.now changes).counts.1) f.begun in
      omega (arith, e)

  cell_more : (r i v : ℕ) → durable.counts.1 ≤ (apply_effect (HeapMove (WriteNonAtomic (Cell r i) v)) m).heap.durable.counts.1
  cell_more r i v = choose (λ k. durable.counts.1 ≤ k.counts.1) (goes_back m.heap (place_at m.heap.now (Cell r i))) durable (set_place durable (Cell r i) v)
      (λ on. omega arith)
      (λ off. let e : (set_place durable (Cell r i) v).counts.1 ≡ durable.counts.1 = ap (λ c. c.1) (cell_frames durable r i v).counts in omega (arith, e))

  cell_more_at : (place : Place) (r i v : ℕ) → place ≡ Cell r i
      → durable.counts.1 ≤ (apply_effect (HeapMove (WriteNonAtomic place v)) m).heap.durable.counts.1
  cell_more_at place r i v is = subst (λ c. durable.counts.1 ≤ (apply_effect (HeapMove (WriteNonAtomic c v)) m).heap.durable.counts.1) (sym is) (cell_more r i v)

  commit_more : (is_open m.registers.installation ≡ true → m.heap.now.counts.1 ≡ durable.counts.1 + 1) → durable.counts.1 ≤ m.heap.now.counts.1
  commit_more ends = elim (cases_Bool (is_open m.registers.installation)) [
    | inl opened ↦ let e = ends opened in omega (arith, e)
    | inr closed ↦ let e : m.heap.now.counts.1 ≡ durable.counts.1 = ap (λ c. c.1) (s.counts closed) in omega (arith, e)
  ]

  move_more : (move : Move) → FitsMove p move m → durable.counts.1 ≤ (apply_effect (HeapMove move) m).heap.durable.counts.1
  move_more (Write place v) fits = place_more place v fits
  move_more (SetPlaces changes) fits = changes_more changes fits
  move_more (WriteNonAtomic place v) (inl fits) = cell_more_at place fits.0 2 v fits.1
  move_more (WriteNonAtomic place v) (inr fits) = cell_more_at place fits.array fits.index v fits.is
  move_more (SetCells r i words) fits = left_more _ (run_frames words m.heap.now r i).counts
  move_more (AddObject o size) fits = left_more _ (object_frames m.heap.now o size).counts
  move_more (AddTransient kind event class owner long) fits = left_more _ (transient_frames m.heap.now kind event class owner long).counts
  move_more (AddPackage components arrays image) fits = absurd fits
  move_more Begin fits = let e : m.heap.now.counts.1 ≡ durable.counts.1 = ap (λ k. k.counts.1) (s.settled fits) in omega (arith, e)
  move_more Commit fits = commit_more fits.1
  move_more Abort fits = omega arith

  counts_grow : (e : Effect) → IsFit p e m → durable.counts.1 ≤ (apply_effect e m).heap.durable.counts.1
  counts_grow (HeapMove move) fits = move_more move fits
  counts_grow _ fits = omega arith

-- ---- what fits leaves

-- a memory that stands after another: sound, and no applet is gone; an installation that is not open stays so
pub record StandsBehind (p : Packages) (m n : MemoryState) : Type 0 where
  pub sound : IsSoundMemory p n
  pub environment : HasEnvironment p n
  pub counts : m.heap.durable.counts.1 ≤ n.heap.durable.counts.1
  pub idle : is_open m.registers.installation ≡ false → is_open n.registers.installation ≡ false

pub behind_itself : (p : Packages) (m : MemoryState) → IsSoundMemory p m → HasEnvironment p m → StandsBehind p m m
behind_itself p m s e = record { sound = s; environment = e; counts = omega arith; idle = λ i. i }

pub behind_both : (p : Packages) (m v n : MemoryState) → StandsBehind p m v → StandsBehind p v n → StandsBehind p m n
behind_both p m v n a b = record {
  sound = b.sound;
  environment = b.environment;
  counts = let x = a.counts in let y = b.counts in omega (arith, x, y);
  idle = λ i. b.idle (a.idle i);
}

still_idle : (p : Packages) (m : MemoryState) (e : Effect) → IsFit p e m → is_open m.registers.installation ≡ false
    → is_open (apply_effect e m).registers.installation ≡ false
still_idle p m (HeapMove move) fits idle = idle
still_idle p m (SetTransient r i values) fits idle = idle
still_idle p m (SetFlag r flag) fits idle = idle
still_idle p m (ClearTransient event) fits idle = idle
still_idle p m (SetRegisters g) fits idle = elim (cases_Bool (is_open g.installation)) [
  | inl opened ↦ absurd (both_ways (is_open m.registers.installation) idle (fits.opens opened))
  | inr closed ↦ closed
]
still_idle p m (BeginCommand bytes) fits idle = idle
still_idle p m (SendBytes bytes) fits idle = idle

pub behind_one : (p : Packages) (m : MemoryState) (e : Effect) → IsFit p e m → IsSoundMemory p m → HasEnvironment p m → StandsBehind p m (apply_effect e m)
behind_one p m e fits s h = record {
  sound = keeps_sound p e m fits s;
  environment = keeps_environment p e m fits s h;
  counts = counts_grow p m s e fits;
  idle = still_idle p m e fits;
}

pub behind_each : (p : Packages) {A : Type 0} (d : Program A) (m n : MemoryState) → AllDue (IsFit p) d n → StandsBehind p m n
    → AllResults d n (λ a v. StandsBehind p m v)
behind_each p (Finish a) m n due b = b
behind_each p (Perform e rest) m n due b = behind_each p rest m (apply_effect e n) due.1
    (behind_both p m n (apply_effect e n) b (behind_one p n e due.0 b.sound b.environment))
behind_each p (Choose choose) m n due b = λ r new. behind_each p (choose r) m n (due r new) b
behind_each p (Either x y) m n due b = (behind_each p x m n due.0 b, behind_each p y m n due.1 b)

-- registers that say the same of owner, selection and installation
pub same_fits : (p : Packages) (m : MemoryState) (s : IsSoundMemory p m) (g : Registers) → g.active ≡ m.registers.active
    → g.installation ≡ m.registers.installation → g.selected ≡ m.registers.selected → FitsTurn m g
same_fits p m s g active installation selected = record {
  active = subst (λ i. is_owner_up_to (if is_open i then m.heap.durable.counts.1 + 1 else m.heap.now.counts.1) m.heap.now (owner_number g.active) ≡ true)
      (sym installation)
      (subst (λ o. is_owner_up_to (most_owner m) m.heap.now (owner_number o) ≡ true) (sym active) s.active);
  leaves = λ one other. absurd (both_ways (is_open g.installation) other (ap is_open installation ∙ one));
  home = subst (λ i. is_home m.heap.now i ≡ true) (sym installation) s.home;
  selected = λ a e. s.selected a (sym selected ∙ e);
  opens = λ opened. ap is_open (sym installation) ∙ opened;
}
