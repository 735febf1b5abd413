-- Selecting, installing and answering.
use Rattle.std.proofs.Common.{◌≡◌, ℕ, zero, suc, ◌+◌, ◌<◌, ◌≤◌, ◌-◌, ◌==◌, ◌⊎◌, ◌&&◌, ◌||◌, nat_lt, nat_le, take, Bool, true, false, inl, inr, List, [], ◌∷◌, length}
use Rattle.std.proofs.Common.{find, Option, Some, None, refl, sym, ◌∙◌, ap, subst, arith, if◌then◌else◌}
use Rattle.std.specs.Prelude.{pos}
use Rattle.std.specs.List.{range_with_len}
use Rattle.std.specs.Option.{option_map}
use Rattle.std.proofs.lemmas.Bool.{and_from, and_parts, both_ways, false≢true, true≢false, le-leb, leb-true, lt-ltb, ltb-true, or_left, or_right}
use Rattle.std.proofs.lemmas.List.{length-take}
use Rattle.std.proofs.lemmas.Option.{cond_some, none-some, option_and_then_some, same_Some}
use Rattle.jc_words.specs.Layout.{most_applets}
use Rattle.jc_transient.specs.declared.cell.ClearEvent.TheVariants.{Deselect}
use Rattle.jc_transient.specs.State.{buffer_size}
use Rattle.jc_heap.specs.Heap.{HeapState}
use Rattle.jc_memory.specs.Commands.{has_extended_length}
use Rattle.jc_heap.specs.Moves.{Begin}
use Rattle.jc_frames.specs.declared.cell.Cell.TheVariants.{Short, Reference}
use Rattle.jc_transient.specs.declared.owner.AppletNumber.{AppletNumber}
use Rattle.jc_memory.specs.declared.registers.Installation.TheVariants.{Idle, Open}
use Rattle.jc_transient.specs.declared.owner.Owner.TheVariants.{Applet, Runtime}
use Rattle.jc_transient.specs.declared.owner.PackageNumber.{PackageNumber}
use Rattle.jc_memory.specs.declared.registers.Registers.{Registers}
use Rattle.jc_transient.specs.Owners.{owner_number}
use Rattle.jc_memory.specs.State.{MemoryState, HeapMove, SetRegisters, ClearTransient, apply_effect}
use Rattle.jc_memory.specs.Programs.{Program, Finish, bind}
use Rattle.jc_linker.specs.Lookups.{applet_entry, entry_with_aid}
use Rattle.jc_linker.specs.Values.{Packages}
use Rattle.jc_platform.specs.declared.names.PlatformMethod.TheVariants.{Applets}
use Rattle.jc_platform.specs.declared.names.AppletsMethod.TheVariants.{AppletDeselect, AppletProcess, AppletSelect}
use Rattle.jc_interp.specs.Run.{bare_frames, no_package, run_ad_hoc}
use Rattle.jc_memory.specs.Reading.{AllDue, AllResults}
use Rattle.jc_memory.proofs.ProgramLemmas.{each_did, each_more}
use Rattle.jc_interp.specs.declared.attacks.Budget.{Budget}
use Rattle.jc_dispatch.specs.declared.applet_result.AppletResult.{AppletResult}
use Rattle.jc_dispatch.specs.declared.applet_result.AppletResult.TheVariants.{RegistryFull}
use Rattle.jc_dispatch.specs.Buffer.{apdu_buffer, apdu_object, buffer_fill}
use Rattle.jc_dispatch.specs.Create.{applet_named, applet_creation, are_parameters, creation_in_registry, creation_by_data, creation_of, ends_with_data}
use Rattle.jc_dispatch.specs.Create.{field_of, first_with_entry, creation_by_entry, has_aid_length, instance_named, parameters_or_none}
use Rattle.jc_dispatch.specs.AppletResult.{is_select_accepted}
use Rattle.jc_dispatch.specs.Install.{applet_installation, next_applet, with_installation}
use Rattle.jc_dispatch.specs.AdHocCode.{ad_hoc_run}
use Rattle.jc_dispatch.specs.Phase.{applet_method_call, close, instance_of, method_run}
use Rattle.jc_dispatch.specs.Select.{after_select, header_of, applet_left, deselection, manager_selection, process_command, applet_selection, with_command, with_next, with_selected}
use Rattle.law_soundness.specs.MemoryLaws.Environment.{HasEnvironment}
use Rattle.law_soundness.specs.MemoryLaws.Fit.{FitsTurn, IsFit}
use Rattle.law_soundness.specs.MemoryLaws.State.{IsSoundMemory, IsSteady, is_applet, is_home, is_open, is_owner_up_to, most_owner}
use Rattle.law_soundness.proofs.HeapChanges.{owner_more}
use Rattle.law_soundness.specs.Machines.{IsSoundMachine}
use Rattle.law_soundness.specs.MachineLaws.Soundness.{AreKnown, RunsAreSound}
use Rattle.law_soundness.specs.MachineLaws.Commands.{CommandsAreSound, IsReady, LeavesReady, OpensInstallation}
use Rattle.law_soundness.proofs.Phases.{Good, IsFilled, MayRun, called_good, closed_good, filled_good, good_bind, good_gives, good_more}
use Rattle.law_soundness.specs.LivingReferences.{AreLivingCells}
use Rattle.law_soundness.proofs.LivingReferences.{first_living, more_living, none_living}
use Rattle.law_soundness.proofs.RegistryEntries.{instance_refers}
use Rattle.law_soundness.proofs.Phases.{good_then, run_for_good}
use Rattle.law_soundness.proofs.CommandParts.{dispatched_run}
use Rattle.law_soundness.proofs.CommandEffects.{StandsBehind, all_served, behind_both, behind_each, behind_itself, behind_one, same_fits, serving_keeps}
use Rattle.law_soundness.proofs.Memories.{applet_more}

-- ---- owners

low_owner : (most : ℕ) (h : HeapState) (n : ℕ) → n ≤ most → is_owner_up_to most h n ≡ true
low_owner most h n le = or_right (n == 0) _ (or_left (nat_le n most) _ (le-leb n most le))

-- one who is known in a heap is known in another with as many packages
carried_owner : (most more : ℕ) (h g : HeapState) (n : ℕ) → most ≤ more → length g.packages ≡ length h.packages → is_owner_up_to most h n ≡ true
    → is_owner_up_to more g n ≡ true
carried_owner most more h g n le same is = ap (λ k. n == 0 || (nat_le n more || (nat_lt 256 n && nat_le (n - 256) k))) same ∙ owner_more most more h n le is

-- the owner of an applet
applet_parts : (h : HeapState) (a : AppletNumber) → is_applet h a ≡ true → (0 < a.0) × (a.0 ≤ h.counts.1)
applet_parts h a is = let both = and_parts (nat_lt 0 a.0) _ is in (ltb-true 0 a.0 both.0, leb-true a.0 h.counts.1 both.1)

-- while nothing is being installed
idle_most : (p : Packages) (m : MemoryState) → IsSoundMemory p m → is_open m.registers.installation ≡ false → most_owner m ≡ m.heap.durable.counts.1
idle_most p m s idle = ap (λ b. if b then m.heap.durable.counts.1 + 1 else m.heap.now.counts.1) idle ∙ ap (λ c. c.1) (s.counts idle)

idle_steady : (p : Packages) (m : MemoryState) → IsSoundMemory p m → is_open m.registers.installation ≡ false → IsSteady m
idle_steady p m s idle = record { counts = s.counts idle; begun = λ opened. absurd (both_ways (is_open m.registers.installation) idle opened) }

may_run : (p : Packages) (m : MemoryState) (a : AppletNumber) → IsSoundMemory p m → HasEnvironment p m → is_open m.registers.installation ≡ false
    → is_applet m.heap.durable a ≡ true → MayRun p m (Applet a)
may_run p m a s h idle there =
    let parts = applet_parts m.heap.durable a there in record {
      sound = s;
      environment = h;
      steady = idle_steady p m s idle;
      known = low_owner (most_owner m) m.heap.now a.0 (let x = parts.1 in let e = idle_most p m s idle in omega (arith, x, e));
      other = λ zero. let x = parts.0 in omega (arith, x, zero);
    }

-- ---- a search through numbers in turn

ranged : (f : ℕ → Bool) (n k : ℕ) (b : Bool) (rest : Option ℕ) (end : ℕ) → n < end → (if b then Some n else rest) ≡ Some k
    → (rest ≡ Some k → (n + 1 ≤ k) × (k < end)) → (n ≤ k) × (k < end)
ranged f n k true rest end lt is more = let e = same_Some n k is in (omega (arith, e), omega (arith, e, lt))
ranged f n k false rest end lt is more = let m = more is in (let x = m.0 in omega (arith, x), m.1)

-- what is found is one of them
pub in_range : (f : ℕ → Bool) (count n k : ℕ) → find f (range_with_len n count) ≡ Some k → (n ≤ k) × (k < n + count)
in_range f zero n k is = absurd (none-some k is)
in_range f (suc count) n k is = ranged f n k (f n) (find f (range_with_len (n + 1) count)) (n + suc count) (omega arith) is
    (λ rest. let m = in_range f count (n + 1) k rest in (m.0, let x = m.1 in omega (arith, x)))

mapped_first : (q : ℕ) (o : Option ℕ) (x : ℕ × ℕ) → option_map (λ entry. (q, entry)) o ≡ Some x → q ≡ x.0
mapped_first q None x is = absurd (none-some x is)
mapped_first q (Some entry) x is = ap (λ y. y.0) (same_Some (q, entry) x is)

-- ---- the buffer has room for a header, and for the parameters of an installation

header_fits : (bytes : List ℕ) → length (header_of bytes) ≤ buffer_size
header_fits bytes = either (has_extended_length bytes)
  where
    either : (b : Bool) → length (take (if b then 7 else 5) bytes) ≤ buffer_size
    either true = let l = length-take 7 bytes in omega (arith, l)
    either false = let l = length-take 5 bytes in omega (arith, l)

parameters_fit : (bytes : List ℕ) (c : List ℕ × List ℕ) → creation_of bytes ≡ Some c → length c.1 ≤ buffer_size
unfolding creation_of
parameters_fit bytes c e = option_and_then_some parameters_or_none (field_of bytes) c e (λ d is fits.
    let held = cond_some (has_aid_length d.0 && are_parameters d.1) d c fits in
    let own = (and_parts (has_aid_length d.0) (are_parameters d.1) held.0).1 in
    let few = leb-true (length d.1) 127 (and_parts (nat_le (length d.1) 127) (instance_named d.1)
    (and_parts (nat_le (length d.1) 127 && instance_named d.1) (ends_with_data d.1) own).0).0 in
    subst (λ (x : List ℕ × List ℕ). length x.1 ≤ buffer_size) held.1 (omega (arith, few)))

-- ---- an applet is left, selected, and answers

module _ (runs : RunsAreSound) (p : Packages) (known : AreKnown p) where
  -- what comes after a ready memory
  record Behind (m n : MemoryState) : Type 0 where
    stands : StandsBehind p m n
    idle : is_open n.registers.installation ≡ false

  ready : (m n : MemoryState) → Behind m n → n.heap.begun ≡ false → IsReady p n
  ready m n b shut = record { sound = b.stands.sound; environment = b.stands.environment; closed = shut; idle = b.idle }

  goes_on : (m v n : MemoryState) → Behind m v → StandsBehind p v n → Behind m n
  goes_on m v n b s = record { stands = behind_both p m v n b.stands s; idle = s.idle b.idle }

  there_still : (m n : MemoryState) (a : AppletNumber) → Behind m n → is_applet m.heap.durable a ≡ true → is_applet n.heap.durable a ≡ true
  there_still m n a b there = applet_more m.heap.durable n.heap.durable a b.stands.counts there

  begins : (m : MemoryState) → IsReady p m → Behind m m
  begins m r = record { stands = behind_itself p m r.sound r.environment; idle = r.idle }

  runs_behind : (m n : MemoryState) (a : AppletNumber) → Behind m n → is_applet m.heap.durable a ≡ true → MayRun p n (Applet a)
  runs_behind m n a b there = may_run p n a b.stands.sound b.stands.environment b.idle (there_still m n a b there)

  -- an applet's own instance
  own_living : (m : MemoryState) (a : AppletNumber) → IsSoundMemory p m → AreLivingCells m.heap.now (Reference (instance_of m a.0) ∷ [])
  own_living m a sound = more_living m.heap.now (Reference (instance_of m a.0)) [] (instance_refers p m sound a.0) (none_living m.heap.now)

  -- what is left shut
  record IsShut (m n : MemoryState) : Type 0 where
    behind : Behind m n
    shut : n.heap.begun ≡ false

  cleared : (m w : MemoryState) → IsShut m w → IsShut m (apply_effect (ClearTransient Deselect) w)
  cleared m w x = record {
    behind = goes_on m w _ x.behind (behind_one p w (ClearTransient Deselect) tt x.behind.stands.sound x.behind.stands.environment);
    shut = x.shut;
  }

  closed_behind : (m x : MemoryState) → Behind m x → Good p (close x) x (λ u y. IsShut m y)
  closed_behind m x b = good_more p _ _ (close x) x (closed_good p x b.stands.sound b.stands.environment)
      (λ u y c. record { behind = goes_on m x y b c.behind; shut = c.closed })

  applet_left_good : (budget : Budget) (one : Option AppletNumber) (m n : MemoryState) → IsShut m n → ((a : AppletNumber) → one ≡ Some a
      → is_applet m.heap.durable a ≡ true)
      → Good p (applet_left budget p one n) n (λ rest k. IsShut m k)
  unfolding applet_left
  applet_left_good budget None m n x there = good_then p _ (ClearTransient Deselect) (Finish budget.left) n tt tt (good_gives p _ budget.left _ (cleared m n x))
  applet_left_good budget (Some a) m n x there =
      good_bind p _ _ (applet_method_call budget p (Applets AppletDeselect) (instance_of n a.0) (Reference (instance_of n a.0) ∷ []) (Applet a) n) n
      (good_more p _ _ (applet_method_call budget p (Applets AppletDeselect) (instance_of n a.0) (Reference (instance_of n a.0) ∷ []) (Applet a) n) n
      (called_good runs p known budget (Applets AppletDeselect) (instance_of n a.0) (Reference (instance_of n a.0) ∷ []) (Applet a) n (own_living n a x.behind.stands.sound)
      (runs_behind m n a x.behind (there a refl)))
      (λ end v ran. good_bind p _ _ (close v) v (good_more p _ _ (close v) v (closed_behind m v (goes_on m n v x.behind ran.behind)) (λ u w shut.
      good_then p _ (ClearTransient Deselect) (Finish end.0) w tt tt (good_gives p _ end.0 _ (cleared m w shut))))))

  left_good : (budget : Budget) (next : Option AppletNumber) (m : MemoryState) → IsReady p m → Good p (deselection budget p next m) m (λ rest n. IsShut m n)
  unfolding deselection
  left_good budget next m r =
      let fits = same_fits p m r.sound (with_next next m.registers) refl refl refl in
      let v = apply_effect (SetRegisters (with_next next m.registers)) m in
      let first = behind_one p m (SetRegisters (with_next next m.registers)) fits r.sound r.environment in
      good_then p _ (SetRegisters (with_next next m.registers)) _ m (inl fits) tt
      (applet_left_good budget m.registers.selected m v (record { behind = goes_on m m v (begins m r) first; shut = r.closed }) r.sound.selected)

  -- an applet answers, after a ready memory
  processed_behind : (budget : Budget) (a : AppletNumber) (selecting : Bool) (expected : ℕ) (m n : MemoryState) → Behind m n → is_applet m.heap.durable a ≡ true
      → Good p (process_command budget p a selecting expected n) n (λ e k. IsReady p k)
  unfolding process_command
  processed_behind budget a selecting expected m n b there =
      let fits = same_fits p n b.stands.sound (with_command expected selecting n.registers) refl refl refl in
      let v = apply_effect (SetRegisters (with_command expected selecting n.registers)) n in
      let first = goes_on m n v b (behind_one p n (SetRegisters (with_command expected selecting n.registers)) fits b.stands.sound b.stands.environment) in
      good_then p _ (SetRegisters (with_command expected selecting n.registers)) _ n (inl fits) tt (good_bind p _ _ (buffer_fill v (header_of v.command)) v
      (good_more p _ _ (buffer_fill v (header_of v.command)) v (filled_good p v first.stands.sound first.stands.environment (header_of v.command) (header_fits v.command)) (λ u w full.
      let second = goes_on m v w first full.behind in
      good_bind p _ _ (applet_method_call budget p (Applets AppletProcess) (instance_of w a.0) (Reference (instance_of w a.0) ∷ Reference (apdu_object w) ∷ [])
      (Applet a) w) w
      (good_more p _ _ (applet_method_call budget p (Applets AppletProcess) (instance_of w a.0) (Reference (instance_of w a.0) ∷ Reference (apdu_object w) ∷ [])
      (Applet a) w) w
      (called_good runs p known budget (Applets AppletProcess) (instance_of w a.0) (Reference (instance_of w a.0) ∷ Reference (apdu_object w) ∷ []) (Applet a) w
      (more_living w.heap.now (Reference (instance_of w a.0)) (Reference (apdu_object w) ∷ []) (instance_refers p w second.stands.sound a.0) (more_living w.heap.now (Reference (apdu_object w)) []
      (inr ((second.stands).environment.now.there 15 (omega (arith, (second.stands).environment.now.long)))) (none_living w.heap.now))) (runs_behind m w a second there))
      (λ end x ran. good_bind p _ _ (close x) x (good_more p _ _ (close x) x (closed_behind m x (goes_on m w x second ran.behind))
      (λ u2 y shut. good_gives p _ _ y (ready m y shut.behind shut.shut))))))))

  select_fits : (n : MemoryState) (one : Option AppletNumber) → IsSoundMemory p n → ((a : AppletNumber) → one ≡ Some a → is_applet n.heap.durable a ≡ true)
      → FitsTurn n (with_selected one n.registers)
  select_fits n one s there = record {
    active = s.active;
    leaves = λ opened other. absurd (both_ways (is_open n.registers.installation) other opened);
    home = s.home;
    selected = there;
    opens = λ opened. opened;
  }

  none_there : (n : MemoryState) (a : AppletNumber) → ◌≡◌ {A = Option AppletNumber} None (Some a) → is_applet n.heap.durable a ≡ true
  none_there n a e = absurd (none-some a e)

  accepted_behind : (accepts : Bool) (budget : Budget) (a : AppletNumber) (expected : ℕ) (m n : MemoryState) → IsShut m n → is_applet m.heap.durable a ≡ true
      → Good p (after_select accepts budget p a expected n) n (λ e k. IsReady p k)
  accepted_behind true budget a expected m n x there = processed_behind budget a true expected m n x.behind there
  accepted_behind false budget a expected m n x there =
      let fits = select_fits n None x.behind.stands.sound (none_there n) in
      good_then p _ (SetRegisters (with_selected None n.registers)) _ n (inl fits) tt (good_gives p _ _ _
      (ready m _ (goes_on m n _ x.behind (behind_one p n (SetRegisters (with_selected None n.registers)) fits x.behind.stands.sound
      x.behind.stands.environment)) x.shut))

  selected_good : (budget : Budget) (a : AppletNumber) (expected : ℕ) (m : MemoryState) → IsReady p m → is_applet m.heap.durable a ≡ true
      → Good p (applet_selection budget p a expected m) m (λ e k. IsReady p k)
  unfolding applet_selection
  selected_good budget a expected m r there =
      good_bind p _ _ (deselection budget p (Some a) m) m (good_more p _ _ (deselection budget p (Some a) m) m
      (left_good budget (Some a) m r) (λ rest v gone.
      let fits = select_fits v (Some a) gone.behind.stands.sound (λ b e. subst (λ x. is_applet v.heap.durable x ≡ true) (same_Some a b e)
      (there_still m v a gone.behind there)) in
      let w = apply_effect (SetRegisters (with_selected (Some a) v.registers)) v in
      let second = goes_on m v w gone.behind (behind_one p v (SetRegisters (with_selected (Some a) v.registers)) fits gone.behind.stands.sound
      gone.behind.stands.environment) in
      good_then p _ (SetRegisters (with_selected (Some a) v.registers)) _ v (inl fits) tt
      (good_bind p _ _ (applet_method_call (record budget { left = rest }) p (Applets AppletSelect) (instance_of w a.0) (Reference (instance_of w a.0) ∷ [])
      (Applet a) w) w
      (good_more p _ _ (applet_method_call (record budget { left = rest }) p (Applets AppletSelect) (instance_of w a.0) (Reference (instance_of w a.0) ∷ [])
      (Applet a) w) w
      (called_good runs p known (record budget { left = rest }) (Applets AppletSelect) (instance_of w a.0) (Reference (instance_of w a.0) ∷ []) (Applet a) w
      (own_living w a second.stands.sound) (runs_behind m w a second there))
      (λ end x ran. good_bind p _ _ (close x) x (good_more p _ _ (close x) x (closed_behind m x (goes_on m w x second ran.behind))
      (λ u y shut. accepted_behind (is_select_accepted end.1) (record budget { left = end.0 }) a expected m y shut there)))))))

  managed_good : (budget : Budget) (m : MemoryState) → IsReady p m → Good p (manager_selection budget p m) m (λ e k. IsReady p k)
  unfolding manager_selection
  managed_good budget m r =
      good_bind p _ _ (deselection budget p None m) m (good_more p _ _ (deselection budget p None m) m
      (left_good budget None m r) (λ rest v gone.
      let fits = select_fits v None gone.behind.stands.sound (none_there v) in
      good_then p _ (SetRegisters (with_selected None v.registers)) _ v (inl fits) tt (good_gives p _ _ _
      (ready m _ (goes_on m v _ gone.behind (behind_one p v (SetRegisters (with_selected None v.registers)) fits gone.behind.stands.sound
      gone.behind.stands.environment)) gone.shut))))

  -- ---- installing

  module _ (q : PackageNumber) (entry : ℕ) (m : MemoryState) (r : IsReady p m) (home : is_home m.heap.now (Open q entry) ≡ true) where
    abbrev v : MemoryState
    v = apply_effect (HeapMove Begin) m

    first : StandsBehind p m v
    first = behind_one p m (HeapMove Begin) r.closed r.sound r.environment

    abbrev opened : Registers
    opened = with_installation (Open q entry) v.registers

    abbrev w : MemoryState
    w = apply_effect (SetRegisters opened) v

    opens : OpensInstallation v opened
    opens = record { begun = refl; none = r.idle; home = home; active = refl; selected = refl }

    w_sound : IsSoundMemory p w
    w_sound = serving_keeps.sound p (SetRegisters opened) v (inr opens) first.sound

    w_environment : HasEnvironment p w
    w_environment = serving_keeps.environment p (SetRegisters opened) v (inr opens) first.sound first.environment

    next_runs : (x : MemoryState) → IsFilled p w x → MayRun p x (Applet (next_applet m))
    next_runs x full = record {
      sound = full.behind.sound;
      environment = full.behind.environment;
      steady = record { counts = λ t. subst (λ h. h.now.counts ≡ h.durable.counts) (sym full.heap) refl t; begun = λ o. ap (λ h. h.begun) full.heap };
      known = (λ t. is_owner_up_to (if is_open (full.registers t).installation then (full.heap t).durable.counts.1 + 1 else (full.heap t).now.counts.1)
          (full.heap t).now (m.heap.now.counts.1 + 1))
          ∙ low_owner (m.heap.now.counts.1 + 1) m.heap.now (m.heap.now.counts.1 + 1) (omega arith);
      other = λ zero. omega (arith, zero);
    }

    -- for whom code ran before is known after it
    known_again : (t : MemoryState) → IsSoundMemory p t → t.heap.begun ≡ false → w.heap.durable.counts.1 ≤ t.heap.durable.counts.1
        → (t.registers.active ≡ Runtime) ⊎ (t.registers.active ≡ m.registers.active)
        → is_owner_up_to t.heap.now.counts.1 t.heap.now (owner_number t.registers.active) ≡ true
    known_again t s shut grown (inl runtime) = ap (λ o. is_owner_up_to t.heap.now.counts.1 t.heap.now (owner_number o)) runtime
    known_again t s shut grown (inr same) =
        ap (λ o. is_owner_up_to t.heap.now.counts.1 t.heap.now (owner_number o)) same
        ∙ carried_owner (most_owner m) t.heap.now.counts.1 m.heap.now t.heap.now (owner_number m.registers.active)
        (let e = idle_most p m r.sound r.idle in
        let k : m.heap.now.counts.1 ≡ m.heap.durable.counts.1 = ap (λ c. c.1) (r.sound.counts r.idle) in
        let l : t.heap.now.counts.1 ≡ t.heap.durable.counts.1 = ap (λ h. h.counts.1) (s.settled shut) in
        let g : m.heap.now.counts.1 ≤ t.heap.durable.counts.1 = grown in
        omega (arith, e, k, l, g))
        (s.loaded ∙ sym r.sound.loaded) r.sound.active

    ends_fit : (t : MemoryState) → IsSoundMemory p t → t.heap.begun ≡ false → is_owner_up_to t.heap.now.counts.1 t.heap.now (owner_number t.registers.active)
        ≡ true → FitsTurn t (with_installation Idle t.registers)
    ends_fit t s shut owner = record {
      active = owner;
      leaves = λ one other. shut;
      home = refl;
      selected = s.selected;
      opens = λ one. absurd (false≢true one);
    }

    installed_good : (budget : Budget) (offset : ℕ) (parameters : List ℕ) → length parameters ≤ buffer_size
        → Good p (applet_installation budget p q entry offset parameters m) m (λ e k. IsReady p k)
    unfolding applet_installation
    installed_good budget offset parameters few =
        good_then p _ (HeapMove Begin) _ m r.closed r.closed (good_then p _ (SetRegisters opened) _ v (inr opens) tt
        (good_bind p _ _ (buffer_fill w parameters) w (good_more p _ _ (buffer_fill w parameters) w (filled_good p w w_sound w_environment parameters few)
        (λ u x full.
        good_bind p _ _ (method_run budget p q.0 offset (Reference (apdu_buffer x) ∷ Short (pos 0) ∷ Short (pos (length parameters)) ∷ [])
        (Applet (next_applet m)) x) x
        (good_more p _ _ (method_run budget p q.0 offset (Reference (apdu_buffer x) ∷ Short (pos 0) ∷ Short (pos (length parameters)) ∷ [])
        (Applet (next_applet m)) x) x
        (run_for_good runs p known budget q.0 offset (Reference (apdu_buffer x) ∷ Short (pos 0) ∷ Short (pos (length parameters)) ∷ [])
        (Applet (next_applet m)) x (more_living x.heap.now (Reference (apdu_buffer x)) (Short (pos 0) ∷ Short (pos (length parameters)) ∷ []) (inr ((full.behind).environment.now.there 16 (omega (arith, (full.behind).environment.now.long))))
        (more_living x.heap.now (Short (pos 0)) (Short (pos (length parameters)) ∷ []) tt (more_living x.heap.now (Short (pos (length parameters))) [] tt (none_living x.heap.now)))) (next_runs x full))
        (λ end y ran. good_bind p _ _ (close y) y (good_more p _ _ (close y) y (closed_good p y ran.behind.sound ran.behind.environment) (λ u2 z shut.
        let t = apply_effect (ClearTransient Deselect) z in
        let third = behind_both p w x z full.behind (behind_both p x y z ran.behind shut.behind) in
        let last = behind_both p w z t third (behind_one p z (ClearTransient Deselect) tt third.sound third.environment) in
        let owner : (t.registers.active ≡ Runtime) ⊎ (t.registers.active ≡ m.registers.active) =
        elim ran.active [ inl runtime ↦ inl (shut.active ∙ runtime) | inr same ↦ inr (shut.active ∙ same ∙ ap (λ g. g.active) full.registers) ] in
        let fits = ends_fit t last.sound shut.closed (known_again t last.sound shut.closed last.counts owner) in
        good_then p _ (ClearTransient Deselect) _ z tt tt (good_then p _ (SetRegisters (with_installation Idle t.registers)) _ t (inl fits) tt (good_gives p _ _ _ (
        let final = behind_one p t (SetRegisters (with_installation Idle t.registers)) fits last.sound last.environment in
        record { sound = final.sound; environment = final.environment; closed = shut.closed; idle = refl })))))))))))

  -- ---- the applet that is named

  installing_good : (budget : Budget) (e : ℕ × ℕ) (offset : Option ℕ) (parameters : List ℕ) (m : MemoryState) → IsReady p m
      → is_home m.heap.now (Open (record { 0 = e.0 }) e.1) ≡ true → length parameters ≤ buffer_size
      → Good p (creation_by_entry budget p e offset parameters m) m (λ end k. IsReady p k)
  installing_good budget e None parameters m r home few = good_gives p _ _ m r
  installing_good budget e (Some offset) parameters m r home few = installed_good (record { 0 = e.0 }) e.1 m r home budget offset parameters few

  created_by_good : (budget : Budget) (e : Option (ℕ × ℕ)) (parameters : List ℕ) (m : MemoryState) → IsReady p m
      → ((x : ℕ × ℕ) → e ≡ Some x → (1 ≤ x.0) × (x.0 ≤ length p.loaded)) → length parameters ≤ buffer_size
      → Good p (creation_in_registry budget p e parameters m) m (λ end k. IsReady p k)
  created_by_good budget None parameters m r within few = good_gives p _ _ m r
  created_by_good budget (Some e) parameters m r within few =
      let at = within e refl in
      let home : is_home m.heap.now (Open (record { 0 = e.0 }) e.1) ≡ true = and_from (nat_lt 0 e.0) _ (lt-ltb 0 e.0 at.0)
      (le-leb e.0 (length m.heap.now.packages) (let l = r.sound.loaded in let x = at.1 in omega (arith, l, x))) in
      if_good (nat_lt m.heap.now.counts.1 most_applets) (creation_by_entry budget p e
      (option_map (λ a. a.install_offset) (applet_entry p e.0 e.1)) parameters m) RegistryFull m r
      (installing_good budget e (option_map (λ a. a.install_offset) (applet_entry p e.0 e.1)) parameters m r home few)
    where
      if_good : (b : Bool) (d : Program AppletResult) (a : AppletResult) (n : MemoryState) → IsReady p n → Good p d n (λ end k. IsReady p k)
          → Good p (if b then d else Finish a) n (λ end k. IsReady p k)
      if_good true d a n ready g = g
      if_good false d a n ready g = good_gives p _ a n ready

  named_within : (aid : List ℕ) (x : ℕ × ℕ) → applet_named p aid ≡ Some x → (1 ≤ x.0) × (x.0 ≤ length p.loaded)
  unfolding applet_named
  named_within aid x is = option_and_then_some (λ q. option_map (λ entry. (q, entry)) (entry_with_aid p q aid))
      (first_with_entry p aid 1 (length p.loaded)) x is (λ q found named.
      let range = in_range _ (length p.loaded) 1 q found in
      let same : q ≡ x.0 = mapped_first q (entry_with_aid p q aid) x named in
      (let a = range.0 in omega (arith, a, same), let b = range.1 in omega (arith, b, same)))

  created_of_good : (budget : Budget) (c : Option (List ℕ × List ℕ)) (m : MemoryState) → IsReady p m
      → ((d : List ℕ × List ℕ) → c ≡ Some d → length d.1 ≤ buffer_size) → Good p (creation_by_data budget p c m) m (λ end k. IsReady p k)
  created_of_good budget None m r few = good_gives p _ _ m r
  created_of_good budget (Some c) m r few = created_by_good budget (applet_named p c.0) c.1 m r (named_within c.0) (few c refl)

  created_good : (budget : Budget) (bytes : List ℕ) (m : MemoryState) → IsReady p m → Good p (applet_creation budget p bytes m) m (λ end k. IsReady p k)
  unfolding applet_creation
  created_good budget bytes m r = created_of_good budget (creation_of bytes) m r (parameters_fit bytes)

  -- ---- code that was lent

  lent_good : (budget : Budget) (limit locals : ℕ) (code : List ℕ) (m : MemoryState) → IsReady p m
      → Good p (ad_hoc_run budget limit locals code p m) m (λ o k. IsReady p k)
  unfolding ad_hoc_run
  lent_good budget limit locals code m r =
      let machine : IsSoundMachine p (bare_frames limit locals) m = record {
        sound = r.sound;
        steady = idle_steady p m r.sound r.idle;
        callers = tt;
        environment = r.environment;
        code = λ home zero. absurd (true≢false home);
        living = record { current = first_living m.heap.now [] locals limit 0 no_package (none_living m.heap.now); callers = tt };
      } in
      let fits : AllDue (IsFit p) (run_ad_hoc limit locals code budget p m) m = runs budget.attack budget.left code p
      (bare_frames limit locals) m known machine in
      let each : AllResults (run_ad_hoc limit locals code budget p m) m (λ end v. Good p (bind (close v) v (λ u w. Finish end.1)) v (λ o k. IsReady p k)) =
      each_more (λ end v. StandsBehind p m v) _ (λ end v b. good_bind p _ _ (close v) v
      (good_more p _ _ (close v) v (closed_behind m v (goes_on m m v (begins m r) b))
      (λ u w shut. good_gives p _ _ w (ready m w shut.behind shut.shut)))) (run_ad_hoc limit locals code budget p m) m
      (behind_each p (run_ad_hoc limit locals code budget p m) m m fits (behind_itself p m r.sound r.environment)) in
      good_bind p _ _ (run_ad_hoc limit locals code budget p m) m (record {
        due = all_served p (run_ad_hoc limit locals code budget p m) m fits;
        each = each;
        runs = dispatched_run p _ budget.attack budget.left code (bare_frames limit locals) m
            (record { first = refl; living = machine.living.current; steady = machine.steady; owner = machine.code })
            (λ end n did. each_did _ (run_ad_hoc limit locals code budget p m) m n end each did);
      })

leaves : (p : Packages) {A : Type 0} (d : Program A) (m : MemoryState) → Good p d m (λ a n. IsReady p n) → LeavesReady p d m
leaves p d m g = record { fit = g.due; ready = g.each; runs = g.runs }

pub commands_sound : RunsAreSound → CommandsAreSound
commands_sound runs = record {
  answering = λ budget p a selecting expected m known r there. leaves p _ m (processed_behind runs p known budget a selecting expected m m
      (begins runs p known m r) there);
  selecting = λ budget p a expected m known r there. leaves p _ m (selected_good runs p known budget a expected m r there);
  managing = λ budget p m known r. leaves p _ m (managed_good runs p known budget m r);
  making = λ budget p bytes m known r. leaves p _ m (created_good runs p known budget bytes m r);
  running = λ budget limit locals code p m known r. leaves p _ m (lent_good runs p known budget limit locals code m r);
}
