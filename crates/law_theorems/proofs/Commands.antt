-- Commands leave a card as it should be.
use Rattle.std.proofs.Common.{◌≡◌, ℕ, ◌+◌, ◌<◌, ◌≤◌, ◌==◌, nat_le, nat_lt, Bool, true, false, inl, inr, List, [], ◌∷◌, drop, length, take, Option}
use Rattle.std.proofs.Common.{Some, None, refl, sym, ap, subst, arith, if◌then◌else◌}
use Rattle.std.specs.Prelude.{IfSome, Err, slice_index}
use Rattle.std.specs.Option.{option_map}
use Rattle.std.specs.Str.{bytes_eq}
use Rattle.std.proofs.lemmas.Bool.{and_from, cases_lt, eqb-true, le-leb, leb-true, lt-ltb}
use Rattle.std.proofs.lemmas.List.Elements.{All-get_or}
use Rattle.std.proofs.lemmas.Option.{none-some, same_Some}
use Rattle.jc_heap.specs.Heap.{HeapState}
use Rattle.jc_transient.specs.declared.owner.AppletNumber.{AppletNumber}
use Rattle.jc_memory.specs.State.{MemoryState, BeginCommand, apply_effect}
use Rattle.jc_memory.specs.Programs.{Program, Finish, Completes, TearLeaves}
use Rattle.jc_memory.proofs.ProgramLemmas.{due_keeps, due_left, each_did}
use Rattle.jc_linker.specs.Values.{Packages}
use Rattle.jc_platform.specs.Tokens.{Tokens}
use Rattle.jc_environment.specs.Registry.{applet_count, applet_with_aid, first_with_aid}
use Rattle.jc_packages.specs.declared.load.OpenLoad.{OpenLoad}
use Rattle.jc_packages.specs.declared.load_refusal.LoadRefusal.TheVariants.{OutOfSequence}
use Rattle.jc_packages.specs.Load.{CommandResult, component_append}
use Rattle.jc_dispatch.specs.declared.applet_result.AppletResult.TheVariants.{NotSelected}
use Rattle.jc_dispatch.specs.Create.{applet_creation}
use Rattle.jc_dispatch.specs.AdHocCode.{ad_hoc_run}
use Rattle.jc_card.specs.Answers.{answer_of, respond_with, run_code}
use Rattle.jc_card.specs.Command.{Apdu}
use Rattle.jc_card.specs.Card.{CardState}
use Rattle.jc_card.specs.Dispatching.{with_response, create_applet, dispatch, expected_by, is_select, manager_aid, route, to_named}
use Rattle.jc_card.specs.Dispatching.{to_selected}
use Rattle.jc_card.specs.Loading.{LoadResponse, append_component, component_append_without_memory, load_command, on_load}
use Rattle.law_soundness.specs.LoadedPackages.{AreBytes}
use Rattle.law_soundness.specs.ReadingLoads.{IsOpenReadable}
use Rattle.law_soundness.proofs.OpenLoads.{are_readable}
use Rattle.law_soundness.specs.MemoryLaws.State.{is_applet}
use Rattle.law_soundness.specs.MachineLaws.Soundness.{AreKnown}
use Rattle.law_soundness.specs.MachineLaws.Commands.{CommandsAreSound, IsReady, IsServed, LeavesReady}
use Rattle.law_soundness.specs.MachineLaws.CommandParts.{OneOf}
use Rattle.law_soundness.proofs.Commands.{in_range}
use Rattle.law_soundness.proofs.Phases.{Good, good_bind, good_gives, good_more, good_then}
use Rattle.law_soundness.proofs.CommandEffects.{serving_keeps}
use Rattle.law_theorems.specs.NewImages.{EffectsKeepBeginnings}
use Rattle.law_theorems.specs.Cards.{IsOwnCard}
use Rattle.law_theorems.proofs.CardHeaps.{IsLeft, IsOwnMemory, keeps_at, left_own, still_own}

-- ---- what is asked of an answer

-- the card between two commands, with the same packages
pub record IsAnswered (p : Packages) (ans : LoadResponse) (m : MemoryState) : Type 0 where
  pub ready : IsReady p m
  pub packages : ans.packages ≡ p
  pub load : IfSome ans.load IsOpenReadable

pub own_memory : (t : Tokens) (card : CardState) → IsOwnCard t card → IsOwnMemory card.memory.heap.durable.head.1 t card.packages card.memory
own_memory t card own = record {
  sound = own.ready.sound;
  environment = own.ready.environment;
  reading = own.reading;
  beginning = own.beginning;
  layout = own.layout;
}

module _ (begins : EffectsKeepBeginnings) (t : Tokens) (card : CardState) (own : IsOwnCard t card) (d : Program LoadResponse)
    (good : Good card.packages d card.memory (IsAnswered card.packages)) where
  keeps : (e : _) (s : MemoryState) → IsServed card.packages e s → IsOwnMemory card.memory.heap.durable.head.1 t card.packages s
      → IsOwnMemory card.memory.heap.durable.head.1 t card.packages (apply_effect e s)
  keeps e s due o = still_own begins card.memory.heap.durable.head.1 t card.packages e s due o

  -- all of it was done
  pub did_own : (ans : LoadResponse) (new : MemoryState) → Completes d card.memory ans new
      → IsOwnCard t (record { memory = new; packages = ans.packages; load = ans.load; budget = ans.budget })
  did_own ans new did =
      let left = each_did (IsAnswered card.packages) d card.memory new ans good.each did in
      let memory = due_keeps (IsServed card.packages) (IsOwnMemory card.memory.heap.durable.head.1 t card.packages) keeps d card.memory new ans good.due did
      (own_memory t card own) in
      subst (λ p. IsOwnCard t (record { memory = new; packages = p; load = ans.load; budget = ans.budget })) (sym left.packages) (record {
        linked = own.linked;
        ready = left.ready;
        reading = memory.reading;
        beginning = keeps_at card.memory.heap.durable.head.1 t new memory.beginning;
        layout = memory.layout;
        load = left.load;
      })

  -- the power was lost within it
  pub lost_own : (passed : ℕ) (h : HeapState) → TearLeaves d card.memory passed h → IsLeft card.memory.heap.durable.head.1 t card.packages h
  lost_own passed h left = due_left (IsServed card.packages) (IsOwnMemory card.memory.heap.durable.head.1 t card.packages) keeps (IsLeft card.memory.heap.durable.head.1 t card.packages)
      (λ s o. left_own card.memory.heap.durable.head.1 t card.packages s o) d card.memory passed h good.due left (own_memory t card own)

-- ---- commands but the end of a load

module _ (commands : CommandsAreSound) (t : Tokens) (card : CardState) (own : IsOwnCard t card) (known : AreKnown card.packages) where
  abbrev p : Packages
  p = card.packages

  pub answers_good : (response : List ℕ) → Good p (respond_with card response) card.memory (IsAnswered p)
  answers_good response = good_gives p _ (with_response card response) card.memory (record { ready = own.ready; packages = refl; load = own.load })

  -- after what leaves a ready memory
  ends_good : (response : List ℕ) (v : MemoryState) → IsReady p v → Good p (Finish (with_response card response)) v (IsAnswered p)
  ends_good response v ready = good_gives p _ (with_response card response) v (record { ready = ready; packages = refl; load = own.load })

  of_leaves : {A : Type 0} (d : Program A) (m : MemoryState) → LeavesReady p d m → Good p d m (λ a n. IsReady p n)
  of_leaves d m l = record { due = l.fit; each = l.ready; runs = l.runs }

  pub runs_good : (limit locals : ℕ) (code : List ℕ) → Good p (run_code limit locals code card) card.memory (IsAnswered p)
  unfolding run_code
  runs_good limit locals [] = answers_good _
  runs_good limit locals (b ∷ more) =
      let d = ad_hoc_run card.budget limit locals (b ∷ more) p card.memory in
      good_bind p _ (λ end v. respond_with card (answer_of end)) d card.memory (good_more p _ _ d card.memory
      (of_leaves d card.memory (commands.running card.budget limit locals (b ∷ more) p card.memory known own.ready))
      (λ end v ready. ends_good (answer_of end) v ready))

  pub loads_good : (ended : CommandResult) (load : Option OpenLoad) → IfSome load IsOpenReadable
      → Good p (load_command card ended load) card.memory (IsAnswered p)
  loads_good ended load readable = good_gives p _ _ card.memory (record { ready = own.ready; packages = refl; load = readable })

  pub on_load_good : (change : OpenLoad → CommandResult × OpenLoad) → ((load : OpenLoad) → IsOpenReadable load → IsOpenReadable (change load).1)
      → (load : Option OpenLoad) → IfSome load IsOpenReadable → Good p (on_load card change load) card.memory (IsAnswered p)
  on_load_good change keeps None readable = loads_good (Err OutOfSequence) None tt
  on_load_good change keeps (Some load) readable = loads_good (change load).0 (Some (change load).1) (keeps load readable)

  pub grows_good : (bytes : List ℕ) → AreBytes bytes → Good p (append_component bytes card) card.memory (IsAnswered p)
  grows_good [] are = good_gives p _ _ card.memory (record { ready = own.ready; packages = refl; load = own.load })
  grows_good (b ∷ more) are =
      let one = on_load_good (component_append (b ∷ more)) (λ load r. are_readable.grows (b ∷ more) load are r) card.load own.load in
      let other = on_load_good (component_append_without_memory (b ∷ more)) (λ load r. r) card.load own.load in
      record { due = (one.due, other.due); each = (one.each, other.each); runs = OneOf _ _ card.memory one.runs other.runs }

  -- a command begins
  started : (bytes : List ℕ) (v : MemoryState) → IsReady p v → IsReady p (apply_effect (BeginCommand bytes) v)
  started bytes v r = record {
    sound = serving_keeps.sound p (BeginCommand bytes) v tt r.sound;
    environment = serving_keeps.environment p (BeginCommand bytes) v tt r.sound r.environment;
    closed = r.closed;
    idle = r.idle;
  }

  pub creates_good : (bytes : List ℕ) → Good p (create_applet bytes card) card.memory (IsAnswered p)
  unfolding create_applet
  creates_good [] = answers_good _
  creates_good (b ∷ more) =
      let v = apply_effect (BeginCommand []) card.memory in
      let d = applet_creation card.budget p (b ∷ more) v in
      good_then p _ (BeginCommand []) _ card.memory tt tt (good_bind p _ _ d v (good_more p _ _ d v
      (of_leaves d v (commands.making card.budget p (b ∷ more) v known (started [] card.memory own.ready))) (λ e w ready. ends_good _ w ready)))

  -- the applet with an AID is there
  number_found : (m : MemoryState) (o : Option ℕ) (a : AppletNumber) → option_map (λ n. record { 0 = n }) o ≡ Some a
      → ((n : ℕ) → o ≡ Some n → (1 ≤ n) × (n ≤ m.heap.now.counts.1)) → (1 ≤ a.0) × (a.0 ≤ m.heap.now.counts.1)
  number_found m None a is within = absurd (none-some a is)
  number_found m (Some n) a is within =
      let same : n ≡ a.0 = ap (λ x. x.0) (same_Some (record { 0 = n }) a is) in
      let at = within n refl in (let x = at.0 in omega (arith, x, same), let y = at.1 in omega (arith, y, same))

  counted : (h : HeapState) → applet_count h ≤ h.counts.1
  counted h = omega arith

  aid_found : (m : MemoryState) (aid : List ℕ) (a : AppletNumber) → applet_with_aid m aid ≡ Some a → (1 ≤ a.0) × (a.0 ≤ m.heap.now.counts.1)
  unfolding applet_with_aid
  aid_found m aid a is = number_found m (first_with_aid m aid 1 (applet_count m.heap.now)) a is
      (λ n found. let r = in_range _ (applet_count m.heap.now) 1 n found in (r.0, let x = r.1 in let c = counted m.heap.now in omega (arith, x, c)))

  registered : (v : MemoryState) (aid : List ℕ) (a : AppletNumber) → IsReady p v → applet_with_aid v aid ≡ Some a → is_applet v.heap.durable a ≡ true
  registered v aid a r is =
      let at = aid_found v aid a is in
      let same : v.heap.now.counts.1 ≡ v.heap.durable.counts.1 = ap (λ h. h.counts.1) (r.sound.settled r.closed) in
      and_from (nat_lt 0 a.0) _ (lt-ltb 0 a.0 (let x = at.0 in omega (arith, x))) (le-leb a.0 v.heap.durable.counts.1 (let x = at.1 in omega (arith, x, same)))

  to_selected_good : (o : Option AppletNumber) (expected : ℕ) (v : MemoryState) → IsReady p v
      → ((a : AppletNumber) → o ≡ Some a → is_applet v.heap.durable a ≡ true) → Good p (to_selected card.budget o expected p v) v (λ e w. IsReady p w)
  to_selected_good None expected v r there = good_gives p _ NotSelected v r
  to_selected_good (Some a) expected v r there = of_leaves _ v (commands.answering card.budget p a false expected v known r (there a refl))

  to_named_good : (o : Option AppletNumber) (expected : ℕ) (v : MemoryState) → IsReady p v
      → ((a : AppletNumber) → o ≡ Some a → is_applet v.heap.durable a ≡ true) → Good p (to_named card.budget o expected p v) v (λ e w. IsReady p w)
  to_named_good None expected v r there = to_selected_good v.registers.selected expected v r r.sound.selected
  to_named_good (Some a) expected v r there = of_leaves _ v (commands.selecting card.budget p a expected v known r (there a refl))

  if_good : {A : Type 0} (b : Bool) (x y : Program A) (m : MemoryState) (Q : A → MemoryState → Type 0) → Good p x m Q → Good p y m Q
      → Good p (if b then x else y) m Q
  if_good true x y m Q first second = first
  if_good false x y m Q first second = second

  routed_good : (c : Apdu) (expected : ℕ) (v : MemoryState) → IsReady p v → Good p (route card.budget c expected p v) v (λ e w. IsReady p w)
  unfolding route
  routed_good c expected v r = if_good (is_select c) _ _ v _
      (if_good (bytes_eq c.content manager_aid) _ _ v _ (of_leaves _ v (commands.managing card.budget p v known r))
      (to_named_good (applet_with_aid v c.content) expected v r (λ a is. registered v c.content a r is)))
      (to_selected_good v.registers.selected expected v r r.sound.selected)

  pub dispatched_good : (bytes : List ℕ) (c : Apdu) → Good p (dispatch bytes c card) card.memory (IsAnswered p)
  unfolding dispatch
  dispatched_good bytes c =
      let v = apply_effect (BeginCommand bytes) card.memory in
      let d = route card.budget c (expected_by bytes) p v in
      good_then p _ (BeginCommand bytes) _ card.memory tt tt (good_bind p _ _ d v (good_more p _ _ d v
      (routed_good c (expected_by bytes) v (started bytes card.memory own.ready))
      (λ e w ready. good_gives p _ _ w (record { ready = ready; packages = refl; load = own.load }))))
