-- What is dispatched: put together, and taken apart into what the runtime environment does and steps of code.
use Rattle.std.proofs.Common.{◌≡◌, ℕ, zero, suc, ◌+◌, ◌⊎◌, inl, inr, List, [], ◌∷◌, ◌++◌, Option, refl, sym, ◌∙◌, ap, subst, arith}
use Rattle.std.proofs.lemmas.List.{append_assoc}
use Rattle.jc_memory.specs.Programs.{Program, Finish, Perform, Choose, Either, Completes, bind}
use Rattle.jc_memory.specs.Reading.{HasTrace, HasTracePrefix}
use Rattle.jc_memory.specs.State.{MemoryState, Effect, apply_effect, apply_effects}
use Rattle.jc_memory.proofs.ProgramLemmas.{taken_did}
use Rattle.jc_linker.specs.Values.{Packages}
use Rattle.jc_frames.specs.declared.outcome.Outcome.{Outcome}
use Rattle.jc_frames.specs.Frames.{Frames, Next, GoesOn, Throws}
use Rattle.jc_frames.specs.Frames as frames
use Rattle.jc_interp.specs.declared.attacks.Attack.{Attack}
use Rattle.jc_interp.specs.Attacks.{attacked_step}
use Rattle.jc_interp.specs.Run.{or_end, run_of}
use Rattle.law_code.specs.IsolationLaws.Runs.{RunSteps}
use Rattle.law_soundness.specs.References.{MayBegin}
use Rattle.law_soundness.specs.MachineLaws.CommandParts.{IsByEnvironment, IsDispatched, Stops, Does, Chooses, OneOf, Runs, IsOfRun, DispatchedAreRuns}

-- ---- one after the other

bind_assoc : {A B C : Type 0} (more : A → MemoryState → Program B) (last : B → MemoryState → Program C) (d : Program A) (m : MemoryState)
    → bind (bind d m more) m last ≡ bind d m (λ a n. bind (more a n) n last)
bind_assoc more last (Finish a) m = refl
bind_assoc more last (Perform e rest) m = ap (λ x. Perform e x) (bind_assoc more last rest (apply_effect e m))
bind_assoc more last (Choose choose) m = λ i. Choose (λ r. bind_assoc more last (choose r) m i)
bind_assoc more last (Either x y) m = λ i. Either (bind_assoc more last x m i) (bind_assoc more last y m i)

bind_end : {A : Type 0} (d : Program A) (m : MemoryState) → d ≡ bind d m (λ a n. Finish a)
bind_end (Finish a) m = refl
bind_end (Perform e rest) m = ap (λ x. Perform e x) (bind_end rest (apply_effect e m))
bind_end (Choose choose) m = λ i. Choose (λ r. bind_end (choose r) m i)
bind_end (Either x y) m = λ i. Either (bind_end x m i) (bind_end y m i)

module _ (p : Packages) where
  pub dispatched_then : {A B : Type 0} (R : A → MemoryState → Type 0) (N : B → MemoryState → Type 0) (last : A → MemoryState → Program B)
      → ((a : A) (n : MemoryState) → R a n → IsDispatched p N (last a n) n) → (d : Program A) (m : MemoryState) → IsDispatched p R d m
      → IsDispatched p N (bind d m last) m
  dispatched_then R N last each _ _ (Stops a m so) = each a m so
  dispatched_then R N last each _ _ (Does e rest m due so) =
      Does e (bind rest (apply_effect e m) last) m due (dispatched_then R N last each rest (apply_effect e m) so)
  dispatched_then R N last each _ _ (Chooses choose m so) = Chooses (λ r. bind (choose r) m last) m (λ r new. dispatched_then R N last each (choose r) m (so r new))
  dispatched_then R N last each _ _ (OneOf x y m first second) =
      OneOf (bind x m last) (bind y m last) m (dispatched_then R N last each x m first) (dispatched_then R N last each y m second)
  dispatched_then R N last each _ _ (Runs attack budget lent s more d m begins is so) =
      Runs attack budget lent s (λ end n. bind (more end n) n last) (bind d m last) m begins
      (ap (λ x. bind x m last) is ∙ bind_assoc more last (run_of attack budget lent p s m) m)
      (λ end n did. dispatched_then R N last each (more end n) n (so end n did))

  pub dispatched_more : {A : Type 0} (R N : A → MemoryState → Type 0) → ((a : A) (n : MemoryState) → R a n → N a n) → (d : Program A) (m : MemoryState)
      → IsDispatched p R d m → IsDispatched p N d m
  dispatched_more R N more _ _ (Stops a m so) = Stops a m (more a m so)
  dispatched_more R N more _ _ (Does e rest m due so) = Does e rest m due (dispatched_more R N more rest (apply_effect e m) so)
  dispatched_more R N more _ _ (Chooses choose m so) = Chooses choose m (λ r new. dispatched_more R N more (choose r) m (so r new))
  dispatched_more R N more _ _ (OneOf x y m first second) = OneOf x y m (dispatched_more R N more x m first) (dispatched_more R N more y m second)
  dispatched_more R N more _ _ (Runs attack budget lent s rest d m begins is so) =
      Runs attack budget lent s rest d m begins is (λ end n did. dispatched_more R N more (rest end n) n (so end n did))

  -- code alone
  pub dispatched_run : (N : ℕ × Outcome → MemoryState → Type 0) (attack : Option Attack) (budget : ℕ) (lent : List ℕ) (s : Frames) (m : MemoryState)
      → MayBegin s m → ((end : ℕ × Outcome) (n : MemoryState) → Completes (run_of attack budget lent p s m) m end n → N end n)
      → IsDispatched p N (run_of attack budget lent p s m) m
  dispatched_run N attack budget lent s m begins each =
      Runs attack budget lent s (λ end n. Finish end) (run_of attack budget lent p s m) m begins (bind_end (run_of attack budget lent p s m) m)
      (λ end n did. Stops end n (each end n did))

  -- ---- taken apart

  -- what begins so has begun the first of two, or has done it
  record HasDone {A B : Type 0} (d : Program A) (m : MemoryState) (more : A → MemoryState → Program B) (es : List Effect) (e : Effect) : Type 0 where
    first : List Effect
    second : List Effect
    are : es ≡ first ++ second
    answer : A
    trace : HasTrace d m first answer
    begins : HasTracePrefix (more answer (apply_effects first m)) (apply_effects first m) (second ++ (e ∷ []))

  done_more : {A B : Type 0} (more : A → MemoryState → Program B) (f : Effect) (rest : Program A) (m : MemoryState) (es : List Effect) (e : Effect)
      → HasDone rest (apply_effect f m) more es e → HasDone (Perform f rest) m more (f ∷ es) e
  done_more more f rest m es e h = record {
    first = f ∷ h.first;
    second = h.second;
    are = ap (λ (l : List Effect). f ∷ l) h.are;
    answer = h.answer;
    trace = (h.first, refl, h.trace);
    begins = h.begins;
  }

  split : {A B : Type 0} (more : A → MemoryState → Program B) (d : Program A) (m : MemoryState) (es : List Effect) (e : Effect)
      → HasTracePrefix (bind d m more) m (es ++ (e ∷ [])) → HasTracePrefix d m (es ++ (e ∷ [])) ⊎ HasDone d m more es e
  split more (Finish a) m es e b = inr (record { first = []; second = es; are = refl; answer = a; trace = (refl, refl); begins = b })
  split more (Perform f rest) m [] e b = inl (b.0, tt)
  split more (Perform f rest) m (g ∷ es) e b = by (split more rest (apply_effect f m) es e b.1)
    where
      by : HasTracePrefix rest (apply_effect f m) (es ++ (e ∷ [])) ⊎ HasDone rest (apply_effect f m) more es e
          → HasTracePrefix (Perform f rest) m (g ∷ (es ++ (e ∷ []))) ⊎ HasDone (Perform f rest) m more (g ∷ es) e
      by (inl within) = inl (b.0, within)
      by (inr h) = inr (subst (λ x. HasDone (Perform f rest) m more (x ∷ es) e) (sym b.0) (done_more more f rest m es e h))
  split more (Choose choose) m [] e b = by (split more (choose b.0) m [] e b.2)
    where
      by : HasTracePrefix (choose b.0) m (e ∷ []) ⊎ HasDone (choose b.0) m more [] e
          → HasTracePrefix (Choose choose) m (e ∷ []) ⊎ HasDone (Choose choose) m more [] e
      by (inl within) = inl (b.0, b.1, within)
      by (inr h) = inr (record { first = h.first; second = h.second; are = h.are; answer = h.answer; trace = (b.0, b.1, h.trace); begins = h.begins })
  split more (Choose choose) m (g ∷ es) e b = by (split more (choose b.0) m (g ∷ es) e b.2)
    where
      by : HasTracePrefix (choose b.0) m (g ∷ (es ++ (e ∷ []))) ⊎ HasDone (choose b.0) m more (g ∷ es) e
          → HasTracePrefix (Choose choose) m (g ∷ (es ++ (e ∷ []))) ⊎ HasDone (Choose choose) m more (g ∷ es) e
      by (inl within) = inl (b.0, b.1, within)
      by (inr h) = inr (record { first = h.first; second = h.second; are = h.are; answer = h.answer; trace = (b.0, b.1, h.trace); begins = h.begins })
  split more (Either x y) m [] e (inl b) = by (split more x m [] e b)
    where
      by : HasTracePrefix x m (e ∷ []) ⊎ HasDone x m more [] e → HasTracePrefix (Either x y) m (e ∷ []) ⊎ HasDone (Either x y) m more [] e
      by (inl within) = inl (inl within)
      by (inr h) = inr (record { first = h.first; second = h.second; are = h.are; answer = h.answer; trace = inl h.trace; begins = h.begins })
  split more (Either x y) m [] e (inr b) = by (split more y m [] e b)
    where
      by : HasTracePrefix y m (e ∷ []) ⊎ HasDone y m more [] e → HasTracePrefix (Either x y) m (e ∷ []) ⊎ HasDone (Either x y) m more [] e
      by (inl within) = inl (inr within)
      by (inr h) = inr (record { first = h.first; second = h.second; are = h.are; answer = h.answer; trace = inr h.trace; begins = h.begins })
  split more (Either x y) m (g ∷ es) e (inl b) = by (split more x m (g ∷ es) e b)
    where
      by : HasTracePrefix x m (g ∷ (es ++ (e ∷ []))) ⊎ HasDone x m more (g ∷ es) e
          → HasTracePrefix (Either x y) m (g ∷ (es ++ (e ∷ []))) ⊎ HasDone (Either x y) m more (g ∷ es) e
      by (inl within) = inl (inl within)
      by (inr h) = inr (record { first = h.first; second = h.second; are = h.are; answer = h.answer; trace = inl h.trace; begins = h.begins })
  split more (Either x y) m (g ∷ es) e (inr b) = by (split more y m (g ∷ es) e b)
    where
      by : HasTracePrefix y m (g ∷ (es ++ (e ∷ []))) ⊎ HasDone y m more (g ∷ es) e
          → HasTracePrefix (Either x y) m (g ∷ (es ++ (e ∷ []))) ⊎ HasDone (Either x y) m more (g ∷ es) e
      by (inl within) = inl (inr within)
      by (inr h) = inr (record { first = h.first; second = h.second; are = h.are; answer = h.answer; trace = inr h.trace; begins = h.begins })

  -- ---- a run

  -- this many steps were taken, and the next effect is of one more
  record IsInStep (attack : Option Attack) (limit : ℕ) (lent : List ℕ) (s : Frames) (m : MemoryState) (es : List Effect) (e : Effect) : Type 0 where
    ran : List Effect
    during : List Effect
    are : es ≡ ran ++ during
    taken : ℕ
    left : ℕ
    all : taken + left ≡ limit
    last : Frames
    steps : RunSteps attack taken limit lent p s m last (apply_effects ran m)
    within : HasTracePrefix (attacked_step attack left lent p last (apply_effects ran m)) (apply_effects ran m) (during ++ (e ∷ []))

  -- nothing is done after the end
  pub nothing_more : {A : Type 0} (a : A) (m : MemoryState) (es : List Effect) (e : Effect) → HasTracePrefix (Finish a) m (es ++ (e ∷ [])) → ⊥
  nothing_more a m [] e b = b
  nothing_more a m (f ∷ es) e b = b

  behind_two : (es fs : List Effect) (m : MemoryState) → apply_effects (es ++ fs) m ≡ apply_effects fs (apply_effects es m)
  behind_two [] fs m = refl
  behind_two (e ∷ es) fs m = behind_two es fs (apply_effect e m)

  module _ (attack : Option Attack) (n : ℕ) (lent : List ℕ) (s : Frames) (m : MemoryState) (es : List Effect) (e : Effect)
      (each : (t : Frames) (v : MemoryState) (gs : List Effect) → HasTracePrefix (run_of attack n lent p t v) v (gs ++ (e ∷ []))
      → IsInStep attack n lent t v gs e) where
    further : (first second : List Effect) (next : Next Frames) → es ≡ first ++ second → HasTrace (attacked_step attack (suc n) lent p s m) m first next
        → HasTracePrefix (or_end n next (λ t. run_of attack n lent p t (apply_effects first m))) (apply_effects first m) (second ++ (e ∷ []))
        → IsInStep attack (suc n) lent s m es e
    further first second (GoesOn t) are trace begins =
        let h = each t (apply_effects first m) second begins in
        let same : apply_effects (first ++ h.ran) m ≡ apply_effects h.ran (apply_effects first m) = behind_two first h.ran m in record {
          ran = first ++ h.ran;
          during = h.during;
          are = are ∙ ap (λ (l : List Effect). first ++ l) h.are ∙ sym (append_assoc first h.ran h.during);
          taken = suc h.taken;
          left = h.left;
          all = omega (arith, h.all);
          last = h.last;
          steps = (first, t, trace, subst (RunSteps attack h.taken n lent p t (apply_effects first m) h.last) (sym same) h.steps);
          within = subst (λ v. HasTracePrefix (attacked_step attack h.left lent p h.last v) v (h.during ++ (e ∷ []))) (sym same) h.within;
        }
    further first second (Throws x t) are trace begins = absurd (nothing_more _ (apply_effects first m) second e begins)
    further first second (frames.Ends o) are trace begins = absurd (nothing_more _ (apply_effects first m) second e begins)

    more_steps : HasTracePrefix (attacked_step attack (suc n) lent p s m) m (es ++ (e ∷ [])) ⊎ HasDone (attacked_step attack (suc n) lent p s m) m
        (λ next v. or_end n next (λ t. run_of attack n lent p t v)) es e → IsInStep attack (suc n) lent s m es e
    more_steps (inl within) = record {
      ran = [];
      during = es;
      are = refl;
      taken = 0;
      left = suc n;
      all = omega arith;
      last = s;
      steps = (refl, refl);
      within = within;
    }
    more_steps (inr h) = further h.first h.second h.answer h.are h.trace h.begins

  run_apart : (attack : Option Attack) (budget : ℕ) (lent : List ℕ) (s : Frames) (m : MemoryState) (es : List Effect) (e : Effect)
      → HasTracePrefix (run_of attack budget lent p s m) m (es ++ (e ∷ [])) → IsInStep attack budget lent s m es e
  unfolding run_of
  run_apart attack zero lent s m es e b = absurd (nothing_more _ m es e b)
  run_apart attack (suc n) lent s m es e b = more_steps attack n lent s m es e (λ t v gs begins. run_apart attack n lent t v gs e begins)
      (split _ (attacked_step attack (suc n) lent p s m) m es e b)

  -- ---- all of it

  abbrev IsOne : MemoryState → List Effect → Effect → Type 0
  IsOne m es e = IsByEnvironment e (apply_effects es m) ⊎ IsOfRun p m es e

  -- after one more effect
  later : (f : Effect) (m : MemoryState) (es : List Effect) (e : Effect) → IsOne (apply_effect f m) es e → IsOne m (f ∷ es) e
  later f m es e (inl so) = inl so
  later f m es e (inr r) = inr (record {
    before = f ∷ r.before;
    ran = r.ran;
    during = r.during;
    are = ap (λ (l : List Effect). f ∷ l) r.are;
    lent = r.lent;
    first = r.first;
    begins = r.begins;
    attack = r.attack;
    taken = r.taken;
    left = r.left;
    last = r.last;
    steps = r.steps;
    within = r.within;
  })

  -- after several
  behind : (front : List Effect) (m : MemoryState) (es : List Effect) (e : Effect) → IsOne (apply_effects front m) es e → IsOne m (front ++ es) e
  behind [] m es e so = so
  behind (f ∷ front) m es e so = later f m (front ++ es) e (behind front (apply_effect f m) es e so)

  of_run : (attack : Option Attack) (limit : ℕ) (lent : List ℕ) (s : Frames) (m : MemoryState) (es : List Effect) (e : Effect) → MayBegin s m
      → IsInStep attack limit lent s m es e → IsOfRun p m es e
  of_run attack limit lent s m es e begins h = record {
    before = [];
    ran = h.ran;
    during = h.during;
    are = h.are;
    lent = lent;
    first = s;
    begins = begins;
    attack = attack;
    taken = h.taken;
    left = h.left;
    last = h.last;
    steps = subst (λ n. RunSteps attack h.taken n lent p s m h.last (apply_effects h.ran m)) (sym h.all) h.steps;
    within = h.within;
  }

  -- a run, and what comes after it
  within_run : {A : Type 0} (attack : Option Attack) (budget : ℕ) (lent : List ℕ) (s : Frames) (more : ℕ × Outcome → MemoryState → Program A)
      (m : MemoryState) (es : List Effect)
      (e : Effect) → MayBegin s m → ((end : ℕ × Outcome) (n : MemoryState) → Completes (run_of attack budget lent p s m) m end n → (gs : List Effect)
      → HasTracePrefix (more end n) n (gs ++ (e ∷ [])) → IsOne n gs e)
      → HasTracePrefix (run_of attack budget lent p s m) m (es ++ (e ∷ [])) ⊎ HasDone (run_of attack budget lent p s m) m more es e → IsOne m es e
  within_run attack budget lent s more m es e begins each (inl within) =
      inr (of_run attack budget lent s m es e begins (run_apart attack budget lent s m es e within))
  within_run attack budget lent s more m es e begins each (inr h) = subst (λ l. IsOne m l e) (sym h.are) (behind h.first m h.second e
      (each h.answer (apply_effects h.first m) (taken_did (run_of attack budget lent p s m) m h.first h.answer h.trace) h.second h.begins))

  apart : {A : Type 0} (R : A → MemoryState → Type 0) (d : Program A) (m : MemoryState) (es : List Effect) (e : Effect) → IsDispatched p R d m
      → HasTracePrefix d m (es ++ (e ∷ [])) → IsOne m es e
  apart R _ _ es e (Stops a m so) b = absurd (nothing_more a m es e b)
  apart R _ _ [] e (Does f rest m due so) b = inl (subst (λ x. IsByEnvironment x m) (sym b.0) due)
  apart R _ _ (g ∷ es) e (Does f rest m due so) b = subst (λ x. IsOne m (x ∷ es) e) (sym b.0)
      (later f m es e (apart R rest (apply_effect f m) es e so b.1))
  apart R _ _ [] e (Chooses choose m so) b = apart R (choose b.0) m [] e (so b.0 b.1) b.2
  apart R _ _ (g ∷ es) e (Chooses choose m so) b = apart R (choose b.0) m (g ∷ es) e (so b.0 b.1) b.2
  apart R _ _ [] e (OneOf x y m first second) (inl b) = apart R x m [] e first b
  apart R _ _ [] e (OneOf x y m first second) (inr b) = apart R y m [] e second b
  apart R _ _ (g ∷ es) e (OneOf x y m first second) (inl b) = apart R x m (g ∷ es) e first b
  apart R _ _ (g ∷ es) e (OneOf x y m first second) (inr b) = apart R y m (g ∷ es) e second b
  apart R _ _ es e (Runs attack budget lent s more d m begins is so) b = within_run attack budget lent s more m es e begins
      (λ end n did gs within. apart R (more end n) n gs e (so end n did) within)
      (split more (run_of attack budget lent p s m) m es e (subst (λ x. HasTracePrefix x m (es ++ (e ∷ []))) is b))

pub dispatched_apart : {A : Type 0} → DispatchedAreRuns A
dispatched_apart p d m es e so b = apart p _ d m es e so b
