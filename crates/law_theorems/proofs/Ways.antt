-- Programs that are done by their first way, as the checker computes it.
use Rattle.std.proofs.Common.{◌≡◌, ℕ, zero, suc, ◌==◌, Bool, true, false, List, [], ◌∷◌, ◌++◌, Option, None, Some, refl, sym, subst, ap, ◌∙◌, inl, inr, map}
use Rattle.std.specs.Prelude.{if◌then◌else◌, is_some}
use Rattle.std.specs.Option.{option_and_then}
use Rattle.std.proofs.lemmas.Bool.{false≢true}
use Rattle.std.proofs.lemmas.Option.{none-some, option_and_then_some, same_Some}
use Rattle.jc_heap.specs.Heap.{HeapState, is_allocated}
use Rattle.jc_heap.specs.Moves.{Move, IsCutIn}
use Rattle.jc_frames.specs.Frames.{Frames, GoesOn, Next}
use Rattle.jc_memory.specs.Programs.{Program, Finish, Perform, Choose, Either, Completes, TearLeaves}
use Rattle.jc_memory.specs.Reading.{HasTrace, HasTracePrefix}
use Rattle.jc_memory.specs.State.{Effect, HeapMove, IsNew, MemoryState, apply_effect, apply_effects}
use Rattle.jc_linker.specs.Values.{Packages}
use Rattle.jc_interp.specs.Step.{machine_step}
use Rattle.jc_card.specs.Answers.{exchange}
use Rattle.jc_card.specs.Card.{CardState}
use Rattle.jc_card.specs.Loading.{LoadResponse}
use Rattle.jc_card.specs.Session.Requests.{Command, Reply, Response}
use Rattle.jc_card.specs.State.Power.{Up}
use Rattle.jc_card.specs.Session.Serving.{SessionRun}
use Rattle.law_theorems.proofs.Prefixes.{behind_both}

-- ---- one program

-- effects, an answer and a memory
abbrev pub Way : Type 0 → Type 0
Way A = List Effect × A × MemoryState

abbrev pub with_effect : {A : Type 0} → Effect → Option (Way A) → Option (Way A)
with_effect e None = None
with_effect e (Some way) = Some (e ∷ way.0, way.1, way.2)

-- what is done, where each choice is that of the heap's end, and of two ways the first is taken
abbrev pub first_way : {A : Type 0} → Program A → MemoryState → Option (Way A)
first_way (Finish a) s = Some ([], a, s)
first_way (Perform e rest) s = with_effect e (first_way rest (apply_effect e s))
first_way (Choose choose) s =
    if is_allocated s.heap.now s.heap.now.top then None else (if s.heap.now.top == 0 then None else first_way (choose s.heap.now.top) s)
first_way (Either x y) s = first_way x s

-- a program does so
abbrev pub IsWay : {A : Type 0} → Program A → MemoryState → Way A → Type 0
IsWay d s way = HasTrace d s way.0 way.1 × Completes d s way.1 way.2 × (way.2 ≡ apply_effects way.0 s)

after_effect : {A : Type 0} (e : Effect) (o : Option (Way A)) (way : Way A) → with_effect e o ≡ Some way
    → (more : List Effect) × (way.0 ≡ e ∷ more) × (o ≡ Some (more, way.1, way.2))
after_effect e None way is = absurd (none-some way is)
after_effect e (Some rest) way is =
    let same = same_Some (e ∷ rest.0, rest.1, rest.2) way is in
    (rest.0, sym (ap (λ x. x.0) same), ap (λ x. Some (rest.0, x.1, x.2)) same)

unless : {X : Type 0} (b : Bool) (o : Option X) (x : X) → (if b then None else o) ≡ Some x → (b ≡ false) × (o ≡ Some x)
unless true o x is = absurd (none-some x is)
unless false o x is = (refl, is)

no_zero : (n : ℕ) → n == 0 ≡ false → n ≡ 0 → ⊥
no_zero n not is = false≢true (sym not ∙ ap (λ x. x == 0) is)

pub is_way : {A : Type 0} (d : Program A) (s : MemoryState) (way : Way A) → first_way d s ≡ Some way → IsWay d s way
is_way (Finish b) s way is =
    let same = same_Some ([], b, s) way is in
    let none : way.0 ≡ [] = sym (ap (λ x. x.0) same) in
    let end : way.1 ≡ b = sym (ap (λ x. x.1) same) in
    let left : way.2 ≡ s = sym (ap (λ x. x.2) same) in
    ((none, end), (end, left), left ∙ sym (ap (λ x. apply_effects x s) none))
is_way (Perform e rest) s way is =
    let first = after_effect e (first_way rest (apply_effect e s)) way is in
    let later = is_way rest (apply_effect e s) (first.0, way.1, way.2) first.2 in
    ((first.0, first.1, later.0), later.1, later.2 ∙ sym (ap (λ x. apply_effects x s) first.1))
is_way (Choose choose) s way is =
    let h = s.heap.now in
    let free = unless (is_allocated h h.top) (if h.top == 0 then None else first_way (choose h.top) s) way is in
    let some = unless (h.top == 0) (first_way (choose h.top) s) way free.1 in
    let new : IsNew h h.top = record { free = free.0; some = no_zero h.top some.0; chosen = refl } in
    let chosen = is_way (choose h.top) s way some.1 in
    ((h.top, new, chosen.0), (h.top, new, chosen.1), chosen.2)
is_way (Either x y) s way is = let first = is_way x s way is in (inl first.0, inl first.1, first.2)

abbrev head_or : Effect → List Effect → Effect
head_or d [] = d
head_or d (x ∷ xs) = x

abbrev tail_of : List Effect → List Effect
tail_of [] = []
tail_of (x ∷ xs) = xs

pub begins_whole : {A : Type 0} (d : Program A) (s : MemoryState) (es : List Effect) (a : A) → HasTrace d s es a → HasTracePrefix d s es
begins_whole d s [] a t = tt
begins_whole (Finish b) s (e ∷ es) a t = absurd cc
begins_whole (Perform f rest) s (e ∷ es) a t = (
  ap (λ (l : List Effect). head_or f l) t.1,
  subst (λ (l : List Effect). HasTracePrefix rest (apply_effect f s) l) (sym (ap tail_of t.1)) (begins_whole rest (apply_effect f s) t.0 a t.2),
)
begins_whole (Choose choose) s (e ∷ es) a t = (t.0, t.1, begins_whole (choose t.0) s (e ∷ es) a t.2)
begins_whole (Either x y) s (e ∷ es) a (inl t) = inl (begins_whole x s (e ∷ es) a t)
begins_whole (Either x y) s (e ∷ es) a (inr t) = inr (begins_whole y s (e ∷ es) a t)

-- what is there of an option, or another value
abbrev pub or_else : {X : Type 0} → X → Option X → X
or_else x None = x
or_else x (Some y) = y

pub there : {X : Type 0} (x : X) (o : Option X) → is_some o ≡ true → o ≡ Some (or_else x o)
there x None is = absurd (false≢true is)
there x (Some y) is = refl

-- ---- a cut within it

loses_later : {A : Type 0} (e : Effect) (rest : Program A) (m : MemoryState) (p : ℕ) (h : HeapState) → TearLeaves rest (apply_effect e m) p h
    → TearLeaves (Perform e rest) m p h
loses_later (HeapMove move) rest m p h loss = inr loss
loses_later e rest m p h loss = loss

pub loses : {A : Type 0} (d : Program A) (m : MemoryState) (es : List Effect) (move : Move) (p : ℕ) → HasTracePrefix d m (es ++ (HeapMove move ∷ []))
    → IsCutIn move (apply_effects es m).heap p → TearLeaves d m p (apply_effects es m).heap.durable
loses (Finish a) m [] move p begun cut = absurd begun
loses (Finish a) m (e ∷ es) move p begun cut = absurd begun
loses (Perform first rest) m [] move p begun cut =
    subst (λ (e : Effect). TearLeaves (Perform e rest) m p m.heap.durable) begun.0 (inl (refl, cut))
loses (Perform first rest) m (e ∷ es) move p begun cut =
    let rest_begun = subst (λ (f : Effect). HasTracePrefix rest (apply_effect f m) (es ++ (HeapMove move ∷ []))) (sym begun.0) begun.1 in
    subst (λ (f : Effect). TearLeaves (Perform f rest) m p (apply_effects es (apply_effect e m)).heap.durable) begun.0
    (loses_later e rest m p (apply_effects es (apply_effect e m)).heap.durable (loses rest (apply_effect e m) es move p rest_begun cut))
loses (Choose choose) m [] move p begun cut = (begun.0, begun.1, loses (choose begun.0) m [] move p begun.2 cut)
loses (Choose choose) m (e ∷ es) move p begun cut = (begun.0, begun.1, loses (choose begun.0) m (e ∷ es) move p begun.2 cut)
loses (Either x y) m [] move p (inl begun) cut = inl (loses x m [] move p begun cut)
loses (Either x y) m [] move p (inr begun) cut = inr (loses y m [] move p begun cut)
loses (Either x y) m (e ∷ es) move p (inl begun) cut = inl (loses x m (e ∷ es) move p begun cut)
loses (Either x y) m (e ∷ es) move p (inr begun) cut = inr (loses y m (e ∷ es) move p begun cut)

-- ---- steps in a row

abbrev pub with_effects : List Effect → Option (Way Frames) → Option (Way Frames)
with_effects es None = None
with_effects es (Some way) = Some (es ++ way.0, way.1, way.2)

-- where a step goes on, and what comes after it
abbrev pub on_from : Option (Way (Next Frames)) → (Frames → MemoryState → Option (Way Frames)) → Option (Way Frames)
on_from (Some (es, GoesOn t, m)) more = with_effects es (more t m)
on_from other more = None

-- where this many steps lead, by which effects
abbrev pub walked : ℕ → Packages → Frames → MemoryState → Option (Way Frames)
walked zero p s m = Some ([], s, m)
walked (suc k) p s m = on_from (first_way (machine_step [] p s m) m) (walked k p)

abbrev went_on : List Effect → Frames → MemoryState → Option (Way (Next Frames))
went_on es t m = Some (es, GoesOn t, m)

abbrev with_own : List Effect → Way Frames → Way Frames
with_own es way = (es, way.1, way.2)

gone_on : (o : Option (Way (Next Frames))) (more : Frames → MemoryState → Option (Way Frames)) (end : Way Frames) → on_from o more ≡ Some end
    → (es : List Effect) × (t : Frames) × (m : MemoryState) × (fs : List Effect) × (o ≡ Some (es, GoesOn t, m)) × (more t m ≡ Some (fs, end.1, end.2))
    × (end.0 ≡ es ++ fs)
gone_on (Some (es, GoesOn t, m)) more end is = by (more t m) refl is
  where
    by : (rest : Option (Way Frames)) → more t m ≡ rest → with_effects es rest ≡ Some end
        → (gs : List Effect) × (u : Frames) × (n : MemoryState) × (fs : List Effect) × (went_on es t m ≡ went_on gs u n)
        × (more u n ≡ Some (fs, end.1, end.2)) × (end.0 ≡ gs ++ fs)
    by None rest is = absurd (none-some end is)
    by (Some way) rest is =
        let same = same_Some (es ++ way.0, way.1, way.2) end is in
        (es, t, m, way.0, refl, rest ∙ ap (λ (x : Way Frames). Some (with_own way.0 x)) same, sym (ap (λ x. x.0) same))
gone_on other more end is = absurd (none-some end is)

pub left_walking : (k : ℕ) (p : Packages) (s : Frames) (m : MemoryState) (end : Way Frames) → walked k p s m ≡ Some end → end.2 ≡ apply_effects end.0 m
left_walking zero p s m end is =
    let same = same_Some ([], s, m) end is in
    sym (ap (λ x. x.2) same) ∙ ap (λ (l : List Effect). apply_effects l m) (ap (λ x. x.0) same)
left_walking (suc k) p s m end is =
    let step = gone_on (first_way (machine_step [] p s m) m) (walked k p) end is in
    let way = is_way (machine_step [] p s m) m (step.0, GoesOn step.1, step.2) step.4 in
    let rest = left_walking k p step.1 step.2 (step.3, end.1, end.2) step.5 in
    rest ∙ ap (apply_effects step.3) way.2 ∙ sym (behind_both step.0 step.3 m) ∙ sym (ap (λ (l : List Effect). apply_effects l m) step.6)

-- ---- commands in a row

abbrev pub next_card : LoadResponse → MemoryState → CardState
next_card r m = record { memory = m; packages = r.packages; load = r.load; budget = r.budget }

-- the card after these commands
abbrev pub card_after : List (List ℕ) → CardState → Option CardState
card_after [] card = Some card
card_after (bytes ∷ more) card = option_and_then (λ way. card_after more (next_card way.1 way.2)) (first_way (exchange bytes card) card.memory)

pub answers : (commands : List (List ℕ)) (card last : CardState) → card_after commands card ≡ Some last
    → (replies : List Reply) × SessionRun (Up card) (map Command commands) replies (Up last)
answers [] card last is = ([], sym (ap (λ c. Up c) (same_Some card last is)))
answers (bytes ∷ more) card last is =
    option_and_then_some (λ way. card_after more (next_card way.1 way.2)) (first_way (exchange bytes card) card.memory) last is
    (λ way done rest.
    let later = answers more (next_card way.1 way.2) last rest in
    let whole = is_way (exchange bytes card) card.memory way done in
    (Response way.1.response ∷ later.0, (Up (next_card way.1 way.2), whole.1, later.1)))
