-- Laws of what may be done, by induction on it.
use Rattle.std.proofs.Common.{◌≡◌, ℕ, List, [], ◌∷◌, ◌++◌, refl, sym, subst, ap, ◌∙◌, inl, inr}
use Rattle.std.specs.Prelude.{◌⊎◌}
use Rattle.jc_words.specs.Refusals.{refused_once}
use Rattle.jc_heap.specs.Heap.{HeapState, HeapView}
use Rattle.jc_heap.specs.Moves.{TornMovesLeave, Move, apply_move, apply_moves}
use Rattle.jc_heap.proofs.MoveLaws.{refusals-apply_moves, down-apply_moves, size-apply_moves}
use Rattle.jc_memory.specs.State.{MemoryState, Effect, HeapMove, apply_effect, apply_effects, moves_of}
use Rattle.jc_memory.specs.Programs.{Program, Finish, Perform, Choose, Either, Completes, TearLeaves, IsTornIn, Executes, bind}
use Rattle.jc_heap.specs.Completions.{Completion, Completed, Torn}
use Rattle.jc_memory.specs.Reading.{AllResults, AllDue, AllEffectsDue, HasTrace, HasTracePrefix}
use Rattle.jc_memory.specs.ProgramLaws.{IsSequence, IsByEffects}

module _ {A B : Type 0} (more : A → MemoryState → Program B) where
  pub bind_did : (d : Program A) (s mid new : MemoryState) (a : A) (b : B) → Completes d s a mid → Completes (more a mid) mid b new
      → Completes (bind d s more) s b new
  bind_did (Finish x) s mid new a b first second = subst (λ v. Completes (more x v) v b new) first.1
      (subst (λ y. Completes (more y mid) mid b new) first.0 second)
  bind_did (Perform e rest) s mid new a b first second = bind_did rest (apply_effect e s) mid new a b first second
  bind_did (Choose choose) s mid new a b first second = (first.0, first.1, bind_did (choose first.0) s mid new a b first.2 second)
  bind_did (Either x y) s mid new a b (inl first) second = inl (bind_did x s mid new a b first second)
  bind_did (Either x y) s mid new a b (inr first) second = inr (bind_did y s mid new a b first second)

  pub did_bind : (d : Program A) (s new : MemoryState) (b : B) → Completes (bind d s more) s b new
      → (a : A) × (mid : MemoryState) × Completes d s a mid × Completes (more a mid) mid b new
  did_bind (Finish x) s new b did = (x, s, (refl, refl), did)
  did_bind (Perform e rest) s new b did = did_bind rest (apply_effect e s) new b did
  did_bind (Choose choose) s new b did = let p = did_bind (choose did.0) s new b did.2 in (p.0, p.1, (did.0, did.1, p.2), p.3)
  did_bind (Either x y) s new b (inl did) = let p = did_bind x s new b did in (p.0, p.1, inl p.2, p.3)
  did_bind (Either x y) s new b (inr did) = let p = did_bind y s new b did in (p.0, p.1, inr p.2, p.3)

  pub left_before : (d : Program A) (s : MemoryState) (p : ℕ) (h : HeapState) → TearLeaves d s p h → TearLeaves (bind d s more) s p h
  left_before (Finish x) s p h left = absurd left
  left_before (Perform (HeapMove m) rest) s p h (inl e) = inl e
  left_before (Perform (HeapMove m) rest) s p h (inr left) = inr (left_before rest (apply_effect (HeapMove m) s) p h left)
  left_before (Perform e rest) s p h left = left_before rest (apply_effect e s) p h left
  left_before (Choose choose) s p h left = (left.0, left.1, left_before (choose left.0) s p h left.2)
  left_before (Either x y) s p h (inl left) = inl (left_before x s p h left)
  left_before (Either x y) s p h (inr left) = inr (left_before y s p h left)

  pub left_after : (d : Program A) (s mid : MemoryState) (a : A) (p : ℕ) (h : HeapState) → Completes d s a mid → TearLeaves (more a mid) mid p h
      → TearLeaves (bind d s more) s p h
  left_after (Finish x) s mid a p h first left = subst (λ v. TearLeaves (more x v) v p h) first.1 (subst (λ y. TearLeaves (more y mid) mid p h) first.0 left)
  left_after (Perform (HeapMove m) rest) s mid a p h first left = inr (left_after rest (apply_effect (HeapMove m) s) mid a p h first left)
  left_after (Perform e rest) s mid a p h first left = left_after rest (apply_effect e s) mid a p h first left
  left_after (Choose choose) s mid a p h first left = (first.0, first.1, left_after (choose first.0) s mid a p h first.2 left)
  left_after (Either x y) s mid a p h (inl first) left = inl (left_after x s mid a p h first left)
  left_after (Either x y) s mid a p h (inr first) left = inr (left_after y s mid a p h first left)

  abbrev pub LostIn : Program A → MemoryState → ℕ → HeapState → Type 0
  LostIn d s p h = TearLeaves d s p h ⊎ ((a : A) × (mid : MemoryState) × Completes d s a mid × TearLeaves (more a mid) mid p h)

  pub left_bind : (d : Program A) (s : MemoryState) (p : ℕ) (h : HeapState) → TearLeaves (bind d s more) s p h → LostIn d s p h
  left_bind (Finish x) s p h left = inr (x, s, (refl, refl), left)
  left_bind (Perform (HeapMove m) rest) s p h (inl e) = inl (inl e)
  left_bind (Perform (HeapMove m) rest) s p h (inr left) = later (left_bind rest (apply_effect (HeapMove m) s) p h left)
    where
      later : LostIn rest (apply_effect (HeapMove m) s) p h → LostIn (Perform (HeapMove m) rest) s p h
      later (inl l) = inl (inr l)
      later (inr q) = inr q
  left_bind (Perform e rest) s p h left = left_bind rest (apply_effect e s) p h left
  left_bind (Choose choose) s p h left = chosen (left_bind (choose left.0) s p h left.2)
    where
      chosen : LostIn (choose left.0) s p h → LostIn (Choose choose) s p h
      chosen (inl l) = inl (left.0, left.1, l)
      chosen (inr q) = inr (q.0, q.1, (left.0, left.1, q.2), q.3)
  left_bind (Either x y) s p h (inl left) = first (left_bind x s p h left)
    where
      first : LostIn x s p h → LostIn (Either x y) s p h
      first (inl l) = inl (inl l)
      first (inr q) = inr (q.0, q.1, inl q.2, q.3)
  left_bind (Either x y) s p h (inr left) = second (left_bind y s p h left)
    where
      second : LostIn y s p h → LostIn (Either x y) s p h
      second (inl l) = inl (inr l)
      second (inr q) = inr (q.0, q.1, inr q.2, q.3)

-- what no move changes of a heap, nothing that may be done changes
module _ {B : Type 0} (f : HeapView → B) (kept : (m : Move) (h : HeapView) → f (apply_move m h) ≡ f h) where
  kept_did : {A : Type 0} (d : Program A) (s new : MemoryState) (a : A) → Completes d s a new → f new.heap ≡ f s.heap
  kept_did (Finish x) s new a did = ap (λ v. f v.heap) did.1
  kept_did (Perform (HeapMove m) rest) s new a did = kept_did rest (apply_effect (HeapMove m) s) new a did ∙ kept m s.heap
  kept_did (Perform e rest) s new a did = kept_did rest (apply_effect e s) new a did
  kept_did (Choose choose) s new a did = kept_did (choose did.0) s new a did.2
  kept_did (Either x y) s new a (inl did) = kept_did x s new a did
  kept_did (Either x y) s new a (inr did) = kept_did y s new a did

pub refusals_did : {A : Type 0} (d : Program A) (s new : MemoryState) (a : A) → Completes d s a new → new.heap.refusals ≡ s.heap.refusals
refusals_did d s new a did = kept_did (λ v. v.refusals) (λ m h. refusals-apply_moves (m ∷ []) h) d s new a did

pub down_did : {A : Type 0} (d : Program A) (s new : MemoryState) (a : A) → Completes d s a new → new.heap.down ≡ s.heap.down
down_did d s new a did = kept_did (λ v. v.down) (λ m h. down-apply_moves (m ∷ []) h) d s new a did

pub size_did : {A : Type 0} (d : Program A) (s new : MemoryState) (a : A) → Completes d s a new → new.heap.size ≡ s.heap.size
size_did d s new a did = kept_did (λ v. v.size) (λ m h. size-apply_moves (m ∷ []) h) d s new a did

-- two calls one after the other: the first was cut; the first was made, and the second ends as it ends
pub bind_cut : {A B : Type 0} (more : A → MemoryState → Program B) (d : Program A) (s new : MemoryState) → IsTornIn d s new → IsTornIn (bind d s more) s new
bind_cut more d s new cut = record {
  left = left_before more d s new.heap.passed new.heap.durable cut.left;
  down = cut.down;
  refusals = cut.refusals;
  size = cut.size;
}

pub bind_made : {A B : Type 0} (more : A → MemoryState → Program B) (d : Program A) (s mid : MemoryState) (a : A) (after : Completion MemoryState B)
    → Completes d s a mid → Executes (more a mid) mid after → Executes (bind d s more) s after
bind_made more d s mid a (Completed b new) first second = bind_did more d s mid new a b first second
bind_made more d s mid a (Torn new) first second = record {
  left = left_after more d s mid a new.heap.passed new.heap.durable first second.left;
  down = second.down;
  refusals = second.refusals
      ∙ (λ i. refused_once (down_did d s mid a first i) new.heap.passed (refusals_did d s mid a first i));
  size = second.size ∙ size_did d s mid a first;
}

-- the steps by which a call of two parts is seen to end as its definition says: both were made, or one was cut
pub ruleset in_two_steps = (bind_did, left_before, left_after, refusals_did, size_did, down_did)

-- the same, where the parts stand as whole calls
pub ruleset in_two_calls = (bind_made, bind_cut, down_did)

pub in_sequence : {A B : Type 0} → IsSequence A B
in_sequence {A = A} {B = B} = record {
  done = λ d more s new b. (did_bind more d s new b, λ p. bind_did more d s p.1 new p.0 b p.2 p.3);
  lost = λ d more s p h. (left_bind more d s p h, either d more s p h);
  made = λ d more s mid a after. bind_made more d s mid a after;
  cut = λ d more s new. bind_cut more d s new;
}
  where
    either : (d : Program A) (more : A → MemoryState → Program B) (s : MemoryState) (p : ℕ) (h : HeapState) → LostIn more d s p h → TearLeaves (bind d s more) s p h
    either d more s p h (inl left) = left_before more d s p h left
    either d more s p h (inr q) = left_after more d s q.1 q.0 p h q.2 q.3

-- what is so of each
pub each_did : {A : Type 0} (P : A → MemoryState → Type 0) (d : Program A) (s new : MemoryState) (a : A) → AllResults d s P → Completes d s a new → P a new
each_did P (Finish x) s new a each did = subst (λ v. P a v) (sym did.1) (subst (λ y. P y s) (sym did.0) each)
each_did P (Perform e rest) s new a each did = each_did P rest (apply_effect e s) new a each did
each_did P (Choose choose) s new a each did = each_did P (choose did.0) s new a (each did.0 did.1) did.2
each_did P (Either x y) s new a each (inl did) = each_did P x s new a each.0 did
each_did P (Either x y) s new a each (inr did) = each_did P y s new a each.1 did

pub each_bind : {A B : Type 0} (P : B → MemoryState → Type 0) (more : A → MemoryState → Program B) (d : Program A) (s : MemoryState)
    → AllResults d s (λ a v. AllResults (more a v) v P) → AllResults (bind d s more) s P
each_bind P more (Finish x) s each = each
each_bind P more (Perform e rest) s each = each_bind P more rest (apply_effect e s) each
each_bind P more (Choose choose) s each = λ r new. each_bind P more (choose r) s (each r new)
each_bind P more (Either x y) s each = (each_bind P more x s each.0, each_bind P more y s each.1)

-- what follows from it is so of each too
pub each_more : {A : Type 0} (P Q : A → MemoryState → Type 0) → ((a : A) (v : MemoryState) → P a v → Q a v) → (d : Program A) (s : MemoryState)
    → AllResults d s P → AllResults d s Q
each_more P Q more (Finish x) s each = more x s each
each_more P Q more (Perform e rest) s each = each_more P Q more rest (apply_effect e s) each
each_more P Q more (Choose choose) s each = λ r new. each_more P Q more (choose r) s (each r new)
each_more P Q more (Either x y) s each = (each_more P Q more x s each.0, each_more P Q more y s each.1)

-- what is so always is so of each
pub each_always : {A : Type 0} (P : A → MemoryState → Type 0) → ((a : A) (v : MemoryState) → P a v) → (d : Program A) (s : MemoryState) → AllResults d s P
each_always P all (Finish x) s = all x s
each_always P all (Perform e rest) s = each_always P all rest (apply_effect e s)
each_always P all (Choose choose) s = λ r new. each_always P all (choose r) s
each_always P all (Either x y) s = (each_always P all x s, each_always P all y s)

-- effects that are due
pub due_bind : {A B : Type 0} (P : Effect → MemoryState → Type 0) (more : A → MemoryState → Program B) (d : Program A) (s : MemoryState) → AllDue P d s
    → AllResults d s (λ a v. AllDue P (more a v) v) → AllDue P (bind d s more) s
due_bind P more (Finish x) s due each = each
due_bind P more (Perform e rest) s due each = (due.0, due_bind P more rest (apply_effect e s) due.1 each)
due_bind P more (Choose choose) s due each = λ r new. due_bind P more (choose r) s (due r new) (each r new)
due_bind P more (Either x y) s due each = (due_bind P more x s due.0 each.0, due_bind P more y s due.1 each.1)

module _ (P : Effect → MemoryState → Type 0) (Q : MemoryState → Type 0) (keeps : (e : Effect) (s : MemoryState) → P e s → Q s → Q (apply_effect e s)) where
  pub due_keeps : {A : Type 0} (d : Program A) (s new : MemoryState) (a : A) → AllDue P d s → Completes d s a new → Q s → Q new
  due_keeps (Finish x) s new a due did q = subst Q (sym did.1) q
  due_keeps (Perform e rest) s new a due did q = due_keeps rest (apply_effect e s) new a due.1 did (keeps e s due.0 q)
  due_keeps (Choose choose) s new a due did q = due_keeps (choose did.0) s new a (due did.0 did.1) did.2 q
  due_keeps (Either x y) s new a due (inl did) q = due_keeps x s new a due.0 did q
  due_keeps (Either x y) s new a due (inr did) q = due_keeps y s new a due.1 did q

  -- what a loss leaves is as each memory on the way has it
  pub due_left : {A : Type 0} (R : HeapState → Type 0) → ((s : MemoryState) → Q s → R s.heap.durable) → (d : Program A) (s : MemoryState) (p : ℕ) (h : HeapState)
      → AllDue P d s → TearLeaves d s p h → Q s → R h
  due_left R lasts (Finish x) s p h due left q = absurd left
  due_left R lasts (Perform (HeapMove m) rest) s p h due (inl e) q = subst R (sym e.0) (lasts s q)
  due_left R lasts (Perform (HeapMove m) rest) s p h due (inr left) q = due_left R lasts rest (apply_effect (HeapMove m) s) p h due.1 left
      (keeps (HeapMove m) s due.0 q)
  due_left R lasts (Perform e rest) s p h due left q = due_left R lasts rest (apply_effect e s) p h due.1 left (keeps e s due.0 q)
  due_left R lasts (Choose choose) s p h due left q = due_left R lasts (choose left.0) s p h (due left.0 left.1) left.2 q
  due_left R lasts (Either x y) s p h due (inl left) q = due_left R lasts x s p h due.0 left q
  due_left R lasts (Either x y) s p h due (inr left) q = due_left R lasts y s p h due.1 left q

-- what was done was done by some effects
pub took : {A : Type 0} (d : Program A) (s new : MemoryState) (a : A) → Completes d s a new
    → (es : List Effect) × HasTrace d s es a × (new ≡ apply_effects es s)
took (Finish x) s new a did = ([], (refl, did.0), did.1)
took (Perform e rest) s new a did = let t = took rest (apply_effect e s) new a did in (e ∷ t.0, (t.0, refl, t.1), t.2)
took (Choose choose) s new a did = let t = took (choose did.0) s new a did.2 in (t.0, (did.0, did.1, t.1), t.2)
took (Either x y) s new a (inl did) = let t = took x s new a did in (t.0, inl t.1, t.2)
took (Either x y) s new a (inr did) = let t = took y s new a did in (t.0, inr t.1, t.2)

pub taken_did : {A : Type 0} (d : Program A) (s : MemoryState) (es : List Effect) (a : A) → HasTrace d s es a → Completes d s a (apply_effects es s)
taken_did (Finish x) s es a takes = (takes.1, ap (λ l. apply_effects l s) takes.0)
taken_did (Perform e rest) s es a takes = subst (λ l. Completes rest (apply_effect e s) a (apply_effects l s)) (sym takes.1)
    (taken_did rest (apply_effect e s) takes.0 a takes.2)
taken_did (Choose choose) s es a takes = (takes.0, takes.1, taken_did (choose takes.0) s es a takes.2)
taken_did (Either x y) s es a (inl takes) = inl (taken_did x s es a takes)
taken_did (Either x y) s es a (inr takes) = inr (taken_did y s es a takes)

-- each of the effects that were taken is due
pub due_taken : {A : Type 0} (P : Effect → MemoryState → Type 0) (d : Program A) (s : MemoryState) (es : List Effect) (a : A) → AllDue P d s → HasTrace d s es a
    → AllEffectsDue P es s
due_taken P (Finish x) s es a due takes = subst (λ l. AllEffectsDue P l s) (sym takes.0) tt
due_taken P (Perform e rest) s es a due takes = subst (λ l. AllEffectsDue P l s) (sym takes.1)
    (due.0, due_taken P rest (apply_effect e s) takes.0 a due.1 takes.2)
due_taken P (Choose choose) s es a due takes = due_taken P (choose takes.0) s es a (due takes.0 takes.1) takes.2
due_taken P (Either x y) s es a due (inl takes) = due_taken P x s es a due.0 takes
due_taken P (Either x y) s es a due (inr takes) = due_taken P y s es a due.1 takes

-- the first of them
pub due_before : (P : Effect → MemoryState → Type 0) (es after : List Effect) (s : MemoryState) → AllEffectsDue P (es ++ after) s → AllEffectsDue P es s
due_before P [] after s due = tt
due_before P (e ∷ es) after s due = (due.0, due_before P es after (apply_effect e s) due.1)

-- the heap moves by their moves
pub heap_after : (es : List Effect) (s : MemoryState) → (apply_effects es s).heap ≡ apply_moves (moves_of es) s.heap
heap_after [] s = refl
heap_after (HeapMove m ∷ es) s = heap_after es (apply_effect (HeapMove m) s)
heap_after (e ∷ es) s = heap_after es (apply_effect e s)

begins : {A : Type 0} (d : Program A) (s : MemoryState) → HasTracePrefix d s []
begins (Finish x) s = tt
begins (Perform e rest) s = tt
begins (Choose choose) s = tt
begins (Either x y) s = tt

-- what a loss within it leaves, a loss within the moves of its first effects leaves
abbrev pub LostBy : {A : Type 0} → Program A → MemoryState → ℕ → HeapState → Type 0
LostBy d s p h = (e : Effect) × (es : List Effect) × HasTracePrefix d s (e ∷ es) × TornMovesLeave (moves_of (e ∷ es)) s.heap p h

pub lost_by : {A : Type 0} (d : Program A) (s : MemoryState) (p : ℕ) (h : HeapState) → TearLeaves d s p h → LostBy d s p h
lost_by (Finish x) s p h left = absurd left
lost_by (Perform (HeapMove m) rest) s p h (inl e) = (HeapMove m, [], (refl, begins rest (apply_effect (HeapMove m) s)), inl e)
lost_by (Perform (HeapMove m) rest) s p h (inr left) =
    let q = lost_by rest (apply_effect (HeapMove m) s) p h left in (HeapMove m, q.0 ∷ q.1, (refl, q.2), inr q.3)
lost_by (Perform e rest) s p h left = let q = lost_by rest (apply_effect e s) p h left in (e, q.0 ∷ q.1, (refl, q.2), q.3)
lost_by (Choose choose) s p h left = let q = lost_by (choose left.0) s p h left.2 in (q.0, q.1, (left.0, left.1, q.2), q.3)
lost_by (Either x y) s p h (inl left) = let q = lost_by x s p h left in (q.0, q.1, inl q.2, q.3)
lost_by (Either x y) s p h (inr left) = let q = lost_by y s p h left in (q.0, q.1, inr q.2, q.3)

pub by_effects : {A : Type 0} → IsByEffects A
by_effects {A = A} = record {
  took = λ d s new a. took d s new a;
  did = λ d s es a. taken_did d s es a;
  heap = heap_after;
  lost = λ d s p h left. let q = lost_by d s p h left in (q.0 ∷ q.1, q.2, q.3);
}
