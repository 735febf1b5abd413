-- A command in which much happens meets the premises of the theorems.
use Rattle.std.proofs.Common.{◌≡◌, ℕ, ◌<◌, ◌==◌, Bool, true, false, List, [], ◌∷◌, ◌++◌, Option, None, Some, length, refl}
use Rattle.std.proofs.Common.{sym, ◌∙◌, subst, ap, arith, inl, inr, map, zero, suc, get_or, drop}
use Rattle.std.specs.Prelude.{if◌then◌else◌, is_some, nat_lt, not, replicate, ◌⊎◌, ◌≢◌}
use Rattle.std.proofs.lemmas.Bool.{false≢true, true≢false}
use Rattle.std.proofs.lemmas.Bool.Decides.{Decides-ltb, eqb_tells}
use Rattle.std.proofs.lemmas.List.{append_assoc}
use Rattle.std.proofs.lemmas.List.Elements.{All-cons, All-nil}
use Rattle.jc_words.specs.Image.{heap_end}
use Rattle.jc_words.specs.Refusals.{no_refusals, refused_once}
use Rattle.jc_transient.specs.State.{AreSizes}
use Rattle.jc_heap.specs.declared.place.Place.{Place}
use Rattle.jc_heap.specs.declared.place.Place.TheVariants.{Cell}
use Rattle.jc_heap.specs.Heap.{facts, goes_back, heap_item_at}
use Rattle.jc_heap.specs.Object.{is_object}
use Rattle.jc_heap.specs.Place.{place_at}
use Rattle.jc_heap.specs.HeapLaws.{durable_behind, writes_of_moves}
use Rattle.jc_heap.specs.Moves.{AddPackage, Abort, Commit, SetPlaces, Write, WriteNonAtomic, IsCutIn, writes_of}
use Rattle.jc_firewall.specs.FirewallLaws.{IsInReach}
use Rattle.jc_firewall.specs.Situation.{is_global_array}
use Rattle.jc_firewall.specs.declared.subject.Situation.{Situation}
use Rattle.jc_firewall.specs.declared.subject.Context.{Context}
use Rattle.jc_firewall.specs.declared.subject.Context.TheVariants.{Jcre, Package}
use Rattle.jc_memory.specs.Programs.{Completes}
use Rattle.jc_memory.specs.Reading.{HasTrace, HasTracePrefix}
use Rattle.jc_memory.specs.State.{SetFlag, Effect, HeapMove, MemoryState, apply_effects, moves_of}
use Rattle.jc_environment.specs.Pins.{counter, record_of}
use Rattle.jc_environment.specs.Pins.Updates.{changes_of_update}
use Rattle.jc_platform.proofs.OneAnswer.{one_table}
use Rattle.jc_world.specs.Contexts.{situation_of}
use Rattle.jc_dispatch.specs.Phase.{close, instance_of}
use Rattle.jc_frames.specs.declared.cell.Cell.TheVariants.{Reference}
use Rattle.jc_frames.specs.Frames.{Frames, GoesOn, Next}
use Rattle.jc_frames.specs.Table.{decode}
use Rattle.jc_frames.specs.declared.instr.Instr.{Instr}
use Rattle.jc_frames.specs.declared.instr.Instr.TheVariants.{Invoke}
use Rattle.jc_instructions.specs.Enter.{first_frames_of}
use Rattle.jc_interp.specs.Run.{bare_frames}
use Rattle.jc_interp.specs.Step.{code_of, machine_step}
use Rattle.jc_dispatch.specs.Buffer.{apdu_object}
use Rattle.law_code.specs.IsolationLaws.Steps.{Stays}
use Rattle.jc_card.specs.Answers.{exchange}
use Rattle.jc_card.specs.Card.{CardState}
use Rattle.jc_card.specs.Dispatching.{usual_budget}
use Rattle.jc_card.specs.Loading.{LoadResponse}
use Rattle.jc_card.specs.Session.Requests.{Command, Down, Ready, Reset, Response}
use Rattle.jc_card.specs.State.Power.{KeptState, Off, Up, with_refusal}
use Rattle.jc_card.specs.Session.Serving.{AnswersCommand, SessionRun}
use Rattle.law_code.specs.Reach.{IsOutside}
use Rattle.law_soundness.specs.MachineLaws.CommandParts.{IsOfRun}
use Rattle.law_theorems.specs.Cards.{AreOfBytes, IsOwnKept, StaysOwn}
use Rattle.law_theorems.specs.Outcomes.{AddNone, ComesTo, ComesWithin, memory_at}
use Rattle.law_theorems.specs.Heaps.{IsOwnHeap}
use Rattle.law_soundness.specs.LoadedPackages.{AreBytes}
use Rattle.law_theorems.specs.Tries.{is_owner_pin}
use Rattle.law_theorems.proofs.Sessions.{stays_own}
use Rattle.law_theorems.specs.SessionTheorems.Cuts.{IsHeapCutAt}
use Rattle.law_theorems.specs.SessionTheorems.Eventful.{Acts, HaveEventfulWitness, MeetPremises, before_abort, before_commit}
use Rattle.law_theorems.specs.SessionTheorems.Eventful.{before_update, to_commit, to_count, to_field, to_update}
use Rattle.law_theorems.specs.SessionTheorems.Isolation.{RunsApart}
use Rattle.law_theorems.specs.SessionTheorems.Witness.{new_kept}
use Rattle.law_theorems.proofs.CardsAtRest.{comes_own}
use Rattle.law_theorems.proofs.CommandParts.{commands_run_code}
use Rattle.law_theorems.proofs.Computation.{computing}
use Rattle.law_theorems.proofs.Prefixes.{behind_both, front}
use Rattle.law_theorems.proofs.Restarts.{powered, restarted}
use Rattle.law_theorems.proofs.Scenario.{changes_set, commands, effect, new_card, new_heap, no_packages, part, pin_of, place_counted, place_set, usual_room}
use Rattle.law_theorems.proofs.Scenario.{select_first, tries_set, value_set}
use Rattle.law_theorems.proofs.TableRead.{reads}
use Rattle.law_theorems.proofs.TableText.{table, table_text}
use Rattle.law_theorems.proofs.Ways.{left_walking, walked, Way, answers, begins_whole, card_after, first_way, is_way, loses, next_card, or_else, there}
use Rattle.law_theorems.proofs.Witness.{fits, own}

-- ---- numbers that are bytes

abbrev are_below : List ℕ → Bool
are_below [] = true
are_below (b ∷ bytes) = if nat_lt b 256 then are_below bytes else false

of_bytes : (bytes : List ℕ) → are_below bytes ≡ true → AreBytes bytes
of_bytes [] below = All-nil (λ b. b < 256)
of_bytes (b ∷ bytes) below = by (nat_lt b 256) refl below (of_bytes bytes)
  where
    by : (test : Bool) → nat_lt b 256 ≡ test → (if test then are_below bytes else false) ≡ true → (are_below bytes ≡ true → AreBytes bytes)
        → AreBytes (b ∷ bytes)
    by true is rest others = All-cons (λ b. b < 256) b bytes ((Decides-ltb b 256).0 is) (others rest)
    by false is rest others = absurd (false≢true rest)

abbrev all_below : List (List ℕ) → Bool
all_below [] = true
all_below (bytes ∷ more) = if are_below bytes then all_below more else false

all_of_bytes : (list : List (List ℕ)) → all_below list ≡ true → AreOfBytes (map Command list)
all_of_bytes [] below = tt
all_of_bytes (bytes ∷ more) below = by (are_below bytes) refl below (all_of_bytes more)
  where
    by : (test : Bool) → are_below bytes ≡ test → (if test then all_below more else false) ≡ true → (all_below more ≡ true → AreOfBytes (map Command more))
        → AreOfBytes (map Command (bytes ∷ more))
    by true is rest others = (of_bytes bytes is, others rest)
    by false is rest others = absurd (false≢true rest)

commands_below : all_below commands ≡ true
commands_below = refl

select_below : are_below select_first ≡ true
select_below = refl

usual_sizes : AreSizes 0 0
usual_sizes = record { cells_least = omega arith; cells_most = omega arith; buffer_least = omega arith; buffer_most = omega arith }

new_fits : IsOwnHeap 8192 table no_packages new_heap
new_fits = fits usual_budget 8192 usual_room table_text table (omega arith) usual_sizes reads

-- ---- an address that is none of some

abbrev all_less : List ℕ → ℕ → Bool
all_less [] q = nat_lt 0 q
all_less (x ∷ xs) q = if nat_lt x q then all_less xs q else false

rest_less : (test rest : Bool) → (if test then rest else false) ≡ true → rest ≡ true
rest_less true rest is = is
rest_less false rest is = absurd (false≢true is)

none_of : (xs : List ℕ) (q k : ℕ) → all_less xs q ≡ true → q ≡ get_or xs k 0 → ⊥
none_of [] q k less is = let some : 0 < q = (Decides-ltb 0 q).0 less in omega (arith, some, is)
none_of (x ∷ xs) q zero less is = by (nat_lt x q) refl less
  where
    by : (test : Bool) → nat_lt x q ≡ test → (if test then all_less xs q else false) ≡ true → ⊥
    by true below rest = let less : x < q = (Decides-ltb x q).0 below in omega (arith, less, is)
    by false below rest = false≢true rest
none_of (x ∷ xs) q (suc k) less is = none_of xs q k (rest_less (nat_lt x q) (all_less xs q) less) is

-- ---- what the checker computes of the card after the commands, and of the way of its command

abbrev number_of : Context → ℕ
number_of Jcre = 0
number_of (Package n) = n

abbrev acts_of : CardState → List Effect → Acts
acts_of card es = record {
  card = card;
  bytes = select_first;
  own = pin_of card 1;
  other = pin_of card 2;
  first = part es 0 9;
  tries = tries_set (effect es 9);
  place = place_set (effect es 10);
  value = value_set (effect es 10);
  during = part es 11 4;
  again = part es 16 3;
  changes = changes_set (effect es 19);
  later = part es 20 1;
}

abbrev seen_from : CardState → Acts → Situation
seen_from card a = situation_of card.packages (memory_at card (to_count a)) (facts (memory_at card (to_count a)).heap.now a.other)

abbrev to_next_update : Acts → List Effect
to_next_update a = to_commit a ++ (a.again ++ (HeapMove (SetPlaces a.changes) ∷ []))

abbrev writes_to : CardState → List Effect → ℕ
writes_to card es = writes_of_moves (moves_of es) card.memory.heap

-- the effects are such: one sets something for good, one writes a place, one commits, one sets places, and one aborts
abbrev is_shaped : List Effect → Bool
is_shaped (a ∷ b ∷ c ∷ d ∷ e ∷ f ∷ g ∷ h ∷ i ∷ HeapMove (WriteNonAtomic p v) ∷ HeapMove (Write q w) ∷ j ∷ k ∷ l ∷ m ∷ HeapMove Commit ∷ n ∷ o ∷ r
    ∷ HeapMove (SetPlaces changes) ∷ s ∷ HeapMove Abort ∷ more) = true
is_shaped other = false

abbrev is_counter : Place → ℕ → Bool
is_counter (Cell r i) q = if r == q then i == 2 else false
is_counter other q = false

abbrev same_place : Place → Place → Bool
same_place (Cell r i) (Cell q j) = if r == q then i == j else false
same_place other place = false

abbrev same_changes : List (Place × ℕ) → List (Place × ℕ) → Bool
same_changes [] [] = true
same_changes [] (y ∷ ys) = false
same_changes (x ∷ xs) [] = false
same_changes (x ∷ xs) (y ∷ ys) = if same_place x.0 y.0 then (if x.1 == y.1 then same_changes xs ys else false) else false

abbrev same_bytes : List ℕ → List ℕ → Bool
same_bytes [] [] = true
same_bytes [] (y ∷ ys) = false
same_bytes (x ∷ xs) [] = false
same_bytes (x ∷ xs) (y ∷ ys) = if x == y then same_bytes xs ys else false

abbrev same_flag : Bool → Bool → Bool
same_flag true b = b
same_flag false b = not b

-- both set a flag so, or both set such a place for good
abbrev same_effect : Effect → Effect → Bool
same_effect (SetFlag r f) (SetFlag q g) = if r == q then same_flag f g else false
same_effect (HeapMove (WriteNonAtomic p v)) (HeapMove (WriteNonAtomic q w)) = if same_place p q then v == w else false
same_effect other e = false

abbrev same_effects : List Effect → List Effect → Bool
same_effects [] [] = true
same_effects [] (y ∷ ys) = false
same_effects (x ∷ xs) [] = false
same_effects (x ∷ xs) (y ∷ ys) = if same_effect x y then same_effects xs ys else false

abbrev adds_none : List Effect → Bool
adds_none [] = true
adds_none (HeapMove (AddPackage components arrays image) ∷ es) = false
adds_none (e ∷ es) = adds_none es

abbrev is_invoke : Option (Instr × ℕ) → Bool
is_invoke (Some (Invoke invoke, next)) = true
is_invoke other = false

-- a step writes this place alone, and goes on
abbrev sets_alone : Place → ℕ → Option (Way (Next Frames)) → Bool
sets_alone p v (Some (HeapMove (Write q w) ∷ [], GoesOn t, m)) = if same_place q p then w == v else false
sets_alone p v other = false

-- the memory as process begins, whose code stands 33 bytes after the beginning of the Method component, and where 12 steps lead
abbrev begun_at : CardState → List Effect → MemoryState
begun_at card es = memory_at card (part es 0 8)

abbrev walk_of : CardState → List Effect → Option (Way Frames)
walk_of card es = walked 12 card.packages
    (or_else (bare_frames 0 0)
    (first_frames_of card.packages 1 33 (Reference (instance_of (begun_at card es) 1) ∷ Reference (apdu_object (begun_at card es)) ∷ [])))
    (begun_at card es)

abbrev tests_walked : CardState → List Effect → Option (Way Frames) → Bool
tests_walked card es None = false
tests_walked card es (Some w) =
    if same_effects w.0 (part es 8 2) then (
    if is_invoke (decode (code_of [] card.packages w.1.current.origin.package_number) w.1.current.place) then false else
    sets_alone (place_set (effect es 10)) (value_set (effect es 10)) (first_way (machine_step [] card.packages w.1 w.2) w.2)) else false

abbrev tests_of : CardState → Way LoadResponse → Acts → List Bool
tests_of card way a =
    (length card.packages.loaded == 2)
    ∷ (card.memory.heap.now.counts.0 == 2)
    ∷ (card.memory.heap.now.counts.1 == 2)
    ∷ same_bytes way.1.response (0x90 ∷ 0 ∷ [])
    ∷ is_shaped way.0
    ∷ is_counter (place_counted (effect way.0 9)) a.own
    ∷ (memory_at card (before_update a)).heap.begun
    ∷ same_changes a.changes (changes_of_update (record_of (memory_at card (before_update a)) a.own) a.own (0 ∷ []))
    ∷ (memory_at card (before_abort a)).heap.begun
    ∷ is_some (first_way (close (memory_at card (before_abort a))) (memory_at card (before_abort a)))
    ∷ nat_lt 0 (writes_of Abort (memory_at card (before_abort a)).heap)
    ∷ nat_lt (memory_at card (before_abort a)).heap.passed 18446744073709551615
    ∷ nat_lt (writes_to card (to_commit a)) (writes_to card (to_next_update a))
    ∷ nat_lt (writes_to card (to_count a)) (writes_to card (to_field a))
    ∷ is_owner_pin card.packages (memory_at card a.first).heap.durable a.own
    ∷ not (goes_back (memory_at card a.first).heap (place_at (memory_at card a.first).heap.now (counter a.own)))
    ∷ is_owner_pin card.packages (memory_at card (to_count a)).heap.now a.own
    ∷ is_owner_pin card.packages (memory_at card (to_count a)).heap.now a.other
    ∷ is_object (heap_item_at (memory_at card (to_count a)).heap.now a.other)
    ∷ (number_of (seen_from card a).active == 1)
    ∷ (number_of (seen_from card a).object.owner == 2)
    ∷ not (is_global_array (seen_from card a).object)
    ∷ all_less (memory_at card (to_count a)).fixed a.other
    ∷ adds_none (to_count a)
    ∷ tests_walked card way.0 (walk_of card way.0)
    ∷ []

abbrev tests_in : CardState → Option (Way LoadResponse) → List Bool
tests_in card None = []
tests_in card (Some way) = tests_of card way (acts_of card way.0)

abbrev tests_from : Option CardState → List Bool
tests_from None = []
tests_from (Some card) = tests_in card (first_way (exchange select_first card) card.memory)

computed : tests_from (card_after commands new_card) ≡ replicate 25 true
unfolding computing
computed = refl

-- ---- what the tests tell

equal : (a b : ℕ) → a == b ≡ true → a ≡ b
equal a b same = by (eqb_tells a b)
  where
    by : ((a == b ≡ true) × (a ≡ b)) ⊎ ((a == b ≡ false) × (a ≢ b)) → a ≡ b
    by (inl is) = is.1
    by (inr not) = absurd (true≢false (sym same ∙ not.0))

both : (test rest : Bool) → (if test then rest else false) ≡ true → (test ≡ true) × (rest ≡ true)
both true rest is = (refl, is)
both false rest is = absurd (false≢true is)

opposite : (b : Bool) → not b ≡ true → b ≡ true → ⊥
opposite true is on = false≢true is
opposite false is on = false≢true on

counter_is : (p : Place) (q : ℕ) → is_counter p q ≡ true → p ≡ counter q
counter_is (Cell r i) q is = let two = both (r == q) (i == 2) is in ap (λ x. Cell x i) (equal r q two.0) ∙ ap (λ x. Cell q x) (equal i 2 two.1)
counter_is other q is = absurd (false≢true is)

place_is : (p q : Place) → same_place p q ≡ true → p ≡ q
place_is (Cell r i) (Cell q j) is = let two = both (r == q) (i == j) is in ap (λ x. Cell x i) (equal r q two.0) ∙ ap (λ x. Cell q x) (equal i j two.1)
place_is p q is = absurd (false≢true is)

changes_are : (xs ys : List (Place × ℕ)) → same_changes xs ys ≡ true → xs ≡ ys
changes_are [] [] is = refl
changes_are [] (y ∷ ys) is = absurd (false≢true is)
changes_are (x ∷ xs) [] is = absurd (false≢true is)
changes_are (x ∷ xs) (y ∷ ys) is =
    let first = both (same_place x.0 y.0) (if x.1 == y.1 then same_changes xs ys else false) is in
    let second = both (x.1 == y.1) (same_changes xs ys) first.1 in
    ap (λ (p : Place). (p, x.1) ∷ xs) (place_is x.0 y.0 first.0) ∙ ap (λ (n : ℕ). (y.0, n) ∷ xs) (equal x.1 y.1 second.0)
    ∙ ap (λ (l : List (Place × ℕ)). y ∷ l) (changes_are xs ys second.1)

bytes_are : (xs ys : List ℕ) → same_bytes xs ys ≡ true → xs ≡ ys
bytes_are [] [] is = refl
bytes_are [] (y ∷ ys) is = absurd (false≢true is)
bytes_are (x ∷ xs) [] is = absurd (false≢true is)
bytes_are (x ∷ xs) (y ∷ ys) is =
    let first = both (x == y) (same_bytes xs ys) is in
    ap (λ (n : ℕ). n ∷ xs) (equal x y first.0) ∙ ap (λ (l : List ℕ). y ∷ l) (bytes_are xs ys first.1)

in_parts : (card : CardState) (es : List Effect) → is_shaped es ≡ true → place_counted (effect es 9) ≡ counter (pin_of card 1)
    → es ≡ (before_abort (acts_of card es) ++ (HeapMove Abort ∷ [])) ++ drop 22 es
in_parts card (a ∷ b ∷ c ∷ d ∷ e ∷ f ∷ g ∷ h ∷ i ∷ HeapMove (WriteNonAtomic p v) ∷ HeapMove (Write q w) ∷ j ∷ k ∷ l ∷ m ∷ HeapMove Commit ∷ n ∷ o ∷ r
    ∷ HeapMove (SetPlaces changes) ∷ s ∷ HeapMove Abort ∷ more) is counts =
    ap (λ (z : Place). a ∷ b ∷ c ∷ d ∷ e ∷ f ∷ g ∷ h ∷ i ∷ HeapMove (WriteNonAtomic z v) ∷ HeapMove (Write q w) ∷ j ∷ k ∷ l ∷ m ∷ HeapMove Commit ∷ n ∷ o ∷ r
    ∷ HeapMove (SetPlaces changes) ∷ s ∷ HeapMove Abort ∷ more) counts
in_parts card other is counts = absurd (false≢true is)

flag_is : (f g : Bool) → same_flag f g ≡ true → f ≡ g
flag_is true g is = sym is
flag_is false true is = absurd (false≢true is)
flag_is false false is = refl

effect_is : (e f : Effect) → same_effect e f ≡ true → e ≡ f
effect_is (SetFlag r f) (SetFlag q g) is =
    let two = both (r == q) (same_flag f g) is in ap (λ x. SetFlag x f) (equal r q two.0) ∙ ap (λ x. SetFlag q x) (flag_is f g two.1)
effect_is (HeapMove (WriteNonAtomic p v)) (HeapMove (WriteNonAtomic q w)) is =
    let two = both (same_place p q) (v == w) is in
    ap (λ x. HeapMove (WriteNonAtomic x v)) (place_is p q two.0) ∙ ap (λ x. HeapMove (WriteNonAtomic q x)) (equal v w two.1)
effect_is e f is = absurd (false≢true is)

effects_are : (xs ys : List Effect) → same_effects xs ys ≡ true → xs ≡ ys
effects_are [] [] is = refl
effects_are [] (y ∷ ys) is = absurd (false≢true is)
effects_are (x ∷ xs) [] is = absurd (false≢true is)
effects_are (x ∷ xs) (y ∷ ys) is =
    let first = both (same_effect x y) (same_effects xs ys) is in
    ap (λ (e : Effect). e ∷ xs) (effect_is x y first.0) ∙ ap (λ (l : List Effect). y ∷ l) (effects_are xs ys first.1)

none_added : (es : List Effect) → adds_none es ≡ true → AddNone es
none_added [] is = tt
none_added (HeapMove (AddPackage components arrays image) ∷ es) is = absurd (false≢true is)
none_added (e ∷ es) is = none_added es is

in_front : (card : CardState) (es : List Effect) → is_shaped es ≡ true → place_counted (effect es 9) ≡ counter (pin_of card 1)
    → part es 0 8 ++ part es 8 2 ≡ to_count (acts_of card es)
in_front card (a ∷ b ∷ c ∷ d ∷ e ∷ f ∷ g ∷ h ∷ i ∷ HeapMove (WriteNonAtomic p v) ∷ HeapMove (Write q w) ∷ j ∷ k ∷ l ∷ m ∷ HeapMove Commit ∷ n ∷ o ∷ r
    ∷ HeapMove (SetPlaces changes) ∷ s ∷ HeapMove Abort ∷ more) is counts =
    ap (λ (z : Place). a ∷ b ∷ c ∷ d ∷ e ∷ f ∷ g ∷ h ∷ i ∷ HeapMove (WriteNonAtomic z v) ∷ []) counts
in_front card other is counts = absurd (false≢true is)

unlike : (b rest : Bool) → (if b then false else rest) ≡ true → (b ≡ false) × (rest ≡ true)
unlike true rest is = absurd (false≢true is)
unlike false rest is = (refl, is)

alone : (p : Place) (v : ℕ) (o : Option (Way (Next Frames))) → sets_alone p v o ≡ true
    → (t : Frames) × (m : MemoryState) × (o ≡ Some (HeapMove (Write p v) ∷ [], GoesOn t, m))
alone p v (Some (HeapMove (Write q w) ∷ [], GoesOn t, m)) is =
    let two = both (same_place q p) (w == v) is in (
      t,
      m,
      ap (λ x. Some (HeapMove (Write x w) ∷ [], GoesOn t, m)) (place_is q p two.0)
          ∙ ap (λ x. Some (HeapMove (Write p x) ∷ [], GoesOn t, m)) (equal w v two.1),
    )
alone p v other is = absurd (false≢true is)

-- a step that writes the place, which is no call, from where code stands after these effects
abbrev IsStep : CardState → Acts → Frames → Frames → Type 0
IsStep card a s t = Stays [] card.packages s (memory_at card (to_count a)) × HasTrace (machine_step [] card.packages s (memory_at card (to_count a)))
    (memory_at card (to_count a)) (HeapMove (Write a.place a.value) ∷ []) (GoesOn t)

step_of : (card : CardState) (es : List Effect) (w : Option (Way Frames)) → walk_of card es ≡ w → tests_walked card es w ≡ true
    → part es 0 8 ++ part es 8 2 ≡ to_count (acts_of card es) → (s : Frames) × (t : Frames) × IsStep card (acts_of card es) s t
step_of card es None walk is front = absurd (false≢true is)
step_of card es (Some w) walk is front =
    let a = acts_of card es in
    let first = both (same_effects w.0 (part es 8 2)) _ is in
    let second = unlike (is_invoke (decode (code_of [] card.packages w.1.current.origin.package_number) w.1.current.place)) _ first.1 in
    let third = alone a.place a.value (first_way (machine_step [] card.packages w.1 w.2) w.2) second.1 in
    let way = is_way (machine_step [] card.packages w.1 w.2) w.2 (HeapMove (Write a.place a.value) ∷ [], GoesOn third.0, third.1) third.2 in
    let here : w.2 ≡ memory_at card (to_count a) =
    left_walking 12 card.packages _ (begun_at card es) w walk
    ∙ ap (λ (l : List Effect). apply_effects l (begun_at card es)) (effects_are w.0 (part es 8 2) first.0)
    ∙ sym (behind_both (part es 0 8) (part es 8 2) card.memory) ∙ ap (λ (l : List Effect). apply_effects l card.memory) front in (
      w.1,
      third.0,
      (
        λ call called. absurd (false≢true (sym second.0 ∙ ap is_invoke called.2)),
        subst (λ (m : MemoryState). HasTrace (machine_step [] card.packages w.1 m) m (HeapMove (Write a.place a.value) ∷ []) (GoesOn third.0)) here way.0,
      ),
    )

pairs : (x : ℕ × ℕ) → x.0 ≡ 2 → x.1 ≡ 2 → x ≡ (2, 2)
pairs x first second = ap (λ (n : ℕ). (n, x.1)) first ∙ ap (λ (n : ℕ). (2, n)) second

-- ---- so the premises are met

module _ (card : CardState) (way : Way LoadResponse) (is_card : card_after commands new_card ≡ Some card)
    (is_done : first_way (exchange select_first card) card.memory ≡ Some way) (f : tests_of card way (acts_of card way.0) ≡ replicate 25 true) where
  abbrev acts : Acts
  acts = acts_of card way.0

  -- test number n holds
  abbrev test : ℕ → Bool
  test n = get_or (tests_of card way acts) n false

  holds : (n : ℕ) → get_or (replicate 25 true) n false ≡ true → test n ≡ true
  holds n is = ap (λ (l : List Bool). get_or l n false) f ∙ is

  comes : ComesTo table (Up card)
  comes =
      let ran = answers commands new_card card is_card in record {
        budget = usual_budget;
        first = new_kept 8192 usual_room table_text table;
        requests = Reset ∷ map Command commands;
        replies = Ready ∷ ran.0;
        own = own usual_budget 8192 usual_room table_text table (omega arith) usual_sizes reads;
        bytes = (tt, all_of_bytes commands commands_below);
        run = (Up new_card, powered 8192 table no_packages new_heap new_fits usual_budget 0 (heap_end 8192 256) no_refusals true false 0, ran.1);
      }

  whole : HasTracePrefix (exchange select_first card) card.memory way.0
  whole = begins_whole (exchange select_first card) card.memory way.0 way.1 (is_way (exchange select_first card) card.memory way is_done).0

  -- it begins with effects, if its own are these and others
  within : (es rest : List Effect) → way.0 ≡ es ++ rest → ComesWithin table card select_first es
  within es rest is = record {
    comes = comes;
    are = of_bytes select_first select_below;
    begins = front (exchange select_first card) card.memory es rest (subst (HasTracePrefix (exchange select_first card) card.memory) is whole);
  }

  ended : AnswersCommand (Up card) select_first (Response (0x90 ∷ 0 ∷ [])) (Up (next_card way.1 way.2))
  ended = subst (λ r. AnswersCommand (Up card) select_first (Response r) (Up (next_card way.1 way.2))) (bytes_are way.1.response (0x90 ∷ 0 ∷ []) (holds 3 refl))
      (is_way (exchange select_first card) card.memory way is_done).1

  -- ---- the power is cut in the abort

  abbrev last_memory : MemoryState
  last_memory = memory_at card (before_abort acts)

  abbrev close_way : Way (Unit {0})
  close_way = or_else ([], tt, last_memory) (first_way (close last_memory) last_memory)

  closed : Completes (close last_memory) last_memory tt close_way.2
  closed = (is_way (close last_memory) last_memory close_way (there ([], tt, last_memory) (first_way (close last_memory) last_memory) (holds 9 refl))).1

  abbrev passed : ℕ
  passed = last_memory.heap.passed

  abbrev off : KeptState
  off = record {
    durable = last_memory.heap.durable;
    laid = true;
    down = true;
    passed = passed;
    refusals = refused_once false passed card.memory.heap.refusals;
    size = card.memory.heap.size;
  }

  cut_in_abort : IsCutIn Abort last_memory.heap passed
  cut_in_abort =
      let some : 0 < writes_of Abort last_memory.heap = (Decides-ltb 0 (writes_of Abort last_memory.heap)).0 (holds 10 refl) in
      (omega arith, λ small. omega (arith, some))

  aborts : ComesWithin table card select_first (before_abort acts ++ (HeapMove Abort ∷ []))
  aborts = within (before_abort acts ++ (HeapMove Abort ∷ [])) (drop 22 way.0)
      (in_parts card way.0 (holds 4 refl) (counter_is (place_counted (effect way.0 9)) acts.own (holds 5 refl)))

  down : AnswersCommand (Up card) select_first Down (Off card.budget.left off)
  down = (
    refl,
    (loses (exchange select_first card) card.memory (before_abort acts) Abort passed aborts.begins cut_in_abort, refl, refl, refl, refl),
  )

  left_own : IsOwnKept table off
  left_own =
      let stays : StaysOwn = stays_own one_table in
      stays.request table (Up card) (Command select_first) Down (Off card.budget.left off) (of_bytes select_first select_below)
      (comes_own table (Up card) comes) down

  abbrev again_off : KeptState
  again_off = with_refusal passed off

  abbrev last_card : CardState
  last_card = restarted card.budget.left table left_own.packages off.durable passed off.size again_off.refusals

  lost : SessionRun (Up card) (Command select_first ∷ (Reset ∷ Reset ∷ [])) (Down ∷ (Down ∷ Ready ∷ [])) (Up last_card)
  lost = (
    Off card.budget.left off,
    down,
    (
      Off card.budget.left again_off,
      (refl, refl),
      (
        Up last_card,
        powered off.durable.head.1 table left_own.packages off.durable left_own.heap card.budget.left passed off.size again_off.refusals true true passed,
        refl,
      ),
    ),
  )

  -- ---- and elsewhere

  -- the power is cut when this many writes have passed, within these effects
  abbrev cut_at : (k : ℕ) (es : List Effect) → ComesWithin table card select_first es → nat_lt k (writes_to card es) ≡ true
      → IsHeapCutAt card select_first k (durable_behind (moves_of es) card.memory.heap k)
  cut_at k es comes short = record {
    effects = es;
    begins = comes.begins;
    within = (Decides-ltb k (writes_to card es)).0 short;
    is = refl;
  }

  earlier : (es rest : List Effect) → ComesWithin table card select_first (es ++ rest) → ComesWithin table card select_first es
  earlier es rest later = record {
    comes = later.comes;
    are = later.are;
    begins = front (exchange select_first card) card.memory es rest later.begins;
  }

  updates : ComesWithin table card select_first (to_update acts)
  updates = earlier (to_update acts) acts.later (earlier (before_abort acts) (HeapMove Abort ∷ []) aborts)

  commits : ComesWithin table card select_first (to_commit acts)
  commits = earlier (to_commit acts) acts.again (earlier (before_update acts) (HeapMove (SetPlaces acts.changes) ∷ []) updates)

  wrote : ComesWithin table card select_first (to_field acts)
  wrote = earlier (to_field acts) acts.during (earlier (before_commit acts) (HeapMove Commit ∷ []) commits)

  counted : ComesWithin table card select_first (to_count acts)
  counted = earlier (to_count acts) (HeapMove (Write acts.place acts.value) ∷ []) wrote

  -- ---- the PIN of the other applet

  out_of_reach : IsInReach (seen_from card acts) → ⊥
  out_of_reach (inl is) =
      let a : number_of (seen_from card acts).active ≡ 1 = equal (number_of (seen_from card acts).active) 1 (holds 19 refl) in
      let b : number_of (seen_from card acts).active ≡ 0 = ap number_of is in omega (arith, a, b)
  out_of_reach (inr (inl is)) =
      let a : number_of (seen_from card acts).active ≡ 1 = equal (number_of (seen_from card acts).active) 1 (holds 19 refl) in
      let b : number_of (seen_from card acts).object.owner ≡ 2 = equal (number_of (seen_from card acts).object.owner) 2 (holds 20 refl) in
      let c : number_of (seen_from card acts).object.owner ≡ number_of (seen_from card acts).active = ap number_of is in omega (arith, a, b, c)
  out_of_reach (inr (inr is)) = opposite (is_global_array (seen_from card acts).object) (holds 21 refl) is

  outside : IsOutside card.packages (memory_at card (to_count acts)) acts.other
  outside = record {
    there = (holds 18 refl);
    apart = out_of_reach;
    others = λ own. none_of (memory_at card (to_count acts)).fixed acts.other own.0 (holds 22 refl) own.1;
  }

  -- ---- a step of its code, and its run

  step : (s : Frames) × (t : Frames) × IsStep card acts s t
  step = step_of card way.0 (walk_of card way.0) refl (holds 24 refl)
      (in_front card way.0 (holds 4 refl) (counter_is (place_counted (effect way.0 9)) acts.own (holds 5 refl)))

  apart : RunsApart table card select_first (to_count acts) acts.other 1 [] step.0 step.1 (memory_at card (to_field acts))
  apart = record {
    comes = counted;
    same = none_added (to_count acts) (holds 23 refl);
    outside = outside;
    steps = (
      HeapMove (Write acts.place acts.value) ∷ [],
      step.0,
      step.1,
      (None, 0, refl),
      step.2.1,
      (tt, tt),
      step.2.0,
      (refl, behind_both (to_count acts) (HeapMove (Write acts.place acts.value) ∷ []) card.memory),
    );
  }

  run : IsOfRun card.packages card.memory (before_commit acts) (HeapMove Commit)
  run = commands_run_code.commits table card select_first (before_commit acts) commits

  meets : MeetPremises table acts
  meets = record {
    comes = comes;
    are = of_bytes select_first select_below;
    packages = equal (length card.packages.loaded) 2 (holds 0 refl);
    applets = pairs card.memory.heap.now.counts (equal card.memory.heap.now.counts.0 2 (holds 1 refl)) (equal card.memory.heap.now.counts.1 2 (holds 2 refl));
    last = next_card way.1 way.2;
    ended = ended;
    begun = (holds 6 refl);
    updated = record {
      bytes = 0 ∷ [];
      is = changes_are acts.changes (changes_of_update (record_of (memory_at card (before_update acts)) acts.own) acts.own (0 ∷ [])) (holds 7 refl);
    };
    inside = (holds 8 refl);
    aborted = aborts;
    closed = close_way.2;
    returned = closed;
    off = off;
    few = (Decides-ltb passed 18446744073709551615).0 (holds 11 refl);
    down = down;
    reset = last_card;
    lost = lost;
    writes_update = writes_to card (to_commit acts);
    heap_update = durable_behind (moves_of (to_next_update acts)) card.memory.heap (writes_to card (to_commit acts));
    cut_update = cut_at (writes_to card (to_commit acts)) (to_next_update acts)
        (subst (ComesWithin table card select_first) (append_assoc (to_commit acts) acts.again (HeapMove (SetPlaces acts.changes) ∷ [])) updates)
        (holds 12 refl);
    effects_update = refl;
    committed = omega arith;
    writes_field = writes_to card (to_count acts);
    heap_field = durable_behind (moves_of (to_field acts)) card.memory.heap (writes_to card (to_count acts));
    cut_field = cut_at (writes_to card (to_count acts)) (to_field acts) wrote (holds 13 refl);
    effects_field = refl;
    counted = omega arith;
    pin = (holds 14 refl);
    unchanged = opposite (goes_back (memory_at card acts.first).heap (place_at (memory_at card acts.first).heap.now (counter acts.own))) (holds 15 refl);
    no_tries = (λ x. x, tt);
    wrote = wrote;
    still = (holds 16 refl);
    other_change = λ x. x;
    commits = commits;
    foreign = (holds 17 refl);
    outside = outside;
    standing = step.0;
    gone_on = step.1;
    apart = apart;
    begun_with = run.before;
    steps = run.taken;
    lent = run.lent;
    process = run.first;
    frames = run.last;
    reached = apply_effects run.ran (memory_at card run.before);
    ran = commands_run_code.runs table card select_first (before_commit acts) (HeapMove Commit) commits run;
  }

eventful_of : (o : Option CardState) → card_after commands new_card ≡ o → tests_from o ≡ replicate 25 true → HaveEventfulWitness
eventful_of None is f = absurd cc
eventful_of (Some card) is f = by (first_way (exchange select_first card) card.memory) refl f
  where
    by : (w : Option (Way LoadResponse)) → first_way (exchange select_first card) card.memory ≡ w → tests_in card w ≡ replicate 25 true → HaveEventfulWitness
    by None done f = absurd cc
    by (Some way) done f = record { t = table; acts = acts_of card way.0; meets = meets card way is done f }

pub eventful : HaveEventfulWitness
eventful = eventful_of (card_after commands new_card) refl computed
