-- A wrong guess takes a try for good.
use Rattle.std.proofs.Common.{◌≡◌, ℕ, ◌-◌, ◌==◌, Bool, true, false, List, refl, ap, ◌∙◌, inl, inr, if◌then◌else◌, Option, Some, None}
use Rattle.std.proofs.lemmas.Bool.{false≢true, cases_Bool, eqb-true}
use Rattle.jc_heap.specs.declared.place.Place.TheVariants.{Cell}
use Rattle.jc_heap.specs.Heap.{goes_back, set_cell}
use Rattle.jc_heap.specs.Place.{place_at}
use Rattle.jc_heap.specs.Moves.{WriteNonAtomic}
use Rattle.jc_memory.specs.State.{MemoryState, HeapMove, SetFlag, apply_effect}
use Rattle.jc_memory.specs.Programs.{Finish, Perform, Completes, bind}
use Rattle.jc_memory.specs.Changes.{nonatomic_write}
use Rattle.jc_environment.specs.Pins.{counter, record_of, tries_refill}
use Rattle.jc_environment.specs.Pins.Checks.{pin_check, is_value, comparison}
use Rattle.law_code.specs.PinChanges.{IsChanged}
use Rattle.law_code.specs.PinUpdateLaws.{TakeATry}

by_value : (same : Bool) (v new : MemoryState) (r : ℕ) → Completes (if same then tries_refill v r (Perform (SetFlag r true) (Finish true)) else Finish false) v
    false new → new ≡ v
by_value true v new r did = absurd (false≢true did.0)
by_value false v new r did = did.1

judged_wrong : (v new : MemoryState) (r : ℕ) (guess : Option (List ℕ)) → Completes (comparison v r guess) v false new → new ≡ v
judged_wrong v new r None did = did.1
judged_wrong v new r (Some bytes) did = by_value (is_value v r bytes) v new r did

-- the memory once a try was counted
abbrev counted_down : MemoryState → ℕ → ℕ → MemoryState
counted_down s r n = apply_effect (HeapMove (WriteNonAtomic (Cell r 2) n)) (apply_effect (SetFlag r false) s)

by_tries : (none : Bool) (s new : MemoryState) (r n : ℕ) (guess : Option (List ℕ)) → (none ≡ true → ⊥) →
    Completes (if none then Finish false else Perform (SetFlag r false) (bind (nonatomic_write r 2 n) (apply_effect (SetFlag r false) s)
    (λ u v. comparison v r guess))) s false new → new ≡ counted_down s r n
by_tries true s new r n guess some did = absurd (some refl)
by_tries false s new r n guess some did = judged_wrong (counted_down s r n) new r guess did

wrong : (s new : MemoryState) (r : ℕ) (guess : Option (List ℕ)) → ((record_of s r).tries ≡ 0 → ⊥) → Completes (pin_check s r guess) s false new
    → new ≡ counted_down s r ((record_of s r).tries - 1)
unfolding pin_check
wrong s new r guess some did =
    let tries = (record_of s r).tries in
    by_tries (tries == 0) s new r (tries - 1) guess (λ e. some (eqb-true tries 0 e)) did

not_touched : (s : MemoryState) (r : ℕ) → (IsChanged s r → ⊥) → goes_back s.heap (place_at s.heap.now (counter r)) ≡ false
not_touched s r unchanged = elim (cases_Bool (goes_back s.heap (place_at s.heap.now (counter r)))) [ inl e ↦ absurd (unchanged e) | inr e ↦ e ]

pub take_a_try : TakeATry
take_a_try s new r guess unchanged some did =
    let n = (record_of s r).tries - 1 in
    let is = wrong s new r guess some did in
    (ap (λ v. v.heap.now) is, ap (λ v. v.heap.durable) is ∙ ap (λ t. if t then s.heap.durable else set_cell s.heap.durable r 2 n) (not_touched s r unchanged))
