-- Cells of a state: what their check gives, and how it ends.
use Rattle.std.proofs.Common.{◌≡◌, ◌∙◌, ◌+◌, ◌≤◌, ℕ, Bool, true, false, List, Option, Some, None, Result, Ok, Err, refl, sym, ap, subst, inr, if◌then◌else◌}
use Rattle.std.proofs.lemmas.Bool.{and_parts, false≢true, leb-true}
use Rattle.std.specs.Prelude.{is_ok, is_some, pos}
use Rattle.jc_transient.specs.declared.cell.ClearEvent.{ClearEvent}
use Rattle.jc_heap.specs.Completions.{Attempt, Done, Refused}
use Rattle.jc_heap.specs.Heap.{IsObject, facts}
use Rattle.jc_heap.specs.declared.refusal.HeapRefusal.{HeapRefusal}
use Rattle.jc_heap.specs.declared.object.Facts.{Facts}
use Rattle.jc_heap.specs.declared.object.Kind.{Kind}
use Rattle.jc_heap.specs.declared.object.Kind.TheVariants.{Instance, BooleanArray, ByteArray, ShortArray, ReferenceArray}
use Rattle.jc_firewall.specs.FirewallLaws.{IsInReach}
use Rattle.jc_firewall.specs.declared.access.Access.TheVariants.{ArrayElement}
use Rattle.jc_memory.specs.Cells.{cell_refusal_in, cells_effect_in, header_at}
use Rattle.jc_memory.specs.Programs.{Completes, Finish, Perform, unless_refused}
use Rattle.jc_memory.specs.State.{MemoryState, apply_effect}
use Rattle.jc_linker.specs.Values.{Packages}
use Rattle.jc_frames.specs.declared.outcome.FrameExit.{FrameExit}
use Rattle.jc_frames.specs.declared.outcome.FrameExit.TheVariants.{End}
use Rattle.jc_frames.specs.declared.outcome.Outcome.TheVariants.{Fault}
use Rattle.jc_world.specs.Contexts.{firewall_check, situation_of}
use Rattle.jc_world.specs.declared.arrays.Stretch.{Stretch}
use Rattle.jc_api.specs.Changing.{IsState, holds_state, state_at, state_in}
use Rattle.jc_api.specs.Kinds.{is_shorts}
use Rattle.jc_api.proofs.Exits.{FaultsOnly, plain_if}
use Rattle.jc_api.proofs.Reaching.{element_allowed, err_not_ok, header_is, same_Ok}
use Rattle.jc_api.proofs.Standing.{facts_after_run, object_after_run}
use Rattle.jc_api.proofs.Stretches.{IsStretch}

pub done_refused : {A : Type 0} (a : A) (why : HeapRefusal) → ◌≡◌ {A = Attempt A} (Done a) (Refused why) → ⊥
done_refused a why e = cc

-- what is known of the header of such an array
pub record IsStateHeader (p : Packages) (m : MemoryState) (end : ℕ) (f : Facts) : Type 0 where
  pub kind : f.kind ≡ ShortArray
  pub event : ClearEvent
  pub transient : f.event ≡ Some event
  pub allowed : firewall_check ArrayElement p m f ≡ Ok tt
  pub within : end ≤ f.length

shorts_kind : (kind : Kind) → is_shorts kind ≡ true → kind ≡ ShortArray
shorts_kind Instance e = absurd (false≢true e)
shorts_kind BooleanArray e = absurd (false≢true e)
shorts_kind ByteArray e = absurd (false≢true e)
shorts_kind ShortArray e = refl
shorts_kind ReferenceArray e = absurd (false≢true e)

some_is : {A : Type 0} (o : Option A) → is_some o ≡ true → (a : A) × (o ≡ Some a)
some_is None e = absurd (false≢true e)
some_is (Some a) e = (a, refl)

ok_is : (r : Result (Unit {0}) FrameExit) → is_ok r ≡ true → r ≡ Ok tt
ok_is (Ok u) e = refl
ok_is (Err x) e = absurd (false≢true e)

pub state_header : (p : Packages) (m : MemoryState) (end : ℕ) (f : Facts) → holds_state p m end f ≡ true → IsStateHeader p m end f
state_header p m end f e =
    let one = and_parts (is_shorts f.kind) _ e in
    let two = and_parts (is_some f.event) _ one.1 in
    let three = and_parts (is_ok (firewall_check ArrayElement p m f)) _ two.1 in
    let event = some_is f.event two.0 in
    record {
      kind = shorts_kind f.kind one.0;
      event = event.0;
      transient = event.1;
      allowed = ok_is (firewall_check ArrayElement p m f) three.0;
      within = leb-true end f.length three.1;
    }

-- the cells that a call was given
pub record IsStateStretch (p : Packages) (m : MemoryState) (array start count : ℕ) (e : Stretch) : Type 0 where
  pub stretch : IsStretch p m array (pos count) e
  pub is : e ≡ record { array = array; start = start; count = count }
  pub there : IsObject m.heap.now array
  pub event : ClearEvent
  pub transient : (facts m.heap.now array).event ≡ Some event

module _ (p : Packages) (m : MemoryState) (array start count : ℕ) where
  abbrev cells_asked : Stretch
  cells_asked = record { array = array; start = start; count = count }

  plain_in : (o : Option Facts) → FaultsOnly (state_in p m array start count o)
  plain_in None = tt
  plain_in (Some f) = plain_if (holds_state p m (start + count) f) _ _ tt tt

  pub plain_state : FaultsOnly (state_at p m array start count)
  unfolding state_at
  plain_state = plain_in (header_at m array)

  state_if : (e : Stretch) (f : Facts) → IsObject m.heap.now array × (f ≡ facts m.heap.now array) → (b : Bool) → holds_state p m (start + count) f ≡ b
      → (if b then Ok cells_asked else Err (End Fault)) ≡ Ok e → IsStateStretch p m array start count e
  state_if e f is false holds fine = absurd (err_not_ok fine)
  state_if e f is true holds fine =
      let h = state_header p m (start + count) f holds in
      subst (IsStateStretch p m array start count) (same_Ok cells_asked e fine) (record {
        stretch = record {
          array = refl;
          kind = inr (subst (λ (g : Facts). g.kind ≡ ShortArray) is.1 h.kind);
          reach = subst (λ (g : Facts). IsInReach (situation_of p m g)) is.1 (element_allowed p m f h.allowed);
          within = subst (λ (g : Facts). start + count ≤ g.length) is.1 h.within;
          counted = refl;
        };
        is = refl;
        there = is.0;
        event = h.event;
        transient = subst (λ (g : Facts). g.event ≡ Some h.event) is.1 h.transient;
      })

  state_of : (e : Stretch) (o : Option Facts) → header_at m array ≡ o → state_in p m array start count o ≡ Ok e → IsStateStretch p m array start count e
  state_of e None is fine = absurd (err_not_ok fine)
  state_of e (Some f) is fine = state_if e f (header_is m array f is) (holds_state p m (start + count) f) refl fine

  pub state_is : (e : Stretch) → state_at p m array start count ≡ Ok e → IsStateStretch p m array start count e
  unfolding state_at
  state_is e fine = state_of e (header_at m array) refl fine

-- such cells are there after elements of another array were set
pub state_stays : (event : Option ClearEvent) (reason : Option HeapRefusal) (m new : MemoryState) (r i : ℕ) (words : List ℕ) (s : Stretch) → IsState m s →
    Completes (unless_refused (cell_refusal_in event reason) (Perform (cells_effect_in event r i words) (Finish (Done (tt {0}))))) m (Done (tt {0})) new
    → IsState new s
state_stays event reason m new r i words s is did = by (cell_refusal_in event reason) did
  where
    left : IsState (apply_effect (cells_effect_in event r i words) m) s
    left =
        let same = facts_after_run event r i words m s.array in
        record {
          there = object_after_run event r i words m s.array is.there;
          shorts = ap (λ (f : Facts). f.kind) same ∙ is.shorts;
          event = is.event;
          transient = ap (λ (f : Facts). f.event) same ∙ is.transient;
          within = subst (λ (f : Facts). s.start + s.count ≤ f.length) (sym same) is.within;
          ends = is.ends;
        }

    by : (o : Option HeapRefusal) → Completes (unless_refused o (Perform (cells_effect_in event r i words) (Finish (Done (tt {0}))))) m (Done (tt {0})) new
        → IsState new s
    by None done = subst (λ v. IsState v s) (sym done.1) left
    by (Some why) done = absurd (done_refused tt why done.0)
