-- OwnerPIN: the array for the value of a PIN within reach is none outside.
use Rattle.std.proofs.Common.{◌≡◌, ℕ, suc, ◌≤◌, Bool, true, false, inl, inr, List, [], ◌∷◌, ◌++◌, Option, Some, None, Result, Ok, Err, refl, sym, ◌∙◌, subst}
use Rattle.std.proofs.Common.{if◌then◌else◌}
use Rattle.std.proofs.lemmas.Bool.{and_parts, false≢true, leb-true}
use Rattle.std.proofs.lemmas.Option.{none-some}
use Rattle.std.specs.Prelude.{◌==◌, ◌&&◌, is_none, nat_le}
use Rattle.jc_heap.specs.declared.object.Facts.{Facts}
use Rattle.jc_heap.specs.declared.object.Kind.{Kind}
use Rattle.jc_heap.specs.declared.object.Kind.TheVariants.{Instance, BooleanArray, ByteArray, ShortArray, ReferenceArray}
use Rattle.jc_heap.specs.declared.place.Place.{Place}
use Rattle.jc_heap.specs.Object.{is_object, kind_number}
use Rattle.jc_heap.specs.Heap.{IsObject, facts, heap_item_at}
use Rattle.jc_frames.specs.declared.exceptions.Exception.TheVariants.{SecurityException}
use Rattle.jc_frames.specs.declared.outcome.FrameExit.{FrameExit}
use Rattle.jc_frames.specs.declared.outcome.FrameExit.TheVariants.{Throw}
use Rattle.jc_firewall.specs.declared.subject.Designation.TheVariants.{Ordinary, PermanentEntryPoint, TemporaryEntryPoint}
use Rattle.jc_firewall.specs.FirewallLaws.{IsInReach}
use Rattle.jc_firewall.specs.Situation.{global_array, same_context}
use Rattle.jc_memory.specs.State.{MemoryState}
use Rattle.jc_memory.specs.Cells.{header_at}
use Rattle.jc_transient.specs.Owners.{owner_of}
use Rattle.jc_linker.specs.Values.{Packages}
use Rattle.jc_environment.specs.Pins.{is_persistent_with, has_value, is_pin, record_of}
use Rattle.jc_heap.specs.Place.{cell_changes}
use Rattle.jc_platform.specs.declared.names.PlatformClass.TheVariants.{Aid}
use Rattle.jc_platform.specs.NamePlaces.{class_word}
use Rattle.jc_world.specs.Contexts.{context_of, own_designation, situation_of, subject_of}
use Rattle.jc_api_framework.specs.OwnerPin.{is_in_context_of}
use Rattle.law_code.specs.Reach.{IsOutside}
use Rattle.law_code.specs.IsolationLaws.SparingEffects.{AreBeside}
use Rattle.jc_api.proofs.Reaching.{err_not_ok, header_is, one_context}
use Rattle.law_code.proofs.ObjectsInReach.{not_outside}

numbered : (kind of : Kind) → (kind_number kind == kind_number of) ≡ true → kind ≡ of
numbered Instance Instance e = refl
numbered BooleanArray BooleanArray e = refl
numbered ByteArray ByteArray e = refl
numbered ShortArray ShortArray e = refl
numbered ReferenceArray ReferenceArray e = refl
numbered _ _ e = absurd cc

-- a persistent object of a kind, with this many cells
pub record IsKeptAs (m : MemoryState) (of : Kind) (n r : ℕ) : Type 0 where
  pub there : IsObject m.heap.now r
  pub kind : (facts m.heap.now r).kind ≡ of
  pub persistent : is_none (facts m.heap.now r).event ≡ true
  pub long : n ≤ (facts m.heap.now r).length

kept_as : (m : MemoryState) (of : Kind) (n r : ℕ) (o : Option Facts) → header_at m r ≡ o → is_persistent_with of n o ≡ true → IsKeptAs m of n r
kept_as m of n r None is e = absurd cc
kept_as m of n r (Some f) is e =
    let there = header_is m r f is in
    let one = and_parts (kind_number f.kind == kind_number of) (is_none f.event && nat_le n f.length) e in
    let two = and_parts (is_none f.event) (nat_le n f.length) one.1 in
    record {
      there = there.0;
      kind = subst (λ g. g.kind ≡ of) there.1 (numbered f.kind of one.0);
      persistent = subst (λ g. is_none g.event ≡ true) there.1 two.0;
      long = subst (λ g. n ≤ g.length) there.1 (leb-true n f.length two.1);
    }

if_both : (a b : Bool) → (if a then b else false) ≡ true → (a ≡ true) × (b ≡ true)
if_both true b e = (refl, e)
if_both false b e = absurd cc

-- the record of a PIN
pub pin_record : (m : MemoryState) (r : ℕ) → is_pin m r ≡ true → IsKeptAs m Instance 5 r
unfolding is_pin
pin_record m r e = kept_as m Instance 5 r (header_at m r) refl (if_both (is_persistent_with Instance 5 (header_at m r)) (has_value m (record_of m r)) e).0

pub beside_append : (q : ℕ) (cs ds : List (Place × ℕ)) → AreBeside q cs → AreBeside q ds → AreBeside q (cs ++ ds)
beside_append q [] ds first second = second
beside_append q (c ∷ cs) ds first second = (first.0, beside_append q cs ds first.1 second)

pub beside_put : (q array i : ℕ) (bytes : List ℕ) → (array ≡ q → ⊥) → AreBeside q (cell_changes array i bytes)
beside_put q array i [] other = tt
beside_put q array i (b ∷ bs) other = (other, beside_put q array (suc i) bs other)

-- a PIN is an instance, and so no global array
entry_no_array : (b : Bool) → global_array (if b then PermanentEntryPoint else TemporaryEntryPoint) ≡ true → ⊥
entry_no_array true e = false≢true e
entry_no_array false e = false≢true e

no_array : (p : Packages) (kind : Kind) (class owner : ℕ) → kind ≡ Instance → global_array (if owner == 0 then own_designation p kind class else Ordinary)
    ≡ true → ⊥
no_array p kind class owner is = subst (λ k. global_array (if owner == 0 then own_designation p k class else Ordinary) ≡ true → ⊥) (sym is) (one (owner == 0))
  where
    one : (b : Bool) → global_array (if b then own_designation p Instance class else Ordinary) ≡ true → ⊥
    one true e = entry_no_array (class == class_word p.platform Aid) e
    one false e = false≢true e

-- the array that a PIN within reach keeps its value in, which belongs to the context of the PIN, is none outside reach
no_header : (b : Bool) (f : Facts) → (if b then Some f else None) ≡ None → b ≡ true → ⊥
no_header true f e is = none-some f (sym e)
no_header false f e is = false≢true is

ok_if : (b : Bool) → ◌≡◌ {A = Result (Unit {0}) FrameExit} (if b then Ok tt else Err (Throw SecurityException)) (Ok tt) → b ≡ true
ok_if true e = refl
ok_if false e = absurd (err_not_ok e)

module _ (p : Packages) (m : MemoryState) (q pin : ℕ) (out : IsOutside p m q) (is : is_pin m pin ≡ true)
    (reach : IsInReach (situation_of p m (facts m.heap.now pin))) where
  owned_inside : (f : Facts) → context_of m (owner_of f.owner) ≡ context_of m (owner_of (facts m.heap.now pin).owner)
      → IsInReach (situation_of p m (facts m.heap.now pin)) → IsInReach (situation_of p m f)
  unfolding situation_of subject_of
  owned_inside f same (inl environment) = inl environment
  owned_inside f same (inr (inl own)) = inr (inl (same ∙ own))
  owned_inside f same (inr (inr global)) = absurd (no_array p (facts m.heap.now pin).kind (facts m.heap.now pin).class (facts m.heap.now pin).owner
      (pin_record m pin is).kind global)

  pub value_inside : (r : ℕ) (o : Option Facts) → header_at m r ≡ o → is_in_context_of m (facts m.heap.now pin) o ≡ Ok tt → r ≡ q → ⊥
  value_inside r None none fine same = no_header (is_object (heap_item_at m.heap.now r)) (facts m.heap.now r) none
      (subst (IsObject m.heap.now) (sym same) out.there)
  value_inside r (Some f) some fine same =
      let one = one_context (context_of m (owner_of f.owner)) (context_of m (owner_of (facts m.heap.now pin).owner))
      (ok_if (same_context (context_of m (owner_of f.owner)) (context_of m (owner_of (facts m.heap.now pin).owner))) fine) in
      not_outside p m q r f out (header_is m r f some).1 (owned_inside f one reach) same
