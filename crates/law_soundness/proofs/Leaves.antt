-- Returns and exceptions fit: code runs again for whom the callers ran.
use Rattle.std.proofs.Common.{◌≡◌, ℕ, ◌<◌, ◌&&◌, nat_lt, true, List, [], ◌∷◌, Some, refl, sym, ◌∙◌, ap, subst}
use Rattle.std.proofs.lemmas.Bool.{and_parts, ltb-true, true≢false}
use Rattle.std.specs.Prelude.{ℤ, is_some, slice_index}
use Rattle.jc_transient.specs.declared.cell.CellValue.TheVariants.{Short}
use Rattle.jc_heap.specs.declared.object.Facts.{Facts}
use Rattle.jc_heap.specs.Heap.{facts}
use Rattle.jc_memory.specs.Cells.{header_at}
use Rattle.jc_transient.specs.Owners.{owner_number}
use Rattle.jc_memory.specs.State.{MemoryState, Effect, SetTransient, SetRegisters, apply_effect}
use Rattle.jc_linker.specs.Values.{Packages}
use Rattle.jc_frames.specs.declared.method.ReturnPoint.{ReturnPoint}
use Rattle.jc_frames.specs.Frames.{Caller}
use Rattle.jc_world.specs.Objects.{is_instance}
use Rattle.jc_instructions.specs.MethodReturn.{registers_of_caller, method_return}
use Rattle.jc_instructions.specs.Throw.{athrow, exception_throw, has_reason_cell}
use Rattle.jc_api.proofs.Due.{due_of}
use Rattle.jc_api.proofs.Reaching.{header_is}
use Rattle.law_code.proofs.Walk.{AnyCell, LeavesPass, any_handed, returning, throwing, thrown}
use Rattle.law_soundness.specs.MemoryLaws.Fit.{FitsFill, FitsTurn, IsFit}
use Rattle.law_soundness.specs.MachineLaws.LocalEffects.{IsLocalEffect}
use Rattle.law_soundness.specs.Machines.{KnowOwners}
use Rattle.law_code.specs.Methods.{KnowsMethods}
use Rattle.law_soundness.specs.MemoryLaws.State.{IsSoundMemory, is_owner_up_to, most_owner}
use Rattle.law_soundness.specs.MachineLaws.Steps.{LeavesFit}
use Rattle.law_soundness.proofs.Effects.{keeps_sound}
use Rattle.law_soundness.proofs.LocalEffects.{calm_stays}
use Rattle.law_soundness.proofs.Owners.{turn_known}
use Rattle.law_soundness.proofs.RunObjects.{one_fits}

pub back_fits : (p : Packages) (methods : KnowsMethods p) (resume : ReturnPoint) (m : MemoryState) → IsSoundMemory p m
    → is_owner_up_to (most_owner m) m.heap.now (owner_number resume.active) ≡ true → FitsTurn m (registers_of_caller resume m.registers)
back_fits p methods resume m sound known = turn_known p m methods sound (registers_of_caller resume m.registers) refl refl known

-- the cell is there, and its object is no array
pub reason_fits : (m : MemoryState) (r : ℕ) (f : Facts) (v : ℤ) → header_at m r ≡ Some f → has_reason_cell f ≡ true → FitsFill m r 0 (Short v ∷ [])
reason_fits m r f v there on =
    let is : f ≡ facts m.heap.now r = (header_is m r f there).1 in
    let both = and_parts (is_instance f.kind && is_some f.event) (nat_lt 0 f.length) on in
    let instance = (and_parts (is_instance f.kind) (is_some f.event) both.0).0 in
    one_fits m r 0 (Short v) (subst (λ g. 0 < g.length) is (ltb-true 0 f.length both.1)) tt
    (λ array. absurd (true≢false (sym instance ∙ ap is_instance (ap (λ g. g.kind) is ∙ array))))

module _ (p : Packages) where
  abbrev HasOwners : List Caller → MemoryState → Type 0
  HasOwners callers m = IsSoundMemory p m × KnowOwners callers m

  owners_after : (e : Effect) (callers : List Caller) (m : MemoryState) → IsFit p e m → IsLocalEffect e m → HasOwners callers m
      → HasOwners callers (apply_effect e m)
  owners_after e callers m fit calm known = (keeps_sound p e m fit known.0, calm_stays.owners e m callers calm (known.0).settled known.1)

  leaves_pass : KnowsMethods p → LeavesPass (IsFit p) (λ s m. HasOwners s.callers m) AnyCell (λ next m. Unit {0})
  leaves_pass methods = record {
    goes = λ s m known. tt;
    throws = λ e s m known. tt;
    faults = λ s m known. tt;
    pushes = λ cell s m known any. tt;
    null = λ h. tt;
    returned = λ how s m value known is. any_handed m.heap.now value;
    ends = λ value s m known any. tt;
    back = λ f c callers m known.
        let fits : FitsTurn m (registers_of_caller c.resume m.registers) = back_fits p methods c.resume m known.0 (known.1).0 in
        (fits, owners_after (SetRegisters (registers_of_caller c.resume m.registers)) callers m fits refl (known.0, (known.1).2));
    handles = λ r target s m known any. tt;
    uncaught = λ r s m known any. tt;
    found = λ r f m there. tt;
    popped = λ top s m known taken. known;
    reasons = λ k v f s m known there on.
        let fits = reason_fits m _ f v there on in
        (fits, owners_after (SetTransient (slice_index m.fixed k) 0 (Short v ∷ [])) s.callers m fits tt known);
  }

pub leaves_are_fit : LeavesFit
leaves_are_fit = record {
  returns = λ how p s m given. due_of (IsFit p) (λ next m. Unit {0}) (method_return how s m) m
      (returning (IsFit p) _ AnyCell _ (leaves_pass p given.methods) p how s m (given.sound, given.callers));
  throws = λ place p s m given. due_of (IsFit p) (λ next m. Unit {0}) (athrow place p s m) m
      (throwing (IsFit p) _ AnyCell _ (leaves_pass p given.methods) p place s m (given.sound, given.callers));
  thrown = λ e place p s m given. due_of (IsFit p) (λ next m. Unit {0}) (exception_throw e place p s m) m
      (thrown (IsFit p) _ AnyCell _ (leaves_pass p given.methods) p e place s m (given.sound, given.callers));
}
