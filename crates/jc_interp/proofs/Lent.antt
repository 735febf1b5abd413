-- Code that was lent has no constant pool, so that a field or a call that it names is a code fault.
use Rattle.std.proofs.Common.{◌≡◌, ℕ, ◌==◌, Bool, true, false, Option, Some, None, refl, sym}
use Rattle.std.proofs.lemmas.Bool.{eqb-true}
use Rattle.jc_memory.specs.State.{MemoryState}
use Rattle.jc_memory.specs.Programs.{Program, Finish}
use Rattle.jc_linker.specs.Values.{Packages}
use Rattle.jc_linker.specs.Classes.{package_in}
use Rattle.jc_linker.specs.Lookups.{target_at}
use Rattle.jc_frames.specs.declared.instr.FieldOp.{FieldOp}
use Rattle.jc_frames.specs.declared.instr.FieldOp.TheVariants.{GetStatic, PutStatic, GetField, PutField, GetFieldThis, PutFieldThis}
use Rattle.jc_frames.specs.declared.instr.ValueType.{ValueType}
use Rattle.jc_frames.specs.declared.instr.InvokeOp.{InvokeOp}
use Rattle.jc_frames.specs.declared.instr.InvokeOp.TheVariants.{Virtual, Special, Static, Interface}
use Rattle.jc_frames.specs.declared.instr.Instr.TheVariants.{Field, Invoke}
use Rattle.jc_frames.specs.declared.outcome.Outcome.TheVariants.{Fault}
use Rattle.jc_frames.specs.Frames.{Frames, Next, Ends, with_stack}
use Rattle.jc_frames.specs.Cell.{reference_on}
use Rattle.jc_transient.specs.declared.cell.CellValue.{CellValue}
use Rattle.jc_world.specs.Instructions.{if_some}
use Rattle.jc_world.specs.Values.{value_on}
use Rattle.jc_instructions.specs.FieldNames.{field_named, static_named}
use Rattle.jc_instructions.specs.FieldOps.{field_instruction}
use Rattle.jc_instructions.specs.Fields.{field_read, field_write, getfield, putfield, getfield_this, putfield_this, this_for_more, this_of}
use Rattle.jc_instructions.specs.StaticFields.{getstatic, putstatic}
use Rattle.jc_instructions.specs.Invoke.{method_selection}
use Rattle.jc_interp.specs.Calling.{invoke_instruction}
use Rattle.jc_interp.specs.Step.{if_had}

no_target : (p : Packages) (index : ℕ) → target_at p 0 index ≡ None
unfolding target_at package_in
no_target p index = refl

no_field : (t : ValueType) (p : Packages) (index : ℕ) → field_named t p 0 index ≡ None
unfolding field_named
no_field t p index = rw (no_target p index) refl

no_static : (t : ValueType) (p : Packages) (index : ℕ) → static_named t p 0 index ≡ None
unfolding static_named
no_static t p index = rw (no_target p index) refl

-- whatever stands there, it ends so
either : {A : Type 0} (o : Option A) (go : A → Program (Next Frames)) → ((x : A) → go x ≡ Finish (Ends Fault)) → if_some o go ≡ Finish (Ends Fault)
either None go h = refl
either (Some x) go h = h x

reads_none : (t : ValueType) (index r : ℕ) (p : Packages) (s : Frames) (m : MemoryState) → s.current.origin.package_number ≡ 0
    → field_read t index r p s m ≡ Finish (Ends Fault)
unfolding field_read
reads_none t index r p s m lent = rw (lent, no_field t p index) refl

writes_none : (t : ValueType) (index r : ℕ) (v : CellValue) (p : Packages) (s : Frames) (m : MemoryState) → s.current.origin.package_number ≡ 0
    → field_write t index r v p s m ≡ Finish (Ends Fault)
unfolding field_write
writes_none t index r v p s m lent = rw (lent, no_field t p index) refl

field_lent : (f : FieldOp) (p : Packages) (s : Frames) (m : MemoryState) → s.current.origin.package_number ≡ 0
    → field_instruction f p s m ≡ Finish (Ends Fault)
unfolding field_instruction getfield putfield getfield_this putfield_this getstatic putstatic
field_lent (GetStatic t index) p s m lent = rw (lent, no_static t p index) refl
field_lent (PutStatic t index) p s m lent = either (value_on t s.current.stack) _ (λ v. rw (lent, no_static t p index) refl)
field_lent (GetField t index) p s m lent = either (reference_on s.current.stack) _ (λ q. reads_none t index q.0 p (with_stack s q.1) m lent)
field_lent (PutField t index) p s m lent =
    either (value_on t s.current.stack) _ (λ v. either (reference_on v.1) _ (λ q. writes_none t index q.0 v.0 p (with_stack s q.1) m lent))
field_lent (GetFieldThis t index) p s m lent = either (this_for_more s) _ (λ r. reads_none t index r p s m lent)
field_lent (PutFieldThis t index) p s m lent =
    either (value_on t s.current.stack) _ (λ v. either (this_of s) _ (λ r. writes_none t index r v.0 p (with_stack s v.1) m lent))

call_lent : (i : InvokeOp) (place : ℕ) (p : Packages) (s : Frames) (m : MemoryState) → s.current.origin.package_number ≡ 0
    → invoke_instruction i place p s m ≡ Finish (Ends Fault)
unfolding invoke_instruction method_selection
call_lent (Virtual index) place p s m lent = rw (lent, no_target p index) refl
call_lent (Special index) place p s m lent = rw (lent, no_target p index) refl
call_lent (Static index) place p s m lent = rw (lent, no_target p index) refl
call_lent (Interface n index token) place p s m lent = rw (lent, no_target p index) refl

field_by : (b : Bool) (f : FieldOp) (p : Packages) (s : Frames) (m : MemoryState) → (s.current.origin.package_number == 0) ≡ b
    → if_had (Field f) s (field_instruction f p s m) ≡ field_instruction f p s m
field_by true f p s m e = rw e (sym (field_lent f p s m (eqb-true _ _ e)))
field_by false f p s m e = rw e refl

-- a package has each field instruction that does not end so anyway
pub had_field : (f : FieldOp) (p : Packages) (s : Frames) (m : MemoryState)
    → if_had (Field f) s (field_instruction f p s m) ≡ field_instruction f p s m
had_field f p s m = field_by (s.current.origin.package_number == 0) f p s m refl

call_by : (b : Bool) (i : InvokeOp) (place : ℕ) (p : Packages) (s : Frames) (m : MemoryState) → (s.current.origin.package_number == 0) ≡ b
    → if_had (Invoke i) s (invoke_instruction i place p s m) ≡ invoke_instruction i place p s m
call_by true i place p s m e = rw e (sym (call_lent i place p s m (eqb-true _ _ e)))
call_by false i place p s m e = rw e refl

-- the same of calls
pub had_call : (i : InvokeOp) (place : ℕ) (p : Packages) (s : Frames) (m : MemoryState)
    → if_had (Invoke i) s (invoke_instruction i place p s m) ≡ invoke_instruction i place p s m
had_call i place p s m = call_by (s.current.origin.package_number == 0) i place p s m refl
