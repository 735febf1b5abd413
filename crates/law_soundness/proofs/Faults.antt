-- Faults leave a machine sound: they change places and cells of the frame that runs, and put 0 or null in.
use Rattle.std.proofs.Common.{ℕ, inl, List, [], ◌∷◌, Option, Some, None, refl}
use Rattle.jc_heap.specs.Heap.{HeapState}
use Rattle.jc_heap.specs.WholeHeap.{IsReference}
use Rattle.jc_memory.specs.State.{MemoryState}
use Rattle.jc_linker.specs.Values.{Packages}
use Rattle.jc_frames.specs.declared.instr.BranchOp.{BranchOp}
use Rattle.jc_frames.specs.declared.instr.BranchOp.TheVariants.{If}
use Rattle.jc_frames.specs.declared.instr.Instr.{Instr}
use Rattle.jc_frames.specs.declared.instr.Instr.TheVariants as instr
use Rattle.jc_frames.specs.Table.{decode}
use Rattle.jc_frames.specs.declared.cell.Cell.{Cell}
use Rattle.jc_frames.specs.declared.cell.Cell.TheVariants.{Short, Reference, ReturnAddress}
use Rattle.jc_frames.specs.Frames.{Frames}
use Rattle.jc_interp.specs.declared.attacks.Attack.{Attack}
use Rattle.jc_interp.specs.declared.attacks.FaultModel.{FaultModel}
use Rattle.jc_interp.specs.declared.attacks.FaultModel.TheVariants.{Skip, Turn, Zero}
use Rattle.jc_interp.specs.Attacks.{attacked, faulted, opposite, skipped_instruction, turned_branch, turned_instruction, zero_like, zeroed_top}
use Rattle.jc_interp.specs.Step.{at_place}
use Rattle.jc_interp.proofs.Kept.{attacked_kept}
use Rattle.law_code.proofs.StackCells.{cell_taken}
use Rattle.law_soundness.specs.LivingReferences.{AreLivingCells, IsLivingCell}
use Rattle.law_soundness.specs.Machines.{IsSoundMachine}
use Rattle.law_soundness.specs.MachineLaws.Soundness.{FaultsAreSound, IsSoundNext}
use Rattle.law_soundness.proofs.LivingReferences.{more_living}
use Rattle.law_soundness.proofs.Machines.{framed, machine_of, stacked, under_of}
use Rattle.law_soundness.proofs.Plain.{keeps_branched}

-- the next instruction is at another place
pub placed : (p : Packages) (s : Frames) (m : MemoryState) (place : ℕ) → IsSoundMachine p s m → IsSoundMachine p (at_place s place) m
placed p s m place machine = machine_of p (at_place s place) m (under_of p s m machine) machine.code
    (record { locals = machine.living.current.locals; stack = machine.living.current.stack })

-- 0 and null are there
zero_living : (h : HeapState) (cell : Cell) → IsLivingCell h (zero_like cell)
zero_living h (Short x) = tt
zero_living h (Reference r) = inl refl
zero_living h (ReturnAddress a) = tt

zeroed_living : (h : HeapState) (cells : List Cell) → AreLivingCells h cells → AreLivingCells h (zeroed_top cells)
zeroed_living h [] all = all
zeroed_living h (cell ∷ rest) all =
    more_living h (zero_like cell) rest (zero_living h cell) (cell_taken (IsReference h) (cell ∷ rest) (cell, rest) all refl).1

module _ (p : Packages) (s : Frames) (m : MemoryState) (machine : IsSoundMachine p s m) where
  skipped_sound : (i : Option (Instr × ℕ)) → IsSoundNext p (skipped_instruction i s) m
  skipped_sound None = tt
  skipped_sound (Some i) = placed p s m i.1 machine

  branch_sound : (branch : BranchOp) (next : ℕ) (code : List ℕ) → IsSoundNext p (turned_instruction (instr.Branch branch) next code s) m
  branch_sound (If condition offset) next code = framed p (at_place s next) m (placed p s m next machine) _
      (keeps_branched m.heap.now code s.current.place (If (opposite condition) offset) (at_place s next).current
      (placed p s m next machine).living.current)
  branch_sound _ next code = machine

  turned_sound : (i : Instr) (next : ℕ) (code : List ℕ) → IsSoundNext p (turned_instruction i next code s) m
  turned_sound (instr.Branch branch) next code = branch_sound branch next code
  turned_sound _ next code = machine

  turned_at : (i : Option (Instr × ℕ)) (code : List ℕ) → IsSoundNext p (turned_branch i code s) m
  turned_at None code = tt
  turned_at (Some i) code = turned_sound i.0 i.1 code

  pub fault_sound : (model : FaultModel) (code : List ℕ) → IsSoundNext p (faulted model code s) m
  unfolding faulted
  fault_sound Skip code = skipped_sound (decode code s.current.place)
  fault_sound Turn code = turned_at (decode code s.current.place) code
  fault_sound Zero code = stacked p s m (zeroed_top s.current.stack) (zeroed_living m.heap.now s.current.stack machine.living.current.stack) machine

pub sound_before : (p : Packages) (s : Frames) (m : MemoryState) → IsSoundMachine p s m → (attack : Option Attack) (left : ℕ) (lent : List ℕ)
    → IsSoundNext p (attacked attack left lent p s) m
sound_before p s m machine attack left lent = attacked_kept (λ next. IsSoundNext p next m) lent p (λ t sound model code. fault_sound p t m sound model code)
    attack left s machine

pub faults_sound : FaultsAreSound
faults_sound = record {
  one = λ model code p s m machine. fault_sound p s m machine model code;
  all = λ attack left lent p s m machine. sound_before p s m machine attack left lent;
}
