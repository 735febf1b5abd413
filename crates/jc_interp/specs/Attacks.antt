-- Attacks: a fault that comes before an instruction of a command, another that may come after it, and what they leave of the frames.
use Rattle.std.specs.Option.{option_map}
use Rattle.std.specs.Prelude.{ℕ, ◌≡◌, ◌<◌, ◌≤◌, ◌==◌, ◌+◌, ◌-◌, not, pos, Bool, List, [], ◌∷◌, Option, Some, None, if◌then◌else◌}
use Rattle.jc_memory.specs.State.{MemoryState}
use Rattle.jc_memory.specs.Programs.{Program, Finish}
use Rattle.jc_linker.specs.Values.{Packages}
use Rattle.jc_frames.specs.declared.instr.BranchOp.TheVariants.{If}
use Rattle.jc_frames.specs.declared.instr.Comparison.{Comparison}
use Rattle.jc_frames.specs.declared.instr.Comparison.TheVariants.{Equal, NotEqual, Less, GreaterOrEqual, Greater, LessOrEqual}
use Rattle.jc_frames.specs.declared.instr.Condition.{Condition}
use Rattle.jc_frames.specs.declared.instr.Condition.TheVariants as conditions
use Rattle.jc_frames.specs.declared.instr.Instr.{Instr}
use Rattle.jc_frames.specs.declared.instr.Instr.TheVariants.{Branch}
use Rattle.jc_frames.specs.Table.{decode}
use Rattle.jc_frames.specs.declared.cell.Cell.{Cell}
use Rattle.jc_frames.specs.declared.cell.Cell.TheVariants.{Short, Reference, ReturnAddress}
use Rattle.jc_frames.specs.declared.outcome.Outcome.TheVariants.{Fault}
use Rattle.jc_frames.specs.BranchOps.{branch_instruction, condition_on}
use Rattle.jc_frames.specs.Frames.{Frames, Next, GoesOn, Throws, Ends, in_frame, with_stack}
use Rattle.jc_interp.specs.declared.attacks.Attack.{Attack}
use Rattle.jc_interp.specs.declared.attacks.Budget.{Budget}
use Rattle.jc_interp.specs.declared.attacks.FaultModel.{FaultModel}
use Rattle.jc_interp.specs.declared.attacks.FaultModel.TheVariants.{Skip, Turn, Zero}
use Rattle.jc_interp.specs.declared.attacks.LaterFault.{LaterFault}
use Rattle.jc_interp.specs.Step.{at_place, code_of, machine_step}

-- this many instructions, and no attack
abbrev pub undisturbed : ℕ → Budget
undisturbed left = record { left = left; attack = None }

-- ---- an instruction is skipped

-- on with the instruction after it
abbrev pub skipped_instruction : Option (Instr × ℕ) → Frames → Next Frames
skipped_instruction None s = Ends Fault
skipped_instruction (Some i) s = GoesOn (at_place s i.1)

-- the frames after the instruction at their place was skipped; a code fault where there is none
abbrev pub skipped : List ℕ → Frames → Next Frames
skipped code s = skipped_instruction (decode code s.current.place) s

-- ---- a conditional branch goes the other way

-- the comparison that holds where another does not
abbrev pub opposite_comparison : Comparison → Comparison
opposite_comparison Equal = NotEqual
opposite_comparison NotEqual = Equal
opposite_comparison Less = GreaterOrEqual
opposite_comparison GreaterOrEqual = Less
opposite_comparison Greater = LessOrEqual
opposite_comparison LessOrEqual = Greater

-- the condition that holds where another does not
abbrev pub opposite : Condition → Condition
opposite (conditions.Zero comparison) = conditions.Zero (opposite_comparison comparison)
opposite conditions.IsNull = conditions.NotNull
opposite conditions.NotNull = conditions.IsNull
opposite conditions.SameReference = conditions.OtherReference
opposite conditions.OtherReference = conditions.SameReference
opposite (conditions.Shorts comparison) = conditions.Shorts (opposite_comparison comparison)

-- it holds of cells exactly where the other does not, and takes the same cells
abbrev pub OppositesDiffer : Type 0
OppositesDiffer = (condition : Condition) (cells : List Cell) → condition_on (opposite condition) cells
    ≡ option_map (λ p. (not p.0, p.1)) (condition_on condition cells)

-- a conditional branch is carried out as the one on the opposite condition; any other instruction is still to come
abbrev pub turned_instruction : Instr → ℕ → List ℕ → Frames → Next Frames
turned_instruction (Branch (If condition offset)) next code s =
    in_frame s (branch_instruction code s.current.place (If (opposite condition) offset) (record s.current { place = next }))
turned_instruction other next code s = GoesOn s

abbrev pub turned_branch : Option (Instr × ℕ) → List ℕ → Frames → Next Frames
turned_branch None code s = Ends Fault
turned_branch (Some i) code s = turned_instruction i.0 i.1 code s

-- the frames after the conditional branch at their place went the other way; as they were where another instruction stands there; a code
-- fault where there is none, where the branch finds other cells than it needs, or where the other way leads out of the method
abbrev pub turned : List ℕ → Frames → Next Frames
turned code s = turned_branch (decode code s.current.place) code s

-- ---- a value is 0

-- the short 0 for a short, and null for a reference; a return address stays
abbrev pub zero_like : Cell → Cell
zero_like (Short x) = Short (pos 0)
zero_like (Reference r) = Reference 0
zero_like (ReturnAddress a) = ReturnAddress a

abbrev pub zeroed_top : List Cell → List Cell
zeroed_top [] = []
zeroed_top (cell ∷ rest) = zero_like cell ∷ rest

-- the frames after the value on top of the stack became 0
abbrev pub zeroed : Frames → Frames
zeroed s = with_stack s (zeroed_top s.current.stack)

-- ---- faults, and the step after them

-- the frames after a fault: it changes nothing but the frame that runs
unfoldable pub faulted : FaultModel → List ℕ → Frames → Next Frames
faulted Skip code s = skipped code s
faulted Turn code s = turned code s
faulted Zero code s = GoesOn (zeroed s)

-- the frames after a fault, if it comes now
abbrev pub faulted_if : Bool → FaultModel → List ℕ → Packages → Frames → Next Frames
faulted_if comes model lent p s = if comes then faulted model (code_of lent p s.current.origin.package_number) s else GoesOn s

-- the frames after the later fault, if it comes now: this many of the command's instructions were left as the first one came, and this many are left
abbrev pub faulted_later : Option LaterFault → ℕ → ℕ → List ℕ → Packages → Frames → Next Frames
faulted_later None first left lent p s = GoesOn s
faulted_later (Some fault) first left lent p s = faulted_if (left + fault.after == first) fault.model lent p s

-- on from the frames that a fault left, if they go on
abbrev pub then_later : Next Frames → Option LaterFault → ℕ → ℕ → List ℕ → Packages → Next Frames
then_later (GoesOn s) later first left lent p = faulted_later later first left lent p s
then_later (Throws e s) later first left lent p = Throws e s
then_later (Ends o) later first left lent p = Ends o

-- the frames before a step, as this many of the command's instructions are left: after each fault that comes now, the first one before the later one
abbrev pub attacked : Option Attack → ℕ → List ℕ → Packages → Frames → Next Frames
attacked None left lent p s = GoesOn s
attacked (Some attack) left lent p s =
    then_later (faulted_if (attack.left == left) attack.model lent p s) attack.later attack.left left lent p

-- a step from the frames that a fault left
abbrev pub step_from : Next Frames → List ℕ → Packages → MemoryState → Program (Next Frames)
step_from (GoesOn s) lent p m = machine_step lent p s m
step_from (Throws e s) lent p m = Finish (Ends Fault)
step_from (Ends o) lent p m = Finish (Ends o)

-- one step, as this many of the command's instructions are left, after each fault that comes now
abbrev pub attacked_step : Option Attack → ℕ → List ℕ → Packages → Frames → MemoryState → Program (Next Frames)
attacked_step attack left lent p s m = step_from (attacked attack left lent p s) lent p m

-- no fault comes while at most the first number of instructions are left, and more than the second: each step finds the frames as they are
abbrev pub IsAway : Option Attack → ℕ → ℕ → Type 0
IsAway attack most least = (left : ℕ) → least < left → left ≤ most → (lent : List ℕ) (p : Packages) (s : Frames) → attacked attack left lent p s ≡ GoesOn s

-- ---- what is left of an attack

-- a fault as this many instructions are left, and none later
abbrev pub one_fault : ℕ → FaultModel → Attack
one_fault left model = record { left = left; model = model; later = None }

-- the later fault of an attack alone, if it has one
abbrev pub later_attack : Attack → Option Attack
later_attack attack = option_map (λ fault. one_fault (attack.left - fault.after) fault.model) attack.later
