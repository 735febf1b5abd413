-- No arm leaves the method.
use Rattle.std.proofs.Common.{refl}
use Rattle.jc_frames.specs.ConstantOps.{constant_instruction}
use Rattle.jc_frames.specs.LocalOps.{local_instruction}
use Rattle.jc_frames.specs.StackOps.{stack_instruction}
use Rattle.jc_frames.specs.ArithmeticOps.{arithmetic_instruction}
use Rattle.jc_frames.specs.BranchOps.{branch_instruction}
use Rattle.jc_interp.proofs.Origins.{same_origin, put_stays, accessed_stays, arranged_stays, computed_stays, branched_stays}
use Rattle.jc_interp.proofs.frames_only.carry_out.Goals as goal
use Rattle.jc_interp.proofs.frames_only.carry_out.Goals.{in-Nop, in-Constant+in_ok-constant_instruction-in-Constant, in-Local+in_ok-local_instruction-in-Local}
use Rattle.jc_interp.proofs.frames_only.carry_out.Goals.{in-Stack+in_ok-stack_instruction-in-Stack, in-Arithmetic+in_ok-arithmetic_instruction-in-Arithmetic}
use Rattle.jc_interp.proofs.frames_only.carry_out.Goals.{in-Branch+in_ok-branch_instruction-in-Branch}

pub returns-clause-origin : goal.returns-clause-origin
returns-clause-origin g c =
    let s = c.args.frames.now in
    elim c.match-instr.branch [
      | in-Nop w ↦ rw w.frames-is refl
      | in-Constant+in_ok-constant_instruction-in-Constant w ↦ rw w.frames-is (same_origin s _ (constant_instruction w.in-Constant.constant s.current)
          (put_stays s.current w.in-Constant.constant) w.in_ok-constant_instruction-in-Constant.ensures)
      | in-Local+in_ok-local_instruction-in-Local w ↦ rw w.frames-is (same_origin s _ (local_instruction w.in-Local.local s.current)
          (accessed_stays s.current w.in-Local.local) w.in_ok-local_instruction-in-Local.ensures)
      | in-Stack+in_ok-stack_instruction-in-Stack w ↦ rw w.frames-is (same_origin s _ (stack_instruction w.in-Stack.stack s.current)
          (arranged_stays s.current w.in-Stack.stack) w.in_ok-stack_instruction-in-Stack.ensures)
      | in-Arithmetic+in_ok-arithmetic_instruction-in-Arithmetic w ↦ rw w.frames-is
          (same_origin s _ (arithmetic_instruction w.in-Arithmetic.arithmetic s.current)
          (computed_stays s.current w.in-Arithmetic.arithmetic) w.in_ok-arithmetic_instruction-in-Arithmetic.ensures)
      | in-Branch+in_ok-branch_instruction-in-Branch w ↦ rw w.frames-is (same_origin s _
          (branch_instruction c.args.code.now w.from.result w.in-Branch.to s.current)
          (branched_stays s.current c.args.code.now w.from.result w.in-Branch.to) w.in_ok-branch_instruction-in-Branch.ensures)
    ]
