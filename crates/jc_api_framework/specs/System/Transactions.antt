-- JCSystem's transactions (API specification; runtime environment specification, transactions and atomicity).
use Rattle.std.specs.Prelude.{ℤ, pos, ◌*◌, if◌then◌else◌}
use Rattle.std.specs.Int.{w16, cast_signed}
use Rattle.jc_heap.specs.Heap.{room_left}
use Rattle.jc_heap.specs.Moves.{Begin, Commit, Abort}
use Rattle.jc_frames.specs.Reasons.{in_progress, not_in_progress}
use Rattle.jc_memory.specs.declared.registers.Depth.{Depth}
use Rattle.jc_memory.specs.declared.registers.Depth.TheVariants.{Outside, Inside}
use Rattle.jc_memory.specs.declared.registers.Installation.{Installation}
use Rattle.jc_memory.specs.declared.registers.Installation.TheVariants.{Idle, Open, Registered}
use Rattle.jc_memory.specs.State.{MemoryState, Effect, HeapMove, SetRegisters}
use Rattle.jc_memory.specs.Programs.{Perform}
use Rattle.jc_world.specs.declared.native_result.NativeResult.TheVariants.{ReturnVoid, Aborted}
use Rattle.jc_world.specs.NativeCalls.{NativeProgram, return_value, throw_exception, code_fault}

-- the applet's own nesting level is set
abbrev pub set_level : MemoryState → Depth → Effect
set_level m depth = SetRegisters (record m.registers { depth = depth })

-- JCSystem.beginTransaction: the nesting level is 1; within an installation, which has a transaction open, that
-- is all
abbrev pub jc_system_begin_transaction : Depth → MemoryState → NativeProgram
jc_system_begin_transaction Inside m = throw_exception in_progress
jc_system_begin_transaction Outside m = if m.heap.begun then Perform (set_level m Inside) (return_value ReturnVoid) else Perform (HeapMove Begin)
    (Perform (set_level m Inside) (return_value ReturnVoid))

-- commitTransaction within a transaction of the applet
abbrev pub commit_of_applet : Installation → MemoryState → NativeProgram
commit_of_applet (Open home entry) m = Perform (set_level m Outside) (return_value ReturnVoid)
commit_of_applet Idle m = if m.heap.begun then Perform (HeapMove Commit) (Perform (set_level m Outside) (return_value ReturnVoid)) else Perform
    (set_level m Outside) (return_value ReturnVoid)
commit_of_applet (Registered home) m = if m.heap.begun then Perform (HeapMove Commit) (Perform (set_level m Outside) (return_value ReturnVoid)) else Perform
    (set_level m Outside) (return_value ReturnVoid)

-- JCSystem.commitTransaction: the nesting level is 0; the transaction of an installation stays open
abbrev pub jc_system_commit_transaction : Depth → MemoryState → NativeProgram
jc_system_commit_transaction Outside m = throw_exception not_in_progress
jc_system_commit_transaction Inside m = commit_of_applet m.registers.installation m

-- what follows an abort: an installation ends by a code fault
abbrev pub after_abort : Installation → NativeProgram
after_abort Idle = return_value Aborted
after_abort (Open home entry) = code_fault
after_abort (Registered home) = return_value Aborted

-- JCSystem.abortTransaction: all is as the transaction found it, transient references to what is gone are null;
-- an installation ends by a code fault
abbrev pub jc_system_abort_transaction : Depth → MemoryState → NativeProgram
jc_system_abort_transaction Outside m = throw_exception not_in_progress
jc_system_abort_transaction Inside m =
    if m.heap.begun then Perform (HeapMove Abort) (Perform (set_level m Outside) (after_abort m.registers.installation)) else Perform (set_level m Outside) (after_abort m.registers.installation)

-- JCSystem.getTransactionDepth: the nesting level
abbrev pub jc_system_get_transaction_depth : Depth → ℤ
jc_system_get_transaction_depth Outside = pos 0
jc_system_get_transaction_depth Inside = pos 1

-- JCSystem.getMaxCommitCapacity: the commit capacity in bytes, four for each word whose old value can be kept
abbrev pub jc_system_get_max_commit_capacity : MemoryState → ℤ
jc_system_get_max_commit_capacity m = cast_signed w16 (4 * m.heap.durable.capacity)

-- JCSystem.getUnusedCommitCapacity: what of it is left
abbrev pub jc_system_get_unused_commit_capacity : MemoryState → ℤ
jc_system_get_unused_commit_capacity m = cast_signed w16 (4 * room_left m.heap)
