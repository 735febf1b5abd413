-- Form 5 of calls: a call that makes its receiver name two objects, each an argument or a new one.
use Rattle.std.specs.Prelude.{ℕ, ℤ, List, [], ◌∷◌, Result, Ok, Err}
use Rattle.jc_transient.specs.declared.cell.CellValue.TheVariants as value
use Rattle.jc_frames.specs.declared.cell.Cell.{Cell}
use Rattle.jc_frames.specs.declared.cell.Cell.TheVariants.{Reference}
use Rattle.jc_frames.specs.declared.outcome.FrameExit.{FrameExit}
use Rattle.jc_frames.specs.declared.outcome.FrameExit.TheVariants.{End}
use Rattle.jc_frames.specs.declared.outcome.Outcome.TheVariants.{Fault}
use Rattle.jc_memory.specs.Cells.{cells_effect, cells_refusal, word_of}
use Rattle.jc_memory.specs.Programs.{Perform, bind}
use Rattle.jc_memory.specs.State.{MemoryState}
use Rattle.jc_linker.specs.Values.{Packages}
use Rattle.jc_world.specs.Answers.{and_then}
use Rattle.jc_world.specs.NativeCalls.{NativeProgram, if_ok, return_value, unless}
use Rattle.jc_world.specs.Objects.{reference_argument, some_or_fault}
use Rattle.jc_world.specs.declared.native_result.NativeResult.{NativeResult}
use Rattle.jc_world.specs.declared.native_result.NativeResult.TheVariants.{Aborted, CallServer, ReturnValue, ReturnVoid}
use Rattle.jc_api.specs.Exits.{plainly}
use Rattle.jc_api.specs.Factory.{HasState, factory_call}
use Rattle.jc_api.specs.Initializing.{instance_called}
use Rattle.jc_api.specs.declared.pairing.NamedObject.{NamedObject}
use Rattle.jc_api.specs.declared.pairing.NamedObject.TheVariants.{Argument, New}
use Rattle.jc_api.specs.declared.pairing.NewPair.{NewPair}

-- how many cells of such a receiver are set: a number, and two references
abbrev pub pair_cells : ℕ
pair_cells = 3

-- a new object is of a class of objects with a state
abbrev pub HasStateIfNew : NamedObject → Type 0
HasStateIfNew (Argument i) = Unit {0}
HasStateIfNew (New e) = HasState e.class

-- the reference to an object that is to be named: an argument, or that to a new one, made as form 3 makes it
abbrev pub named_object : NamedObject → List Cell → Packages → MemoryState → NativeProgram
named_object (Argument i) args p m = if_ok (some_or_fault (reference_argument args i)) (λ r. return_value (ReturnValue (Reference r)))
named_object (New e) args p m = factory_call (Ok e) p m

-- the reference that was returned
abbrev pub named_in : NativeResult → Result ℕ FrameExit
named_in ReturnVoid = Err (End Fault)
named_in (ReturnValue cell) = some_or_fault (reference_argument (cell ∷ []) 0)
named_in (CallServer asked) = Err (End Fault)
named_in Aborted = Err (End Fault)

abbrev pub then_named : Result NativeResult FrameExit → (ℕ → NativeProgram) → NativeProgram
then_named answer go = if_ok (and_then answer named_in) go

-- the words of the receiver's cells
abbrev pub pair_words : ℤ → ℕ → ℕ → List ℕ
pair_words number first second = word_of (value.Short number) ∷ first ∷ second ∷ []

-- they are set as one change
abbrev pub names_both : NewPair → ℕ → ℕ → List Cell → Packages → MemoryState → NativeProgram
names_both a first second args p m = if_ok (instance_called a.class pair_cells args p m) (λ own.
    unless (cells_refusal m own 0 (pair_words a.number first second))
    (Perform (cells_effect m own 0 (pair_words a.number first second)) (return_value ReturnVoid)))

abbrev pub names_second : NewPair → ℕ → List Cell → Packages → MemoryState → NativeProgram
names_second a first args p m = bind (named_object a.second args p m) m (λ answer v. then_named answer (λ second. names_both a first second args p v))

-- what such a call does: the receiver is looked at, then the first object is made, if it is new, and then the second, each as if it were asked for
-- alone; then the receiver names both. Where the second is refused nothing names the first one
abbrev pub pairing_call : Result NewPair FrameExit → List Cell → Packages → MemoryState → NativeProgram
pairing_call answer args p m = if_ok (plainly answer) (λ a. if_ok (instance_called a.class pair_cells args p m) (λ own.
    bind (named_object a.first args p m) m (λ made v. then_named made (λ first. names_second a first args p v))))
