-- Form 4 of calls: a call that sets cells of the object that it is called on, and then its state.
use Rattle.std.specs.Prelude.{ℕ, suc, ◌+◌, ◌≡◌, ◌≤◌, false, List, [], ◌∷◌, length, map, unwrap_or, Result, Ok, Err, if◌then◌else◌}
use Rattle.jc_transient.specs.Cell.{number_of}
use Rattle.jc_heap.specs.declared.object.Facts.{Facts}
use Rattle.jc_frames.specs.declared.cell.Cell.{Cell}
use Rattle.jc_frames.specs.declared.outcome.FrameExit.{FrameExit}
use Rattle.jc_frames.specs.declared.outcome.FrameExit.TheVariants.{End}
use Rattle.jc_frames.specs.declared.outcome.Outcome.TheVariants.{Fault}
use Rattle.jc_memory.specs.Cells.{cells_effect, cells_refusal}
use Rattle.jc_memory.specs.Programs.{Perform}
use Rattle.jc_memory.specs.State.{MemoryState, SetTransient}
use Rattle.jc_platform.specs.NamePlaces.{class_word}
use Rattle.jc_platform.specs.Hierarchy.{cells_of, holds_reference}
use Rattle.jc_platform.specs.declared.names.PlatformClass.{PlatformClass}
use Rattle.jc_linker.specs.Values.{Packages}
use Rattle.jc_world.specs.Answers.{and_then}
use Rattle.jc_world.specs.Instances.{instance_at}
use Rattle.jc_world.specs.NativeCalls.{NativeProgram, if_ok, return_value, unless}
use Rattle.jc_world.specs.Objects.{is_instance_of, reference_argument, some_or_fault}
use Rattle.jc_world.specs.declared.native_result.NativeResult.TheVariants.{ReturnVoid}
use Rattle.jc_api.specs.Changing.{StateWords, state_at}
use Rattle.jc_api.specs.Exits.{plainly}
use Rattle.jc_api.specs.Factory.{HasState}
use Rattle.jc_api.specs.declared.initializing.FieldValue.{FieldValue}
use Rattle.jc_api.specs.declared.initializing.FieldValue.TheVariants.{Argument, Word}

-- ---- the object that the call is on

abbrev pub own_of_class : PlatformClass → Packages → ℕ → Facts → Result ℕ FrameExit
own_of_class class p own f = if is_instance_of p f (class_word p.platform class) then Ok own else Err (End Fault)

-- the receiver of a call, an instance of this class with this many cells: null throws, and anything else is a code fault
unfoldable pub instance_called : PlatformClass → ℕ → List Cell → Packages → MemoryState → Result ℕ FrameExit
instance_called class cells args p m = and_then (some_or_fault (reference_argument args 0)) (λ own. and_then (instance_at m own cells) (own_of_class class p own))

-- ---- what a call answers

-- the word of a value: itself, or the reference that is an argument; null, where that is none. So no answer can name another object
abbrev pub word_given : List Cell → FieldValue → ℕ
word_given args (Word w) = w
word_given args (Argument i) = unwrap_or (reference_argument args i) 0

-- the words of several
abbrev pub words_given : List Cell → List FieldValue → List ℕ
words_given args values = map (word_given args) values

-- the class of the object, the values of its cells from one on, and the words of its state
pub record FieldsAnswer : Type 0 where
  pub class : PlatformClass
  pub start : ℕ
  pub values : List FieldValue
  pub state : StateWords

-- it sets cells from one on, and then the first cells of a state
abbrev pub sets_fields : PlatformClass → ℕ → List FieldValue → ℕ → List ℕ → FieldsAnswer
sets_fields class start values array words =
    record { class = class; start = start; values = values; state = record { array = array; start = 0; words = words } }

-- only an argument is put into a cell that holds a reference
abbrev pub AreFields : PlatformClass → ℕ → List FieldValue → Type 0
AreFields class i [] = Unit {0}
AreFields class i (Word w ∷ values) = (holds_reference class i ≡ false) × AreFields class (suc i) values
AreFields class i (Argument k ∷ values) = AreFields class (suc i) values

-- an answer for a class of objects with a state: each value stands in a cell of the class that may hold it
pub record FitsFields (a : FieldsAnswer) : Type 0 where
  pub class : HasState a.class
  pub within : a.start + length a.values ≤ cells_of a.class
  pub fields : AreFields a.class a.start a.values

-- ---- form 4

-- what such a call does: the receiver and the cells of its state are asked for, then room for its cells. These are set as one change, and then
-- the state, which nothing refuses
abbrev pub initializing_call : Result FieldsAnswer FrameExit → List Cell → Packages → MemoryState → NativeProgram
initializing_call answer args p m = if_ok (plainly answer) (λ a. if_ok (instance_called a.class (a.start + length a.values) args p m)
    (λ own. if_ok (state_at p m a.state.array a.state.start (length a.state.words)) (λ e. unless (cells_refusal m own a.start (words_given args a.values))
    (Perform (cells_effect m own a.start (words_given args a.values)) (Perform (SetTransient e.array e.start (map number_of a.state.words))
    (return_value ReturnVoid))))))
