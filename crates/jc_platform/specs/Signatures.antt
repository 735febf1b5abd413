-- The platform's methods: the columns of their rows.
use Rattle.std.specs.Prelude.{ℕ, ◌+◌, Bool, true, false, ◌||◌, List, length, codes}
use Rattle.std.specs.Str.{bytes_eq}
use Rattle.jc_platform.specs.declared.kinds.Answer.{Answer}
use Rattle.jc_platform.specs.declared.kinds.ParameterKind.{ParameterKind}
use Rattle.jc_platform.specs.declared.kinds.Receiver.{Receiver}
use Rattle.jc_platform.specs.declared.kinds.Receiver.TheVariants.{Absent, Kept, Registered, Changed}
use Rattle.jc_platform.specs.declared.names.PlatformMethod.{PlatformMethod}
use Rattle.jc_platform.specs.NamePlaces.{entry_of_method}

-- its parameters after its receiver
unfoldable pub parameters_of : PlatformMethod → List ParameterKind
parameters_of m = (entry_of_method m).parameters

-- what it returns
unfoldable pub answer_of : PlatformMethod → Answer
answer_of m = (entry_of_method m).answer

-- what it does with the object that it is called on
unfoldable pub receiver_of : PlatformMethod → Receiver
receiver_of m = (entry_of_method m).receiver

-- how many cells a receiver has among the arguments
abbrev pub receiver_cells : Receiver → ℕ
receiver_cells Absent = 0
receiver_cells Kept = 1
receiver_cells Registered = 1
receiver_cells Changed = 1

-- how many cells its arguments have, the receiver among them
unfoldable pub argument_cells : PlatformMethod → ℕ
argument_cells m = length (entry_of_method m).parameters + receiver_cells (entry_of_method m).receiver

abbrev pub is_changed : Receiver → Bool
is_changed Absent = false
is_changed Kept = false
is_changed Registered = false
is_changed Changed = true

abbrev pub is_minded : Receiver → Bool
is_minded Absent = false
is_minded Kept = false
is_minded Registered = true
is_minded Changed = true

-- it may set cells of the object that it is called on
unfoldable pub sets_receiver : PlatformMethod → Bool
sets_receiver m = is_changed (entry_of_method m).receiver

-- it may set cells of the object that it is called on, or registers it as an applet
unfoldable pub minds_receiver : PlatformMethod → Bool
minds_receiver m = is_minded (entry_of_method m).receiver

abbrev pub is_constructor_name : List ℕ → Bool
is_constructor_name name = bytes_eq name (codes "<init>") || bytes_eq name (codes "<init>WithoutReason") || bytes_eq name (codes "<init>OfKeys")

-- a constructor: its name is <init>, or the one of the second that a class has
unfoldable pub is_constructor : PlatformMethod → Bool
is_constructor m = is_constructor_name (entry_of_method m).name
