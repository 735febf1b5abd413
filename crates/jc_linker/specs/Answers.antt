-- What linking answers, want of memory aside.
use Rattle.std.specs.Prelude.{◌≡◌, ℕ, List, [], ◌∷◌, ◌++◌, Result, Ok, Err}
use Rattle.jc_linker.specs.declared.fault.LinkFault.{LinkFault}
use Rattle.jc_linker.specs.declared.fault.LinkFault.TheVariants.{ImportMissing, ImportVersion, Unresolved, NoMemory}

-- the fault is this, if it is not that memory was refused
abbrev pub IsFault : {Y : Type 0} → LinkFault → Result Y LinkFault → Type 0
IsFault NoMemory said = Unit {0}
IsFault ImportMissing said = said ≡ Err ImportMissing
IsFault ImportVersion said = said ≡ Err ImportVersion
IsFault (Unresolved index) said = said ≡ Err (Unresolved index)

-- What a function returned, seen by view, is this, if it was not that memory was refused.
abbrev pub Answers : {X Y : Type 0} → (X → Y) → Result X LinkFault → Result Y LinkFault → Type 0
Answers view (Ok x) said = said ≡ Ok (view x)
Answers view (Err e) said = IsFault e said

-- What a function that asks for no memory returned, seen by view, is this.
abbrev pub Tells : {X Y : Type 0} → (X → Y) → Result X LinkFault → Result Y LinkFault → Type 0
Tells view (Ok x) said = said ≡ Ok (view x)
Tells view (Err e) said = said ≡ Err e

-- first the one, and if it has no fault the other, with its value
abbrev pub then_on : {A B : Type 0} → Result A LinkFault → (A → Result B LinkFault) → Result B LinkFault
then_on (Ok x) f = f x
then_on (Err e) f = Err e

-- a list after others
unfoldable pub list_append : {A : Type 0} → List A → Result (List A) LinkFault → Result (List A) LinkFault
list_append xs (Ok ys) = Ok (xs ++ ys)
list_append xs (Err e) = Err e
