-- How a call ends, whatever state it works on: with an answer, or torn by a loss of power. All layers say it in these words.
use Rattle.std.specs.Prelude.{Result, Ok, Err}
use Rattle.jc_heap.specs.declared.refusal.ChangeRefusal.{ChangeRefusal}
use Rattle.jc_heap.specs.declared.refusal.ChangeRefusal.TheVariants as change
use Rattle.jc_heap.specs.declared.refusal.HeapRefusal.{HeapRefusal}
use Rattle.jc_heap.specs.declared.refusal.HeapRefusal.TheVariants.{StoreDown, CommitFull, HeapFull, NoTransientSpace}

-- how a call ends that works on such a state: with an answer and the state that it left, or cut by the store, which left this one
pub data Completion (S A : Type 0) : Type 0 where
  Completed : A → S → Completion S A
  Torn : S → Completion S A

-- a refusal is an answer, but where the store is down
pub data Attempt (A : Type 0) : Type 0 where
  Done : A → Attempt A
  Refused : HeapRefusal → Attempt A

-- how a call ends that makes something: a refusal but that of the store is an answer
abbrev pub after_making : {S A : Type 0} → Result A HeapRefusal → S → Completion S (Attempt A)
after_making (Ok a) s = Completed (Done a) s
after_making (Err StoreDown) s = Torn s
after_making (Err CommitFull) s = Completed (Refused CommitFull) s
after_making (Err HeapFull) s = Completed (Refused HeapFull) s
after_making (Err NoTransientSpace) s = Completed (Refused NoTransientSpace) s

-- how a change ends
abbrev pub after_change : {S A : Type 0} → Result A ChangeRefusal → S → Completion S (Attempt A)
after_change (Ok a) s = Completed (Done a) s
after_change (Err change.StoreDown) s = Torn s
after_change (Err change.CommitFull) s = Completed (Refused CommitFull) s

-- how a call ends that nothing but the store refuses
abbrev pub after_step : {S A E : Type 0} → Result A E → S → Completion S A
after_step (Ok a) s = Completed a s
after_step (Err e) s = Torn s
