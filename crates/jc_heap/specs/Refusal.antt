-- How refusals are passed on.
use Rattle.jc_commit.specs.declared.refusal.WriteRefusal.{WriteRefusal}
use Rattle.jc_commit.specs.declared.refusal.WriteRefusal.TheVariants as journal
use Rattle.jc_heap.specs.declared.refusal.ChangeRefusal.{ChangeRefusal}
use Rattle.jc_heap.specs.declared.refusal.ChangeRefusal.TheVariants as change
use Rattle.jc_heap.specs.declared.refusal.HeapRefusal.{HeapRefusal}
use Rattle.jc_heap.specs.declared.refusal.HeapRefusal.TheVariants.{StoreDown, CommitFull}

-- the journal's, of a change
abbrev pub change_refusal : WriteRefusal → ChangeRefusal
change_refusal journal.StoreDown = change.StoreDown
change_refusal journal.Full = change.CommitFull

-- a change's, of a call that makes something
abbrev pub heap_refusal : ChangeRefusal → HeapRefusal
heap_refusal change.StoreDown = StoreDown
heap_refusal change.CommitFull = CommitFull
