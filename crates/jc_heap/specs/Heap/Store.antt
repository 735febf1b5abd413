-- What a store is that holds a heap.
use Rattle.std.specs.Prelude.{ℕ, ◌≡◌, Bool, false, List, slice_index}
use Rattle.jc_words.specs.Refusals.{Refusals}
use Rattle.jc_words.specs.Layout.{version, version_address}
use Rattle.jc_commit.specs.Image.{count_of, limit_of, plain_of, recovered_of, IsGoodLog}
use Rattle.jc_heap.specs.Image.{IsWellFormed}
use Rattle.jc_heap.specs.Heap.{HeapView, head_of, heap_of, heap_at_rest}

-- a store with these words, which is down or not, is at rest: it is up, its words are a heap's, of the version that is written, and no
-- entry of the log counts
pub record IsAtRest (words : List ℕ) (is_down : Bool) : Type 0 where
  pub up : is_down ≡ false
  pub good : IsGoodLog words
  pub laid : IsWellFormed (recovered_of words)
  pub closed : count_of words ≡ 0
  pub current : slice_index words version_address ≡ version

-- the heap of a store at rest, which has let this number of writes pass and refused these
abbrev pub heap_of_store_at_rest : List ℕ → ℕ → Refusals → HeapView
heap_of_store_at_rest words passed refusals = heap_at_rest (heap_of (recovered_of words)) passed refusals (limit_of words)

-- a store with these words, which is down or not, has let this number of writes pass and refused these, holds this heap: its words stand
-- for the heap as it is, and a recovery of them leaves the durable one. The first three are not the journal's
pub record HoldsHeap (words : List ℕ) (is_down : Bool) (let_pass : ℕ) (turned_down : Refusals) (v : HeapView) : Type 0 where
  pub good : IsGoodLog words
  pub laid : IsWellFormed (recovered_of words)
  pub now : heap_of (plain_of words) ≡ v.now
  pub durable : heap_of (recovered_of words) ≡ v.durable
  pub head : head_of words ≡ v.durable.head
  pub size : limit_of words ≡ v.size
  pub down : is_down ≡ v.down
  pub passed : let_pass ≡ v.passed
  pub refusals : turned_down ≡ v.refusals
  -- outside a transaction nothing is to be recovered
  pub rests : v.down ≡ false → v.begun ≡ false → IsAtRest words is_down
