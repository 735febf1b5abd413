-- The store of a journal holds the journal's heap.
use Rattle.std.proofs.Common.{◌≡◌, ℕ, Bool, false, List, length, slice_index, sym, ◌∙◌, ap, subst}
use Rattle.jc_words.specs.Refusals.{Refusals}
use Rattle.jc_words.specs.Layout.{version, version_address}
use Rattle.jc_commit.specs.Image.{count_of, limit_of, plain_of, recovered_of, IsGoodLog}
use Rattle.jc_commit.specs.State.{State}
use Rattle.jc_heap.specs.Image.{IsWellFormed}
use Rattle.jc_heap.specs.Heap.{heap_of, heap_view}
use Rattle.jc_heap.specs.Heap.Store.{HoldsHeap}
use Rattle.jc_heap.proofs.RawWords.{recovered-head, head_is}

-- a store with these words is that of a journal
pub record IsStoreOf (w : List ℕ) (is_down : Bool) (let_pass : ℕ) (turned_down : Refusals) (j : State) : Type 0 where
  pub good : IsGoodLog w
  pub plain : plain_of w ≡ j.plain
  pub recovered : recovered_of w ≡ j.recovered
  pub size : limit_of w ≡ length j.recovered
  pub down : is_down ≡ j.down
  pub passed : let_pass ≡ j.passed
  pub refusals : turned_down ≡ j.refusals
  pub closed : j.down ≡ false → j.in_transaction ≡ false → count_of w ≡ 0
  pub current : slice_index w version_address ≡ version

pub holds : (w : List ℕ) (is_down : Bool) (let_pass : ℕ) (turned_down : Refusals) (j : State) (n : ℕ) → IsStoreOf w is_down let_pass turned_down j → IsWellFormed j.recovered
    → length j.recovered ≡ n → HoldsHeap w is_down let_pass turned_down (heap_view j n)
holds w is_down let_pass turned_down j n s back long =
    let laid : IsWellFormed (recovered_of w) = subst IsWellFormed (sym s.recovered) back in
    record {
      good = s.good;
      laid = laid;
      now = ap heap_of s.plain;
      durable = ap heap_of s.recovered;
      head = sym (recovered-head w s.good) ∙ sym (head_is (recovered_of w) laid) ∙ ap (λ l. (heap_of l).head) s.recovered;
      size = s.size ∙ long;
      down = s.down;
      passed = s.passed;
      refusals = s.refusals;
      rests = λ up outside. record { up = s.down ∙ up; good = s.good; laid = laid; closed = s.closed up outside; current = s.current };
    }
