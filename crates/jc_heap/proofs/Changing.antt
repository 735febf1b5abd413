-- What a heap is after the journal changed words of it, and after a store stopped it.
use Rattle.std.proofs.Common.{◌≡◌, ℕ, ◌+◌, ◌<◌, ◌≤◌, Bool, true, false, List, ◌++◌, length, get_or, take, refl, sym, ◌∙◌, ap, subst, arith, if◌then◌else◌, ◌⊎◌, inl}
use Rattle.std.proofs.Common.{inr}
use Rattle.std.specs.Prelude.{MatchBool}
use Rattle.std.proofs.lemmas.List.{length-take, length-take-le, get_or-take}
use Rattle.std.proofs.lemmas.Bool.{false≢true}
use Rattle.jc_words.specs.Count.{saturating_count}
use Rattle.jc_words.specs.Refusals.{refused_once}
use Rattle.jc_words.specs.Layout.{top_address, text_start}
use Rattle.jc_commit.specs.Image.{with_words, top_of}
use Rattle.jc_commit.specs.Entries.{addresses_of}
use Rattle.jc_commit.specs.Keep.{Keeping, unlogged_addresses, writes_for as journal_writes}
use Rattle.jc_commit.specs.State.{State, keeping as journal_keeping, live_words, Changes, IsShort, IsTornWrite as JournalStopped}
use Rattle.jc_commit.specs.declared.refusal.WriteRefusal.{WriteRefusal}
use Rattle.jc_commit.specs.declared.refusal.WriteRefusal.TheVariants.{StoreDown, Full}
use Rattle.jc_heap.specs.Image.{image, base, missing_words_of_image, package_addresses, is_package, IsWellFormed}
use Rattle.jc_heap.specs.Heap.{HeapState, HeapView, heap_view, heap_of, read_image, heap_after_change, keeping, IsSound, IsTornChange, SameShape}
use Rattle.jc_heap.proofs.JournalViews.{keeping_view}

-- words that are live in the same way have the same top
pub top-live_words : (ws us : List ℕ) → IsWellFormed ws → live_words us ≡ live_words ws → get_or us top_address 0 ≡ get_or ws top_address 0
top-live_words ws us laid e =
    let long : length (take (get_or ws top_address 0) ws) ≡ get_or ws top_address 0 = length-take-le (get_or ws top_address 0) ws laid.fits in
    let same : length (take (get_or us top_address 0) us) ≡ length (take (get_or ws top_address 0) ws) = ap length e in
    let far : text_start ≤ get_or ws top_address 0 = omega (arith, laid.based) in
    let near : top_address < get_or us top_address 0 = omega (arith, length-take (get_or us top_address 0) us) in
    sym (get_or-take (get_or us top_address 0) us top_address 0 near) ∙ ap (λ l. get_or l top_address 0) e
    ∙ get_or-take (get_or ws top_address 0) ws top_address 0 (omega arith)

pub IsWellFormed-live_words : (ws us : List ℕ) → IsWellFormed ws → live_words us ≡ live_words ws → length us ≡ length ws → IsWellFormed us
IsWellFormed-live_words ws us laid e long =
    let top : get_or us top_address 0 ≡ get_or ws top_address 0 = top-live_words ws us laid e in
    record {
      based = let b : base (image us) ≡ base (image ws) = ap base e in omega (arith, laid.based);
      fits = omega (arith, laid.fits);
      whole = ap missing_words_of_image e ∙ laid.whole;
      packages = λ a le. ap (λ l. is_package (package_addresses l) a) e ∙ laid.packages a (omega arith);
    }

pub heap_of-live_words : (ws us : List ℕ) → live_words us ≡ live_words ws → heap_of us ≡ heap_of ws
heap_of-live_words ws us e = ap read_image e

pub shape-same : (h : HeapState) → SameShape h h
shape-same h = record { items = λ q le. refl; names = λ q le. refl; lasting = refl }

-- the recovered words after a change, by whether a transaction is open
record RecoveredAfter (b : Bool) (old new plain : List ℕ) : Type 0 where
  laid : IsWellFormed new
  order : top_of new ≤ top_of plain
  shape : SameShape (heap_of new) (heap_of plain)
  settled : b ≡ false → new ≡ plain

recovered_after : (b : Bool) (old new plain : List ℕ) → MatchBool b (live_words new ≡ live_words old) (new ≡ plain) → IsWellFormed old → length new ≡ length old
    →
    IsWellFormed plain → (b ≡ true → top_of old ≤ top_of plain) → (b ≡ true → SameShape (heap_of old) (heap_of plain)) → RecoveredAfter b old new plain
recovered_after true old new plain e laid long now order shape = record {
  laid = IsWellFormed-live_words old new laid e long;
  order = omega (arith, order refl, top-live_words old new laid e);
  shape = subst (λ h. SameShape h (heap_of plain)) (sym (heap_of-live_words old new e)) (shape refl);
  settled = λ f. absurd (false≢true (sym f));
}
recovered_after false old new plain e laid long now order shape = record {
  laid = subst IsWellFormed (sym e) now;
  order = omega (arith, ap (λ l. get_or l top_address 0) e);
  shape = subst (λ l. SameShape (heap_of l) (heap_of plain)) (sym e) (shape-same (heap_of plain));
  settled = λ _. e;
}

-- a change of words keeps a heap's journal sound
pub change_sound : (cs : List (ℕ × ℕ)) (k m : State) (n : ℕ) → Changes cs k m → k.down ≡ false → IsWellFormed k.recovered → length k.recovered ≡ n
    → length k.plain ≡ n → n < 65536 →
    IsWellFormed (with_words k.plain cs) → (k.in_transaction ≡ true → top_of k.recovered ≤ top_of (with_words k.plain cs)) →
    (k.in_transaction ≡ true → SameShape (heap_of k.recovered) (heap_of (with_words k.plain cs))) → IsSound m n
change_sound cs k m n c up back size_recovered size small now order shape =
    let r : RecoveredAfter k.in_transaction k.recovered m.recovered m.plain =
    recovered_after k.in_transaction k.recovered m.recovered m.plain c.recovered back c.size_recovered (subst IsWellFormed (sym c.plain) now)
    (λ e. subst (λ l. top_of k.recovered ≤ top_of l) (sym c.plain) (order e)) (λ e. subst (λ l. SameShape (heap_of k.recovered) (heap_of l)) (sym c.plain)
    (shape e)) in
    record {
      back = r.laid;
      size_recovered = c.size_recovered ∙ size_recovered;
      small = small;
      now = λ _. subst IsWellFormed (sym c.plain) now;
      size_now = λ _. c.size ∙ size;
      order = λ _. r.order;
      shape = λ _. r.shape;
      settled = λ _ closed. r.settled (sym c.in_transaction ∙ closed);
    }

durable_after : (b : Bool) (old new plain : List ℕ) (h : HeapState) → MatchBool b (live_words new ≡ live_words old) (new ≡ plain) → heap_of plain ≡ h →
    heap_of new ≡ (if b then heap_of old else h)
durable_after true old new plain h e is = heap_of-live_words old new e
durable_after false old new plain h e is = ap heap_of e ∙ is

-- and it is a change of the heap
pub change_view : (cs : List (ℕ × ℕ)) (k m : State) (n : ℕ) (h : HeapState) → IsWellFormed k.recovered → Changes cs k m
    → heap_of (with_words k.plain cs) ≡ h →
    heap_view m n ≡ heap_after_change (heap_view k n) h (addresses_of cs) 0
change_view cs k m n h back c is =
    let same : journal_keeping k ≡ keeping (heap_view k n) = sym (keeping_view k n back) in
    let now : heap_of m.plain ≡ h = ap heap_of c.plain ∙ is in
    let durable : heap_of m.recovered ≡ (if k.in_transaction then heap_of k.recovered else h) =
    durable_after k.in_transaction k.recovered m.recovered m.plain h c.recovered now in
    let count : journal_writes (keeping (heap_view k n)) (addresses_of cs) ≡ 0 + journal_writes (keeping (heap_view k n)) (addresses_of cs) = omega arith in
    let passed : m.passed ≡ saturating_count k.passed (0 + journal_writes (keeping (heap_view k n)) (addresses_of cs)) = c.passed
    ∙ ap (λ (p : Keeping). saturating_count k.passed (journal_writes p (addresses_of cs))) same ∙ ap (saturating_count k.passed) count in
    let touched : m.touched ≡ k.touched ++ unlogged_addresses (keeping (heap_view k n)) (addresses_of cs) = c.touched
    ∙ ap (λ (p : Keeping). k.touched ++ unlogged_addresses p (addresses_of cs)) same in
    λ i. record {
      now = now i;
      durable = durable i;
      begun = c.in_transaction i;
      touched = touched i;
      down = c.down i;
      passed = passed i;
      refusals = c.refusals i;
      size = n;
    }

-- a refused write leaves what a recovery leaves
pub stopped_sound : (k m : State) (n : ℕ) → live_words m.recovered ≡ live_words k.recovered → length m.recovered ≡ length k.recovered → m.down ≡ true
    → IsWellFormed k.recovered → length k.recovered ≡ n → n < 65536 → IsSound m n
stopped_sound k m n same long down back size small = record {
  back = IsWellFormed-live_words k.recovered m.recovered back same long;
  size_recovered = long ∙ size;
  small = small;
  now = λ up. absurd (false≢true (sym up ∙ down));
  size_now = λ up. absurd (false≢true (sym up ∙ down));
  order = λ up. absurd (false≢true (sym up ∙ down));
  shape = λ up. absurd (false≢true (sym up ∙ down));
  settled = λ up _. absurd (false≢true (sym up ∙ down));
}

pub stopped_view : (writes : ℕ) (k m : State) (v : HeapView) (n : ℕ) → heap_view k n ≡ v → live_words m.recovered ≡ live_words k.recovered → m.down ≡ true
    → k.passed ≤ m.passed → IsShort writes k.passed m.passed → m.refusals ≡ refused_once k.down m.passed k.refusals
    → IsTornChange writes v (heap_view m n)
stopped_view writes k m v n is same down from short refusals = subst (λ u. IsTornChange writes u (heap_view m n)) is
    (record { durable = heap_of-live_words k.recovered m.recovered same; down = down; from = from; short = short; refusals = refusals; size = refl })

pub journal_stopped_sound : (writes : ℕ) (k m : State) (n : ℕ) → JournalStopped writes k m → IsSound k n → IsSound m n
journal_stopped_sound writes k m n st s = stopped_sound k m n st.recovered st.size_recovered st.down s.back s.size_recovered s.small

pub refusal_cases : (e : WriteRefusal) → (e ≡ StoreDown) ⊎ (e ≡ Full)
refusal_cases StoreDown = inl refl
refusal_cases Full = inr refl

-- a store that is up for the heap is up for its journal
pub up_is : (j : State) (v : HeapView) (n : ℕ) → heap_view j n ≡ v → v.down ≡ false → j.down ≡ false
up_is j v n is up = ap (λ u. u.down) is ∙ up

-- a journal whose words are the same as those that a recovery leaves
pub same_sound : (j : State) (n : ℕ) (ws : List ℕ) → j.plain ≡ ws → j.recovered ≡ ws → IsWellFormed ws → length ws ≡ n → n < 65536 → IsSound j n
same_sound j n ws plain recovered laid long small = record {
  back = subst IsWellFormed (sym recovered) laid;
  size_recovered = ap length recovered ∙ long;
  small = small;
  now = λ _. subst IsWellFormed (sym plain) laid;
  size_now = λ _. ap length plain ∙ long;
  order = λ _. omega (arith, ap (λ l. get_or l top_address 0) plain, ap (λ l. get_or l top_address 0) recovered);
  shape = λ _. subst (λ l. SameShape (heap_of j.recovered) (heap_of l)) (recovered ∙ sym plain) (shape-same (heap_of j.recovered));
  settled = λ _ _. recovered ∙ sym plain;
}
