-- What a change of a heap has to know of the transaction is what its journal's change has to.
use Rattle.std.proofs.Common.{◌≡◌, ℕ, get_or, max}
use Rattle.std.proofs.lemmas.List.{length-take-le}
use Rattle.jc_words.specs.Layout.{top_address, addresses_start}
use Rattle.jc_commit.specs.Image.{capacity_of}
use Rattle.jc_commit.specs.Keep.{Keeping}
use Rattle.jc_commit.specs.State.{State, keeping as journal_keeping}
use Rattle.jc_heap.proofs.RawWords.{capacity_is}
use Rattle.jc_heap.specs.Image.{IsWellFormed}
use Rattle.jc_heap.specs.Heap.{heap_view, keeping, read_image}

abbrev keeping_from : State → ℕ → ℕ → Keeping
keeping_from j top capacity = record { begun = j.in_transaction; born = max addresses_start top; touched = j.touched; capacity = capacity }

pub keeping_view : (j : State) (n : ℕ) → IsWellFormed j.recovered → keeping (heap_view j n) ≡ journal_keeping j
unfolding read_image
keeping_view j n back =
    let top = length-take-le (get_or j.recovered top_address 0) j.recovered back.fits in
    let capacity = capacity_is j.recovered back in
    λ i. keeping_from j (top i) (capacity i)

-- two journals with the same transaction, whose recovered words have the same top, keep alike
pub keeping_same : (j k : State) → k.in_transaction ≡ j.in_transaction → k.touched ≡ j.touched
    → get_or k.recovered top_address 0 ≡ get_or j.recovered top_address 0 → capacity_of k.recovered ≡ capacity_of j.recovered
    → journal_keeping k ≡ journal_keeping j
keeping_same j k begun touched top capacity = λ i. record { begun = begun i; born = max addresses_start (top i); touched = touched i; capacity = capacity i }
