use Rattle.std.proofs.Common.{◌≡◌, ◌+◌, ◌*◌, ◌∙◌, List, ℕ, bit_xor, suc, slice_index, refl, ap, subst, arith}
use Rattle.std.proofs.lemmas.Nat.{xor_lt}
use Rattle.jc_ciphers.specs.Des.{bits_of, crypted, mangled, place_of, right_of, rounds, select, selected_bit, swapped}
use Rattle.jc_ciphers.specs.DesNumbers.{number_of, IsHalves, source}
use Rattle.jc_ciphers.specs.DesTables.{final_permutation, initial_permutation}
use Rattle.jc_ciphers.proofs.DesHalves.{IsBits-bits_of, IsBits-right_of, IsBits-rounds, IsBits-select, IsBits-swapped, block-number, bytes-are, halves-of, right-number, round-halves, selected-number, sources_final, sources_initial, swapped-number}
use Rattle.jc_ciphers.proofs.DesLists.{listed-at}
use Rattle.jc_ciphers.proofs.des.crypted.Goals as goal

pub rounds-init : goal.rounds-init
unfolding rounds
rounds-init c = (
  omega arith,
  λ bits are is.
      let block = c.args.block.now in
      let plain : List ℕ = bits_of block in
      let whole = c.from_be_bytes.ensures ∙ block-number block (λ k low. c.fits-block k) in
      halves-of (select initial_permutation plain) c.permuted-halves.result (IsBits-select initial_permutation plain (IsBits-bits_of block))
      (c.permuted-halves.ensures (slice_index plain) initial_permutation (IsBits-bits_of block) whole c.initial.ensures sources_initial
      ∙ selected-number initial_permutation plain refl),
)

pub rounds-preserved : goal.rounds-preserved
unfolding rounds
rounds-preserved c = (
  xor_lt 32 c.rounds.left c.mangled.result (omega arith) (omega arith),
  λ bits are is.
      let b = c.args.backwards in
      let block = c.args.block.now in
      let n = c.rounds.n in
      let first : List ℕ = select initial_permutation (bits_of block) in
      let now : List ℕ = rounds b bits first n in
      let now_bits = IsBits-rounds b bits first n (IsBits-select initial_permutation (bits_of block) (IsBits-bits_of block)) in
      let halves = c.rounds.invariant.1 bits are is in
      let mixed =
      c.mangled.ensures (right_of now) bits (IsBits-right_of now now_bits) are (right-number now c.rounds.right halves.right) is
      ∙ ap (λ (k : ℕ). number_of (slice_index (mangled (right_of now) bits k)) 32) c.place_of.ensures.place in
      let next : suc n ≡ n + 1 = omega arith in
      let P : ℕ → Type 0 = λ k. IsHalves (rounds b bits first k) c.rounds.right (bit_xor c.rounds.left c.mangled.result) in
      subst P next (round-halves now bits (place_of b n) c.rounds.left c.rounds.right c.mangled.result now_bits halves mixed),
)

pub overflow_mul-swapped : goal.overflow_mul-swapped
overflow_mul-swapped c = let low = c.rounds.invariant.0 in omega (arith, low)

pub overflow_add-swapped : goal.overflow_add-swapped
overflow_add-swapped c = let low = c.rounds.invariant.0 in omega (arith, low)

pub returns : goal.returns
unfolding crypted
returns c = λ bits are is.
    let b = c.args.backwards in
    let block = c.args.block.now in
    let first : List ℕ = select initial_permutation (bits_of block) in
    let last : List ℕ = rounds b bits first 16 in
    let last_bits = IsBits-rounds b bits first 16 (IsBits-select initial_permutation (bits_of block) (IsBits-bits_of block)) in
    let all : c.rounds.n ≡ 16 = omega arith in
    let P : ℕ → Type 0 = λ k. IsHalves (rounds b bits first k) c.rounds.left c.rounds.right in
    let halves = subst P all (c.rounds.invariant.1 bits are is) in
    let whole =
    (λ j. c.from.ensures j * 4294967296 + c.from-2.ensures j)
    ∙ swapped-number last c.rounds.left c.rounds.right halves in
    let g : ℕ → ℕ = λ j. slice_index (swapped last) (source final_permutation j) in
    let swapped_bits = IsBits-swapped last last_bits in
    let result = c.permuted.ensures (slice_index (swapped last)) final_permutation swapped_bits whole c.undoing.ensures sources_final in
    c.to_be_bytes.ensures
    ∙ bytes-are g (select final_permutation (swapped last)) c.permuted.result (λ j. swapped_bits (source final_permutation j))
    (λ j low. listed-at (selected_bit final_permutation (swapped last)) 64 j low) result
