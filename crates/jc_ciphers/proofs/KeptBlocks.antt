-- Blocks of a message of which the last stays open, and states of them.
use Rattle.std.proofs.Common.{◌≡◌, ◌∙◌, ◌≤◌, ◌<◌, ◌+◌, ◌-◌, ◌*◌, ◌/◌, ℕ, zero, suc, Bool, List, [], ◌∷◌, ◌++◌, true, false, append_assoc, length, length-append, replicate, slice_set, take, drop, refl, sym, ap, arith, if◌then◌else◌}
use Rattle.std.specs.Prelude.{nat_eq}
use Rattle.std.proofs.Math.Nat.{add-mul-div_left, div-eq_of_lt}
use Rattle.jc_ciphers.specs.Kept.{chain_in, next_state, open_in, ready_blocks, state_of}
use Rattle.jc_ciphers.specs.Modes.{IsUnderWay, chain_after}
use Rattle.jc_ciphers.proofs.Pieces.{rows_more}

no_rows : (n size : ℕ) → 1 ≤ size → n * size ≡ 0 → n ≡ 0
no_rows zero size some none = refl
no_rows (suc n) size some none = absurd (omega (arith, rows_more n size, none, some))

-- all blocks but the open one, which has bytes if the message has any, are ready
pub ready_before_open : (size n blocks left : ℕ) → 1 ≤ size → blocks * size + left ≡ n → left ≤ size → (1 ≤ n → 1 ≤ left)
    → ready_blocks true size n ≡ blocks
ready_before_open size zero blocks zero some all within left_open =
    div-eq_of_lt some ∙ sym (no_rows blocks size some (omega (arith, all)))
ready_before_open size zero blocks (suc left) some all within left_open = absurd (omega (arith, all))
ready_before_open size (suc n) blocks zero some all within left_open = let one = left_open (omega arith) in absurd (omega (arith, one))
ready_before_open size (suc n) blocks (suc left) some all within left_open =
    let swapped : blocks * size ≡ size * blocks = grind arith in
    let less : suc n - 1 ≡ left + size * blocks = omega (arith, all, swapped) in
    let part : left / size ≡ 0 = div-eq_of_lt (omega (arith, within)) in
    ap (λ (k : ℕ). k / size) less ∙ add-mul-div_left left blocks some ∙ omega (arith, part)

-- what a message leaves that is under way, of which the open block has bytes if it has any
pub taken : (f w : List ℕ → List ℕ → List ℕ) (size : ℕ) (first m c b : List ℕ) (left : ℕ) (out : List ℕ) (n : ℕ) → 1 ≤ size
    → IsUnderWay f w size first m c b left out → left ≤ size → n ≡ length m → (1 ≤ n → 1 ≤ left)
    → (c ≡ chain_after f size first m (ready_blocks true size n)) × (take left b ≡ drop (ready_blocks true size n * size) m)
taken f w size first m c b left out n some under within all left_open =
    let count : ready_blocks true size n ≡ under.blocks =
    ready_before_open size n under.blocks left some (under.long ∙ sym all) within left_open in (
      under.chain ∙ ap (chain_after f size first m) (sym count),
      under.rest ∙ ap (λ (k : ℕ). drop (k * size) m) (sym count),
    )

two_set : (s : List ℕ) (x y : ℕ) → 2 ≤ length s → take 2 (slice_set (slice_set s 0 x) 1 y) ≡ x ∷ y ∷ []
two_set [] x y long = absurd (omega (arith, long))
two_set (a ∷ []) x y long = absurd (omega (arith, long))
two_set (a ∷ b ∷ s) x y long = refl

-- a state that is written part by part
pub state_put : (s p q to chain rest : List ℕ) (n k : ℕ) → 2 ≤ length s
    → take (2 + length chain) p ≡ take 2 (slice_set (slice_set s 0 1) 1 n) ++ chain
    → take (2 + length chain + length rest) q ≡ take (2 + length chain) p ++ rest
    → to ≡ take (2 + length chain + length rest) q ++ replicate k 0 → k ≡ length chain - length rest
    → to ≡ 1 ∷ n ∷ chain ++ rest ++ replicate (length chain - length rest) 0
state_put s p q to chain rest n k long first second last zeros =
    last ∙ (λ j. (second ∙ ap (λ (xs : List ℕ). xs ++ rest) (first ∙ ap (λ (xs : List ℕ). xs ++ chain) (two_set s 1 n long))) j ++ replicate (zeros j) 0)

-- where nothing is open or comes, the state stays
pub nothing_next : (f : List ℕ → List ℕ → List ℕ) (size : ℕ) (vector state piece : List ℕ) (n : ℕ) → length (open_in size state ++ piece) ≡ n
    → nat_eq n 0 ≡ true → state ≡ next_state f size true vector state piece
unfolding next_state
nothing_next f size vector state piece n long none =
    let m : List ℕ = open_in size state ++ piece in
    let k : ℕ = ready_blocks true size (length m) in
    sym (ap (λ (b : Bool). if b then state else state_of size (chain_after f size (chain_in size vector state) m k) (drop (k * size) m))
    (ap (λ (l : ℕ). nat_eq l 0) long ∙ none))

-- else it is that of what was taken in
pub something_next : (f : List ℕ → List ℕ → List ℕ) (size : ℕ) (vector state piece chain rest chain' rest' : List ℕ) (n : ℕ)
    → chain ≡ chain_in size vector state → rest ≡ open_in size state → length (rest ++ piece) ≡ n → nat_eq n 0 ≡ false
    → chain' ≡ chain_after f size chain (rest ++ piece) (ready_blocks true size n)
    → rest' ≡ drop (ready_blocks true size n * size) (rest ++ piece) → state_of size chain' rest' ≡ next_state f size true vector state piece
unfolding next_state
something_next f size vector state piece chain rest chain' rest' n is_chain is_open long some next left =
    let m : List ℕ = open_in size state ++ piece in
    let k : ℕ = ready_blocks true size (length m) in
    let same : rest ++ piece ≡ m = ap (λ (xs : List ℕ). xs ++ piece) is_open in
    let count : n ≡ length m = sym long ∙ ap (λ (xs : List ℕ). length xs) same in
    (λ j. state_of size
    ((next ∙ (λ i. chain_after f size (is_chain i) (same i) (ready_blocks true size (count i)))) j)
    ((left ∙ (λ i. drop (ready_blocks true size (count i) * size) (same i))) j))
    ∙ sym (ap (λ (b : Bool). if b then state else state_of size (chain_after f size (chain_in size vector state) m k) (drop (k * size) m))
    (ap (λ (l : ℕ). nat_eq l 0) (sym count) ∙ some))

-- a message of which nothing is left went through by whole blocks
pub whole_through : (f w : List ℕ → List ℕ → List ℕ) (size : ℕ) (first m c b out : List ℕ) → 1 ≤ size → IsUnderWay f w size first m c b 0 out
    → c ≡ chain_after f size first m (length m / size)
whole_through f w size first m c b out some under =
    let swapped : under.blocks * size ≡ size * under.blocks = grind arith in
    let all : length m ≡ 0 + size * under.blocks = omega (arith, under.long, swapped) in
    let none : 0 / size ≡ 0 = div-eq_of_lt some in
    let count : length m / size ≡ under.blocks =
    ap (λ (k : ℕ). k / size) all ∙ add-mul-div_left 0 under.blocks some ∙ omega (arith, none) in
    under.chain ∙ ap (chain_after f size first m) (sym count)
