-- Converting pieces block by block.
use Rattle.std.proofs.Common.{◌≡◌, ◌≢◌, ℕ, zero, suc, ◌+◌, ◌*◌, ◌%◌, ◌≤◌, ◌<◌, List, [], ◌++◌, append_assoc, length, length-append, length-drop, length-take-le, take, drop, refl, sym, ap, ◌∙◌, arith}
use Rattle.std.proofs.Math.Seq.{take-add}
use Rattle.std.proofs.lemmas.List.{drop_all, take_all, take-append-le, drop-append-le}
use Rattle.std.proofs.lemmas.Nat.{mod-mul-add}
use Rattle.jc_ciphers.specs.Modes.{IsUnderWay, block_at, chain_after, output}

pub rows_more : (n size : ℕ) → suc n * size ≡ n * size + size
rows_more n size = grind arith

pub block-append : (size : ℕ) (m p : List ℕ) (n : ℕ) → suc n * size ≤ length m → block_at size (m ++ p) n ≡ block_at size m n
block-append size m p n fits =
    let more = rows_more n size in
    let before : n * size ≤ length m = omega (arith, more, fits) in
    let room : size ≤ length (drop (n * size) m) = omega (arith, more, fits, length-drop (n * size) m) in
    ap (take size) (drop-append-le (n * size) m p before) ∙ take-append-le size (drop (n * size) m) p room

-- what follows the blocks that are converted changes nothing
pub chain_after-append : (f : List ℕ → List ℕ → List ℕ) (size : ℕ) (first m p : List ℕ) (n : ℕ) → n * size ≤ length m
    → chain_after f size first (m ++ p) n ≡ chain_after f size first m n
unfolding chain_after
chain_after-append f size first m p zero fits = refl
chain_after-append f size first m p (suc n) fits =
    let more = rows_more n size in
    let before : n * size ≤ length m = omega (arith, more, fits) in
    λ j. f (chain_after-append f size first m p n before j) (block-append size m p n fits j)

pub output-append : (f g : List ℕ → List ℕ → List ℕ) (size : ℕ) (first m p : List ℕ) (n : ℕ) → n * size ≤ length m
    → output f g size first (m ++ p) n ≡ output f g size first m n
unfolding output
output-append f g size first m p zero fits = refl
output-append f g size first m p (suc n) fits =
    let more = rows_more n size in
    let before : n * size ≤ length m = omega (arith, more, fits) in
    λ j. output-append f g size first m p n before j ++ g (chain_after-append f size first m p n before j) (block-append size m p n fits j)

-- a part after the open block
pub part_put : (f g : List ℕ → List ℕ → List ℕ) (size : ℕ) (first m chain b b' part : List ℕ) (used end : ℕ) (out : List ℕ)
    → IsUnderWay f g size first m chain b used out → end ≡ used + length part → take (used + length part) b' ≡ take used b ++ part
    → IsUnderWay f g size first (m ++ part) chain b' end out
part_put f g size first m chain b b' part used end out was at put =
    let n : ℕ = was.blocks in
    let fits : n * size ≤ length m = omega (arith, was.long) in
    record {
      blocks = n;
      chain = was.chain ∙ sym (chain_after-append f size first m part n fits);
      long = omega (arith, was.long, length-append m part, at);
      rest = ap (λ (k : ℕ). take k b') at ∙ put ∙ ap (λ (xs : List ℕ). xs ++ part) was.rest ∙ sym (drop-append-le (n * size) m part fits);
      out = was.out ∙ sym (output-append f g size first m part n fits);
    }

-- a part of a piece after what was taken of it
pub joined : (m p : List ℕ) (d n k : ℕ) → k ≡ n → (m ++ take d p) ++ take k (drop d p) ≡ m ++ take (d + n) p
joined m p d n k same =
    ap (λ (j : ℕ). (m ++ take d p) ++ take j (drop d p)) same ∙ append_assoc m (take d p) (take n (drop d p))
    ∙ ap (λ (xs : List ℕ). m ++ xs) (sym (take-add d n p))

-- the open block, which is full, converted
pub block_done : (f g : List ℕ → List ℕ → List ℕ) (size : ℕ) (first m chain b chain' b' : List ℕ) (out out' : List ℕ)
    → IsUnderWay f g size first m chain b size out → length b ≡ size → chain' ≡ f chain b → b' ≡ g chain b → out' ≡ out ++ b'
    → IsUnderWay f g size first m chain' b' 0 out'
unfolding chain_after output
block_done f g size first m chain b chain' b' out out' was long next made all =
    let n : ℕ = was.blocks in
    let more = rows_more n size in
    let whole : length m ≡ suc n * size = omega (arith, was.long, more) in
    let tail : drop (n * size) m ≡ b = sym was.rest ∙ take_all size b (omega (arith, long)) in
    let block : block_at size m n ≡ b = ap (take size) tail ∙ take_all size b (omega (arith, long)) in
    record {
      blocks = suc n;
      chain = next ∙ (λ j. f (was.chain j) (sym block j));
      long = omega (arith, whole);
      rest = sym (drop_all (suc n * size) m (omega (arith, whole)));
      out = all ∙ (λ j. was.out j ++ (made ∙ (λ i. g (was.chain i) (sym block i))) j);
    }

-- where bytes are left of an open block, the message is not whole blocks
pub part_left : (size blocks left n : ℕ) → blocks * size + left ≡ n → left ≢ 0 → left < size → n % size ≡ 0 → ⊥
part_left size blocks left n all some part whole = some (sym (mod-mul-add blocks size left part) ∙ ap (λ (k : ℕ). k % size) all ∙ whole)

-- the open block alone is a message
pub open_block : (f g : List ℕ → List ℕ → List ℕ) (size : ℕ) (chain b : List ℕ) (used : ℕ) → used ≤ length b
    → IsUnderWay f g size chain (take used b) chain b used []
unfolding chain_after output
open_block f g size chain b used fits =
    let none : 0 ≡ 0 * size = omega arith in
    record {
      blocks = 0;
      chain = refl;
      long = omega (arith, length-take-le used b fits);
      rest = ap (λ (k : ℕ). drop k (take used b)) none;
      out = refl;
    }
