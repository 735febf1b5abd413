-- The end of a message in pieces is that of the whole.
use Rattle.std.proofs.Common.{◌≡◌, ◌≢◌, ◌∙◌, ℕ, zero, suc, ◌+◌, ◌-◌, ◌*◌, ◌/◌, ◌%◌, ◌≤◌, ◌<◌, ◌&&◌, Bool, true, false, inl, inr, List, [], ◌++◌, div-add-mod', div-mul-le_self, drop, length, length-append, length-drop, length-take-le, mod-lt, nat_eq, ne_eqb, not, slice_index, take, if◌then◌else◌, refl, sym, ap, arith}
use Rattle.std.specs.Prelude.{Option, Some, None}
use Rattle.std.specs.Option.{option_and_then, option_map}
use Rattle.std.proofs.Math.Seq.{drop-append-add, take-append-add}
use Rattle.std.proofs.lemmas.Bool.{cases_lt, eqb-true}
use Rattle.jc_ciphers.specs.declared.padding.Padding.{Padding}
use Rattle.jc_ciphers.specs.Kept.Conversion.{ended_output, last_size, next_end, padded, unpadded, unpadded_size, whole_output}
use Rattle.jc_ciphers.specs.Kept.{chain_in, open_in, ready_blocks}
use Rattle.jc_ciphers.specs.Modes.{block_at, chain_after, output}
use Rattle.jc_ciphers.specs.Padding.{padding_of}
use Rattle.jc_ciphers.proofs.InPieces.{Holds, KeepsBlocks, length-chain_after, length_tail, output_later, ready_within, rows_sum, tail_of}
use Rattle.jc_ciphers.proofs.Pieces.{chain_after-append, output-append, rows_more}
use Rattle.jc_ciphers.proofs.Ready.{block_there, left_over, whole_before}

-- ---- blocks

length-output : (f g : List ℕ → List ℕ → List ℕ) (size : ℕ) (first m : List ℕ) (k : ℕ) → KeepsBlocks f size → KeepsBlocks g size
    → length first ≡ size → k * size ≤ length m → length (output f g size first m k) ≡ k * size
unfolding output KeepsBlocks
length-output f g size first m zero keeps made wide fits = omega arith
length-output f g size first m (suc k) keeps made wide fits =
    let more = rows_more k size in
    let chain : List ℕ = chain_after f size first m k in
    let block : List ℕ = block_at size m k in
    let long = length-chain_after f size first m k keeps wide (omega (arith, more, fits)) in
    let next = made chain block long (length-take-le size (drop (k * size) m) (omega (arith, more, fits, length-drop (k * size) m))) in
    let before = length-output f g size first m k keeps made wide (omega (arith, more, fits)) in
    omega (arith, length-append (output f g size first m k) (g chain block), before, next, more)

-- what is written of whole blocks, after what is written before them
whole_is : (f g : List ℕ → List ℕ → List ℕ) (size : ℕ) (first m : List ℕ) (k : ℕ) (c tail w : List ℕ) → 1 ≤ size → k * size ≤ length m
    → c ≡ chain_after f size first m k → tail ≡ drop (k * size) m → w ≡ output f g size first m k
    → (if nat_eq (length tail % size) 0 then Some (w ++ output f g size c tail (length tail / size)) else None) ≡ whole_output f g size first m
whole_is f g size first m k c tail w some fits chain is written =
    let n : ℕ = length tail in
    let q : ℕ = n / size in
    let r : ℕ = n % size in
    let long = length_tail size k m tail fits is in
    let parts : q * size + r ≡ n = div-add-mod' n size in
    let all : (k + q) * size + r ≡ length m = omega (arith, rows_sum k q size, parts, long) in
    let low : r < size = mod-lt n (omega (arith, some)) in
    let left : length m % size ≡ r = left_over size (length m) (k + q) r low all in
    let rows : length m / size ≡ k + q = whole_before size (length m) (k + q) r low all in
    let out : w ++ output f g size c tail q ≡ output f g size first m (length m / size) =
    (λ i. written i ++ output f g size (chain i) (is i) q) ∙ sym (output_later f g size first m k q) ∙ ap (output f g size first m) (sym rows) in
    λ i. if nat_eq (sym left i) 0 then Some (out i) else None

mapped : (w : List ℕ) (t : Bool) (x : List ℕ) → option_map (λ (o : List ℕ). w ++ o) (if t then Some x else None) ≡ (if t then Some (w ++ x) else None)
mapped w true x = refl
mapped w false x = refl

-- ---- with a padding

came_same : (a b n : ℕ) → (n ≡ 0 → a ≡ 0) → (n ≡ 0 → b ≡ 0) → (a ≡ 0 → b ≡ 0 → n ≡ 0) → (nat_eq a 0 && nat_eq b 0) ≡ nat_eq n 0
came_same zero zero n down down' up = sym (ap (λ (k : ℕ). nat_eq k 0) (up refl refl))
came_same zero (suc b) n down down' up =
    ap (λ (t : Bool). nat_eq 0 0 && t) (ne_eqb (suc b) 0 (λ e. omega (arith, e))) ∙ sym (ne_eqb n 0 (λ e. let z = down' e in omega (arith, z)))
came_same (suc a) b n down down' up =
    ap (λ (t : Bool). t && nat_eq b 0) (ne_eqb (suc a) 0 (λ e. omega (arith, e))) ∙ sym (ne_eqb n 0 (λ e. let z = down e in omega (arith, z)))

padded_later : (f g : List ℕ → List ℕ → List ℕ) (size : ℕ) (p : Padding) (came came' : Bool) (first m : List ℕ) (k : ℕ) (c tail w : List ℕ)
    → 1 ≤ size → k * size ≤ length m → c ≡ chain_after f size first m k → tail ≡ drop (k * size) m → w ≡ output f g size first m k → came ≡ came'
    → option_map (λ (o : List ℕ). w ++ o) (whole_output f g size c (padded p size came tail)) ≡ whole_output f g size first (padded p size came' m)
padded_later f g size p came came' first m k c tail w some fits chain is written same =
    let n : ℕ = length tail in
    let q : ℕ = n / size in
    let r : ℕ = n % size in
    let long = length_tail size k m tail fits is in
    let all : (k + q) * size + r ≡ length m = omega (arith, rows_sum k q size, div-add-mod' n size, long) in
    let left : length m % size ≡ r = left_over size (length m) (k + q) r (mod-lt n (omega (arith, some))) all in
    let padding : List ℕ = padding_of p size (last_size size came n) in
    let last : padding ≡ padding_of p size (last_size size came' (length m)) =
    λ i. padding_of p size (if nat_eq (sym left i) 0 then (if same i then size else 0) else sym left i) in
    let end : List ℕ = tail ++ padding in
    mapped w (nat_eq (length end % size) 0) (output f g size c end (length end / size))
    ∙ whole_is f g size first (m ++ padding) k c end w some (omega (arith, fits, length-append m padding))
    (chain ∙ sym (chain_after-append f size first m padding k fits)) (tail_of size k m padding tail fits is)
    (written ∙ sym (output-append f g size first m padding k fits))
    ∙ ap (λ (xs : List ℕ). whole_output f g size first (m ++ xs)) last

-- ---- without its padding

then_mapped : (w : List ℕ) (h : ℕ → List ℕ) (r : Option ℕ) → option_map (λ (o : List ℕ). w ++ o) (option_map h r) ≡ option_map (λ (n : ℕ). w ++ h n) r
then_mapped w h None = refl
then_mapped w h (Some n) = refl

unpadded_after : (p : Padding) (size : ℕ) (w y : List ℕ) → (length y ≡ 0 → length w ≡ 0) → (length y ≢ 0 → size ≤ length y)
    → option_map (λ (o : List ℕ). w ++ o) (unpadded p size y) ≡ unpadded p size (w ++ y)
unpadded_after p size w y nothing block =
    let cut : ℕ → List ℕ = λ n. take (length y - size + n) y in
    let cut' : ℕ → List ℕ = λ n. take (length (w ++ y) - size + n) (w ++ y) in
    let u : Option ℕ = unpadded_size p (drop (length y - size) y) in
    let u' : Option ℕ = unpadded_size p (drop (length (w ++ y) - size) (w ++ y)) in
    let sum = length-append w y in
    elim (cases_lt (length y) 1) as (λ _. option_map (λ (o : List ℕ). w ++ o) (unpadded p size y) ≡ unpadded p size (w ++ y)) [
      | inl none ↦
          let zero_long : length y ≡ 0 = omega (arith, none) in
          let before = nothing zero_long in
          let both : length (w ++ y) ≡ 0 = omega (arith, sum, zero_long, before) in
          ap (λ (n : ℕ). option_map (λ (o : List ℕ). w ++ o) (if nat_eq n 0 then None else option_map cut u)) zero_long
          ∙ sym (ap (λ (n : ℕ). if nat_eq n 0 then None else option_map cut' u') both)
      | inr one ↦
          let fits : size ≤ length y = block (λ e. omega (arith, e, one)) in
          let at : length (w ++ y) - size ≡ length w + (length y - size) = omega (arith, sum, fits) in
          let last : u ≡ u' =
          ap (unpadded_size p) (sym (ap (λ (n : ℕ). drop n (w ++ y)) at ∙ drop-append-add w y (length y - size))) in
          let front : (n : ℕ) → w ++ cut n ≡ cut' n = λ n.
          let place : length (w ++ y) - size + n ≡ length w + (length y - size + n) = omega (arith, sum, fits) in
          sym (ap (λ (i : ℕ). take i (w ++ y)) place ∙ take-append-add w y (length y - size + n)) in
          ap (λ (t : Bool). option_map (λ (o : List ℕ). w ++ o) (if t then None else option_map cut u)) (ne_eqb (length y) 0 (λ e. omega (arith, e, one)))
          ∙ then_mapped w cut u ∙ (λ i. option_map (λ (n : ℕ). front n i) (last i))
          ∙ sym (ap (λ (t : Bool). if t then None else option_map cut' u') (ne_eqb (length (w ++ y)) 0 (λ e. omega (arith, e, sum, one))))
    ]

unpadded_mapped : (p : Padding) (size : ℕ) (w : List ℕ) (t : Bool) (y : List ℕ)
    → (t ≡ true → option_map (λ (o : List ℕ). w ++ o) (unpadded p size y) ≡ unpadded p size (w ++ y))
    → option_map (λ (o : List ℕ). w ++ o) (option_and_then (unpadded p size) (if t then Some y else None))
    ≡ option_and_then (unpadded p size) (if t then Some (w ++ y) else None)
unpadded_mapped p size w true y same = same refl
unpadded_mapped p size w false y same = refl

-- ---- the end

pub ended_held : (f g : List ℕ → List ℕ → List ℕ) (size : ℕ) (holds : Bool) (p : Padding) (vector m piece state w : List ℕ) → 1 ≤ size
    → KeepsBlocks f size → KeepsBlocks g size → length vector ≡ size → Holds f g size holds vector m state w
    → option_map (λ (o : List ℕ). w ++ o) (next_end holds p f g size vector state piece)
    ≡ ended_output holds p f g size (not (nat_eq (length (m ++ piece)) 0)) vector (m ++ piece)
unfolding next_end
ended_held f g size false p vector m piece state w some keeps made wide held =
    let k : ℕ = ready_blocks false size (length m) in
    let fits = ready_within false size (length m) in
    let whole : List ℕ = m ++ piece in
    let tail : List ℕ = open_in size state ++ piece in
    let sum = length-append m piece in
    let is : tail ≡ drop (k * size) whole = tail_of size k m piece (open_in size state) fits held.rest in
    let within : k * size ≤ length whole = omega (arith, fits, sum) in
    let long = length_tail size k whole tail within is in
    let came : (nat_eq (slice_index state 0) 0 && nat_eq (length tail) 0) ≡ nat_eq (length whole) 0 =
    ap (λ (t : Bool). t && nat_eq (length tail) 0) held.came
    ∙ came_same (length m) (length tail) (length whole) (λ e. omega (arith, e, sum)) (λ e. omega (arith, e, long))
    (λ a b. omega (arith, a, b, fits, long)) in
    padded_later f g size p (not (nat_eq (slice_index state 0) 0 && nat_eq (length tail) 0)) (not (nat_eq (length whole) 0)) vector whole k
    (chain_in size vector state) tail w some within (held.chain ∙ sym (chain_after-append f size vector m piece k fits)) is
    (held.out ∙ sym (output-append f g size vector m piece k fits)) (ap not came)
ended_held f g size true p vector m piece state w some keeps made wide held =
    let k : ℕ = ready_blocks true size (length m) in
    let fits = ready_within true size (length m) in
    let before = div-mul-le_self (length m - 1) size in
    let whole : List ℕ = m ++ piece in
    let tail : List ℕ = open_in size state ++ piece in
    let c : List ℕ = chain_in size vector state in
    let n : ℕ = length tail in
    let q : ℕ = n / size in
    let y : List ℕ = output f g size c tail q in
    let sum = length-append m piece in
    let is : tail ≡ drop (k * size) whole = tail_of size k m piece (open_in size state) fits held.rest in
    let within : k * size ≤ length whole = omega (arith, fits, sum) in
    let long = length_tail size k whole tail within is in
    let chain_long : length c ≡ size =
    ap (λ (xs : List ℕ). length xs) held.chain ∙ length-chain_after f size vector m k keeps wide fits in
    let w_long : length w ≡ k * size = ap (λ (xs : List ℕ). length xs) held.out ∙ length-output f g size vector m k keeps made wide fits in
    let y_long : length y ≡ q * size = length-output f g size c tail q keeps made chain_long (div-mul-le_self n size) in
    let same : nat_eq (n % size) 0 ≡ true → option_map (λ (o : List ℕ). w ++ o) (unpadded p size y) ≡ unpadded p size (w ++ y) = λ t.
    let r = eqb-true (n % size) 0 t in
    let parts = div-add-mod' n size in
    unpadded_after p size w y (λ e. omega (arith, e, y_long, parts, r, long, sum, before, w_long)) (block_there q size (length y) y_long) in
    unpadded_mapped p size w (nat_eq (n % size) 0) y same
    ∙ ap (option_and_then (unpadded p size))
    (whole_is f g size vector whole k c tail w some within (held.chain ∙ sym (chain_after-append f size vector m piece k fits)) is
    (held.out ∙ sym (output-append f g size vector m piece k fits)))
