-- Points as bytes.
use Rattle.std.proofs.Common.{◌≡◌, ℕ, suc, ◌+◌, ◌-◌, ◌*◌, ◌%◌, ◌^◌, ◌<◌, ◌≤◌, List, [], ◌∷◌, ◌++◌, append-nil, length, length-append, take, drop, slice_set, subst, refl, sym, ap, ◌∙◌, arith}
use Rattle.std.proofs.lemmas.List.{drop_all, length-drop, length-set, length-take-le}
use Rattle.std.proofs.lemmas.Slice.{take-put_mid}
use Rattle.std.proofs.Math.Nat.{mod-eq_of_lt, pow-le-pow_right}
use Rattle.std.proofs.Math.Seq.{drop-append_seam}
use borrow.Rule.Slice.PartMut.{put_mid}
use Rattle.jc_numbers.specs.Numbers.{IsBitLength, number_of_bytes}
use Rattle.jc_numbers.proofs.ModulusLaws.{kept}
use Rattle.jc_numbers.proofs.NumbersOfBytes.{byte_power}
use Rattle.jc_curves.specs.Curves.{IsEncodedPoint, octets}

-- what is left after a write of 04, x and y
pub written_law : (to x y : List ℕ) (size : ℕ) → 0 < length to → length x ≡ size
    → put_mid (1 + size) (length (put_mid 1 (1 + size - 1) (slice_set to 0 4) x) - (1 + size)) (put_mid 1 (1 + size - 1) (slice_set to 0 4) x) y
    ≡ 4 ∷ (x ++ y)
written_law [] x y size some long = absurd (omega (arith, some))
written_law (h ∷ rest) x y size some long =
    let middle : List ℕ = put_mid 1 (1 + size - 1) (4 ∷ rest) x in
    let front : take (1 + size) middle ≡ 4 ∷ x = take-put_mid 1 (1 + size - 1) (4 ∷ rest) x (1 + size) (omega (arith, long)) (omega arith) in
    let end : List ℕ = drop (length middle - (1 + size)) (drop (1 + size) middle) in
    let none : end ≡ [] = drop_all (length middle - (1 + size)) (drop (1 + size) middle) (omega (arith, length-drop (1 + size) middle)) in
    (λ i. front i ++ (y ++ none i)) ∙ ap (λ (zs : List ℕ). 4 ∷ (x ++ zs)) (append-nil y)

-- the parts that are written are as long as a coordinate
pub first_part : (to : List ℕ) (size : ℕ) → length to ≡ 1 + 2 * size → length (take (1 + size - 1) (drop 1 (slice_set to 0 4))) ≡ size
first_part to size long =
    let t : List ℕ = slice_set to 0 4 in
    let room : 1 + size - 1 ≤ length (drop 1 t) = omega (arith, length-drop 1 t, length-set to 0 4, long) in
    length-take-le (1 + size - 1) (drop 1 t) room ∙ omega arith

pub second_part : (to x : List ℕ) (size : ℕ) → length to ≡ 1 + 2 * size → length x ≡ size
    → length (take (length (put_mid 1 (1 + size - 1) (slice_set to 0 4) x) - (1 + size)) (drop (1 + size) (put_mid 1 (1 + size - 1) (slice_set to 0 4) x)))
    ≡ size
second_part to x size long long_x =
    let t : List ℕ = slice_set to 0 4 in
    let post : List ℕ = drop (1 + size - 1) (drop 1 t) in
    let middle : List ℕ = put_mid 1 (1 + size - 1) t x in
    let set : length t ≡ 1 + 2 * size = length-set to 0 4 ∙ long in
    let front : length (take 1 t) ≡ 1 = length-take-le 1 t (omega (arith, set)) in
    let whole : length middle ≡ 1 + 2 * size =
    length-append (take 1 t) (x ++ post)
    ∙ omega (arith, front, length-append x post, length-drop (1 + size - 1) (drop 1 t), length-drop 1 t, set, long_x) in
    let room : length middle - (1 + size) ≤ length (drop (1 + size) middle) = omega (arith, length-drop (1 + size) middle) in
    length-take-le (length middle - (1 + size)) (drop (1 + size) middle) room ∙ omega (arith, whole)

pub encoded_law : (bytes x y : List ℕ) (size u v : ℕ) → bytes ≡ 4 ∷ (x ++ y) → length x ≡ size → length y ≡ size
    → number_of_bytes x ≡ u → number_of_bytes y ≡ v → IsEncodedPoint size u v bytes
encoded_law bytes x y size u v is long_x long_y is_x is_y =
    let both : length (x ++ y) ≡ length x + length y = length-append x y in
    let next : 1 + size ≡ suc size = omega arith in
    let seam : drop size (x ++ y) ≡ y = ap (λ (n : ℕ). drop n (x ++ y)) (sym long_x) ∙ drop-append_seam x y in
    let rest : drop (1 + size) (4 ∷ (x ++ y)) ≡ y = ap (λ (n : ℕ). drop n (4 ∷ (x ++ y))) next ∙ seam in
    subst (λ (bs : List ℕ). IsEncodedPoint size u v bs) (sym is) (record {
      whole = omega (arith, both, long_x, long_y);
      form = refl;
      x_is = ap number_of_bytes (kept y x x size refl long_x) ∙ is_x;
      y_is = ap number_of_bytes rest ∙ is_y;
    })

-- a number that bytes hold is written whole
pub whole_number : (n v p size : ℕ) → n ≡ v % 256 ^ size → v < p → p ≤ 256 ^ size → n ≡ v
whole_number n v p size is low fits = is ∙ mod-eq_of_lt (omega (arith, low, fits))

-- as many bytes as a number needs hold it
pub held : (v bits : ℕ) → IsBitLength v bits → v < 256 ^ octets bits
held v bits counted =
    let most : 2 ^ bits ≤ 2 ^ (8 * octets bits) = pow-le-pow_right {n = 2} (omega arith) {i = bits} {j = 8 * octets bits} (omega arith) in
    omega (arith, most, counted.0, byte_power (octets bits))
