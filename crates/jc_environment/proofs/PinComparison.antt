-- Two lists compared element by element, as far as a loop has come.
use Rattle.std.proofs.Common.{◌≡◌, ℕ, ◌+◌, ◌<◌, Bool, true, false, List, [], ◌∷◌, ◌++◌, take, length, map, get_or, refl, sym, ◌∙◌, ap, arith}
use Rattle.std.specs.Prelude.{◌&&◌, nat_eq}
use Rattle.std.specs.Str.{bytes_eq}
use Rattle.std.specs.List.{range_with_len}
use Rattle.std.proofs.lemmas.List.{take_more, length-take-le}
use Rattle.std.proofs.lemmas.List.FromFn.{map-range_with_len_more, length-map-range_with_len}

and_assoc : (a b c : Bool) → (a && (b && c)) ≡ ((a && b) && c)
and_assoc true b c = refl
and_assoc false b c = refl

eq_behind : (xs ys : List ℕ) (x y : ℕ) → length xs ≡ length ys → bytes_eq (xs ++ x ∷ []) (ys ++ y ∷ []) ≡ (bytes_eq xs ys && nat_eq x y)
eq_behind [] [] x y long = and_true (nat_eq x y)
  where
    and_true : (a : Bool) → (a && true) ≡ (true && a)
    and_true true = refl
    and_true false = refl
eq_behind [] (b ∷ rest) x y long = absurd (omega (arith, long))
eq_behind (a ∷ rest) [] x y long = absurd (omega (arith, long))
eq_behind (a ∷ xs) (b ∷ ys) x y long = ap (λ t. nat_eq a b && t) (eq_behind xs ys x y (omega (arith, long)))
    ∙ and_assoc (nat_eq a b) (bytes_eq xs ys) (nat_eq x y)

-- one byte more is compared
pub same_more : (f : ℕ → ℕ) (bytes : List ℕ) (k : ℕ) (same now : Bool) → k < length bytes → same ≡ bytes_eq (take k bytes) (map f (range_with_len 0 k)) →
    now ≡ (same && nat_eq (get_or bytes k 0) (f k)) → now ≡ bytes_eq (take (k + 1) bytes) (map f (range_with_len 0 (k + 1)))
same_more f bytes k same now here is next =
    let long : length (take k bytes) ≡ length (map f (range_with_len 0 k)) = length-take-le k bytes (omega (arith, here))
    ∙ sym (length-map-range_with_len f 0 k) in
    next ∙ ap (λ t. t && nat_eq (get_or bytes k 0) (f k)) is ∙ sym (eq_behind (take k bytes) (map f (range_with_len 0 k)) (get_or bytes k 0) (f k) long)
    ∙ ap (λ l. bytes_eq l (map f (range_with_len 0 k) ++ f k ∷ [])) (sym (take_more bytes k 0 here))
    ∙ ap (bytes_eq (take (k + 1) bytes)) (sym (map-range_with_len_more f 0 k k (omega arith)))
