-- Lists of which some places are read, and AIDs in the cells of AID objects.
use Rattle.std.proofs.Common.{◌≡◌, ℕ, zero, suc, ◌+◌, ◌/◌, ◌%◌, ◌<◌, ◌≤◌, ◌==◌, List, [], ◌∷◌, map, drop, set, get_or, replicate, refl, sym, ◌∙◌, ap, arith}
use Rattle.std.proofs.Common.{if◌then◌else◌}
use Rattle.std.specs.List.{range_with_len}
use Rattle.std.proofs.lemmas.List.{get_or-drop}
use Rattle.jc_heap.specs.Packed.{packed_byte, bytes_of_packed}
use Rattle.jc_packages.specs.Sound.{aid_in}

-- each cell of zeros is 0
pub zeros : (n k : ℕ) → get_or (replicate {A = ℕ} n 0) k 0 ≡ 0
zeros zero k = refl
zeros (suc n) zero = refl
zeros (suc n) (suc k) = zeros n k

-- the first value of a list in which it was set is the one that was set, or none
pub first_set : (l : List ℕ) (v n : ℕ) → v ≤ n → get_or (set l 0 v) 0 0 ≤ n
first_set [] v n le = omega arith
first_set (x ∷ l) v n le = le

pub map_same : (f g : ℕ → ℕ) (a n m : ℕ) → a + n ≤ m → ((k : ℕ) → k < m → f k ≡ g k) → map f (range_with_len a n) ≡ map g (range_with_len a n)
map_same f g a zero m le same = refl
map_same f g a (suc n) m le same = λ i. same a (omega (arith, le)) i ∷ map_same f g (a + 1) n m (omega (arith, le)) same i

-- the first words agree
abbrev pub Agree : ℕ → List ℕ → List ℕ → Type 0
Agree n xs ys = (k : ℕ) → k < n → get_or xs k 0 ≡ get_or ys k 0

pub byte_same : (xs ys : List ℕ) (i : ℕ) → get_or xs (i / 2) 0 ≡ get_or ys (i / 2) 0 → packed_byte xs i ≡ packed_byte ys i
byte_same xs ys i e = λ t. if i % 2 == 0 then e t / 256 else e t % 256

unpacked_same : (n : ℕ) (xs ys : List ℕ) → n ≤ 16 → Agree 8 xs ys → bytes_of_packed n xs ≡ bytes_of_packed n ys
unfolding bytes_of_packed
unpacked_same n xs ys le same = map_same (packed_byte xs) (packed_byte ys) 0 n 16 (omega (arith, le))
    (λ k lt. byte_same xs ys k (same (k / 2) (omega (arith, lt))))

-- an AID is held by nine cells
pub aid_same : (xs ys : List ℕ) → Agree 9 xs ys → get_or ys 0 0 ≤ 16 → aid_in xs ≡ aid_in ys
aid_same xs ys same le =
    let rest : Agree 8 (drop 1 xs) (drop 1 ys) = λ k lt. get_or-drop 1 xs k 0 ∙ same (1 + k) (omega (arith, lt)) ∙ sym (get_or-drop 1 ys k 0) in
    ap (λ n. bytes_of_packed n (drop 1 xs)) (same 0 (omega arith)) ∙ unpacked_same (get_or ys 0 0) (drop 1 xs) (drop 1 ys) le rest
