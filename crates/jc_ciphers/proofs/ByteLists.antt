-- Lists of bytes, by a test that computes.
use Rattle.std.proofs.Common.{◌≡◌, ℕ, zero, suc, ◌<◌, List, [], ◌∷◌, Bool, true, slice_index, nat_lt, ◌&&◌, arith}
use Rattle.std.specs.List.{list_all}

abbrev pub is_byte : ℕ → Bool
is_byte b = nat_lt b 256

pub each_byte : (xs : List ℕ) → list_all is_byte xs ≡ true → (i : ℕ) → slice_index xs i < 256
each_byte [] all i = grind arith
each_byte (x ∷ xs) all zero = grind arith
each_byte (x ∷ xs) all (suc i) = let rest : list_all is_byte xs ≡ true = grind arith in each_byte xs rest i
