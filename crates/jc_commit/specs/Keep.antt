-- What a change has to know of the transaction, and what it keeps.
use Rattle.std.specs.Prelude.{◌≡◌, ◌⊎◌, ℕ, ◌+◌, ◌*◌, ◌≤◌, ◌||◌, ◌&&◌, ◌==◌, Bool, true, false, not, nat_le, List, [], ◌++◌, length, filter, All, Contains}
use Rattle.std.specs.Prelude.{if◌then◌else◌}
use Rattle.std.specs.List.{list_any}
use Rattle.jc_commit.specs.Entries.{AreDistinct}

-- whether a transaction is open; where the words begin that are born in it; the addresses whose old values it keeps; how many it can keep
pub record Keeping : Type 0 where
  pub begun : Bool
  pub born : ℕ
  pub touched : List ℕ
  pub capacity : ℕ

-- its old value is kept, or the word was born in the transaction
abbrev pub is_taken_back : List ℕ → ℕ → ℕ → Bool
is_taken_back touched born a = list_any (λ b. b == a) touched || nat_le born a

-- an abort takes back what is written at this address, and nothing has to be kept of it any more
unfoldable pub goes_back : Keeping → ℕ → Bool
goes_back k a = k.begun && is_taken_back k.touched k.born a

-- of these addresses, those whose old values a change has to keep
unfoldable pub unlogged_addresses : Keeping → List ℕ → List ℕ
unlogged_addresses k addresses = if k.begun then filter (λ a. not (goes_back k a)) addresses else []

-- what is known after such a change
abbrev pub with_kept : Keeping → List ℕ → Keeping
with_kept k addresses = record k { touched = k.touched ++ unlogged_addresses k addresses }

-- how many word writes it is to change n words, m of them with an old value to keep
abbrev pub writes_inside : ℕ → ℕ → ℕ
writes_inside n m = n + (if m == 0 then 0 else 2 * m + 1)

-- the same outside a transaction, where several words are changed by a transaction of their own
abbrev pub writes_outside : ℕ → ℕ
writes_outside n = if nat_le n 1 then n else 3 * n + 2

-- how many word writes a change of these addresses is
unfoldable pub writes_for : Keeping → List ℕ → ℕ
writes_for k addresses =
    if k.begun then writes_inside (length addresses) (length (unlogged_addresses k addresses)) else writes_outside (length addresses)

-- whether the journal has room for a change of these addresses, in the open transaction or in one of its own
unfoldable pub has_room_for : Keeping → List ℕ → Bool
has_room_for k addresses =
    if k.begun then nat_le (length k.touched + length (unlogged_addresses k addresses)) k.capacity else nat_le (length addresses) k.capacity

-- what the layers above rest on
pub record KeepsOldValues : Type 0 where
  -- outside a transaction nothing is kept and nothing goes back
  pub outside : (k : Keeping) (xs : List ℕ) → k.begun ≡ false → (unlogged_addresses k xs ≡ []) × ((a : ℕ) → goes_back k a ≡ false)
  -- what goes back goes on going back; and so does from now on all that a change touches, and nothing else
  pub stays : (k : Keeping) (xs : List ℕ) (a : ℕ) → goes_back k a ≡ true → goes_back (with_kept k xs) a ≡ true
  pub each : (k : Keeping) (xs : List ℕ) (a : ℕ) → k.begun ≡ true → Contains xs a → goes_back (with_kept k xs) a ≡ true
  pub only : (k : Keeping) (xs : List ℕ) (a : ℕ) → goes_back (with_kept k xs) a ≡ true → (goes_back k a ≡ true) ⊎ Contains xs a
  -- what goes back costs nothing
  pub free : (k : Keeping) (xs : List ℕ) → k.begun ≡ true → All (λ a. goes_back k a ≡ true) xs → unlogged_addresses k xs ≡ []
  -- no more is kept than is changed, and there is room for as many words as are left
  pub few : (k : Keeping) (xs : List ℕ) → length (unlogged_addresses k xs) ≤ length xs
  pub enough : (k : Keeping) (xs : List ℕ) → length k.touched + length xs ≤ k.capacity → has_room_for k xs ≡ true
  -- room for two changes is room for the first, and after it for the second
  pub first : (k : Keeping) (xs ys : List ℕ) → has_room_for k (xs ++ ys) ≡ true → has_room_for k xs ≡ true
  pub second : (k : Keeping) (xs ys : List ℕ) → k.begun ≡ true → has_room_for k (xs ++ ys) ≡ true → has_room_for (with_kept k xs) ys ≡ true
  -- outside a transaction there is room for as many words as it can keep
  pub alone : (k : Keeping) (xs : List ℕ) → k.begun ≡ false → length xs ≤ k.capacity → has_room_for k xs ≡ true
  -- no old value is kept twice
  pub once : (k : Keeping) (xs : List ℕ) → AreDistinct k.touched → AreDistinct xs → AreDistinct (with_kept k xs).touched
