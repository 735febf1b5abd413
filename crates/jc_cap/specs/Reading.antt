-- Reading from left to right, up to the first fault.
use Rattle.std.specs.Prelude.{◌≡◌, ℕ, zero, suc, ◌+◌, ◌*◌, List, [], ◌∷◌, length, take, drop, Result, Ok, Err, nat_lt, ◌==◌, if◌then◌else◌}
use Rattle.jc_cap.specs.declared.fault.CapFault.{CapFault}
use Rattle.jc_cap.specs.declared.fault.CapFault.TheVariants.{Truncated, Trailing, BadOffset}

-- first the one, and if it has no fault the other, with its value
infixl 10 ◌>>=◌
abbrev pub ◌>>=◌ : {A B : Type 0} → Result A CapFault → (A → Result B CapFault) → Result B CapFault
(Ok x) >>= f = f x
(Err e) >>= f = Err e

-- What a function returned, seen by view, is what reading gives.
abbrev pub ParsesAs : {X Y : Type 0} → (X → Y) → Result X CapFault → Result Y CapFault → Type 0
ParsesAs view (Ok x) read = read ≡ Ok (view x)
ParsesAs view (Err e) read = read ≡ Err e

-- a field: its value, and the bytes after it
abbrev pub Field : Type 0 → Type 0
Field A = Result (A × List ℕ) CapFault

-- one byte
abbrev pub u1_at : List ℕ → Field ℕ
u1_at [] = Err Truncated
u1_at (b ∷ rest) = Ok (b, rest)

-- two bytes, the high one first
abbrev pub u2_at : List ℕ → Field ℕ
u2_at [] = Err Truncated
u2_at (a ∷ []) = Err Truncated
u2_at (a ∷ b ∷ rest) = Ok (a * 256 + b, rest)

-- n bytes
abbrev pub run_at : ℕ → List ℕ → Field (List ℕ)
run_at n bytes = if nat_lt (length bytes) n then Err Truncated else Ok (take n bytes, drop n bytes)

-- an AID after its length, which is 5 to 16
unfoldable pub aid_at : List ℕ → Field (List ℕ)
aid_at bytes = do
  n ← u1_at bytes
  if nat_lt n.0 5 then Err BadOffset else if nat_lt 16 n.0 then Err BadOffset else run_at n.0 n.1

-- as many of them as are counted, one after the other
unfoldable pub many_at : {A : Type 0} → (List ℕ → Field A) → ℕ → List ℕ → Field (List A)
many_at read zero bytes = Ok ([], bytes)
many_at read (suc n) bytes = do
  first ← read bytes
  others ← many_at read n first.1
  Ok (first.0 ∷ others.0, others.1)

-- the value of a field after which nothing stands
abbrev pub value_of_whole : {A : Type 0} → Field A → Result A CapFault
value_of_whole read = read >>= λ x. if length x.1 == 0 then Ok x.0 else Err Trailing

-- what stands after a field
abbrev pub rest_after : {A : Type 0} → Field A → Result (List ℕ) CapFault
rest_after read = read >>= λ x. Ok x.1

-- the list that was read, empty at a fault
abbrev pub list_or_empty : {A : Type 0} → Field (List A) → List A
list_or_empty (Ok x) = x.0
list_or_empty (Err f) = []

-- The bytes begin with n of them, and xs are those.
abbrev pub BeginsWithList : {A : Type 0} → (List ℕ → Field A) → ℕ → List ℕ → List A → Type 0
BeginsWithList read n bytes xs = (rest : List ℕ) × (many_at read n bytes ≡ Ok (xs, rest))

-- ---- infos that were read before

-- reading finds no fault
abbrev pub IsReadable : {A : Type 0} → Result A CapFault → Type 0
IsReadable read = (x : _) × (read ≡ Ok x)
