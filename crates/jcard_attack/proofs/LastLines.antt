-- The last line of a text, which is in hexadecimal digits.
use Rattle.std.proofs.Common.{◌≡◌, ◌≢◌, ◌∙◌, ℕ, zero, suc, ◌+◌, ◌-◌, ◌/◌, ◌%◌, ◌<◌, ◌≤◌, ◌==◌, ◌||◌, Bool, true, false, if◌then◌else◌, List, [], ◌∷◌, ◌++◌, length, length-append, get_or, take, drop, ap, arith, inr, refl, sym}
use Rattle.std.specs.Prelude.{slice_index}
use Rattle.std.specs.List.{list_any}
use Rattle.std.proofs.lemmas.Bool.{ne_eqb}
use Rattle.std.proofs.lemmas.List.{drop_at, get_or-append_right, get_or_append_left, get_or_at, take_at}
use Rattle.hex.specs.Hex.{encode_upper, encode_with, upper_digits}
use Rattle.jcard_script.specs.Session.{IsUnbroken}
use Rattle.jcard_sweeps.specs.LastLine.{IsLastLine}

-- there is no line feed among these bytes
abbrev pub IsFree : List ℕ → Type 0
IsFree [] = Unit {0}
IsFree (x ∷ xs) = (x ≢ 10) × IsFree xs

free_at : (xs : List ℕ) (k : ℕ) → IsFree xs → get_or xs k 0 ≢ 10
free_at [] k f = λ e. absurd (omega (arith, e))
free_at (x ∷ xs) zero f = f.0
free_at (x ∷ xs) (suc k) f = free_at xs k f.1

other : (x : ℕ) → (x == 10) ≡ false → x ≢ 10
other x e = λ is. absurd (grind (arith, e, is))

first_of : (a b : Bool) → (a || b) ≡ false → a ≡ false
first_of true b e = e
first_of false b e = refl

rest_of : (a b : Bool) → (a || b) ≡ false → b ≡ false
rest_of true b e = ap (λ x. if x then b else false) e
rest_of false b e = e

-- a test of them
pub free_test : (xs : List ℕ) → list_any (λ x. x == 10) xs ≡ false → IsFree xs
free_test [] e = tt
free_test (x ∷ xs) e = (other x (first_of (x == 10) _ e), free_test xs (rest_of (x == 10) _ e))

free_digits : IsFree upper_digits
free_digits = free_test upper_digits refl

-- so no line ends within them
pub free_unbroken : (bytes : List ℕ) → IsFree bytes → IsUnbroken bytes
free_unbroken bytes free = λ k below. ne_eqb (get_or bytes k 0) 10 (free_at bytes k free)

-- so among hexadecimal digits
pub hex_free : (bytes : List ℕ) → IsFree (encode_upper bytes)
unfolding encode_with
hex_free [] = tt
hex_free (b ∷ rest) = (free_at upper_digits (b / 16) free_digits, (free_at upper_digits (b % 16) free_digits, hex_free rest))

-- after a line feed, digits and a line feed are the last line
pub last_line_is : (start line : List ℕ) → IsFree line → IsLastLine ((start ++ 10 ∷ []) ++ (line ++ 10 ∷ [])) line
last_line_is start line free =
    let before : List ℕ = start ++ 10 ∷ [] in
    let text : List ℕ = before ++ (line ++ 10 ∷ []) in
    let long : length text ≡ length before + (length line + 1) = length-append before (line ++ 10 ∷ [])
    ∙ ap (λ n. length before + n) (length-append line (10 ∷ [])) in
    let counts : length text - 1 - length before ≡ length line = omega (arith, long) in
    let dropped : drop (length before) text ≡ line ++ 10 ∷ [] = drop_at before (line ++ 10 ∷ []) (length before) refl in
    let taken : take (length line) (line ++ 10 ∷ []) ≡ line = take_at line (10 ∷ []) (length line) refl in
    let is : line ≡ take (length text - 1 - length before) (drop (length before) text) =
    sym (ap (λ n. take n (drop (length before) text)) counts ∙ ap (λ l. take (length line) l) dropped ∙ taken) in (
      length before,
      omega (arith, long),
      is,
      λ i from below. inside before line text refl free i from (omega (arith, long, below)),
      inr (ends start (line ++ 10 ∷ [])),
    )
  where
    inside : (before line text : List ℕ) → text ≡ before ++ (line ++ 10 ∷ []) → IsFree line → (i : ℕ) → length before ≤ i → i < length before + length line
        → slice_index text i ≢ 10
    inside before line text e free i from below = λ is.
        free_at line (i - length before) free
        (sym (get_or_append_left line (10 ∷ []) 0 (i - length before) (omega (arith, from, below)))
        ∙ sym (get_or-append_right before (line ++ 10 ∷ []) (length before) i 0 refl from) ∙ sym (ap (λ t. get_or t i 0) e) ∙ is)

    ends : (start more : List ℕ) → slice_index ((start ++ 10 ∷ []) ++ more) (length (start ++ 10 ∷ []) - 1) ≡ 10
    ends start more =
        let n : length (start ++ 10 ∷ []) - 1 ≡ length start = omega (arith, length-append start (10 ∷ [])) in
        ap (λ k. get_or ((start ++ 10 ∷ []) ++ more) k 0) n
        ∙ get_or_append_left (start ++ 10 ∷ []) more 0 (length start) (omega (arith, length-append start (10 ∷ [])))
        ∙ get_or_at start 10 [] 0 (length start) refl
