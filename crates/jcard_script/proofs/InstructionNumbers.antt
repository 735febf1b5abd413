-- Numbers of instructions, by what std's `parse` answers.
use Rattle.std.proofs.Common.{◌≡◌, ◌≢◌, ◌<◌, ◌≤◌, ◌^◌, ◌∙◌, ℕ, Bool, true, false, ◌&&◌, nat_le, nat_lt, List, [], ◌∷◌, Result, Ok, Err, MatchOption, length, get_or, refl, ap, sym, arith}
use Rattle.std.specs.Char.{is_ascii_digit}
use Rattle.std.specs.Result.{OkIff, result_ok}
use Rattle.std.specs.Str.{IsUtf8, all_ascii_digits}
use Rattle.std.specs.Str.Parse.{ParsesUnsigned, digits_value}
use Rattle.std.proofs.lemmas.Bool.{false≢true}
use Rattle.std.proofs.lemmas.Bool.Decides.{nat_tests}
use Rattle.std.proofs.lemmas.Fmt.{IsAscii-from_digits}
use Rattle.std.proofs.lemmas.Str.{IsUtf8-from_ascii}
use Rattle.std.proofs.lemmas.Str.Parse.{IsNumeralModel, numerals_by_value, parse_plain, tells_all_ascii_digits}
use Rattle.jcard_script.specs.Script.{is_instruction_number}

own : IsNumeralModel (λ ds. all_ascii_digits ds ≡ true) (digits_value 10)
own = numerals_by_value _ tells_all_ascii_digits

-- digits are a text
pub digits_text : (bs : List ℕ) → all_ascii_digits bs ≡ true → IsUtf8 bs
digits_text bs digits = IsUtf8-from_ascii bs (IsAscii-from_digits bs (own.to bs digits))

-- the first of them is no plus
not_plus : (bs : List ℕ) → all_ascii_digits bs ≡ true → get_or bs 0 0 ≢ 43
not_plus [] digits e = absurd (omega (arith, e))
not_plus (b ∷ bs) digits e = false≢true (ap (λ c. is_ascii_digit c && all_ascii_digits bs) (sym e) ∙ digits)

not_both : (some few digits small : Bool) → ¬ ((some ≡ true) × (small ≡ true)) → (some && (few && (digits && small))) ≡ false
not_both true few digits true h = absurd (h (refl, refl))
not_both true true true false h = refl
not_both true true false false h = refl
not_both true false digits false h = refl
not_both false few digits small h = refl

by_cases : {E : Type 0} (bs : List ℕ) (r : Result ℕ E) → OkIff r ((all_ascii_digits bs ≡ true) × (0 < length bs) × (digits_value 10 bs < 2 ^ 32)) (digits_value 10 bs)
    → all_ascii_digits bs ≡ true → length bs ≤ 10
    → MatchOption (result_ok r) (is_instruction_number bs ≡ false) (λ n. (is_instruction_number bs ≡ true) × (n ≡ digits_value 10 bs))
by_cases bs (Ok x) h digits few =
    let some : nat_lt 0 (length bs) ≡ true = grind (arith, nat_tests, h.0.1) in
    let short : nat_le (length bs) 10 ≡ true = grind (arith, nat_tests) in
    let small : nat_le (digits_value 10 bs) 4294967295 ≡ true = grind (arith, nat_tests, h.0.2) in
    (rw (some, short, digits, small) refl, h.1)
by_cases bs (Err e) h digits few = not_both (nat_lt 0 (length bs)) (nat_le (length bs) 10) (all_ascii_digits bs) (nat_le (digits_value 10 bs) 4294967295)
    (λ q. h (digits, some_of q.0, small_of q.1))
  where
    some_of : nat_lt 0 (length bs) ≡ true → 0 < length bs
    some_of t = grind (arith, nat_tests)

    small_of : nat_le (digits_value 10 bs) 4294967295 ≡ true → digits_value 10 bs < 2 ^ 32
    small_of t = grind (arith, nat_tests)

-- what `parse` answers for at most ten digits
pub instruction_parsed : {E : Type 0} (bs : List ℕ) (r : Result ℕ E) → ParsesUnsigned 32 10 bs r → all_ascii_digits bs ≡ true → length bs ≤ 10
    → MatchOption (result_ok r) (is_instruction_number bs ≡ false) (λ n. (is_instruction_number bs ≡ true) × (n ≡ digits_value 10 bs))
instruction_parsed bs r h digits few = by_cases bs r (parse_plain own 32 bs r h (not_plus bs digits)) digits few
