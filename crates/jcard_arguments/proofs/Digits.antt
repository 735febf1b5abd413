-- Decimal numbers, by what std's `parse` answers.
use Rattle.std.proofs.Common.{◌≡◌, ◌≢◌, ◌<◌, ◌^◌, ℕ, Bool, true, false, ◌&&◌, ltb, List, [], ◌∷◌, Some, None, Result, Ok, Err, length, get_or, refl, ap, sym}
use Rattle.std.proofs.Common.{◌∙◌, arith}
use Rattle.std.specs.Prelude.{if◌then◌else◌}
use Rattle.std.specs.Result.{OkIff, result_ok}
use Rattle.std.specs.Str.{IsUtf8, all_ascii_digits}
use Rattle.std.specs.Str.Parse.{ParsesUnsigned, digits_value}
use Rattle.std.proofs.lemmas.Bool.Decides.{Decides-ltb}
use Rattle.std.specs.Char.{is_ascii_digit}
use Rattle.std.proofs.lemmas.Bool.{false≢true}
use Rattle.std.proofs.lemmas.Fmt.{IsAscii-from_digits}
use Rattle.std.proofs.lemmas.Str.{IsUtf8-from_ascii}
use Rattle.std.proofs.lemmas.Str.Parse.{IsNumeralModel, numerals_by_value, parse_plain, tells_all_ascii_digits}
use Rattle.jcard_arguments.specs.Numbers.{number_of}

own : IsNumeralModel (λ ds. all_ascii_digits ds ≡ true) (digits_value 10)
own = numerals_by_value _ tells_all_ascii_digits

-- three tests that do not all pass
not_all : (a b c : Bool) (v : ℕ) → ¬ ((a ≡ true) × (b ≡ true) × (c ≡ true)) → (if a && b && c then Some v else None) ≡ None
not_all true true true v h = absurd (h (refl, refl, refl))
not_all true true false v h = refl
not_all true false c v h = refl
not_all false b c v h = refl

-- a word that is not of digits alone is no number
pub number-no_digits : (bs : List ℕ) → ¬ (all_ascii_digits bs ≡ true) → number_of bs ≡ None
number-no_digits bs h = not_all _ _ _ (digits_value 10 bs) (λ q. h q.1)

-- nor is one that is no text
pub number-no_text : (bs : List ℕ) → ¬ (IsUtf8 bs) → number_of bs ≡ None
number-no_text bs h = number-no_digits bs (λ d. h (IsUtf8-from_ascii bs (IsAscii-from_digits bs (own.to bs d))))

-- nor is one that begins with a plus
pub number_plus : (bs : List ℕ) → get_or bs 0 0 ≡ 43 → number_of bs ≡ None
number_plus [] e = absurd (omega arith)
number_plus (b ∷ bs) e = number-no_digits (b ∷ bs) (λ d. false≢true (ap (λ c. is_ascii_digit c && all_ascii_digits bs) (sym e) ∙ d))

-- nor is one of no digit
pub number_empty : (bs : List ℕ) → length bs ≡ 0 → number_of bs ≡ None
number_empty [] e = refl
number_empty (b ∷ bs) e = absurd (omega arith)

by_cases : {E : Type 0} (bs : List ℕ) (r : Result ℕ E) → OkIff r ((all_ascii_digits bs ≡ true) × (0 < length bs) × (digits_value 10 bs < 2 ^ 32))
    (digits_value 10 bs) → result_ok r ≡ number_of bs
by_cases bs (Ok x) h =
    let some : ltb 0 (length bs) ≡ true = (Decides-ltb 0 (length bs)).1 h.0.1 in
    let small : ltb (digits_value 10 bs) 4294967296 ≡ true = (Decides-ltb (digits_value 10 bs) 4294967296).1 h.0.2 in
    rw (some, h.0.0, small) (ap Some h.1)
by_cases bs (Err e) h =
    sym (not_all _ _ _ (digits_value 10 bs) (λ q. h (q.1, (Decides-ltb 0 (length bs)).0 q.0, (Decides-ltb (digits_value 10 bs) 4294967296).0 q.2)))

-- what `parse` answers for a word that begins with no plus
pub number-parsed : {E : Type 0} (bs : List ℕ) (r : Result ℕ E) → ParsesUnsigned 32 10 bs r → get_or bs 0 0 ≢ 43 → result_ok r ≡ number_of bs
number-parsed bs r h plain = by_cases bs r (parse_plain own 32 bs r h plain)
