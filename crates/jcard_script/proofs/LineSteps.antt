-- What is kept of a line, with one more byte.
use Rattle.std.proofs.Common.{◌≡◌, ℕ, ◌+◌, ◌-◌, ◌%◌, ◌<◌, ◌≤◌, ◌==◌, Bool, true, false, not, ◌&&◌, if◌then◌else◌, List, [], ◌∷◌, ◌++◌, length, take}
use Rattle.std.proofs.Common.{slice_index, refl, subst, sym, ◌∙◌, ap, append-nil, arith, length-append, length-take, inl, inr, Result, Ok, Err}
use Rattle.std.specs.Prelude.{IsOk, OnOk, OnErr, ◌↔◌}
use Rattle.std.specs.List.{list_all}
use Rattle.std.specs.Str.Lines.{strip_carriage_return}
use Rattle.std.proofs.lemmas.Bool.{cases_lt, eqb-true, ne_eqb}
use Rattle.std.proofs.lemmas.List.{take_all, take-append-le, take_more}
use Rattle.std.proofs.lemmas.List.Elements.{filter-append}
use Rattle.std.proofs.lemmas.List.Folds.{list_all-append}
use Rattle.std.proofs.lemmas.Grind.{common_steps}
use Rattle.hex.specs.Hex.{is_hex_digit}
use Rattle.jcard_script.specs.Script.{without_spaces}
use Rattle.jcard_script.specs.Line.{HasDigits, ends_in_return}

-- a byte that is no space
pub spaceless_other : (line : List ℕ) (b : ℕ) → (b == 32) ≡ false → without_spaces (line ++ b ∷ []) ≡ without_spaces line ++ b ∷ []
spaceless_other line b h = filter-append (λ c. not (c == 32)) line (b ∷ []) ∙ ap (λ t. without_spaces line ++ (if not t then b ∷ [] else [])) h

-- a space
spaceless_space : (line : List ℕ) (b : ℕ) → b ≡ 32 → without_spaces (line ++ b ∷ []) ≡ without_spaces line
spaceless_space line b e =
    filter-append (λ c. not (c == 32)) line (b ∷ []) ∙ ap (λ c. without_spaces line ++ (if not (c == 32) then c ∷ [] else [])) e
    ∙ append-nil (without_spaces line)

all_more : (s : List ℕ) (b : ℕ) → list_all is_hex_digit (s ++ b ∷ []) ≡ (list_all is_hex_digit s && (is_hex_digit b && true))
all_more s b = list_all-append is_hex_digit s (b ∷ [])

all_true : (s : List ℕ) (b : ℕ) → list_all is_hex_digit s ≡ true → is_hex_digit b ≡ true → list_all is_hex_digit (s ++ b ∷ []) ≡ true
all_true s b h k = all_more s b ∙ ap (λ t. t && (is_hex_digit b && true)) h ∙ ap (λ t. t && true) k

odd_more : (n : ℕ) → ((n + 1) % 2 == 1) ≡ not (n % 2 == 1)
odd_more n = grind arith

-- at most m are kept
pub take_step : (m : ℕ) (digits next s : List ℕ) (b : ℕ) → digits ≡ take m s → (length digits < m → next ≡ digits ++ b ∷ [])
    → (m ≤ length digits → next ≡ digits)
    → next ≡ take m (s ++ b ∷ [])
take_step m digits next s b h room full =
    elim (cases_lt (length s) m) [
      | inl lt ↦
          let e : digits ≡ s = h ∙ take_all m s (omega arith) in
          let len : length digits < m = rw e lt in
          room len ∙ ap (λ l. l ++ b ∷ []) e ∙ sym (take_all m (s ++ b ∷ []) (omega (arith, length-append s (b ∷ []))))
      | inr ge ↦
          let len : m ≤ length digits = omega (arith, ap length h, length-take m s) in
          full len ∙ h ∙ sym (take-append-le m s (b ∷ []) ge)
    ]

-- one more digit is kept while there is room
pub digit_step : (digits next line : List ℕ) (odd : Bool) (b : ℕ) → HasDigits digits odd line → (b == 32) ≡ false → is_hex_digit b ≡ true
    → (length digits < 131090 → next ≡ digits ++ b ∷ []) → (131090 ≤ length digits → next ≡ digits) → HasDigits next (not odd) (line ++ b ∷ [])
digit_step digits next line odd b h other digit room full =
    let s = without_spaces line in
    let e = spaceless_other line b other in
    let count : length (s ++ b ∷ []) ≡ length s + 1 = length-append s (b ∷ []) in
    let parity : not odd ≡ (length (s ++ b ∷ []) % 2 == 1) = ap not h.2 ∙ sym (odd_more (length s)) ∙ ap (λ n. n % 2 == 1) (sym count) in
    let kept : next ≡ take 131090 (s ++ b ∷ []) = take_step 131090 digits next s b h.1 room full in
    rw e (all_true s b h.0 digit, kept, parity)

-- a space changes nothing
pub space_step : (digits line : List ℕ) (odd : Bool) (b : ℕ) → HasDigits digits odd line → b ≡ 32 → HasDigits digits odd (line ++ b ∷ [])
space_step digits line odd b h e =
    subst (λ s. (list_all is_hex_digit s ≡ true) × (digits ≡ take 131090 s) × (odd ≡ (length s % 2 == 1))) (sym (spaceless_space line b e)) h

none_all : (t : Bool) → (t && (false && true)) ≡ false
none_all true = refl
none_all false = refl

-- after any other byte not all are digits
pub other_step : (line : List ℕ) (b : ℕ) → (b ≡ 32 → ⊥) → is_hex_digit b ≡ false → list_all is_hex_digit (without_spaces (line ++ b ∷ [])) ≡ false
other_step line b other letter =
    ap (list_all is_hex_digit) (spaceless_other line b (ne_eqb b 32 other)) ∙ all_more (without_spaces line) b
    ∙ ap (λ t. list_all is_hex_digit (without_spaces line) && (t && true)) letter ∙ none_all (list_all is_hex_digit (without_spaces line))

-- ---- a carriage return at the end

last_of : (line : List ℕ) (b : ℕ) → slice_index (line ++ b ∷ []) (length (line ++ b ∷ []) - 1) ≡ b
last_of line b = grind (arith, common_steps)

pub return_last : (line : List ℕ) (b : ℕ) → ends_in_return (line ++ b ∷ []) ≡ (b == 13)
return_last line b = ap (λ n. n == 13) (last_of line b)

pub strip_other : (line : List ℕ) (b : ℕ) → (b == 13) ≡ false → strip_carriage_return (line ++ b ∷ []) ≡ line ++ b ∷ []
strip_other line b h = ap (λ t. if t then take (length (line ++ b ∷ []) - 1) (line ++ b ∷ []) else (line ++ b ∷ [])) (return_last line b ∙ h)

-- with the carriage return that it ended with, a line is as it was
pub returned : (line : List ℕ) → ends_in_return line ≡ true → strip_carriage_return line ++ 13 ∷ [] ≡ line
returned [] h = cc h
returned (x ∷ xs) h =
    let line = x ∷ xs in
    let at = length line - 1 in
    ap (λ t. (if t then take at line else line) ++ 13 ∷ []) h ∙ ap (λ b. take at line ++ b ∷ []) (sym (eqb-true (slice_index line at) 13 h))
    ∙ sym (take_more line at 0 (omega arith)) ∙ take_all (at + 1) line (omega arith)

-- ---- a push that may find no room

pub pushed_room : {E : Type 0} (r : Result Unit E) (old new : List ℕ) (m b : ℕ) → (IsOk r ↔ (length old < m)) → OnOk r (new ≡ old ++ b ∷ []) → length old < m
    → new ≡ old ++ b ∷ []
pushed_room (Ok done) old new m b v h lt = h
pushed_room (Err e) old new m b v h lt = let bad = v.1 lt in cc bad

pub pushed_full : {E : Type 0} (r : Result Unit E) (old new : List ℕ) (m : ℕ) (P : Type 0) → (IsOk r ↔ (length old < m)) → OnErr r P → (P → new ≡ old)
    → m ≤ length old → new ≡ old
pushed_full (Ok done) old new m P v h f le = let lt = v.0 refl in absurd (omega arith)
pushed_full (Err e) old new m P v h f le = f h
