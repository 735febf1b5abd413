-- What the kept digits of a line spell.
use Rattle.std.proofs.Common.{◌≡◌, ℕ, zero, suc, ◌+◌, ◌*◌, ◌%◌, ◌==◌, Bool, true, false, if◌then◌else◌, List, [], ◌∷◌, length, take, Result, Ok, Err, refl, sym}
use Rattle.std.proofs.Common.{◌∙◌, ap, arith, length-take}
use Rattle.std.specs.List.{list_all}
use Rattle.std.specs.Result.{result_unwrap_or}
use Rattle.std.proofs.lemmas.List.Sums.{AllPass-from_list_all, list_all-from_AllPass}
use Rattle.std.proofs.lemmas.Bool.{eqb-false}
use Rattle.hex.specs.Hex.{decode_of, decode_pairs, is_hex_digit, pair_value, IsBytes, ◌>>=◌}
use Rattle.hex.specs.declared.error.FromHexError.{FromHexError}
use Rattle.hex.proofs.HexLemmas.{decode_of-ok, decode_of-even, decode_of-digits, decode_of-same}
use Rattle.jc_card.specs.Session.Requests.{Command}
use Rattle.jcard_script.specs.Script.{Asks, Skipped, Bad, plain_form_of, form_of_decoded, without_spaces}
use Rattle.jcard_script.specs.Line.{IsPlain}

step : (p : Result ℕ FromHexError) (r s : Result (List ℕ) FromHexError) (n : ℕ) (bytes : List ℕ)
    → (p >>= (λ v. r >>= (λ bs. Ok (v ∷ bs)))) ≡ Ok bytes → ((bs : List ℕ) → r ≡ Ok bs → s ≡ Ok (take n bs))
    → (p >>= (λ v. s >>= (λ bs. Ok (v ∷ bs)))) ≡ Ok (take (suc n) bytes)
step (Err e) r s n bytes h f = cc h
step (Ok v) (Err e) s n bytes h f = cc h
step (Ok v) (Ok bs) s n bytes h f =
    let e : v ∷ bs ≡ bytes = ap (λ (r : Result (List ℕ) FromHexError). result_unwrap_or r []) h in
    let tail = f bs refl in
    rw (tail, ← e) refl

-- the first digits spell the first bytes
pub take_pairs : (n i : ℕ) (s bytes : List ℕ) → decode_pairs i s ≡ Ok bytes → decode_pairs i (take (2 * n) s) ≡ Ok (take n bytes)
unfolding decode_pairs
take_pairs zero i s bytes h = refl
take_pairs (suc n) i [] bytes h =
    let e : [] ≡ bytes = ap (λ (r : Result (List ℕ) FromHexError). result_unwrap_or r []) h in
    let two : 2 * suc n ≡ suc (suc (2 * n)) = omega arith in
    rw (two, ← e) refl
take_pairs (suc n) i (a ∷ []) bytes h = cc h
take_pairs (suc n) i (a ∷ b ∷ rest) bytes h =
    let two : 2 * suc n ≡ suc (suc (2 * n)) = omega arith in
    rw two (step (pair_value a b i) (decode_pairs (i + 2) rest) (decode_pairs (i + 2) (take (2 * n) rest)) n bytes h (λ bs e. take_pairs n (i + 2) rest bs e))

pub form_plain : (line : List ℕ) → IsPlain line → plain_form_of line ≡ form_of_decoded (decode_of (without_spaces line))
form_plain [] h = absurd h
form_plain (x ∷ line) h = rw h refl

bad_err : (r : Result (List ℕ) FromHexError) → ((bytes : List ℕ) → r ≡ Ok bytes → ⊥) → form_of_decoded r ≡ Bad
bad_err (Ok bytes) h = absurd (h bytes refl)
bad_err (Err e) h = refl

-- a line with anything but digits and spaces
pub bad_digits : (line : List ℕ) → IsPlain line → list_all is_hex_digit (without_spaces line) ≡ false → plain_form_of line ≡ Bad
bad_digits line plain h =
    form_plain line plain
    ∙ bad_err (decode_of (without_spaces line))
    (λ bytes e. let all = list_all-from_AllPass is_hex_digit (without_spaces line) (decode_of-ok (without_spaces line) bytes e).1 in cc (sym h ∙ all))

-- the digits that are kept spell the first bytes of the command
pub good_digits : (line digits command : List ℕ) → IsPlain line → list_all is_hex_digit (without_spaces line) ≡ true
    → (length (without_spaces line) % 2 == 1) ≡ false
    → digits ≡ take 131090 (without_spaces line) → decode_of digits ≡ Ok command
    → (bytes : List ℕ) × (plain_form_of line ≡ Asks (Command bytes)) × (command ≡ take 65545 bytes)
good_digits line digits command plain all even kept e =
    let s = without_spaces line in
    let ne = eqb-false (length s % 2) 1 even in
    let two : length s % 2 ≡ 0 = omega (arith, ne) in
    let whole = decode_of-digits s two (AllPass-from_list_all is_hex_digit s all) in
    let pairs : decode_pairs 0 s ≡ Ok whole.0 = sym (decode_of-even s two) ∙ whole.1 in
    let short = take_pairs 65545 0 s whole.0 pairs in
    let fit : length (take 131090 s) % 2 ≡ 0 = even_take s two in
    let same : decode_of digits ≡ Ok (take 65545 whole.0) = ap decode_of kept ∙ decode_of-even (take 131090 s) fit ∙ short in
    (whole.0, form_plain line plain ∙ ap form_of_decoded whole.1, decode_of-same digits command (take 65545 whole.0) e same)
  where
    even_take : (s : List ℕ) → length s % 2 ≡ 0 → length (take 131090 s) % 2 ≡ 0
    even_take s h = omega (arith, length-take 131090 s)

-- ---- so they do not spell nothing

pub some_digits : (line digits : List ℕ) → list_all is_hex_digit (without_spaces line) ≡ true → (length (without_spaces line) % 2 == 1) ≡ false
    → digits ≡ take 131090 (without_spaces line) → (command : List ℕ) × (decode_of digits ≡ Ok command)
some_digits line digits all even kept =
    let s = without_spaces line in
    let ne = eqb-false (length s % 2) 1 even in
    let two : length s % 2 ≡ 0 = omega (arith, ne) in
    let whole = decode_of-digits s two (AllPass-from_list_all is_hex_digit s all) in
    let pairs : decode_pairs 0 s ≡ Ok whole.0 = sym (decode_of-even s two) ∙ whole.1 in
    let fit : length (take 131090 s) % 2 ≡ 0 = omega (arith, length-take 131090 s) in
    (take 65545 whole.0, ap decode_of kept ∙ decode_of-even (take 131090 s) fit ∙ take_pairs 65545 0 s whole.0 pairs)

-- ---- a command's bytes are bytes

decoded_command : (t : Bool) (r : Result (List ℕ) FromHexError) (bytes : List ℕ) → (if t then Skipped else form_of_decoded r) ≡ Asks (Command bytes) → r ≡ Ok bytes
decoded_command true r bytes h = cc h
decoded_command false (Ok b) bytes h = cc h
decoded_command false (Err e) bytes h = cc h

pub command_bytes : (line bytes : List ℕ) → plain_form_of line ≡ Asks (Command bytes) → IsBytes bytes
command_bytes [] bytes h = cc h
command_bytes (x ∷ line) bytes h =
    let s = without_spaces (x ∷ line) in
    (decode_of-ok s bytes (decoded_command (x == 35) (decode_of s) bytes h)).3
