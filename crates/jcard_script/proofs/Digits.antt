-- Lines that are hexadecimal digits alone.
use Rattle.std.proofs.Common.{◌≡◌, ℕ, suc, zero, ◌-◌, ◌<◌, ◌≤◌, ◌==◌, Bool, ◌&&◌, true, false, if◌then◌else◌, List, [], ◌∷◌, length, take, slice_index, Ok, refl, sym, ◌∙◌}
use Rattle.std.proofs.Common.{ap, arith}
use Rattle.std.specs.List.{list_all}
use Rattle.std.specs.Prelude.{IfSome, MatchOption, Option, Some, None}
use Rattle.std.specs.Str.Lines.{strip_carriage_return}
use Rattle.std.proofs.lemmas.Bool.{ne_eqb}
use Rattle.std.proofs.lemmas.List.Sums.{list_all-from_AllPass}
use Rattle.std.proofs.lemmas.List.{take_all}
use Rattle.hex.specs.Hex.{decode_of, is_hex_digit}
use Rattle.hex.proofs.HexLemmas.{decode_of-ok}
use Rattle.jc_card.specs.Session.Requests.{Command}
use Rattle.jcard_script.specs.Script.{Asks, form_of, plain_form_of, form_of_decoded, without_spaces}
use Rattle.jcard_script.specs.Line.{IsPlain}
use Rattle.jcard_script.proofs.Decoding.{form_plain}

-- a digit is not a byte that is none
not_digit : (c n : ℕ) → is_hex_digit c ≡ true → is_hex_digit n ≡ false → c ≡ n → ⊥
not_digit c n h k e = let bad : true ≡ false = sym h ∙ ap is_hex_digit e ∙ k in cc bad

-- whether all bytes are digits
abbrev all_digits : List ℕ → Bool
all_digits line = list_all is_hex_digit line

both : (a b : Bool) → (a && b) ≡ true → (a ≡ true) × (b ≡ true)
both true b h = (refl, h)
both false b h = cc h

first_digit : (c : ℕ) (line : List ℕ) → all_digits (c ∷ line) ≡ true → is_hex_digit c ≡ true
first_digit c line h = (both (is_hex_digit c) (all_digits line) h).0

more_digits : (c : ℕ) (line : List ℕ) → all_digits (c ∷ line) ≡ true → all_digits line ≡ true
more_digits c line h = (both (is_hex_digit c) (all_digits line) h).1

spaceless : (line : List ℕ) → all_digits line ≡ true → without_spaces line ≡ line
spaceless [] h = refl
spaceless (c ∷ line) h =
    let other : (c == 32) ≡ false = ne_eqb c 32 (not_digit c 32 (first_digit c line h) refl) in
    rw other (ap (λ l. c ∷ l) (spaceless line (more_digits c line h)))

no_return_at : (line : List ℕ) (k : ℕ) → all_digits line ≡ true → (slice_index line k == 13) ≡ false
no_return_at [] k h = refl
no_return_at (c ∷ line) zero h = ne_eqb c 13 (not_digit c 13 (first_digit c line h) refl)
no_return_at (c ∷ line) (suc k) h = no_return_at line k (more_digits c line h)

no_return : (line : List ℕ) → all_digits line ≡ true → strip_carriage_return line ≡ line
no_return line h = ap (λ t. if t then take (length line - 1) line else line) (no_return_at line (length line - 1) h)

plain_digits : (line : List ℕ) → all_digits line ≡ true → 0 < length line → IsPlain line
plain_digits [] h some = absurd (omega arith)
plain_digits (c ∷ line) h some = ne_eqb c 35 (not_digit c 35 (first_digit c line h) refl)

no_word : (line : List ℕ) → all_digits line ≡ true → 0 < length line → form_of line ≡ plain_form_of line
no_word [] h some = absurd (omega arith)
no_word (c ∷ line) h some =
    let digit = first_digit c line h in
    let r : (c == 114) ≡ false = ne_eqb c 114 (not_digit c 114 digit refl) in
    let s : (115 == c) ≡ false = ne_eqb 115 c (λ e. not_digit c 115 digit refl (sym e)) in
    let g : (103 == c) ≡ false = ne_eqb 103 c (λ e. not_digit c 103 digit refl (sym e)) in
    rw (r, s, g) refl

-- such a line is the command that it spells
pub spelt : (line bytes : List ℕ) → decode_of line ≡ Ok bytes → 0 < length line → length line ≤ 131090
    → (form_of (strip_carriage_return line) ≡ Asks (Command bytes)) × (bytes ≡ take 65545 bytes)
spelt line bytes h some few =
    let ok = decode_of-ok line bytes h in
    let all = list_all-from_AllPass is_hex_digit line ok.1 in
    let form : form_of line ≡ Asks (Command bytes) = no_word line all some ∙ form_plain line (plain_digits line all some)
    ∙ ap (λ l. form_of_decoded (decode_of l)) (spaceless line all) ∙ ap form_of_decoded h in
    (ap form_of (no_return line all) ∙ form, sym (take_all 65545 bytes (omega (arith, ok.2, few))))

-- what holds of the one holds of the other
pub if_some : {X : Type 0} (E : Type 0) (r : Option X) (P Q : X → Type 0) → MatchOption r E P → ((x : X) → P x → Q x) → IfSome r Q
if_some E None P Q h f = tt
if_some E (Some x) P Q h f = f x h

pub some_so : {X : Type 0} (r : Option X) (P Q : X → Type 0) → IfSome r P → ((x : X) → P x → Q x) → IfSome r Q
some_so None P Q h f = tt
some_so (Some x) P Q h f = f x h
