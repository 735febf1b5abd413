-- What a line that is a word asks for.
use Rattle.std.proofs.Common.{◌≡◌, ℕ, ◌+◌, ◌-◌, ◌*◌, ◌≤◌, nat_le, nat_lt, ◌==◌, Bool, true, false, ◌&&◌, if◌then◌else◌, List, [], ◌∷◌, ◌++◌, length, take, drop, Option, Some, None, ◌⊎◌, inl, inr, ◌<◌, length-drop, length-take}
use Rattle.std.proofs.Common.{refl, sym, ◌∙◌, ap, arith}
use Rattle.std.specs.Prelude.{codes, nat_eq}
use Rattle.std.specs.Char.{is_ascii_digit, digit_value}
use Rattle.std.specs.Str.{bytes_eq, all_ascii_digits}
use Rattle.std.specs.Str.Parse.{digits_value}
use Rattle.std.specs.List.{starts_with}
use Rattle.std.specs.Option.{option_map}
use Rattle.std.proofs.lemmas.Bool.{cases_lt, ne_eqb}
use Rattle.std.proofs.lemmas.Bool.Decides.{nat_tests}
use Rattle.std.proofs.lemmas.Grind.{common_steps}
use Rattle.std.proofs.lemmas.Int.Digits.{digits_value_push}
use Rattle.std.proofs.lemmas.List.{take_all}
use Rattle.jc_interp.specs.declared.attacks.FaultModel.{FaultModel}
use Rattle.jc_card.specs.Session.Requests.{Command, Reset, ArmFuse, PlanFault}
use Rattle.jc_card.specs.declared.planned_fault.PlannedFault.{PlannedFault}
use Rattle.jc_card.specs.declared.planned_fault.SecondFault.{SecondFault}
use Rattle.jcard_script.specs.Script.{Form, Asks, Bad, both_named, counted, fault_named, faults_named, first_length, form_of, fuse_form_of, glitch_form_of, is_instruction_number, is_number}
use Rattle.jcard_script.specs.Script.{model_named, numbered, plain_form_of, plan_form_of, second_named}
use Rattle.jcard_script.specs.Word.{number_so_far, next_number}

-- ---- the number

and_true : (t : Bool) → (t && true) ≡ t
and_true true = refl
and_true false = refl

and_assoc : (a b c : Bool) → (a && (b && c)) ≡ ((a && b) && c)
and_assoc true b c = refl
and_assoc false b c = refl

all_push : (ds : List ℕ) (b : ℕ) → all_ascii_digits (ds ++ b ∷ []) ≡ (all_ascii_digits ds && is_ascii_digit b)
all_push [] b = and_true (is_ascii_digit b)
all_push (d ∷ ds) b = ap (λ t. is_ascii_digit d && t) (all_push ds b) ∙ and_assoc (is_ascii_digit d) (all_ascii_digits ds) (is_ascii_digit b)

digit_is : (b : ℕ) → is_ascii_digit b ≡ true → digit_value b ≡ b - 48
digit_is b h = grind (arith, nat_tests)

push_cases : (a d t u : Bool) (v w b : ℕ) → is_ascii_digit b ≡ d → nat_le v 65535 ≡ t → nat_le w 65535 ≡ u → (d ≡ true → w ≡ 10 * v + (b - 48))
    → (if (a && d) && u then Some w else None) ≡ next_number (if a && t then Some v else None) b
push_cases false d t u v w b hd ht hu hw = refl
push_cases true false true u v w b hd ht hu hw = rw hd refl
push_cases true false false u v w b hd ht hu hw = refl
push_cases true true true u v w b hd ht hu hw =
    let e = hw refl in
    let g : nat_le (10 * v + (b - 48)) 65535 ≡ u = ap (λ n. nat_le n 65535) (sym e) ∙ hu in
    rw (hd, g, e) refl
push_cases true true false true v w b hd ht hu hw = let e = hw refl in absurd (grind (arith, nat_tests))
push_cases true true false false v w b hd ht hu hw = refl

-- one more digit
pub number_push : (ds : List ℕ) (b : ℕ) → number_so_far (ds ++ b ∷ []) ≡ next_number (number_so_far ds) b
number_push ds b =
    let w = digits_value 10 (ds ++ b ∷ []) in
    ap (λ t. if t && nat_le w 65535 then Some w else None) (all_push ds b)
    ∙ push_cases (all_ascii_digits ds) (is_ascii_digit b) (nat_le (digits_value 10 ds) 65535) (nat_le w 65535) (digits_value 10 ds) w b refl refl refl
    (λ d. let one : w ≡ digits_value 10 ds * 10 + digit_value b = digits_value_push 10 ds b in let two = digit_is b d in omega (arith, one, two))

-- ---- the first bytes

-- ---- the forms

-- ---- one more byte

pub drop_long : (line : List ℕ) (b : ℕ) → 6 ≤ length (take 39 line) + 1 → drop 5 (line ++ b ∷ []) ≡ drop 5 line ++ b ∷ []
drop_long line b h = grind (arith, common_steps)

-- ---- a command is no word

glitch_left : (none : Bool) (fault : Option PlannedFault) (bytes : List ℕ)
    → (if none then Asks (PlanFault None) else plan_form_of fault) ≡ Asks (Command bytes) → ⊥
glitch_left true fault bytes h = cc h
glitch_left false None bytes h = cc h
glitch_left false (Some fault) bytes h = cc h

no_glitch : (text bytes : List ℕ) → glitch_form_of text ≡ Asks (Command bytes) → ⊥
no_glitch text bytes h = glitch_left (bytes_eq text (codes "none")) (faults_named text) bytes h

plain_left : (a b n g : Bool) (k : ℕ) (q f : Form) (bytes : List ℕ) → (q ≡ Asks (Command bytes) → ⊥)
    → (if a then Asks Reset else (if b then (if n then Asks (ArmFuse k) else Bad) else (if g then q else f))) ≡ Asks (Command bytes) → f ≡ Asks (Command bytes)
plain_left true b n g k q f bytes none h = cc h
plain_left false true true g k q f bytes none h = cc h
plain_left false true false g k q f bytes none h = cc h
plain_left false false n true k q f bytes none h = absurd (none h)
plain_left false false n false k q f bytes none h = h

pub form_command : (line bytes : List ℕ) → form_of line ≡ Asks (Command bytes) → plain_form_of line ≡ Asks (Command bytes)
form_command line bytes h = plain_left (bytes_eq line (codes "reset")) (starts_with nat_eq line (codes "stop ")) (is_number (drop 5 line))
    (starts_with nat_eq line (codes "glitch ")) (digits_value 10 (drop 5 line)) (glitch_form_of (drop 7 line)) (plain_form_of line) bytes
    (no_glitch (drop 7 line) bytes) h

-- ---- a line of more bytes than a word has

not_none : (text : List ℕ) → 32 ≤ length text → bytes_eq text (codes "none") ≡ false
not_none text h = grind (arith, common_steps)

no_number : (model : Option FaultModel) (digits : List ℕ) → 10 < length digits → numbered model digits ≡ None
no_number None digits h = refl
no_number (Some model) digits h = rw (too_long digits h) refl
  where
    too_long : (ds : List ℕ) → 10 < length ds → is_instruction_number ds ≡ false
    too_long ds n = grind (arith, nat_tests)

long_fault : (text : List ℕ) → 16 ≤ length text → fault_named text ≡ None
long_fault text h = no_number (model_named (drop (length text - 5) text)) (take (length text - 5) text)
    (omega (arith, h, length-take (length text - 5) text))

long_second : (text : List ℕ) → 17 ≤ length text → second_named text ≡ None
long_second [] h = absurd (omega (arith, h))
long_second (byte ∷ rest) h = rw (long_fault rest (omega (arith, h))) (either (byte == 32))
  where
    either : (t : Bool) → (if t then option_map Some (counted None) else None) ≡ None
    either true = refl
    either false = refl

none_second : (first : Option (ℕ × FaultModel)) (second : Option (Option SecondFault)) → second ≡ None → both_named first second ≡ None
none_second None second e = refl
none_second (Some first) second e = rw e refl

long_faults : (text : List ℕ) → 32 ≤ length text → faults_named text ≡ None
unfolding faults_named
long_faults text h = by_length (cases_lt (length (take n text)) 16)
  where
    n : ℕ
    n = first_length text

    by_length : (length (take n text) < 16) ⊎ (16 ≤ length (take n text)) → faults_named text ≡ None
    by_length (inl few) = none_second (fault_named (take n text)) (second_named (drop n text))
        (long_second (drop n text) (omega (arith, few, h, length-take n text, length-drop n text)))
    by_length (inr many) = rw (long_fault (take n text) many) refl

long_glitch : (text : List ℕ) → 32 ≤ length text → glitch_form_of text ≡ Bad
long_glitch text h = rw (not_none text h, long_faults text h) refl

both_long : (one other : List ℕ) → 32 ≤ length one → 32 ≤ length other → glitch_form_of one ≡ glitch_form_of other
both_long one other long longer = long_glitch one long ∙ sym (long_glitch other longer)

kept_alike : (line kept : List ℕ) (t : Bool) → nat_le (length line) 39 ≡ t → kept ≡ take 39 line → glitch_form_of (drop 7 kept) ≡ glitch_form_of (drop 7 line)
kept_alike line kept true e is =
    let few : length line ≤ 39 = grind (arith, nat_tests) in ap (λ (l : List ℕ). glitch_form_of (drop 7 l)) (is ∙ take_all 39 line few)
kept_alike line kept false e is =
    let more : 39 < length line = grind (arith, nat_tests) in
    let len = ap (λ (l : List ℕ). length l) is ∙ length-take 39 line in
    both_long (drop 7 kept) (drop 7 line) (omega (arith, length-drop 7 kept, len, more)) (omega (arith, length-drop 7 line, more))

-- what a line asks for after `glitch ` depends on its first 39 bytes alone
pub glitch_kept : (line kept : List ℕ) → kept ≡ take 39 line → glitch_form_of (drop 7 kept) ≡ glitch_form_of (drop 7 line)
glitch_kept line kept is = kept_alike line kept (nat_le (length line) 39) refl is

-- ---- a line that begins as a word does

first_of_both : (t u : Bool) → (t && u) ≡ true → t ≡ true
first_of_both true u h = refl
first_of_both false u h = h

-- one that begins so asks for what stands after `glitch `
pub glitch_first : (line : List ℕ) → starts_with nat_eq (take 39 line) (codes "glitch ") ≡ true → form_of line ≡ glitch_form_of (drop 7 line)
glitch_first (a ∷ b ∷ c ∷ d ∷ e ∷ f ∷ g ∷ rest) h =
    let first : (103 == a) ≡ true = first_of_both (103 == a) ((108 == b) && ((105 == c) && ((116 == d) && ((99 == e) && ((104 == f) && ((32 == g) && true)))))) h in
    let is : a ≡ 103 = grind (arith, nat_tests) in
    let r : (a == 114) ≡ false = ne_eqb a 114 (λ q. omega (arith, is, q)) in
    let s : (115 == a) ≡ false = ne_eqb 115 a (λ q. omega (arith, is, q)) in
    rw (r, s, h) refl
glitch_first [] h = absurd (grind (arith, nat_tests))
glitch_first (a ∷ []) h = absurd (grind (arith, nat_tests))
glitch_first (a ∷ b ∷ []) h = absurd (grind (arith, nat_tests))
glitch_first (a ∷ b ∷ c ∷ []) h = absurd (grind (arith, nat_tests))
glitch_first (a ∷ b ∷ c ∷ d ∷ []) h = absurd (grind (arith, nat_tests))
glitch_first (a ∷ b ∷ c ∷ d ∷ e ∷ []) h = absurd (grind (arith, nat_tests))
glitch_first (a ∷ b ∷ c ∷ d ∷ e ∷ f ∷ []) h = absurd (grind (arith, nat_tests))

-- and one that begins so for what stands after `stop `
pub stop_first : (line : List ℕ) → starts_with nat_eq (take 39 line) (codes "stop ") ≡ true → form_of line ≡ fuse_form_of (drop 5 line)
stop_first (a ∷ b ∷ c ∷ d ∷ e ∷ rest) h =
    let first : (115 == a) ≡ true = first_of_both (115 == a) ((116 == b) && ((111 == c) && ((112 == d) && ((32 == e) && true)))) h in
    let is : a ≡ 115 = grind (arith, nat_tests) in
    let r : (a == 114) ≡ false = ne_eqb a 114 (λ q. omega (arith, is, q)) in
    rw (r, h) refl
stop_first [] h = absurd (grind (arith, nat_tests))
stop_first (a ∷ []) h = absurd (grind (arith, nat_tests))
stop_first (a ∷ b ∷ []) h = absurd (grind (arith, nat_tests))
stop_first (a ∷ b ∷ c ∷ []) h = absurd (grind (arith, nat_tests))
stop_first (a ∷ b ∷ c ∷ d ∷ []) h = absurd (grind (arith, nat_tests))

none_number : (s t : Bool) → t ≡ false → (s && t) ≡ false
none_number true t e = e
none_number false t e = refl

-- which is bad where no number stands there
pub none_bad : (digits : List ℕ) → number_so_far digits ≡ None → fuse_form_of digits ≡ Bad
none_bad digits h = by_test (all_ascii_digits digits && nat_le (digits_value 10 digits) 65535) refl
  where
    by_test : (t : Bool) → (all_ascii_digits digits && nat_le (digits_value 10 digits) 65535) ≡ t → fuse_form_of digits ≡ Bad
    by_test true e = let some : Some (digits_value 10 digits) ≡ None = sym (ap (λ b. if b then Some (digits_value 10 digits) else None) e) ∙ h in absurd cc
    by_test false e = ap (λ b. if b then Asks (ArmFuse (digits_value 10 digits)) else Bad) (none_number (nat_lt 0 (length digits)) _ e)
