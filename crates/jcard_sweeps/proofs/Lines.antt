-- The first of the lines of a text, and the commands from a line on.
use Rattle.std.proofs.Common.{◌≡◌, ◌∙◌, ◌⊎◌, ◌==◌, inl, inr, ℕ, suc, zero, ◌+◌, ◌-◌, ◌<◌, ◌≤◌, true, false, if◌then◌else◌, List, [], ◌∷◌, ◌++◌, length, get_or}
use Rattle.std.proofs.Common.{take, drop, ap, sym, refl, arith, eq-eqb, take-add, Some, None}
use Rattle.std.proofs.lemmas.Bool.{ne_eqb}
use Rattle.std.proofs.lemmas.List.{drop-drop, drop_all, drop_more, get_or-drop, length-drop}
use Rattle.jcard_sweeps.specs.ScriptLines.{commands_from, first_numbered, is_command, whole_lines, with_first}
use Rattle.jcard_sweeps.specs.declared.script_lines.ScriptLine.{ScriptLine}

-- the byte at a place is a line feed
abbrev is_feed : List ℕ → ℕ → Type 0
is_feed xs i = get_or xs i 0 ≡ 10

-- a text that ends at its first byte, or whose first byte is a line feed, begins with a line of one byte
one_byte : (x : ℕ) (xs : List ℕ) → (1 ≡ length (x ∷ xs)) ⊎ (x ≡ 10) → whole_lines (x ∷ xs) ≡ (x ∷ []) ∷ whole_lines xs
unfolding whole_lines
one_byte x xs (inr e) = ap (λ b. if b then (x ∷ []) ∷ whole_lines xs else with_first x (whole_lines xs)) (eq-eqb x 10 e)
one_byte x [] (inl e) = elim (x == 10) as (λ b. (if b then (x ∷ []) ∷ [] else (x ∷ []) ∷ []) ≡ (x ∷ []) ∷ []) [ true ↦ refl | false ↦ refl ]
one_byte x (y ∷ ys) (inl e) =
    let none : 1 < 1 = omega (arith, e) in
    absurd (omega (arith, none))

-- a text begins with its first line: up to its first line feed, or all of it
pub first_line : (xs : List ℕ) (k : ℕ) → 0 < k → k ≤ length xs → ((i : ℕ) → i + 1 < k → is_feed xs i → ⊥)
    → (k ≡ length xs) ⊎ is_feed xs (k - 1) → whole_lines xs ≡ take k xs ∷ whole_lines (drop k xs)
unfolding whole_lines
first_line [] k some within plain ends =
    let none : 0 < 0 = omega arith in
    absurd (omega (arith, none))
first_line (x ∷ xs) zero some within plain ends = absurd (omega arith)
first_line (x ∷ xs) (suc zero) some within plain ends = one_byte x xs ends
first_line (x ∷ xs) (suc (suc k)) some within plain ends =
    let other : (x == 10) ≡ false = ne_eqb x 10 (plain 0 (omega arith)) in
    let here : suc k - 1 ≡ k = omega arith in
    let there : suc (suc k) - 1 ≡ suc k = omega arith in
    let more = first_line xs (suc k) (omega arith) (omega arith) (λ i h. plain (suc i) (omega arith))
    (elim ends [ inl whole ↦ inl (omega arith) | inr feed ↦ inr (ap (λ i. get_or xs i 0) here ∙ (sym (ap (λ i. get_or (x ∷ xs) i 0) there) ∙ feed)) ]) in
    ap (λ b. if b then (x ∷ []) ∷ whole_lines xs else with_first x (whole_lines xs)) other ∙ ap (with_first x) more

-- from the beginning of a line on a text is that line, and the lines after it
pub next_line : (script : List ℕ) (start end : ℕ) → start < end → end ≤ length script
    → ((i : ℕ) → start ≤ i → i + 1 < end → is_feed script i → ⊥) → (end ≡ length script) ⊎ is_feed script (end - 1)
    → whole_lines (drop start script) ≡ take (end - start) (drop start script) ∷ whole_lines (drop end script)
next_line script start end after within plain ends =
    let long : length (drop start script) ≡ length script - start = length-drop start script in
    let there : start + (end - start) ≡ end = omega arith in
    let last : start + ((end - start) - 1) ≡ end - 1 = omega arith in
    let quiet : (i : ℕ) → i + 1 < end - start → is_feed (drop start script) i → ⊥ =
    λ i h feed. plain (start + i) (omega arith) (omega arith) (sym (get_or-drop start script i 0) ∙ feed) in
    let ended : (end - start ≡ length (drop start script)) ⊎ is_feed (drop start script) ((end - start) - 1) = elim ends [
      | inl whole ↦ inl (omega (arith, long))
      | inr feed ↦ inr (get_or-drop start script ((end - start) - 1) 0 ∙ ap (λ i. get_or script i 0) last ∙ feed)
    ] in
    let rest : drop (end - start) (drop start script) ≡ drop end script = drop-drop (end - start) start script ∙ ap (λ i. drop i script) there in
    first_line (drop start script) (end - start) (omega arith) (omega (arith, long)) quiet ended
    ∙ ap (λ d. take (end - start) (drop start script) ∷ whole_lines d) rest

-- the commands from a line on: perhaps that line, and those after it
pub next_command : (script : List ℕ) (start end n : ℕ) → start < end → end ≤ length script
    → ((i : ℕ) → start ≤ i → i + 1 < end → is_feed script i → ⊥) → (end ≡ length script) ⊎ is_feed script (end - 1)
    → commands_from n (take start script) (whole_lines (drop start script))
    ≡ (if is_command (take (end - start) (drop start script))
    then record { number = n; before = take start script; text = take (end - start) (drop start script) }
    ∷ commands_from (n + 1) (take end script) (whole_lines (drop end script))
    else commands_from (n + 1) (take end script) (whole_lines (drop end script)))
unfolding commands_from
next_command script start end n after within plain ends =
    let there : start + (end - start) ≡ end = omega arith in
    let before : take start script ++ take (end - start) (drop start script) ≡ take end script =
    sym (take-add start (end - start) script) ∙ ap (λ i. take i script) there in
    ap (commands_from n (take start script)) (next_line script start end after within plain ends)
    ∙ ap (λ (b : List ℕ). if is_command (take (end - start) (drop start script))
    then record { number = n; before = take start script; text = take (end - start) (drop start script) }
    ∷ commands_from (n + 1) b (whole_lines (drop end script))
    else commands_from (n + 1) b (whole_lines (drop end script))) before

-- after the last line there is none
pub none_behind : (n : ℕ) (before script : List ℕ) (start : ℕ) → length script ≤ start → commands_from n before (whole_lines (drop start script)) ≡ []
unfolding commands_from whole_lines
none_behind n before script start h = ap (λ d. commands_from n before (whole_lines d)) (drop_all start script h)

-- a line that is no command is passed over
pub passed_over : (script : List ℕ) (start end n : ℕ) → start < end → end ≤ length script
    → ((i : ℕ) → start ≤ i → i + 1 < end → is_feed script i → ⊥) → (end ≡ length script) ⊎ is_feed script (end - 1)
    → is_command (take (end - start) (drop start script)) ≡ false
    → commands_from n (take start script) (whole_lines (drop start script)) ≡ commands_from (n + 1) (take end script) (whole_lines (drop end script))
passed_over script start end n after within plain ends other = next_command script start end n after within plain ends
    ∙ ap (λ b. if b then record { number = n; before = take start script; text = take (end - start) (drop start script) }
    ∷ commands_from (n + 1) (take end script) (whole_lines (drop end script))
    else commands_from (n + 1) (take end script) (whole_lines (drop end script))) other

-- a command is the first of those from its line on
pub found_first : (script : List ℕ) (start end n : ℕ) → start < end → end ≤ length script
    → ((i : ℕ) → start ≤ i → i + 1 < end → is_feed script i → ⊥) → (end ≡ length script) ⊎ is_feed script (end - 1)
    → is_command (take (end - start) (drop start script)) ≡ true
    → commands_from n (take start script) (whole_lines (drop start script))
    ≡ record { number = n; before = take start script; text = take (end - start) (drop start script) }
    ∷ commands_from (n + 1) (take end script) (whole_lines (drop end script))
found_first script start end n after within plain ends first = next_command script start end n after within plain ends
    ∙ ap (λ b. if b then record { number = n; before = take start script; text = take (end - start) (drop start script) }
    ∷ commands_from (n + 1) (take end script) (whole_lines (drop end script))
    else commands_from (n + 1) (take end script) (whole_lines (drop end script))) first

-- the next item has the number
pub number_found : (n : ℕ) (all : List ScriptLine) (i : ℕ) (d : ScriptLine) → i < length all → (get_or all i d).number ≡ n
    → first_numbered n (drop i all) ≡ Some (get_or all i d)
unfolding first_numbered
number_found n all i d h e = ap (first_numbered n) (drop_more all i d h)
    ∙ ap (λ b. if b then Some (get_or all i d) else first_numbered n (drop (i + 1) all)) (eq-eqb (get_or all i d).number n e)

-- it has another one
pub number_passed : (n : ℕ) (all : List ScriptLine) (i : ℕ) (d : ScriptLine) → i < length all → ((get_or all i d).number ≡ n → ⊥)
    → first_numbered n (drop i all) ≡ first_numbered n (drop (i + 1) all)
unfolding first_numbered
number_passed n all i d h e = ap (first_numbered n) (drop_more all i d h)
    ∙ ap (λ b. if b then Some (get_or all i d) else first_numbered n (drop (i + 1) all)) (ne_eqb (get_or all i d).number n e)

-- no item is left
pub number_missing : (n : ℕ) (all : List ScriptLine) (i : ℕ) → length all ≤ i → first_numbered n (drop i all) ≡ None
unfolding first_numbered
number_missing n all i h = ap (first_numbered n) (drop_all i all h)
