-- One step of the walk over a table.
use Rattle.std.proofs.Common.{◌≡◌, ℕ, zero, suc, ◌+◌, ◌-◌, ◌<◌, ◌≤◌, List, [], ◌∷◌, length, take, drop, get_or, sym, ◌∙◌, ap, arith, add-zero, min, ◌==◌, ◌||◌}
use Rattle.std.proofs.lemmas.List.{drop_more, length-drop, length-take, length-take-le, get_or-take, get_or-drop}
use Rattle.jc_words.specs.Layout.{top_address, packages_address, addresses_start, most_packages, text_start}
use Rattle.jc_heap.specs.Walk.{Sizes, missing_words}
use Rattle.jc_heap.specs.Image.{image, package_addresses, is_package}

pub missing_words-skip : (more : Sizes) (s at : ℕ) (ws : List ℕ) → s ≤ length ws → missing_words more s at ws ≡ missing_words more 0 (at + s) (drop s ws)
missing_words-skip more zero at ws h = ap (λ a. missing_words more 0 a ws) (sym (add-zero at))
missing_words-skip more (suc s) at [] h = absurd (omega arith)
missing_words-skip more (suc s) at (w ∷ ws) h =
    let here : suc at + s ≡ at + suc s = omega arith in
    missing_words-skip more s (suc at) ws (omega arith) ∙ ap (λ a. missing_words more 0 a (drop s ws)) here

missing_words-past : (more : Sizes) (s at : ℕ) (ws : List ℕ) → length ws ≤ s → missing_words more s at ws ≡ s - length ws
missing_words-past more s at [] h = omega arith
missing_words-past more zero at (w ∷ ws) h = absurd (omega arith)
missing_words-past more (suc s) at (w ∷ ws) h = missing_words-past more s (suc at) ws (omega arith) ∙ (omega arith)

-- a record that fits is stepped over
pub walk_step : (more : Sizes) (at : ℕ) (ws : List ℕ) → more at ws < length ws → missing_words more 0 at ws
    ≡ missing_words more 0 (at + (more at ws + 1)) (drop (more at ws + 1) ws)
walk_step more at [] h = absurd (omega arith)
walk_step more at (w ∷ ws) h =
    let one : more at (w ∷ ws) + 1 ≡ suc (more at (w ∷ ws)) = omega arith in
    let here : suc at + more at (w ∷ ws) ≡ at + suc (more at (w ∷ ws)) = omega arith in
    missing_words-skip more (more at (w ∷ ws)) (suc at) ws (omega arith)
    ∙ ap (λ a. missing_words more 0 a (drop (more at (w ∷ ws)) ws)) here
    ∙ ap (λ n. missing_words more 0 (at + n) (drop n (w ∷ ws))) (sym one)

-- a record that doesn't fit ends the walk
pub walk_short : (more : Sizes) (at : ℕ) (ws : List ℕ) → 0 < length ws → length ws ≤ more at ws → missing_words more 0 at ws ≡ 0 → ⊥
walk_short more at [] some h e = omega arith
walk_short more at (w ∷ ws) some h e =
    let left : missing_words more (more at (w ∷ ws)) (suc at) ws ≡ more at (w ∷ ws) - length ws =
    missing_words-past more (more at (w ∷ ws)) (suc at) ws (omega arith) in
    omega arith

-- the package addresses as words
pub length-packages : (ws : List ℕ) → text_start ≤ get_or ws top_address 0 → get_or ws top_address 0 ≤ length ws
    → length (package_addresses (image ws)) ≡ min (get_or ws packages_address 0) most_packages
length-packages ws wide fits =
    let long : length (image ws) ≡ get_or ws top_address 0 = length-take-le (get_or ws top_address 0) ws fits in
    let count : get_or (image ws) packages_address 0 ≡ get_or ws packages_address 0 =
    get_or-take (get_or ws top_address 0) ws packages_address 0 (omega arith) in
    ap (λ k. length (take k (take most_packages (drop addresses_start (image ws))))) count
    ∙ length-take (get_or ws packages_address 0) (take most_packages (drop addresses_start (image ws)))
    ∙ ap (min (get_or ws packages_address 0)) (length-take-le most_packages (drop addresses_start (image ws))
    (omega (arith, length-drop addresses_start (image ws))))

pub package_read : (ws : List ℕ) (k : ℕ) → text_start ≤ get_or ws top_address 0 → get_or ws top_address 0 ≤ length ws
    → k < min (get_or ws packages_address 0) most_packages → get_or (package_addresses (image ws)) k 0 ≡ get_or ws (addresses_start + k) 0
package_read ws k wide fits h =
    let count : get_or (image ws) packages_address 0 ≡ get_or ws packages_address 0 =
    get_or-take (get_or ws top_address 0) ws packages_address 0 (omega arith) in
    ap (λ n. get_or (take n (take most_packages (drop addresses_start (image ws)))) k 0) count
    ∙ get_or-take (get_or ws packages_address 0) (take most_packages (drop addresses_start (image ws))) k 0 (omega arith)
    ∙ get_or-take most_packages (drop addresses_start (image ws)) k 0 (omega arith)
    ∙ get_or-drop addresses_start (image ws) k 0
    ∙ get_or-take (get_or ws top_address 0) ws (addresses_start + k) 0 (omega arith)

pub package_step : (ps : List ℕ) (k at : ℕ) → k < length ps → is_package (drop k ps) at ≡ ((get_or ps k 0 == at) || is_package (drop (k + 1) ps) at)
package_step ps k at h = ap (λ l. is_package l at) (drop_more ps k 0 h)

-- a word of the table from an address on
pub word_from : (ws : List ℕ) (at k : ℕ) → at + k < get_or ws top_address 0 → get_or (drop at (image ws)) k 0 ≡ get_or ws (at + k) 0
word_from ws at k h = get_or-drop at (image ws) k 0 ∙ get_or-take (get_or ws top_address 0) ws (at + k) 0 h

pub word_at : (ws : List ℕ) (at : ℕ) → at < get_or ws top_address 0 → get_or (drop at (image ws)) 0 0 ≡ get_or ws at 0
word_at ws at h = word_from ws at 0 (omega arith) ∙ ap (λ n. get_or ws n 0) (add-zero at)
