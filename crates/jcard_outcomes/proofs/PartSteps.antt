-- Steps of the lines of a part.
use Rattle.std.proofs.Common.{arith, ◌≡◌, ◌∙◌, ℕ, ◌+◌, ◌*◌, ◌<◌, ◌≤◌, ◌++◌, List, length, get_or, drop, ap, sym, add-one, append_assoc}
use Rattle.std.proofs.Math.Nat.{mul-le-mul_left, mul-suc}
use Rattle.std.proofs.lemmas.List.{drop_all}
use Rattle.jcard_outcomes.specs.Part.{line_text, lines_text, told_cut}
use Rattle.jcard_outcomes.specs.declared.standing.Cut.{Cut}
use Rattle.jcard_texts.proofs.Items.{drop_at}

-- the number of the next line
pub number_next : (first step i number : ℕ) → number ≡ first + step * i → number + step ≡ first + step * (i + 1)
number_next first step i number e = rw add-one (omega (arith, mul-suc step i))

-- it is no greater than that of the last one
pub number_fits : (first step i total number bound : ℕ) → number ≡ first + step * i → i < total → first + step * total < bound → number + step < bound
number_fits first step i total number bound e h fits =
    omega (arith, mul-le-mul_left {m = i + 1} {n = total} step (omega arith), number_next first step i number e)

-- the line of the next cut is reported
pub line_more : (cuts : List Cut) (i k n : ℕ) (c : Cut) (text next uncut : List ℕ) → i < length cuts → c ≡ get_or cuts i c
    → next ≡ text ++ line_text k (told_cut c) → next ++ lines_text (k + n) n (drop (i + 1) cuts) uncut ≡ text ++ lines_text k n (drop i cuts) uncut
unfolding lines_text
line_more cuts i k n c text next uncut h e told = ap (λ t. t ++ lines_text (k + n) n (drop (i + 1) cuts) uncut) told
    ∙ append_assoc text (line_text k (told_cut c)) (lines_text (k + n) n (drop (i + 1) cuts) uncut)
    ∙ ap (λ t. text ++ t) (sym (ap (λ l. lines_text k n l uncut) (drop_at cuts i c h e)))

-- after the last one comes the line of the number that does not cut
pub lines_end : (cuts : List Cut) (i k n : ℕ) (text uncut : List ℕ) → length cuts ≤ i
    → text ++ line_text k uncut ≡ text ++ lines_text k n (drop i cuts) uncut
unfolding lines_text
lines_end cuts i k n text uncut h = ap (λ t. text ++ t) (sym (ap (λ l. lines_text k n l uncut) (drop_all i cuts h)))
