-- Steps over texts within quotes.
use Rattle.std.proofs.Common.{Bool, true, false, ◌≡◌, ◌∙◌, ℕ, zero, suc, ◌+◌, ◌-◌, ◌<◌, ◌≤◌, List, [], ◌∷◌, ◌++◌, length, get_or, drop, refl, ap, sym, append-nil, append_assoc, arith}
use Rattle.std.specs.Prelude.{codes, if◌then◌else◌}
use Rattle.std.proofs.lemmas.List.{drop_all, get_or_default}
use Rattle.jcard_texts.specs.Escapes.{begins_outside, escape, escaped_behind}
use Rattle.jcard_texts.proofs.Items.{drop_at}

-- a byte more of a text within quotes
pub escaped_none : (k : ℕ) → escaped_behind k [] ≡ []
unfolding escaped_behind
escaped_none zero = refl
escaped_none (suc k) = refl

pub escaped_left_out : (k : ℕ) (cs : List ℕ) → 0 < k → escaped_behind k cs ≡ escaped_behind (k - 1) (drop 1 cs)
unfolding escaped_behind
escaped_left_out zero cs h = absurd (omega arith)
escaped_left_out (suc k) [] h = sym (escaped_none (suc k - 1))
escaped_left_out (suc k) (c ∷ cs) h = let e : suc k - 1 ≡ k = omega arith in ap (λ n. escaped_behind n cs) (sym e)

-- its first byte is left out, stands for a character that XML lacks, or is written
escaped_outside : (k : ℕ) (cs : List ℕ) → k ≤ 0 → 0 < length cs → begins_outside cs ≡ true → escaped_behind k cs ≡ codes "?" ++ escaped_behind 2 (drop 1 cs)
unfolding escaped_behind
escaped_outside (suc k) cs n h b = absurd (omega arith)
escaped_outside zero [] n h b = absurd (omega arith)
escaped_outside zero (c ∷ cs) n h b = ap (λ (t : Bool). if t then codes "?" ++ escaped_behind 2 cs else escape c ++ escaped_behind 0 cs) b

escaped_byte : (k : ℕ) (cs : List ℕ) → k ≤ 0 → 0 < length cs → begins_outside cs ≡ false → escaped_behind k cs ≡ escape (get_or cs 0 0) ++ escaped_behind 0 (drop 1 cs)
unfolding escaped_behind
escaped_byte (suc k) cs n h b = absurd (omega arith)
escaped_byte zero [] n h b = absurd (omega arith)
escaped_byte zero (c ∷ cs) n h b = ap (λ (t : Bool). if t then codes "?" ++ escaped_behind 2 cs else escape c ++ escaped_behind 0 cs) b

next_piece : (text next piece rest whole : List ℕ) → next ≡ text ++ piece → whole ≡ piece ++ rest → next ++ rest ≡ text ++ whole
next_piece text next piece rest whole n w = ap (λ t. t ++ rest) n ∙ append_assoc text piece rest ∙ ap (λ t. text ++ t) (sym w)

pub next_outside : (k : ℕ) (cs text next : List ℕ) → k ≤ 0 → 0 < length cs → begins_outside cs ≡ true → next ≡ text ++ codes "?"
    → next ++ escaped_behind 2 (drop 1 cs) ≡ text ++ escaped_behind k cs
next_outside k cs text next n h b e = next_piece text next (codes "?") (escaped_behind 2 (drop 1 cs)) (escaped_behind k cs) e (escaped_outside k cs n h b)

pub next_byte : (k : ℕ) (cs text next : List ℕ) → k ≤ 0 → 0 < length cs → begins_outside cs ≡ false → next ≡ text ++ escape (get_or cs 0 0)
    → next ++ escaped_behind 0 (drop 1 cs) ≡ text ++ escaped_behind k cs
next_byte k cs text next n h b e = next_piece text next (escape (get_or cs 0 0)) (escaped_behind 0 (drop 1 cs)) (escaped_behind k cs) e (escaped_byte k cs n h b)

-- the bytes from the next place on
pub escaped_next : (k next : ℕ) (bytes : List ℕ) (i : ℕ) (start text after : List ℕ) → i < length bytes
    → after ++ escaped_behind next (drop 1 (drop i bytes)) ≡ text ++ escaped_behind k (drop i bytes)
    → text ++ escaped_behind k (drop i bytes) ≡ start → after ++ escaped_behind next (drop (i + 1) bytes) ≡ start
escaped_next k next bytes i start text after h step all =
    let x : ℕ = get_or bytes i 0 in
    let here : drop i bytes ≡ x ∷ drop (i + 1) bytes = drop_at bytes i x h (get_or_default bytes i 0 x h) in
    let more : drop 1 (drop i bytes) ≡ drop (i + 1) bytes = ap (drop 1) here in
    ap (λ (l : List ℕ). after ++ escaped_behind next l) (sym more) ∙ step ∙ all

pub escaped_whole : (k : ℕ) (bytes : List ℕ) (i : ℕ) (start text : List ℕ) → length bytes ≤ i → text ++ escaped_behind k (drop i bytes) ≡ start → text ≡ start
escaped_whole k bytes i start text h all = sym (append-nil text)
    ∙ ap (λ (l : List ℕ). text ++ l) (sym (ap (escaped_behind k) (drop_all i bytes h) ∙ escaped_none k)) ∙ all
