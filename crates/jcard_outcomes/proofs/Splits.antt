-- Texts that are cut at a byte, or begin with another.
use Rattle.std.proofs.Common.{arith, ◌≡◌, ◌⊎◌, ⊎_elim, ◌∙◌, ℕ, ◌+◌, ◌-◌, ◌<◌, ◌≤◌, ◌^◌, ◌==◌, ◌||◌, Bool, true, false, List, [], ◌∷◌, ◌++◌, length, get_or, take, drop, drop-cons, add-one, ap, sym, refl}
use Rattle.std.specs.Prelude.{decimal}
use Rattle.std.specs.Str.{bytes_eq}
use Rattle.std.specs.Str.Parse.{AllDigits}
use Rattle.std.proofs.lemmas.Bool.{eq-eqb, false≢true, ne_eqb}
use Rattle.std.proofs.lemmas.Fmt.{decimal_is_IsNumeral}
use Rattle.std.proofs.lemmas.List.{append_cancel_left, take-append-drop, length-append, length-drop, take_all}
use Rattle.std.proofs.lemmas.List.Folds.{list_any_more}
use Rattle.std.proofs.lemmas.Slice.Eq.{bytes_eq-Decides}
use Rattle.std.proofs.lemmas.Str.Parse.{digit_from_value}
use Rattle.jcard_outcomes.specs.Part.{has}

-- texts that are the same
pub same : (a b : List ℕ) (r : Bool) → r ≡ bytes_eq a b → r ≡ true → a ≡ b
same a b r e y = (bytes_eq-Decides a b).0 (sym e ∙ y)

pub other : (a b : List ℕ) (r : Bool) → r ≡ bytes_eq a b → r ≡ false → a ≡ b → ⊥
other a b r e n h = false≢true (sym n ∙ e ∙ (bytes_eq-Decides a b).1 h)

-- the byte at which a text is cut
pub has_there : (s : ℕ) (a x : List ℕ) → has s (a ++ s ∷ x) ≡ true
has_there s [] x = ap (λ b. b || has s x) (eq-eqb s s refl)
has_there s (c ∷ a) x = ap (λ b. (c == s) || b) (has_there s a x) ∙ or_true (c == s)
  where
    or_true : (b : Bool) → (b || true) ≡ true
    or_true true = refl
    or_true false = refl

first_is : (s c : ℕ) (a : List ℕ) → has s (c ∷ a) ≡ false → c ≡ s → ⊥
first_is s c a n e = false≢true (sym n ∙ ap (λ b. b || has s a) (eq-eqb c s e))

rest_has : (s c : ℕ) (a : List ℕ) → has s (c ∷ a) ≡ false → has s a ≡ false
rest_has s c a n = by (c == s) (has s a) n
  where
    by : (b d : Bool) → (b || d) ≡ false → d ≡ false
    by true d n = absurd (false≢true (sym n))
    by false d n = n

-- a text is cut at a byte in one way
pub cut_unique : (s : ℕ) (a b x y : List ℕ) → has s a ≡ false → has s b ≡ false → a ++ s ∷ x ≡ b ++ s ∷ y → (a ≡ b) × (x ≡ y)
cut_unique s [] [] x y p q e = let tail : x ≡ y = cc e in (refl, tail)
cut_unique s [] (d ∷ b) x y p q e = let head : d ≡ s = cc e in absurd (first_is s d b q head)
cut_unique s (c ∷ a) [] x y p q e = let head : c ≡ s = cc e in absurd (first_is s c a p head)
cut_unique s (c ∷ a) (d ∷ b) x y p q e =
    let head : c ≡ d = cc e in
    let tail : a ++ s ∷ x ≡ b ++ s ∷ y = cc e in
    let more = cut_unique s a b x y (rest_has s c a p) (rest_has s d b q) tail in
    let front : a ≡ b = more.0 in
    let whole : c ∷ a ≡ d ∷ b = cc in
    (whole, more.1)

-- digits have no other byte
digits_lack : (s : ℕ) (ds : List ℕ) → (s < 48) ⊎ (57 < s) → AllDigits 10 ds → has s ds ≡ false
digits_lack s [] h all = refl
digits_lack s (d ∷ ds) h all =
    let range = digit_from_value d all.0 in
    let apart : d ≡ s → ⊥ = ⊎_elim (λ low e. absurd (omega (arith, range.0, low, e))) (λ high e. absurd (omega (arith, range.1, high, e))) h in
    ap (λ b. b || has s ds) (ne_eqb d s apart) ∙ digits_lack s ds h all.1

pub decimal_lacks : (s n : ℕ) → (s < 48) ⊎ (57 < s) → n < 2 ^ 64 → has s (decimal n) ≡ false
decimal_lacks s n h small = digits_lack s (decimal n) h (decimal_is_IsNumeral n small).0.1

-- ---- a loop that looks for the byte

pub has_next : (s : ℕ) (text : List ℕ) (i : ℕ) → i < length text → (get_or text i 0 ≡ s → ⊥) → has s (take i text) ≡ false → has s (take (i + 1) text) ≡ false
has_next s text i h apart n = list_any_more (λ x. x == s) text i 0 h ∙ ap (λ b. b || (get_or text i 0 == s)) n ∙ ne_eqb (get_or text i 0) s apart

pub has_all : (s : ℕ) (text : List ℕ) (i : ℕ) → length text ≤ i → has s (take i text) ≡ false → has s text ≡ false
has_all s text i h n = ap (has s) (sym (take_all i text h)) ∙ n

pub cut_here : (s : ℕ) (text : List ℕ) (i : ℕ) → i < length text → get_or text i 0 ≡ s → text ≡ take i text ++ s ∷ drop (i + 1) text
cut_here s text i h e = sym (take-append-drop i text) ∙ ap (λ l. take i text ++ l) (drop-at i text h ∙ ap (λ x. x ∷ drop (i + 1) text) e)
  where
    drop-at : (i : ℕ) (xs : List ℕ) → i < length xs → drop i xs ≡ get_or xs i 0 ∷ drop (i + 1) xs
    drop-at i xs h = rw add-one (drop-cons xs i 0 h)

-- ---- lines

-- a text that has such a byte is cut at it
pub not_lacking : (s : ℕ) (text a x : List ℕ) → has s text ≡ false → text ≡ a ++ s ∷ x → ⊥
not_lacking s text a x n e = false≢true (sym n ∙ ap (has s) e ∙ has_there s a x)

-- two ways to cut a text are one
pub cut_again : (s : ℕ) (text a b x y : List ℕ) → text ≡ a ++ s ∷ x → has s a ≡ false → text ≡ b ++ s ∷ y → has s b ≡ false → (a ≡ b) × (x ≡ y)
cut_again s text a b x y e p f q = cut_unique s a b x y p q (sym e ∙ f)

-- what follows the same beginning is the same
pub rest_again : (text beginning x y : List ℕ) → text ≡ beginning ++ x → text ≡ beginning ++ y → x ≡ y
rest_again text beginning x y e f = append_cancel_left beginning x y (sym e ∙ f)

-- a text that is shorter, or begins with another, does not begin so
pub too_short : (text beginning rest : List ℕ) → length text < length beginning → text ≡ beginning ++ rest → ⊥
too_short text beginning rest h e = absurd (omega (arith, simp length-append at (ap length e)))

pub begins : (text beginning front rest : List ℕ) → text ≡ front ++ rest → front ≡ beginning → text ≡ beginning ++ rest
begins text beginning front rest e f = e ∙ ap (λ l. l ++ rest) f

pub begins_not : (text beginning front rest more : List ℕ) → front ≡ take (length beginning) text → (front ≡ beginning → ⊥) → text ≡ beginning ++ more → ⊥
begins_not text beginning front rest more e n f = n (e ∙ ap (take (length beginning)) f ∙ take-append-all beginning more)
  where
    take-append-all : (a x : List ℕ) → take (length a) (a ++ x) ≡ a
    take-append-all [] x = refl
    take-append-all (y ∷ a) x = ap (λ l. y ∷ l) (take-append-all a x)

-- what is left after a place, as a slice has it
pub take_rest : (k : ℕ) (xs : List ℕ) → take (length xs - k) (drop k xs) ≡ drop k xs
take_rest k xs = take_all (length xs - k) (drop k xs) (omega (arith, length-drop k xs))
