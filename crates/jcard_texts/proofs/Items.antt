-- Lists from an item on, and texts that grow by what belongs to it.
use Rattle.std.proofs.Common.{◌≡◌, ◌∙◌, ℕ, suc, ◌+◌, ◌-◌, take, length-drop, arith, ◌<◌, ◌≤◌, List, [], ◌∷◌, ◌++◌, length, get_or, drop, ap, sym, add-one, append_assoc, append-nil, drop-cons, Result, Ok, Err}
use Rattle.std.specs.Prelude.{OnOk}
use Rattle.std.proofs.lemmas.List.{drop_all, take_all}

-- from an item on: the item, and those after it
pub drop_at : {A : Type 0} (xs : List A) (i : ℕ) (x : A) → i < length xs → x ≡ get_or xs i x → drop i xs ≡ x ∷ drop (i + 1) xs
drop_at xs i x h e = rw add-one (drop-cons xs i x h ∙ ap (λ y. y ∷ drop (suc i) xs) (sym e))

-- a slice up to the end
pub slice_rest : {A : Type 0} (xs : List A) (i : ℕ) → take (length xs - i) (drop i xs) ≡ drop i xs
slice_rest xs i =
    let short : length (drop i xs) ≤ length xs - i = omega (arith, length-drop i xs) in
    take_all (length xs - i) (drop i xs) short

-- texts of items, one after the other
module _ {A : Type 0} (text_of : A → List ℕ) (texts_of : List A → List ℕ) (none : texts_of [] ≡ []) (more : (x : A) (xs : List A) → texts_of (x ∷ xs) ≡ text_of x ++ texts_of xs) where
  -- one item more
  pub text_grows : (xs : List A) (i : ℕ) (x : A) (start text next : List ℕ) → i < length xs → x ≡ get_or xs i x → next ≡ text ++ text_of x
      → text ++ texts_of (drop i xs) ≡ start → next ++ texts_of (drop (i + 1) xs) ≡ start
  text_grows xs i x start text next h e n all = ap (λ t. t ++ texts_of (drop (i + 1) xs)) n ∙ append_assoc text (text_of x) (texts_of (drop (i + 1) xs))
      ∙ ap (λ t. text ++ t) (sym (ap texts_of (drop_at xs i x h e) ∙ more x (drop (i + 1) xs))) ∙ all

  -- after the last
  pub text_whole : (xs : List A) (i : ℕ) (start text : List ℕ) → length xs ≤ i → text ++ texts_of (drop i xs) ≡ start → text ≡ start
  text_whole xs i start text h all = sym (append-nil text) ∙ ap (λ t. text ++ t) (sym (ap texts_of (drop_all i xs h) ∙ none)) ∙ all

-- text that was appended after text that was
pub appended : {E : Type 0} (r : Result (Unit {0}) E) (end between start first second : List ℕ) → between ≡ start ++ first
    → OnOk r (end ≡ between ++ second) → OnOk r (end ≡ start ++ (first ++ second))
appended (Ok done) end between start first second e p = p ∙ ap (λ l. l ++ second) e ∙ append_assoc start first second
appended (Err fault) end between start first second e p = tt

pub grown : (end between start first second : List ℕ) → between ≡ start ++ first → end ≡ between ++ second → end ≡ start ++ (first ++ second)
grown end between start first second e h = h ∙ ap (λ l. l ++ second) e ∙ append_assoc start first second

-- text that was appended in three pieces
pub appended_again : {E : Type 0} (r : Result Unit E) (end second first start a b c : List ℕ) → first ≡ start ++ a → second ≡ first ++ b
    → OnOk r (end ≡ second ++ c) → OnOk r (end ≡ start ++ (a ++ b ++ c))
appended_again r end second first start a b c e f p =
    appended r end second start (a ++ b) c (f ∙ ap (λ l. l ++ b) e ∙ append_assoc start a b) p

-- text in three pieces that was appended after another
pub appended_flat : {E : Type 0} (r : Result Unit E) (end between start first a b c : List ℕ) → between ≡ start ++ first
    → OnOk r (end ≡ between ++ a ++ b ++ c) → OnOk r (end ≡ start ++ (first ++ (a ++ b ++ c)))
appended_flat (Ok done) end between start first a b c e p =
    p ∙ append_assoc (between ++ a) b c ∙ append_assoc between a (b ++ c) ∙ ap (λ l. between ++ l) (sym (append_assoc a b c))
    ∙ ap (λ l. l ++ (a ++ b ++ c)) e ∙ append_assoc start first (a ++ b ++ c)
appended_flat (Err fault) end between start first a b c e p = tt
