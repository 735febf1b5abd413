-- Texts that begin with a line.
use Rattle.std.proofs.Common.{arith, ◌≡◌, ◌∙◌, ℕ, ◌%◌, ◌==◌, Bool, true, false, List, [], ◌∷◌, ◌++◌, length, get_or, set, ap, sym, refl, subst, Option, Some, None, Ok, Err}
use Rattle.std.specs.Prelude.{MatchOption}
use Rattle.std.specs.Borrow.{Bor}
use Rattle.std.proofs.lemmas.Bool.{eqb-true, eq-eqb, false≢true}
use Rattle.jcard_outcomes.specs.Join.{IsHeadFault, IsNextLine}
use Rattle.jcard_outcomes.specs.Part.{has, line_start, line_text}
use Rattle.jcard_outcomes.specs.declared.join_fault.JoinFault.{JoinFault}
use Rattle.jcard_outcomes.specs.declared.join_fault.JoinFault.TheVariants.{BadLine, Missing, NoMemory, OtherSweep, Twice}
use Rattle.jcard_outcomes.proofs.LineOrder.{line_read}
use Rattle.jcard_outcomes.proofs.Ends.{lent, lent_length}
use Rattle.jcard_outcomes.proofs.Splits.{not_lacking, rest_again}

pub head_cut : (text start rest : List ℕ) (r : Option (Bor (List ℕ) × Bor (List ℕ))) → text ≡ start ++ rest
    → MatchOption r (has 10 rest ≡ false) (λ p. (rest ≡ p.0.now ++ 10 ∷ p.1.now) × (has 10 p.0.now ≡ false))
    → MatchOption r ((told more : List ℕ) → text ≡ start ++ (told ++ 10 ∷ more) → ⊥)
    (λ p. (text ≡ start ++ (p.0.now ++ 10 ∷ p.1.now)) × (has 10 p.0.now ≡ false))
head_cut text start rest None e h = λ told more f. not_lacking 10 rest told more h (rest_again text start rest (told ++ 10 ∷ more) e f)
head_cut text start rest (Some p) e h = (e ∙ ap (λ l. start ++ l) h.0, h.1)

empty : (text : List ℕ) (b : Bool) → b ≡ (length text == 0) → b ≡ true → text ≡ []
empty [] b e y = refl
empty (x ∷ text) b e y = let none : length (x ∷ text) ≡ 0 = eqb-true (length (x ∷ text)) 0 (sym e ∙ y) in absurd (omega (arith, none))

not_empty : (text : List ℕ) (b : Bool) → b ≡ (length text == 0) → b ≡ false → text ≡ [] → ⊥
not_empty text b e n h = false≢true (sym n ∙ e ∙ eq-eqb (length text) 0 (ap length h))

place_lent : (rests : List (Bor (List ℕ))) (k : ℕ) → get_or (lent rests) (k % length (lent rests)) [] ≡ get_or (lent rests) (k % length rests) []
place_lent rests k = ap (λ n. get_or (lent rests) (k % n) []) (lent_length rests)

-- none is left of the text that has the next line
pub next_none : (k : ℕ) (rests left : List (Bor (List ℕ))) (text : List ℕ) (b : Bool) → text ≡ get_or (lent rests) (k % length rests) []
    → b ≡ (length text == 0) → b ≡ true → left ≡ rests → IsNextLine k (lent rests) (lent left) (Ok None)
next_none k rests left text b e h y l = (place_lent rests k ∙ sym e ∙ empty text b h y, ap lent l)

-- it was read
pub next_some : (k : ℕ) (rests : List (Bor (List ℕ))) (left : List (List ℕ)) (text : List ℕ) (told : Bor (List ℕ)) (more : List ℕ)
    → text ≡ get_or (lent rests) (k % length rests) [] → text ≡ line_start k ++ (told.now ++ 10 ∷ more) → has 10 told.now ≡ false
    → left ≡ set (lent rests) (k % length rests) more → IsNextLine k (lent rests) left (Ok (Some told))
next_some k rests left text told more e f plain put = (
  more,
  place_lent rests k ∙ sym e ∙ f ∙ sym (line_read k told.now more),
  plain,
  put ∙ ap (λ n. set (lent rests) (k % n) more) (sym (lent_length rests)),
)

-- the text does not begin with it
fault_of : (n k : ℕ) (rests left : List (List ℕ)) (f : JoinFault) → n ≡ length rests → IsHeadFault n k (get_or rests (k % length rests) []) f
    → (get_or rests (k % length rests) [] ≡ [] → ⊥) → ((told rest : List ℕ) → get_or rests (k % length rests) [] ≡ line_text k told ++ rest → ⊥)
    → IsNextLine k rests left (Err f)
fault_of n k rests left NoMemory e h some none = tt
fault_of n k rests left (Missing m) e h some none = (subst (λ x. IsHeadFault x k (get_or rests (k % length rests) []) (Missing m)) e h, some, none)
fault_of n k rests left (Twice m) e h some none = (subst (λ x. IsHeadFault x k (get_or rests (k % length rests) []) (Twice m)) e h, some, none)
fault_of n k rests left (BadLine m) e h some none = absurd h
fault_of n k rests left (OtherSweep m) e h some none = absurd h

pub next_fault : (k parts : ℕ) (rests : List (Bor (List ℕ))) (left : List (List ℕ)) (text : List ℕ) (b : Bool) (f : JoinFault) → parts ≡ length rests
    → text ≡ get_or (lent rests) (k % length rests) [] → b ≡ (length text == 0) → b ≡ false
    → ((told rest : List ℕ) → text ≡ line_start k ++ (told ++ 10 ∷ rest) → ⊥) → IsHeadFault parts k text f → IsNextLine k (lent rests) left (Err f)
next_fault k parts rests left text b f p e h n none fault =
    let here : get_or (lent rests) (k % length (lent rests)) [] ≡ text = place_lent rests k ∙ sym e in
    fault_of parts k (lent rests) left f (p ∙ sym (lent_length rests)) (subst (λ t. IsHeadFault parts k t f) (sym here) fault)
    (λ gone. not_empty text b h n (sym here ∙ gone)) (λ told rest begins. none told rest (sym here ∙ begins ∙ line_read k told rest))
