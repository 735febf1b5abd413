-- Lines that are taken one after the other.
use Rattle.std.proofs.Common.{◌≡◌, ◌∙◌, ℕ, zero, suc, ◌+◌, ◌<◌, ◌==◌, false, List, [], ◌∷◌, ◌++◌, append-nil, append_assoc, length, get_or, take, map, min, refl, ap, sym, subst, arith, codes}
use Rattle.std.specs.Prelude.{IfOk, OnOk, Result, Ok, Err}
use Rattle.std.proofs.lemmas.Bool.{false≢true}
use Rattle.std.specs.Str.Lines.{lines}
use Rattle.std.specs.Borrow.{Bor}
use Rattle.std.proofs.lemmas.List.{length-map, length-take-le, map-append, take_more}
use Rattle.jcard_test.specs.Lines.{Says}
use Rattle.jcard_test.specs.TextLines.{AreAllNumbered, AreCopies, AreRepeated, AreTaken, IsCopy, IsEnded, IsLineOf, IsOneMore, IsTakenIn, IsUnrolled}
use Rattle.jcard_test.specs.declared.line.Line.{Line}
use Rattle.jcard_test.specs.declared.loops.Loop.{Loop}
use Rattle.jcard_test.specs.declared.numbered_line.Numbered.{Numbered}

-- the texts of lines
abbrev pub texts_of : List (Bor (List ℕ)) → List (List ℕ)
texts_of all = map (λ (line : Bor (List ℕ)). line.now) all

pub all_none : (n : ℕ) → AreAllNumbered n [] []
unfolding AreAllNumbered
all_none n = tt

-- one line more, with the same number
all_more : (n : ℕ) (texts : List (List ℕ)) (added : List Numbered) (t : List ℕ) (l : Numbered) → AreAllNumbered n texts added → IsLineOf n t l
    → AreAllNumbered n (texts ++ t ∷ []) (added ++ l ∷ [])
unfolding AreAllNumbered
all_more n [] [] t l a h = (h, tt)
all_more n [] (y ∷ ys) t l a h = absurd a
all_more n (x ∷ xs) [] t l a h = absurd a
all_more n (x ∷ xs) (y ∷ ys) t l a h = (a.0, all_more n xs ys t l a.1 h)

-- one line more was taken
taken_more : (n k : ℕ) (texts : List (List ℕ)) (o b p q : List Loop) (l m r : List Numbered) (t : List ℕ) (said : Line) → AreTaken n texts o l b m
    → k ≡ n + length texts → Says t said → IsTakenIn (min k 18446744073709551615) t said b p m r → AreTaken n (texts ++ t ∷ []) o l p r
unfolding AreTaken
taken_more n k [] o b p q l m r t said a e says step = (
  said,
  p,
  r,
  says,
  subst (λ (i : ℕ). IsTakenIn (min i 18446744073709551615) t said o p l r) (omega (arith, e))
      (subst (λ (x : List Loop). IsTakenIn (min k 18446744073709551615) t said x p l r) a.0
      (subst (λ (x : List Numbered). IsTakenIn (min k 18446744073709551615) t said b p x r) a.1 step)),
  (refl, refl),
)
taken_more n k (x ∷ xs) o b p q l m r t said a e says step =
    (a.0, a.1, a.2, a.3, a.4, taken_more (n + 1) k xs a.1 b p q a.2 m r t said a.5 (omega (arith, e)) says step)

pub taken_none : AreTaken 1 [] [] [] [] []
unfolding AreTaken
taken_none = (refl, refl)

-- the texts up to the next
texts_next : (texts : List (Bor (List ℕ))) (i : ℕ) (d : Bor (List ℕ)) → i < length texts
    → texts_of (take (i + 1) texts) ≡ texts_of (take i texts) ++ (get_or texts i d).now ∷ []
texts_next texts i d h = ap texts_of (take_more texts i d h) ∙ map-append (λ (line : Bor (List ℕ)). line.now) (take i texts) (get_or texts i d ∷ [])

pub all_next : (n : ℕ) (texts : List (Bor (List ℕ))) (i : ℕ) (d : Bor (List ℕ)) (added : List Numbered) (l : Numbered) → i < length texts
    → AreAllNumbered n (texts_of (take i texts)) added → IsLineOf n (get_or texts i d).now l
    → AreAllNumbered n (texts_of (take (i + 1) texts)) (added ++ l ∷ [])
all_next n texts i d added l h a line = subst (λ (ts : List (List ℕ)). AreAllNumbered n ts (added ++ l ∷ [])) (sym (texts_next texts i d h))
    (all_more n (texts_of (take i texts)) added (get_or texts i d).now l a line)

pub taken_next : (texts : List (Bor (List ℕ))) (i : ℕ) (d : Bor (List ℕ)) (b p : List Loop) (m r : List Numbered) (said : Line) → i < length texts
    → AreTaken 1 (texts_of (take i texts)) [] [] b m → Says (get_or texts i d).now said
    → IsTakenIn (min (i + 1) 18446744073709551615) (get_or texts i d).now said b p m r → AreTaken 1 (texts_of (take (i + 1) texts)) [] [] p r
taken_next texts i d b p m r said h a says step =
    let long : length (texts_of (take i texts)) ≡ i = length-map (take i texts) (λ (b : Bor (List ℕ)). b.now) ∙ length-take-le i texts (omega arith) in
    subst (λ (ts : List (List ℕ)). AreTaken 1 ts [] [] p r) (sym (texts_next texts i d h))
    (taken_more 1 (i + 1) (texts_of (take i texts)) [] b p [] [] m r (get_or texts i d).now said a (omega arith) says step)

-- ---- loops

pub copies_none : (name : List ℕ) (k : ℕ) → AreCopies name k [] []
unfolding AreCopies
copies_none name k = tt

copies_more : (name : List ℕ) (k : ℕ) (body copies : List Numbered) (l c : Numbered) → AreCopies name k body copies → IsCopy name k l c
    → AreCopies name k (body ++ l ∷ []) (copies ++ c ∷ [])
unfolding AreCopies
copies_more name k [] [] l c a h = (h, tt)
copies_more name k [] (y ∷ ys) l c a h = absurd a
copies_more name k (x ∷ xs) [] l c a h = absurd a
copies_more name k (x ∷ xs) (y ∷ ys) l c a h = (a.0, copies_more name k xs ys l c a.1 h)

-- the next line of a loop
pub copies_next : (name : List ℕ) (k : ℕ) (body : List Numbered) (i : ℕ) (d : Numbered) (copies : List Numbered) (c : Numbered) → i < length body
    → AreCopies name k (take i body) copies → IsCopy name k (get_or body i d) c → AreCopies name k (take (i + 1) body) (copies ++ c ∷ [])
copies_next name k body i d copies c h a one = subst (λ (b : List Numbered). AreCopies name k b (copies ++ c ∷ [])) (sym (take_more body i d h))
    (copies_more name k (take i body) copies (get_or body i d) c a one)

pub repeated_none : (name : List ℕ) (k : ℕ) (body : List Numbered) → AreRepeated name k 0 body []
unfolding AreRepeated
repeated_none name k body = refl

-- the lines for one more number
pub repeated_more : (name : List ℕ) (k n m : ℕ) (body all one : List Numbered) → AreRepeated name k n body all → m ≡ k + n → AreCopies name m body one
    → AreRepeated name k (suc n) body (all ++ one)
unfolding AreRepeated
repeated_more name k zero m body all one a e h =
    let same : m ≡ k = omega (arith, e) in
    (one, [], subst (λ (i : ℕ). AreCopies name i body one) same h, refl, ap (λ (l : List Numbered). l ++ one) a ∙ sym (append-nil one))
repeated_more name k (suc n) m body all one a e h =
    (a.0, a.1 ++ one, a.2, repeated_more name (k + 1) n m body a.1 one a.3 (omega (arith, e)) h, ap (λ (l : List Numbered). l ++ one) a.4 ∙ append_assoc a.0 a.1 one)

-- a text whose lines were taken
pub unrolled_by : {V E : Type 0} (items : V → List Numbered) (text : List ℕ) (loops : List Loop) (taken : List Numbered) (r : Result V E)
    → AreTaken 1 (lines text) [] [] loops taken → IfOk r (λ v. IsEnded loops taken (items v)) → IfOk r (λ v. IsUnrolled text (items v))
unrolled_by items text loops taken (Ok v) a e = (loops, taken, a, e)
unrolled_by items text loops taken (Err e) a h = tt

positive : (n : ℕ) → (n == 0) ≡ false → 0 < n
positive zero e = absurd (false≢true (sym e))
positive (suc n) e = omega arith

-- a list without items
pub none_of : {A : Type 0} (xs : List A) (n : ℕ) → n ≡ length xs → n ≡ 0 → xs ≡ []
none_of [] n e none = refl
none_of (x ∷ xs) n e none = absurd (omega (arith, e, none))

-- what an `Ok` brings is known on
pub ok_then : {A E P Q : Type 0} (r : Result A E) → OnOk r P → (P → Q) → OnOk r Q
ok_then (Ok x) h f = f h
ok_then (Err e) h f = tt

-- a loop is open: the first one is the outermost
pub ended_open : {V E : Type 0} (items : V → List Numbered) (loops : List Loop) (taken : List Numbered) (n : ℕ) (first : Loop) (r : Result V E) → n ≡ length loops → (n == 0) ≡ false
    → first ≡ get_or loops 0 first → IfOk r (λ v. IsOneMore first.number (codes "for without end") first.before.items (items v))
    → IfOk r (λ v. IsEnded loops taken (items v))
ended_open items [] taken n first r long some at is = absurd (omega (arith, long, positive n some))
ended_open items (x ∷ xs) taken n first r long some at is =
    subst (λ (l : Loop). IfOk r (λ v. IsOneMore l.number (codes "for without end") l.before.items (items v))) at is
