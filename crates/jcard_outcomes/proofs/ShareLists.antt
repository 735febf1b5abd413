-- What the texts of shares say.
use Rattle.std.proofs.Common.{arith, ◌≡◌, ◌∙◌, inl, ℕ, suc, ◌+◌, ◌<◌, ◌≤◌, ◌&&◌, Bool, true, false, List, [], ◌∷◌, ◌++◌, length, get_or, take, map, ap, sym, refl, subst, codes, decimal, append_assoc, append-nil}
use Rattle.std.specs.Bool.{MatchBool}
use Rattle.std.specs.Borrow.{Bor}
use Rattle.std.proofs.lemmas.Fmt.{decimal_injective}
use Rattle.std.proofs.lemmas.List.{length-take-le, map-append, take_more}
use Rattle.jcard_outcomes.specs.CommandShares.{AreShares, IsOfMore, share_label, share_text, whole_told}
use Rattle.jcard_outcomes.specs.Part.{has, numbered}
use Rattle.jcard_outcomes.proofs.Ends.{lent, lent_length, nothing}
use Rattle.jcard_outcomes.proofs.Splits.{cut_again, decimal_lacks, rest_again}

-- ---- one share

-- a text that begins with neither end of the first line reports no share
pub no_verdicts : (text : List ℕ) → ((v : List ℕ) → text ≡ codes " all or nothing\n" ++ v → ⊥) → ((v : List ℕ) → text ≡ codes " NOT all or nothing\n" ++ v → ⊥)
    → (whole : Bool) (v : List ℕ) → text ≡ whole_told whole ++ v → ⊥
no_verdicts text a b true v e = a v e
no_verdicts text a b false v e = b v e

-- the digits of a count are those before the comma
pub count_is : (rest inner digits tail : List ℕ) → rest ≡ codes "of " ++ inner → inner ≡ digits ++ 44 ∷ tail → has 44 digits ≡ false
    → (m : ℕ) (more : List ℕ) → m < 65536 → rest ≡ codes "of " ++ (decimal m ++ 44 ∷ more) → digits ≡ decimal m
count_is rest inner digits tail f g n m more small e =
    (cut_again 44 inner digits (decimal m) tail more g n (rest_again rest (codes "of ") inner (decimal m ++ 44 ∷ more) f e)
    (decimal_lacks 44 m (inl (omega arith)) (omega (arith, small)))).0

pub count_of_no_more : (rest inner digits tail : List ℕ) (shares count : ℕ) → rest ≡ codes "of " ++ inner → inner ≡ digits ++ 44 ∷ tail → has 44 digits ≡ false
    → digits ≡ decimal shares → shares < 65536 → shares ≤ count → (m : ℕ) (more : List ℕ) → count < m → m < 65536
    → rest ≡ codes "of " ++ (decimal m ++ 44 ∷ more) → ⊥
count_of_no_more rest inner digits tail shares count f g n d fits low m more late small e =
    let same : shares ≡ m = decimal_injective shares m (omega (arith, fits)) (omega (arith, small)) (sym d ∙ count_is rest inner digits tail f g n m more small e) in
    absurd (omega (arith, same, low, late))

-- whether a text is that of a share of more
pub of_more : (text start rest : List ℕ) (k n : ℕ) (b : Bool) → text ≡ start ++ rest → start ≡ numbered share_label k
    → MatchBool b ((m : ℕ) × (more : List ℕ) × (n < m) × (m < 65536) × (rest ≡ codes "of " ++ (decimal m ++ 44 ∷ more)))
    ((m : ℕ) (more : List ℕ) → n < m → m < 65536 → rest ≡ codes "of " ++ (decimal m ++ 44 ∷ more) → ⊥)
    → MatchBool b (IsOfMore k n text) (IsOfMore k n text → ⊥)
of_more text start rest k n true e f h =
    (h.0, h.1, h.2, h.3, e ∙ ap (λ s. s ++ rest) f ∙ ap (λ r. numbered share_label k ++ r) h.4)
of_more text start rest k n false e f h =
    λ i. h i.0 i.1 i.2 i.3 (rest_again text (numbered share_label k) rest (codes "of " ++ (decimal i.0 ++ 44 ∷ i.1)) (e ∙ ap (λ s. s ++ rest) f) i.4)

-- ---- all shares

true_and : (b : Bool) → b ≡ (b && true)
true_and true = refl
true_and false = refl

and_assoc : (a b c : Bool) → ((a && b) && c) ≡ (a && (b && c))
and_assoc true b c = refl
and_assoc false b c = refl

-- one share more
pub shares_more : (k n : ℕ) (texts : List (List ℕ)) (verdicts : List ℕ) (whole : Bool) (text own : List ℕ) (is : Bool) → AreShares k n texts verdicts whole
    → text ≡ share_text (k + length texts) n is own → AreShares k n (texts ++ text ∷ []) (verdicts ++ own) (whole && is)
unfolding AreShares
shares_more k n [] verdicts whole text own is a e = (
  own,
  is,
  [],
  true,
  e ∙ ap (λ j. share_text j n is own) (omega arith),
  (refl, refl),
  ap (λ l. l ++ own) a.0 ∙ sym (append-nil own),
  ap (λ b. b && is) a.1 ∙ true_and is,
)
shares_more k n (x ∷ texts) verdicts whole text own is a e = (
  a.0,
  a.1,
  a.2 ++ own,
  a.3 && is,
  a.4,
  shares_more (k + 1) n texts a.2 a.3 text own is a.5 (e ∙ ap (λ j. share_text j n is own) (omega arith)),
  ap (λ l. l ++ own) a.6 ∙ append_assoc a.0 a.2 own,
  ap (λ b. b && is) a.7 ∙ and_assoc a.1 a.3 is,
)

pub shares_none : (n : ℕ) → AreShares 0 n [] [] true
unfolding AreShares
shares_none n = (refl, refl)

-- the next of these texts
pub shares_next : (n : ℕ) (texts : List (Bor (List ℕ))) (i : ℕ) (verdicts more own : List ℕ) (whole is are : Bool) → i < length texts
    → AreShares 0 n (lent (take i texts)) verdicts whole → (get_or texts i nothing).now ≡ share_text i n is own → more ≡ verdicts ++ own → are ≡ (whole && is)
    → AreShares 0 n (lent (take (i + 1) texts)) more are
shares_next n texts i verdicts more own whole is are h so text e f =
    let text_is : List ℕ = (get_or texts i nothing).now in
    let split : lent (take (i + 1) texts) ≡ lent (take i texts) ++ text_is ∷ [] =
    ap lent (take_more texts i nothing h) ∙ map-append (λ (t : Bor (List ℕ)). t.now) (take i texts) (get_or texts i nothing ∷ []) in
    let count : length (lent (take i texts)) ≡ i = lent_length (take i texts) ∙ length-take-le i texts (omega (arith, h)) in
    let all : AreShares 0 n (lent (take i texts) ++ text_is ∷ []) (verdicts ++ own) (whole && is) =
    shares_more 0 n (lent (take i texts)) verdicts whole text_is own is so (text ∙ ap (λ j. share_text j n is own) (omega (arith, count))) in
    subst (λ b. AreShares 0 n (lent (take (i + 1) texts)) more b) (sym f)
    (subst (λ l. AreShares 0 n (lent (take (i + 1) texts)) l (whole && is)) (sym e)
    (subst (λ ts. AreShares 0 n ts (verdicts ++ own) (whole && is)) (sym split) all))
