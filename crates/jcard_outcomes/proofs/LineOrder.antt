-- The lines of all parts, read in the order of their numbers.
use Rattle.std.proofs.Common.{arith, ◌≡◌, ◌∙◌, ℕ, ◌+◌, ◌%◌, ◌<◌, ◌≤◌, ◌==◌, ◌⊎◌, inl, inr, Bool, true, false, List, [], ◌∷◌, ◌++◌, if◌then◌else◌, length, get_or, set, take, drop, drop-cons, add-one, ap, sym, refl, subst, codes, append_assoc, append-nil}
use Rattle.std.specs.List.{All}
use Rattle.std.proofs.lemmas.Bool.{cases_lt, eq-eqb, false≢true, ne_eqb, eqb-true}
use Rattle.std.proofs.lemmas.List.{append_cancel_left, drop_all, get_or-set_other, get_or-set_same, length-append, length-set, take_all, take_more}
use Rattle.std.proofs.lemmas.List.Elements.{All-nil, All-push}
use Rattle.std.proofs.Math.Nat.{mod-lt}
use Rattle.jcard_outcomes.specs.Join.{AreOrdered}
use Rattle.jcard_outcomes.specs.Part.{dealt, has, line_start, line_text, numbered}
use Rattle.jcard_outcomes.proofs.Splits.{cut_unique}

-- ---- lines

-- a line is no empty text
pub line_some : (k : ℕ) (told rest : List ℕ) → line_text k told ++ rest ≡ [] → ⊥
unfolding numbered
line_some k told rest e = cc

-- a line, as it is read
pub line_read : (k : ℕ) (told rest : List ℕ) → line_text k told ++ rest ≡ line_start k ++ (told ++ 10 ∷ rest)
line_read k told rest = append_assoc (line_start k) (told ++ codes "\n") rest ∙ ap (λ l. line_start k ++ l) (append_assoc told (codes "\n") rest)

-- a text begins with one line about k writes
pub line_unique : (k : ℕ) (told other rest more : List ℕ) → has 10 told ≡ false → has 10 other ≡ false
    → line_text k told ++ rest ≡ line_text k other ++ more → (told ≡ other) × (rest ≡ more)
line_unique k told other rest more p q e =
    cut_unique 10 told other rest more p q
    (append_cancel_left (line_start k) (told ++ 10 ∷ rest) (other ++ 10 ∷ more) (sym (line_read k told rest) ∙ e ∙ line_read k other more))

-- ---- parts

pub deal_same : (j n k : ℕ) (x : List ℕ) (more : List (List ℕ)) → k % n ≡ j → dealt j n k (x ∷ more) ≡ line_text k x ++ dealt j n (k + 1) more
unfolding dealt
deal_same j n k x more e = ap (λ b. (if b then line_text k x else []) ++ dealt j n (k + 1) more) (eq-eqb (k % n) j e)

pub deal_other : (j n k : ℕ) (x : List ℕ) (more : List (List ℕ)) → (k % n ≡ j → ⊥) → dealt j n k (x ∷ more) ≡ dealt j n (k + 1) more
unfolding dealt
deal_other j n k x more e = ap (λ b. (if b then line_text k x else []) ++ dealt j n (k + 1) more) (ne_eqb (k % n) j e)

pub deal_none : (j n k : ℕ) → dealt j n k [] ≡ []
unfolding dealt
deal_none j n k = refl

deal_at : (j n a b : ℕ) (lines : List (List ℕ)) → a ≡ b → dealt j n a lines ≡ dealt j n b lines
deal_at j n a b lines e = ap (λ m. dealt j n m lines) e

deal_push : (j n k : ℕ) (lines : List (List ℕ)) (x : List ℕ) → dealt j n k (lines ++ x ∷ []) ≡ dealt j n k lines ++ dealt j n (k + length lines) (x ∷ [])
unfolding dealt
deal_push j n k [] x = deal_at j n k (k + 0) (x ∷ []) (omega arith)
deal_push j n k (y ∷ lines) x =
    ap (λ l. (if k % n == j then line_text k y else []) ++ l) (deal_push j n (k + 1) lines x
    ∙ ap (λ l. dealt j n (k + 1) lines ++ l) (deal_at j n ((k + 1) + length lines) (k + length (y ∷ lines)) (x ∷ []) (omega arith)))
    ∙ sym (append_assoc (if k % n == j then line_text k y else []) (dealt j n (k + 1) lines) (dealt j n (k + length (y ∷ lines)) (x ∷ [])))

-- ---- what was read of the texts, and what is left of them

pub record Reading (texts read rests : List (List ℕ)) (k : ℕ) : Type 0 where
  pub count : length read ≡ k
  pub parts : length rests ≡ length texts
  pub so_far : (j : ℕ) → j < length texts → get_or texts j [] ≡ dealt j (length texts) 0 read ++ get_or rests j []
  pub plain : All (λ told. has 10 told ≡ false) read
  pub whole : (lines : List (List ℕ)) → AreOrdered texts lines
      → (read ≡ take k lines) × ((j : ℕ) → j < length texts → get_or rests j [] ≡ dealt j (length texts) k (drop k lines))

pub begun : (texts rests : List (List ℕ)) → rests ≡ texts → Reading texts [] rests 0
begun texts rests e = record {
  count = refl;
  parts = ap length e;
  so_far = λ j h. sym (ap (λ l. l ++ get_or rests j []) (deal_none j (length texts) 0) ∙ ap (λ l. get_or l j []) e);
  plain = All-nil (λ told. has 10 told ≡ false);
  whole = λ lines o. (refl, (λ j h. ap (λ l. get_or l j []) e ∙ o.0 j h));
}

-- the lines, from the next on
pub from_next : (lines : List (List ℕ)) (k : ℕ) → k < length lines → drop k lines ≡ get_or lines k [] ∷ drop (k + 1) lines
from_next lines k h = rw add-one (drop-cons lines k [] h)

next_so_far : (texts read rests : List (List ℕ)) (k : ℕ) (told rest : List ℕ) → length read ≡ k → length rests ≡ length texts
    → ((j : ℕ) → j < length texts → get_or texts j [] ≡ dealt j (length texts) 0 read ++ get_or rests j [])
    → get_or rests (k % length texts) [] ≡ line_text k told ++ rest → k % length texts < length rests
    → (j : ℕ) → j < length texts → get_or texts j [] ≡ dealt j (length texts) 0 (read ++ told ∷ []) ++ get_or (set rests (k % length texts) rest) j []
next_so_far texts read rests k told rest count parts so_far begins within j h = by (k % length texts == j) refl
  where
    pushed : dealt j (length texts) 0 (read ++ told ∷ []) ≡ dealt j (length texts) 0 read ++ dealt j (length texts) k (told ∷ [])
    pushed = deal_push j (length texts) 0 read told ∙ ap (λ l. dealt j (length texts) 0 read ++ l) (deal_at j (length texts) (0 + length read) k (told ∷ []) (omega (arith, count)))

    by : (b : Bool) → (k % length texts == j) ≡ b
        → get_or texts j [] ≡ dealt j (length texts) 0 (read ++ told ∷ []) ++ get_or (set rests (k % length texts) rest) j []
    by true e =
        let at : k % length texts ≡ j = eqb-true (k % length texts) j e in
        so_far j h ∙ ap (λ l. dealt j (length texts) 0 read ++ l) (sym (ap (λ i. get_or rests i []) at) ∙ begins)
        ∙ sym (append_assoc (dealt j (length texts) 0 read) (line_text k told) rest)
        ∙ ap (λ l. l ++ rest) (ap (λ l. dealt j (length texts) 0 read ++ l) (sym (deal_same j (length texts) k told [] at
        ∙ ap (λ l. line_text k told ++ l) (deal_none j (length texts) (k + 1)) ∙ append-nil (line_text k told))) ∙ sym pushed)
        ∙ ap (λ l. dealt j (length texts) 0 (read ++ told ∷ []) ++ l) (sym (ap (λ i. get_or (set rests (k % length texts) rest) i []) (sym at)
        ∙ get_or-set_same rests (k % length texts) rest [] within))
    by false e =
        let apart : k % length texts ≡ j → ⊥ = (λ q. false≢true (sym e ∙ eq-eqb (k % length texts) j q)) in
        so_far j h
        ∙ ap (λ l. l ++ get_or rests j []) (sym (append-nil (dealt j (length texts) 0 read))
        ∙ ap (λ l. dealt j (length texts) 0 read ++ l) (sym (deal_other j (length texts) k told [] apart ∙ deal_none j (length texts) (k + 1))) ∙ sym pushed)
        ∙ ap (λ l. dealt j (length texts) 0 (read ++ told ∷ []) ++ l) (sym (get_or-set_other rests (k % length texts) j rest [] (λ q. apart (sym q))))

next_left : (texts rests lines : List (List ℕ)) (k : ℕ) (rest : List ℕ) → k % length texts < length rests
    → ((j : ℕ) → j < length texts → get_or rests j [] ≡ dealt j (length texts) k (drop k lines)) → k < length lines
    → rest ≡ dealt (k % length texts) (length texts) (k + 1) (drop (k + 1) lines) → (j : ℕ) → j < length texts
    → get_or (set rests (k % length texts) rest) j [] ≡ dealt j (length texts) (k + 1) (drop (k + 1) lines)
next_left texts rests lines k rest within left h same j small = by (k % length texts == j) refl
  where
    by : (b : Bool) → (k % length texts == j) ≡ b
        → get_or (set rests (k % length texts) rest) j [] ≡ dealt j (length texts) (k + 1) (drop (k + 1) lines)
    by true e =
        let there : k % length texts ≡ j = eqb-true (k % length texts) j e in
        ap (λ i. get_or (set rests (k % length texts) rest) i []) (sym there)
        ∙ get_or-set_same rests (k % length texts) rest [] within ∙ same
        ∙ ap (λ i. dealt i (length texts) (k + 1) (drop (k + 1) lines)) there
    by false e =
        let apart : k % length texts ≡ j → ⊥ = (λ q. false≢true (sym e ∙ eq-eqb (k % length texts) j q)) in
        get_or-set_other rests (k % length texts) j rest [] (λ q. apart (sym q)) ∙ left j small
        ∙ ap (dealt j (length texts) k) (from_next lines k h) ∙ deal_other j (length texts) k (get_or lines k []) (drop (k + 1) lines) apart

next_whole : (texts rests lines : List (List ℕ)) (read : List (List ℕ)) (k : ℕ) (told rest : List ℕ) → length rests ≡ length texts → 0 < length texts
    → AreOrdered texts lines → read ≡ take k lines
    → ((j : ℕ) → j < length texts → get_or rests j [] ≡ dealt j (length texts) k (drop k lines))
    → get_or rests (k % length texts) [] ≡ line_text k told ++ rest → has 10 told ≡ false
    → (read ++ told ∷ [] ≡ take (k + 1) lines)
    × ((j : ℕ) → j < length texts → get_or (set rests (k % length texts) rest) j [] ≡ dealt j (length texts) (k + 1) (drop (k + 1) lines))
next_whole texts rests lines read k told rest parts some o taken left begins plain = by (cases_lt k (length lines))
  where
    place : k % length texts < length texts
    place = mod-lt k some

    by : (k < length lines) ⊎ (length lines ≤ k) → (read ++ told ∷ [] ≡ take (k + 1) lines)
        × ((j : ℕ) → j < length texts → get_or (set rests (k % length texts) rest) j [] ≡ dealt j (length texts) (k + 1) (drop (k + 1) lines))
    by (inl h) =
        let here : get_or rests (k % length texts) []
        ≡ line_text k (get_or lines k []) ++ dealt (k % length texts) (length texts) (k + 1) (drop (k + 1) lines) =
        left (k % length texts) place ∙ ap (dealt (k % length texts) (length texts) k) (from_next lines k h)
        ∙ deal_same (k % length texts) (length texts) k (get_or lines k []) (drop (k + 1) lines) refl in
        let one = line_unique k told (get_or lines k []) rest (dealt (k % length texts) (length texts) (k + 1) (drop (k + 1) lines)) plain (o.1 k [] h)
        (sym begins ∙ here) in (
          ap (λ l. l ++ told ∷ []) taken ∙ ap (λ y. take k lines ++ y ∷ []) one.0 ∙ sym (take_more lines k [] h),
          next_left texts rests lines k rest (subst (λ n. k % length texts < n) (sym parts) place) left h one.1,
        )
    by (inr h) = absurd (line_some k told rest (sym begins ∙ left (k % length texts) place ∙ ap (dealt (k % length texts) (length texts) k) (drop_all k lines h)
        ∙ deal_none (k % length texts) (length texts) k))

-- the next line was read
pub next : (texts read rests : List (List ℕ)) (k : ℕ) → Reading texts read rests k → 0 < length texts → (told rest : List ℕ) (more left : List (List ℕ))
    → get_or rests (k % length rests) [] ≡ line_text k told ++ rest → has 10 told ≡ false → left ≡ set rests (k % length rests) rest
    → more ≡ read ++ told ∷ [] → Reading texts more left (k + 1)
next texts read rests k r some told rest more left begins plain put pushed =
    let start : get_or rests (k % length texts) [] ≡ line_text k told ++ rest = ap (λ n. get_or rests (k % n) []) (sym r.parts) ∙ begins in
    let leaves : left ≡ set rests (k % length texts) rest = put ∙ ap (λ n. set rests (k % n) rest) r.parts in
    record {
      count = ap length pushed ∙ length-append read (told ∷ []) ∙ ap (λ n. n + 1) r.count;
      parts = ap length leaves ∙ length-set rests (k % length texts) rest ∙ r.parts;
      so_far = λ j h. next_so_far texts read rests k told rest r.count r.parts r.so_far start (subst (λ n. k % length texts < n) (sym r.parts) (mod-lt k some)) j h
          ∙ ap (λ l. dealt j (length texts) 0 l ++ get_or (set rests (k % length texts) rest) j []) (sym pushed)
          ∙ ap (λ l. dealt j (length texts) 0 more ++ get_or l j []) (sym leaves);
      plain = subst (All (λ t. has 10 t ≡ false)) (sym pushed) (All-push (λ t. has 10 t ≡ false) read told r.plain plain);
      whole = λ lines o.
          let w = r.whole lines o in
          let n = next_whole texts rests lines read k told rest r.parts some o w.0 w.1 start plain in
          (pushed ∙ n.0, (λ j h. ap (λ l. get_or l j []) leaves ∙ n.1 j h));
    }

no_more : (texts read rests : List (List ℕ)) (k : ℕ) → Reading texts read rests k → 0 < length texts
    → ((j : ℕ) → j < length rests → get_or rests j [] ≡ []) → (lines : List (List ℕ)) → AreOrdered texts lines → length lines ≤ k
no_more texts read rests k r some none lines o = by (cases_lt k (length lines))
  where
    by : (k < length lines) ⊎ (length lines ≤ k) → length lines ≤ k
    by (inr h) = h
    by (inl h) = absurd (line_some k (get_or lines k []) (dealt (k % length texts) (length texts) (k + 1) (drop (k + 1) lines))
        (sym (deal_same (k % length texts) (length texts) k (get_or lines k []) (drop (k + 1) lines) refl)
        ∙ sym (ap (dealt (k % length texts) (length texts) k) (from_next lines k h))
        ∙ sym ((r.whole lines o).1 (k % length texts) (mod-lt k some))
        ∙ none (k % length texts) (subst (λ n. k % length texts < n) (sym r.parts) (mod-lt k some))))

-- all texts were read whole
pub read_whole : (texts read rests : List (List ℕ)) (k : ℕ) → Reading texts read rests k → 0 < length texts
    → ((j : ℕ) → j < length rests → get_or rests j [] ≡ []) → AreOrdered texts read × ((lines : List (List ℕ)) → AreOrdered texts lines → read ≡ lines)
read_whole texts read rests k r some none = (
  (
    (λ j h. r.so_far j h ∙ ap (λ l. dealt j (length texts) 0 read ++ l) (none j (subst (λ n. j < n) (sym r.parts) h)) ∙ append-nil (dealt j (length texts) 0 read)),
    r.plain,
  ),
  (λ lines o. (r.whole lines o).0 ∙ take_all k lines (no_more texts read rests k r some none lines o)),
)

-- the text that has the next line has another or none
pub stuck : (texts read rests : List (List ℕ)) (k : ℕ) → Reading texts read rests k → 0 < length texts
    → ((told rest : List ℕ) → get_or rests (k % length rests) [] ≡ line_text k told ++ rest → ⊥)
    → (lines : List (List ℕ)) → AreOrdered texts lines → length lines ≤ k
stuck texts read rests k r some none lines o = by (cases_lt k (length lines))
  where
    by : (k < length lines) ⊎ (length lines ≤ k) → length lines ≤ k
    by (inr h) = h
    by (inl h) = absurd (none (get_or lines k []) (dealt (k % length texts) (length texts) (k + 1) (drop (k + 1) lines))
        (ap (λ n. get_or rests (k % n) []) r.parts ∙ (r.whole lines o).1 (k % length texts) (mod-lt k some)
        ∙ ap (dealt (k % length texts) (length texts) k) (from_next lines k h)
        ∙ deal_same (k % length texts) (length texts) k (get_or lines k []) (drop (k + 1) lines) refl))

-- where no line is left, no text is
pub none_left : (texts read rests : List (List ℕ)) (k : ℕ) → Reading texts read rests k → (lines : List (List ℕ)) → AreOrdered texts lines
    → length lines ≤ k → (j : ℕ) → j < length rests → get_or rests j [] ≡ []
none_left texts read rests k r lines o h j within =
    (r.whole lines o).1 j (subst (λ n. j < n) r.parts within) ∙ ap (dealt j (length texts) k) (drop_all k lines h) ∙ deal_none j (length texts) k
