-- The texts of parts in the order of their parts.
use Rattle.std.proofs.Common.{arith, ◌≡◌, ◌∙◌, inl, inr, ℕ, ◌+◌, ◌<◌, ◌≤◌, ◌^◌, List, [], ◌∷◌, ◌++◌, length, get_or, ap, sym, refl, subst, ⊎_elim, codes, decimal, append_assoc, Result, Ok, Err}
use Rattle.std.specs.Prelude.{map, MatchResult}
use Rattle.std.specs.Borrow.{Bor}
use Rattle.std.proofs.Math.Seq.{get_or-append_seam}
use Rattle.std.proofs.lemmas.Bool.{cases_lt}
use Rattle.std.proofs.lemmas.Fmt.{decimal_injective}
use Rattle.std.proofs.lemmas.List.{append_cancel_left, get_or_append_left, length-append}
use Rattle.jcard_outcomes.specs.Join.{AreBodiesInOrder, AreBodiesOf, AreJoined, AreJoinedInOrder, IsJoinFault, IsPartOf, IsUnjoined}
use Rattle.jcard_outcomes.specs.declared.join.Joined.{Joined}
use Rattle.jcard_outcomes.specs.Order.{AreInOrder, ArePlaces, AreUnplaced, BeginsAt, IsOnlyAt, IsUnplaced}
use Rattle.jcard_outcomes.specs.Part.{body_text, cut_label, line_start, numbered, lines_text, told_cut, told_uncut}
use Rattle.jcard_outcomes.specs.declared.join_fault.JoinFault.{JoinFault}
use Rattle.jcard_outcomes.specs.declared.join_fault.JoinFault.TheVariants.{BadLine, Missing, NoMemory, OtherSweep, Twice}
use Rattle.jcard_outcomes.specs.declared.part.Part.{Part}
use Rattle.jcard_outcomes.specs.declared.recoveries.Depth.{Depth}
use Rattle.jcard_outcomes.specs.declared.report.Sweep.{Sweep}
use Rattle.jcard_outcomes.specs.declared.standing.Cut.{Cut}
use Rattle.jcard_outcomes.proofs.Splits.{cut_unique, decimal_lacks}

-- ---- how texts begin

start_parts : (label : List ℕ) (k : ℕ) (rest : List ℕ) → numbered label k ++ rest ≡ label ++ (decimal k ++ 58 ∷ (32 ∷ rest))
unfolding numbered
start_parts label k rest = append_assoc (label ++ decimal k) (codes ": ") rest ∙ append_assoc label (decimal k) (codes ": " ++ rest)

-- a text begins with the line about one number
pub begins_once : (label text : List ℕ) (a b : ℕ) → a < 2 ^ 64 → b < 2 ^ 64 → BeginsAt label a text → BeginsAt label b text → a ≡ b
begins_once label text a b small fits x y =
    decimal_injective a b small fits
    (cut_unique 58 (decimal a) (decimal b) (32 ∷ x.0) (32 ∷ y.0) (decimal_lacks 58 a (inr (omega arith)) small) (decimal_lacks 58 b (inr (omega arith)) fits)
    (append_cancel_left label (decimal a ++ 58 ∷ (32 ∷ x.0)) (decimal b ++ 58 ∷ (32 ∷ y.0))
    (sym (start_parts label a x.0) ∙ sym x.1 ∙ y.1 ∙ start_parts label b y.0))).0

lines_begin : (k n : ℕ) (cuts : List Cut) (u : List ℕ) → BeginsAt cut_label k (lines_text k n cuts u)
unfolding lines_text
lines_begin k n [] u = (u ++ codes "\n", refl)
lines_begin k n (c ∷ cuts) u =
    ((told_cut c ++ codes "\n") ++ lines_text (k + n) n cuts u, append_assoc (line_start k) (told_cut c ++ codes "\n") (lines_text (k + n) n cuts u))

part_begins : (s : Sweep) (n j : ℕ) (p : Part) → IsPartOf s n j p → BeginsAt cut_label j (body_text p)
part_begins s n j p h =
    subst (λ k. BeginsAt cut_label k (body_text p)) h.first_is
    (lines_begin p.first p.step p.sweep.cuts.items (told_uncut p.sweep.answer.items p.sweep.after.answers.items))

-- ---- the texts so far

pub record IsOrderedTo (label : List ℕ) (texts ordered : List (List ℕ)) (n : ℕ) : Type 0 where
  pub all : length ordered ≡ n
  pub each : (k : ℕ) → k < n → (i : ℕ) × IsOnlyAt label texts k i × (get_or ordered k [] ≡ get_or texts i [])

pub order_begun : (label : List ℕ) (texts ordered : List (List ℕ)) → ordered ≡ [] → IsOrderedTo label texts ordered 0
order_begun label texts ordered e = record { all = ap length e; each = λ k h. absurd (omega (arith, h)) }

pub order_next : (label : List ℕ) (texts ordered more : List (List ℕ)) (n i : ℕ) (text : List ℕ) → IsOrderedTo label texts ordered n → IsOnlyAt label texts n i
    → text ≡ get_or texts i [] → more ≡ ordered ++ text ∷ [] → IsOrderedTo label texts more (n + 1)
order_next label texts ordered more n i text so only t e = record {
  all = ap length e ∙ length-append ordered (text ∷ []) ∙ ap (λ k. k + 1) so.all;
  each = λ k h. ⊎_elim
      (λ low. let was = so.each k low in
      (was.0, was.1, ap (λ l. get_or l k []) e ∙ get_or_append_left ordered (text ∷ []) [] k (omega (arith, low, so.all)) ∙ was.2))
      (λ high. let same : n ≡ k = omega (arith, h, high) in
      let at : get_or more n [] ≡ get_or texts i [] = ap (λ l. get_or l n []) e ∙ ap (λ m. get_or (ordered ++ text ∷ []) m []) (sym so.all)
      ∙ get_or-append_seam ordered text [] [] ∙ t in
      (i, subst (λ m. IsOnlyAt label texts m i) same only, ap (λ m. get_or more m []) (sym same) ∙ at))
      (cases_lt k n);
}

pub order_all : (label : List ℕ) (texts ordered : List (List ℕ)) (n : ℕ) → IsOrderedTo label texts ordered n → n ≡ length texts → AreInOrder label texts ordered
order_all label texts ordered n so e = record { all = so.all ∙ e; each = λ k h. so.each k (omega (arith, e, h)) }

-- ---- the parts of a sweep

pub bodies_ordered : (s : Sweep) (texts ordered : List (List ℕ)) → AreInOrder cut_label texts ordered → AreBodiesOf s texts → AreBodiesInOrder s ordered
bodies_ordered s texts ordered o bodies = λ j h.
    let within : j < length texts = omega (arith, o.all, h) in
    let part = bodies.2 j within in
    let at = o.each j within in
    let mine : BeginsAt cut_label j (get_or texts (bodies.0 j) []) = subst (BeginsAt cut_label j) (sym part.2) (part_begins s (length texts) j part.0 part.1) in
    let same : bodies.0 j ≡ at.0 = at.1.alone (bodies.0 j) (bodies.1.within j within) mine in
    (part.0, subst (λ n. IsPartOf s n j part.0) (sym o.all) part.1, at.2 ∙ ap (λ i. get_or texts i []) (sym same) ∙ part.2)

-- the text that begins with the line about k writes stands at the place of that part
part_at : (s : Sweep) (texts : List (List ℕ)) (bodies : AreBodiesOf s texts) → length texts < 2 ^ 64 → (i : ℕ) → i < length texts → (k : ℕ) → k < length texts
    → BeginsAt cut_label k (get_or texts i []) → i ≡ bodies.0 k
part_at s texts bodies small i h k low b =
    let from = bodies.1.all i h in
    let part = bodies.2 from.0 from.1 in
    let at : get_or texts i [] ≡ body_text part.0 = ap (λ m. get_or texts m []) (sym from.2) ∙ part.2 in
    let same : from.0 ≡ k = begins_once cut_label (get_or texts i []) from.0 k (omega (arith, from.1, small)) (omega (arith, low, small))
    (subst (BeginsAt cut_label from.0) (sym at) (part_begins s (length texts) from.0 part.0 part.1)) b in
    sym from.2 ∙ ap bodies.0 same

pub bodies_placed : (s : Sweep) (texts : List (List ℕ)) (f : JoinFault) → length texts < 2 ^ 64 → AreBodiesOf s texts → AreUnplaced cut_label texts f → f ≡ NoMemory
bodies_placed s texts NoMemory small bodies u = refl
bodies_placed s texts (Missing m) small bodies u =
    let part = bodies.2 u.0 u.1 in
    absurd (u.2.1 (bodies.0 u.0) (bodies.1.within u.0 u.1) (subst (BeginsAt cut_label u.0) (sym part.2) (part_begins s (length texts) u.0 part.0 part.1)))
bodies_placed s texts (Twice m) small bodies u =
    let first = part_at s texts bodies small u.2.1 (omega (arith, u.2.3, u.2.4)) u.0 u.1 u.2.5 in
    let second = part_at s texts bodies small u.2.2 u.2.4 u.0 u.1 u.2.6 in
    absurd (omega (arith, first, second, u.2.3))
bodies_placed s texts (BadLine m) small bodies u = absurd u.2
bodies_placed s texts (OtherSweep m) small bodies u = absurd u.2

-- ---- what is joined

-- texts are joined as they are in their order, or not
pub of_order : (depth : Depth) (texts ordered : List (List ℕ)) (r : Result Joined JoinFault) → AreInOrder cut_label texts ordered
    → MatchResult r (λ j. AreJoinedInOrder depth ordered j) (λ f. IsUnjoined ordered f) → MatchResult r (λ j. AreJoined depth texts j) (λ f. IsJoinFault texts f)
of_order depth texts ordered (Ok j) o h = (ordered, o, h)
of_order depth texts ordered (Err f) o h = inr (ordered, o, h)
