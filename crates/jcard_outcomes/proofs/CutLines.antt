-- The cuts that lines report.
use Rattle.std.proofs.Common.{arith, ◌≡◌, ◌∙◌, ◌⊎◌, inl, inr, ℕ, ◌+◌, ◌<◌, ◌≤◌, false, List, [], ◌∷◌, ◌++◌, length, get_or, take, drop, replicate, ap, sym, refl, subst}
use Rattle.std.specs.Prelude.{map}
use Rattle.std.specs.Borrow.{Bor}
use Rattle.std.specs.List.{All}
use Rattle.std.proofs.lemmas.Bool.{cases_lt}
use Rattle.std.proofs.lemmas.List.{length-map, map-append, take-append-drop, take_more}
use Rattle.std.proofs.lemmas.List.Elements.{All-push}
use Rattle.jcard_outcomes.specs.Join.{AreTold, IsBadLine, IsUncutTold, TellCuts}
use Rattle.jcard_outcomes.specs.Part.{IsCutOfWords, IsReadCut, has, told_cut}
use Rattle.jcard_outcomes.specs.declared.standing.Cut.{Cut}
use Rattle.jcard_outcomes.proofs.LineOrder.{from_next}
use Rattle.jcard_outcomes.proofs.Ends.{lent, lent_at, lent_length, nothing}
use Rattle.jcard_outcomes.proofs.SweepLines.{cut_is_no_end, cut_line, end_line}

-- the lines up to one that reports no cut
pub cuts_told : (lines : List (Bor (List ℕ))) (i : ℕ) (cuts : List Cut) → i < length lines → take i (lent lines) ≡ map told_cut cuts
    → All IsReadCut cuts → IsUncutTold (get_or lines i nothing).now → TellCuts (lent lines) cuts
cuts_told lines i cuts h told lacking uncut = (
  drop i (lent lines),
  sym (take-append-drop i (lent lines)) ∙ ap (λ l. l ++ drop i (lent lines)) told,
  (λ t more e.
      let first : get_or (lent lines) i [] ∷ drop (i + 1) (lent lines) ≡ t ∷ more = sym (from_next (lent lines) i (omega (arith, lent_length lines, h))) ∙ e in
      let it : get_or (lent lines) i [] ≡ t = cc in
      subst IsUncutTold (sym (lent_at lines i h) ∙ it) uncut),
  lacking,
)

take_front : {A : Type 0} (a b : List A) → take (length a) (a ++ b) ≡ a
take_front [] b = refl
take_front (x ∷ a) b = ap (λ l. x ∷ l) (take_front a b)

-- they are those of the sweep
pub cuts_whole : (lines : List (Bor (List ℕ))) (i : ℕ) (now : List Cut) → i < length lines → take i (lent lines) ≡ map told_cut now
    → IsUncutTold (get_or lines i nothing).now → (cuts : List Cut) (u : List ℕ) (n : ℕ) → AreTold cuts u n (lent lines) → i ≤ length cuts
    → map told_cut now ≡ map told_cut cuts
cuts_whole lines i now h told uncut cuts u n t low = by (cases_lt i (length cuts))
  where
    by : (i < length cuts) ⊎ (length cuts ≤ i) → map told_cut now ≡ map told_cut cuts
    by (inl below) =
        let line = cut_line cuts u n (lent lines) i t below in
        absurd (cut_is_no_end line.0 (subst IsUncutTold (sym (lent_at lines i h) ∙ line.1) uncut))
    by (inr past) =
        let exact : i ≡ length (map told_cut cuts) = omega (arith, low, past, length-map cuts told_cut) in
        sym told ∙ ap (take i) t.1 ∙ ap (λ k. take k (map told_cut cuts ++ replicate n u)) exact ∙ take_front (map told_cut cuts) (replicate n u)

-- a line that reports neither is none of the sweep
pub no_line : (lines : List (Bor (List ℕ))) (i : ℕ) → i < length lines → (IsUncutTold (get_or lines i nothing).now → ⊥)
    → ((c : Cut) → IsCutOfWords c → (get_or lines i nothing).now ≡ told_cut c → ⊥)
    → (cuts : List Cut) (u : List ℕ) (n : ℕ) → AreTold cuts u n (lent lines) → ⊥
no_line lines i h uncut none cuts u n t = by (cases_lt i (length cuts))
  where
    by : (i < length cuts) ⊎ (length cuts ≤ i) → ⊥
    by (inl below) = let line = cut_line cuts u n (lent lines) i t below in none line.0 line.2 (sym (lent_at lines i h) ∙ line.1)
    by (inr past) = uncut (subst IsUncutTold (lent_at lines i h) (end_line cuts u n (lent lines) i t past (omega (arith, lent_length lines, h))))

-- one more cut
pub cut_next : (lines : List (Bor (List ℕ))) (i : ℕ) (cuts more : List Cut) (c : Cut) → i < length lines → take i (lent lines) ≡ map told_cut cuts
    → (get_or lines i nothing).now ≡ told_cut c → more ≡ cuts ++ c ∷ [] → take (i + 1) (lent lines) ≡ map told_cut more
cut_next lines i cuts more c h told e pushed =
    take_more (lent lines) i [] (omega (arith, lent_length lines, h)) ∙ ap (λ l. l ++ get_or (lent lines) i [] ∷ []) told
    ∙ ap (λ x. map told_cut cuts ++ x ∷ []) (lent_at lines i h ∙ e) ∙ sym (map-append told_cut cuts (c ∷ [])) ∙ ap (map told_cut) (sym pushed)

pub lacking_next : (cuts more : List Cut) (c : Cut) → All IsReadCut cuts → IsReadCut c → more ≡ cuts ++ c ∷ [] → All IsReadCut more
lacking_next cuts more c all one pushed = subst (All IsReadCut) (sym pushed) (All-push IsReadCut cuts c all one)

-- a line that reports neither a cut nor a command that is not cut
pub bad_line : (lines : List (Bor (List ℕ))) (i : ℕ) → i < length lines → (IsUncutTold (get_or lines i nothing).now → ⊥)
    → ((c : Cut) → IsCutOfWords c → (get_or lines i nothing).now ≡ told_cut c → ⊥) → IsBadLine (lent lines) i
bad_line lines i h uncut none =
    let at = lent_at lines i h in (
      omega (arith, lent_length lines, h),
      (λ c words e. none c words (sym at ∙ e)),
      (λ answer told. uncut (answer ++ 58 ∷ told.0, sym at ∙ told.1)),
    )

pub behind_next : (lines : List (Bor (List ℕ))) (i : ℕ) → i < length lines → (IsUncutTold (get_or lines i nothing).now → ⊥)
    → ((cuts : List Cut) (u : List ℕ) (n : ℕ) → AreTold cuts u n (lent lines) → i ≤ length cuts)
    → (cuts : List Cut) (u : List ℕ) (n : ℕ) → AreTold cuts u n (lent lines) → i + 1 ≤ length cuts
behind_next lines i h uncut behind cuts u n t = by (cases_lt i (length cuts))
  where
    by : (i < length cuts) ⊎ (length cuts ≤ i) → i + 1 ≤ length cuts
    by (inl below) = omega (arith, below)
    by (inr past) = absurd (uncut (subst IsUncutTold (lent_at lines i h) (end_line cuts u n (lent lines) i t past (omega (arith, lent_length lines, h)))))

pub line_plain : (lines : List (Bor (List ℕ))) (i : ℕ) → i < length lines → All (λ t. has 10 t ≡ false) (lent lines) → has 10 (get_or lines i nothing).now ≡ false
line_plain lines i h all = subst (λ t. has 10 t ≡ false) (lent_at lines i h) (all i [] (omega (arith, lent_length lines, h)))
