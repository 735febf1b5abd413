-- The texts of all parts of a sweep state its lines, in parts.
use Rattle.std.proofs.Common.{arith, ◌≡◌, ◌∙◌, ℕ, zero, suc, ◌+◌, ◌-◌, ◌*◌, ◌%◌, ◌<◌, ◌≤◌, ◌⊎◌, inl, inr, List, [], ◌∷◌, ◌++◌, length, get_or, drop, replicate, ap, sym, subst, append-nil, Some, None, add-one}
use Rattle.std.specs.Prelude.{slice_get}
use Rattle.std.proofs.lemmas.Bool.{cases_lt}
use Rattle.std.proofs.lemmas.List.{drop_all}
use Rattle.std.proofs.Math.Nat.{mod-lt, mod-eq_of_lt, mod_self, suc-mod, suc-mul}
use Rattle.jcard_outcomes.specs.Join.{AreBodiesInOrder, IsEvery}
use Rattle.jcard_outcomes.specs.Part.{AreDealt, dealt, line_text, lines_text, told_cut, told_sweep, told_uncut}
use Rattle.jcard_outcomes.specs.declared.report.Sweep.{Sweep}
use Rattle.jcard_outcomes.specs.declared.standing.Cut.{Cut}
use Rattle.jcard_outcomes.proofs.SweepLines.{cut_at, get_past, line_of_cut, line_of_uncut, there, total}
use Rattle.jcard_outcomes.proofs.LineOrder.{deal_none, deal_other, deal_same, from_next}

-- ---- remainders

-- the remainder of the next number
next_mod : (m n : ℕ) → 0 < n → ((m + 1) % n ≡ m % n + 1) ⊎ ((m % n + 1 ≡ n) × ((m + 1) % n ≡ 0))
next_mod m n some = by (cases_lt (m % n + 1) n)
  where
    step : (m + 1) % n ≡ (m % n + 1) % n
    step = rw (add-one, add-one) (suc-mod m n)

    by : (m % n + 1 < n) ⊎ (n ≤ m % n + 1) → ((m + 1) % n ≡ m % n + 1) ⊎ ((m % n + 1 ≡ n) × ((m + 1) % n ≡ 0))
    by (inl h) = inl (step ∙ mod-eq_of_lt h)
    by (inr h) =
        let whole : m % n + 1 ≡ n = omega (arith, mod-lt m some) in
        inr (whole, step ∙ ap (λ x. x % n) whole ∙ mod_self n)

-- this many numbers before the next one that belongs to part j + 1
abbrev IsAhead : ℕ → ℕ → ℕ → ℕ → Type 0
IsAhead j n m gap = (m % n + gap ≡ j) ⊎ (m % n + gap ≡ j + n)

ahead_next : (j n m gap : ℕ) → 0 < n → j < n → gap + 1 < n → IsAhead j n m (gap + 1) → IsAhead j n (m + 1) gap
ahead_next j n m gap some low small = by (next_mod m n some)
  where
    by : ((m + 1) % n ≡ m % n + 1) ⊎ ((m % n + 1 ≡ n) × ((m + 1) % n ≡ 0)) → IsAhead j n m (gap + 1) → IsAhead j n (m + 1) gap
    by (inl e) (inl h) = inl (omega (arith, e, h))
    by (inl e) (inr h) = inr (omega (arith, e, h))
    by (inr e) (inl h) = absurd (omega (arith, e.0, h, low))
    by (inr e) (inr h) = inl (omega (arith, e.0, e.1, h))

ahead_far : (j n m rest : ℕ) → 0 < n → j < n → rest + 1 ≡ n → IsAhead j n m 0 → IsAhead j n (m + 1) rest
ahead_far j n m rest some low all = by (next_mod m n some)
  where
    by : ((m + 1) % n ≡ m % n + 1) ⊎ ((m % n + 1 ≡ n) × ((m + 1) % n ≡ 0)) → IsAhead j n m 0 → IsAhead j n (m + 1) rest
    by (inl e) (inl h) = inr (omega (arith, e, h, all))
    by (inl e) (inr h) = absurd (omega (arith, h, mod-lt m some))
    by (inr e) (inl h) = inl (omega (arith, e.0, e.1, h, all))
    by (inr e) (inr h) = absurd (omega (arith, h, mod-lt m some))

here_is : (j n m : ℕ) → 0 < n → IsAhead j n m 0 → m % n ≡ j
here_is j n m some (inl h) = omega (arith, h)
here_is j n m some (inr h) = absurd (omega (arith, h, mod-lt m some))

here_not : (j n m gap : ℕ) → gap + 1 < n → IsAhead j n m (gap + 1) → m % n ≡ j → ⊥
here_not j n m gap small (inl h) e = absurd (omega (arith, h, e))
here_not j n m gap small (inr h) e = absurd (omega (arith, h, e, small))

-- ---- lines

-- no line is left for part j + 1
none_dealt : (fuel m gap n j : ℕ) (whole : List Cut) (u : List ℕ) → 0 < n → j < n → gap < n → m + fuel ≡ length whole + n → length whole + n ≤ m + gap
    → IsAhead j n m gap → dealt j n m (drop m (told_sweep n whole u)) ≡ []
none_dealt zero m gap n j whole u some low small full end ahead =
    ap (dealt j n m) (drop_all m (told_sweep n whole u) (omega (arith, total whole u n, full))) ∙ deal_none j n m
none_dealt (suc fuel) m zero n j whole u some low small full end ahead = absurd (omega (arith, full, end))
none_dealt (suc fuel) m (suc gap) n j whole u some low small full end ahead =
    let far : IsAhead j n m (gap + 1) = subst (IsAhead j n m) (sym (add-one gap)) ahead in
    let within : m < length (told_sweep n whole u) = omega (arith, total whole u n, full) in
    ap (dealt j n m) (from_next (told_sweep n whole u) m within)
    ∙ deal_other j n m (get_or (told_sweep n whole u) m []) (drop (m + 1) (told_sweep n whole u)) (here_not j n m gap (omega arith) far)
    ∙ none_dealt fuel (m + 1) gap n j whole u some low (omega arith) (omega (arith, full)) (omega (arith, end)) (ahead_next j n m gap some low (omega arith) far)

-- the lines of part j + 1, whose next number is k, are those that are left for it
lines_dealt : (fuel m gap k n rest j : ℕ) (whole part : List Cut) (u : List ℕ) → rest + 1 ≡ n → j < n → gap < n → k ≡ m + gap
    → m + fuel ≡ length whole + n → IsEvery k n whole part → k < length whole + n → IsAhead j n m gap
    → lines_text k n part u ≡ dealt j n m (drop m (told_sweep n whole u))
unfolding lines_text
lines_dealt zero m gap k n rest j whole part u all low small at full every within ahead = absurd (omega (arith, at, full, within))
lines_dealt (suc fuel) m (suc gap) k n rest j whole part u all low small at full every within ahead =
    let far : IsAhead j n m (gap + 1) = subst (IsAhead j n m) (sym (add-one gap)) ahead in
    let some : 0 < n = omega arith in
    let inside : m < length (told_sweep n whole u) = omega (arith, total whole u n, full) in
    lines_dealt fuel (m + 1) gap k n rest j whole part u all low (omega arith) (omega (arith, at)) (omega (arith, full)) every within
    (ahead_next j n m gap some low (omega arith) far)
    ∙ sym (ap (dealt j n m) (from_next (told_sweep n whole u) m inside)
    ∙ deal_other j n m (get_or (told_sweep n whole u) m []) (drop (m + 1) (told_sweep n whole u)) (here_not j n m gap (omega arith) far))
lines_dealt (suc fuel) m zero k n rest j whole [] u all low small at full every within ahead =
    let some : 0 < n = omega arith in
    let same : k ≡ m = omega (arith, at) in
    let inside : m < length (told_sweep n whole u) = omega (arith, total whole u n, full) in
    let past : length whole ≤ m = past_of (cases_lt m (length whole)) in
    ap (λ i. line_text i u) same
    ∙ sym (ap (dealt j n m) (from_next (told_sweep n whole u) m inside)
    ∙ deal_same j n m (get_or (told_sweep n whole u) m []) (drop (m + 1) (told_sweep n whole u)) (here_is j n m some ahead)
    ∙ ap (λ l. line_text m (get_or (told_sweep n whole u) m []) ++ l)
    (none_dealt fuel (m + 1) rest n j whole u some low (omega arith) (omega (arith, full)) (omega (arith, past, all)) (ahead_far j n m rest some low all ahead))
    ∙ append-nil (line_text m (get_or (told_sweep n whole u) m []))
    ∙ ap (line_text m) (line_of_uncut whole u n m past (omega (arith, within, same))))
  where
    past_of : (m < length whole) ⊎ (length whole ≤ m) → length whole ≤ m
    past_of (inr h) = h
    past_of (inl h) = absurd (there whole m h (cut_at whole m (k + 0 * n) (omega (arith, at)) ∙ sym (every 0)))
lines_dealt (suc fuel) m zero k n rest j whole (c ∷ part) u all low small at full every within ahead =
    let some : 0 < n = omega arith in
    let same : k ≡ m = omega (arith, at) in
    let inside : m < length (told_sweep n whole u) = omega (arith, total whole u n, full) in
    let cut : slice_get whole m ≡ Some c = cut_at whole m (k + 0 * n) (omega (arith, at)) ∙ sym (every 0) in
    let below : m < length whole = below_of cut (cases_lt m (length whole)) in
    ap (λ i. line_text i (told_cut c) ++ lines_text (k + n) n part u) same
    ∙ ap (λ l. line_text m (told_cut c) ++ l)
    (lines_dealt fuel (m + 1) rest (k + n) n rest j whole part u all low (omega arith) (omega (arith, at, all)) (omega (arith, full))
    (λ i. every (suc i) ∙ cut_at whole (k + suc i * n) ((k + n) + i * n) (omega (arith, suc-mul i n))) (omega (arith, below, same)) (ahead_far j n m rest some low all ahead))
    ∙ sym (ap (dealt j n m) (from_next (told_sweep n whole u) m inside)
    ∙ deal_same j n m (get_or (told_sweep n whole u) m []) (drop (m + 1) (told_sweep n whole u)) (here_is j n m some ahead)
    ∙ ap (λ l. line_text m l ++ dealt j n (m + 1) (drop (m + 1) (told_sweep n whole u))) (line_of_cut whole (replicate n u) m c cut))
  where
    below_of : slice_get whole m ≡ Some c → (m < length whole) ⊎ (length whole ≤ m) → m < length whole
    below_of e (inl h) = h
    below_of e (inr h) = absurd (let none : slice_get whole m ≡ None = get_past whole m h in cc)

-- ---- all parts

pub parts_dealt : (s : Sweep) (texts : List (List ℕ)) → 0 < length texts → AreBodiesInOrder s texts
    → AreDealt texts (told_sweep (length texts) s.cuts.items (told_uncut s.answer.items s.after.answers.items))
parts_dealt s texts some parts j small =
    let p = (parts j small).0 in
    let h = (parts j small).1 in
    let rest : ℕ = length texts - 1 in
    let none : 0 + j ≡ j = omega arith in
    (parts j small).2
    ∙ ap (λ k. lines_text k p.step p.sweep.cuts.items (told_uncut p.sweep.answer.items p.sweep.after.answers.items)) h.first_is
    ∙ ap (λ n. lines_text j n p.sweep.cuts.items (told_uncut p.sweep.answer.items p.sweep.after.answers.items)) h.step_is
    ∙ ap (λ a. lines_text j (length texts) p.sweep.cuts.items (told_uncut a p.sweep.after.answers.items)) h.answer
    ∙ ap (λ a. lines_text j (length texts) p.sweep.cuts.items (told_uncut s.answer.items a)) h.answers
    ∙ lines_dealt (length s.cuts.items + length texts) 0 j j (length texts) rest j s.cuts.items p.sweep.cuts.items (told_uncut s.answer.items s.after.answers.items)
    (omega arith) small small (omega arith) (omega arith) h.cuts (omega arith) (inl (ap (λ r. r + j) (mod-eq_of_lt {n = 0} {m = length texts} some) ∙ none))
