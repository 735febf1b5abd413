-- The cards that lines make, a line after the other.
use Rattle.std.proofs.Common.{◌≡◌, ℕ, ◌+◌, ◌-◌, ◌<◌, ◌≤◌, true, false, Option, codes, List, [], ◌∷◌, ◌++◌, Some, None, length, get_or, drop, refl, sym, subst, inl, inr, append_assoc}
use Rattle.std.specs.Prelude.{MatchOption, is_some}
use Rattle.std.specs.String.{string_bytes}
use Rattle.std.proofs.lemmas.Bool.{false≢true}
use Rattle.std.proofs.lemmas.List.{drop_all}
use Rattle.jcard_test.specs.Cards.{AddsRow, AreCards, IsNewCard, IsRowOfLine, IsSweep}
use Rattle.jcard_outcomes.specs.declared.card_rows.CardRows.{CardRows}
use Rattle.jcard_test.specs.declared.numbered_line.Numbered.{Numbered}
use Rattle.jcard_outcomes.specs.declared.row.Row.{Row}
use Rattle.jcard_texts.proofs.Items.{drop_at}

-- a line says nothing of a sweep
pub no_sweep : (command : List ℕ) → (command ≡ codes "tear all-or-nothing" → ⊥) → ((rest : List ℕ) → command ≡ codes "attack none-accepted" ++ rest → ⊥)
    → (probe : Option (List ℕ)) → IsSweep command probe → ⊥
no_sweep command tear attack None h = tear h
no_sweep command tear attack (Some probe) h = attack probe h

-- what was not found
pub was_not : {A : Type 0} (P : Type 0) (Q : A → Type 0) (r : Option A) → MatchOption r P Q → is_some r ≡ false → P
was_not P Q None h e = h
was_not P Q (Some x) h e = absurd (false≢true (sym e))

-- the card after the last line
pub card_last : (lines : List Numbered) (i words : ℕ) (rows : List Row) (card : CardRows) → length lines ≤ i → card.words ≡ words
    → card.rows.items ≡ rows → AreCards (drop i lines) words rows (card ∷ [])
unfolding AreCards
card_last lines i words rows card h w r = subst (λ (ls : List Numbered). AreCards ls words rows (card ∷ [])) (sym (drop_all i lines h)) (card, refl, (w, r))

-- the line at this place
module _ (lines : List Numbered) (i : ℕ) (line : Numbered) (h : i < length lines) (e : line ≡ get_or lines i line) (words : ℕ) (rows : List Row) where
  -- it says nothing
  pub card_same : (more : List CardRows) → IsRowOfLine line None → AreCards (drop (i + 1) lines) words rows more → AreCards (drop i lines) words rows more
  unfolding AreCards
  card_same more says a = subst (λ (ls : List Numbered). AreCards ls words rows more) (sym (drop_at lines i line h e)) (inl (says, a))

  -- it is a row
  pub card_row : (more : List CardRows) (r : Row) (all : List Row) → IsRowOfLine line (Some r) → ((size : ℕ) → IsNewCard (string_bytes r.command) size → ⊥)
      → AddsRow rows r all → AreCards (drop (i + 1) lines) words all more → AreCards (drop i lines) words rows more
  unfolding AreCards
  card_row more r all says none adds a = subst (λ (ls : List Numbered). AreCards ls words rows more) (sym (drop_at lines i line h e))
      (inr (r, says, inr (none, all, adds, a)))

  -- it makes a card
  pub card_next : (more : List CardRows) (r : Row) (size : ℕ) (card : CardRows) → IsRowOfLine line (Some r) → IsNewCard (string_bytes r.command) size
      → card.words ≡ words → card.rows.items ≡ rows → AreCards (drop (i + 1) lines) size [] more → AreCards (drop i lines) words rows (card ∷ more)
  unfolding AreCards
  card_next more r size card says new w rs a = subst (λ (ls : List Numbered). AreCards ls words rows (card ∷ more)) (sym (drop_at lines i line h e))
      (inr (r, says, inl (size, card, more, new, refl, (w, rs), a)))

-- one card more before others
pub card_pushed : (lines : List Numbered) (first : ℕ) (cards next : List CardRows) (card : CardRows) (more : List CardRows) → next ≡ cards ++ card ∷ []
    → AreCards lines first [] (cards ++ card ∷ more) → AreCards lines first [] (next ++ more)
card_pushed lines first cards next card more e a = subst (λ (cs : List CardRows). AreCards lines first [] (cs ++ more)) (sym e)
    (subst (λ (cs : List CardRows). AreCards lines first [] cs) (sym (append_assoc cards (card ∷ []) more)) a)

-- the last card
pub card_ended : (lines : List Numbered) (first : ℕ) (cards next : List CardRows) (card : CardRows) → next ≡ cards ++ card ∷ []
    → AreCards lines first [] (cards ++ card ∷ []) → AreCards lines first [] next
card_ended lines first cards next card e a = subst (λ (cs : List CardRows). AreCards lines first [] cs) (sym e) a
