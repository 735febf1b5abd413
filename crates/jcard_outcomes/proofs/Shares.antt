-- The names of parts.
use Rattle.std.proofs.Common.{arith, ◌≡◌, inl, ◌∙◌, ℕ, ◌+◌, ◌<◌, List, ◌∷◌, ◌++◌, ap, sym, decimal, false}
use Rattle.std.proofs.lemmas.Fmt.{decimal_injective}
use Rattle.jcard_outcomes.specs.Part.{IsShareText, has}
use Rattle.jcard_outcomes.specs.declared.part.Share.{Share}
use Rattle.jcard_outcomes.proofs.Splits.{cut_again, decimal_lacks, not_lacking}

pub no_slash : (text : List ℕ) → has 47 text ≡ false → (s : Share) → IsShareText text s → ⊥
no_slash text n s h = not_lacking 47 text (decimal (s.first + 1)) (decimal s.step) n h.0

shares : (text digits rest : List ℕ) → text ≡ digits ++ 47 ∷ rest → has 47 digits ≡ false → (s : Share) → IsShareText text s
    → (digits ≡ decimal (s.first + 1)) × (rest ≡ decimal s.step)
shares text digits rest e lacking s h =
    cut_again 47 text digits (decimal (s.first + 1)) rest (decimal s.step) e lacking h.0 (decimal_lacks 47 (s.first + 1) (inl (omega arith)) (omega (arith, h.1, h.2)))

pub no_rank : (text digits rest : List ℕ) → text ≡ digits ++ 47 ∷ rest → has 47 digits ≡ false → ((n : ℕ) → n < 65536 → digits ≡ decimal n → ⊥)
    → (s : Share) → IsShareText text s → ⊥
no_rank text digits rest e lacking none s h = none (s.first + 1) (omega (arith, h.1, h.2)) ((shares text digits rest e lacking s h).0)

pub no_step : (text digits rest : List ℕ) → text ≡ digits ++ 47 ∷ rest → has 47 digits ≡ false → ((n : ℕ) → n < 65536 → rest ≡ decimal n → ⊥)
    → (s : Share) → IsShareText text s → ⊥
no_step text digits rest e lacking none s h = none s.step h.2 ((shares text digits rest e lacking s h).1)

ranks : (text digits rest : List ℕ) (rank step : ℕ) → text ≡ digits ++ 47 ∷ rest → has 47 digits ≡ false → digits ≡ decimal rank → rest ≡ decimal step
    → rank < 65536 → step < 65536 → (s : Share) → IsShareText text s → (rank ≡ s.first + 1) × (step ≡ s.step)
ranks text digits rest rank step e lacking d r low small s h = (
  decimal_injective rank (s.first + 1) (omega arith) (omega (arith, h.1, h.2)) (sym d ∙ (shares text digits rest e lacking s h).0),
  decimal_injective step s.step (omega arith) (omega (arith, h.2)) (sym r ∙ (shares text digits rest e lacking s h).1),
)

pub no_zero : (text digits rest : List ℕ) (rank step : ℕ) → text ≡ digits ++ 47 ∷ rest → has 47 digits ≡ false → digits ≡ decimal rank → rest ≡ decimal step
    → rank < 65536 → step < 65536 → rank ≡ 0 → (s : Share) → IsShareText text s → ⊥
no_zero text digits rest rank step e lacking d r low small zero s h =
    absurd (omega (arith, zero, (ranks text digits rest rank step e lacking d r low small s h).0))

pub no_later : (text digits rest : List ℕ) (rank step : ℕ) → text ≡ digits ++ 47 ∷ rest → has 47 digits ≡ false → digits ≡ decimal rank → rest ≡ decimal step
    → rank < 65536 → step < 65536 → step < rank → (s : Share) → IsShareText text s → ⊥
no_later text digits rest rank step e lacking d r low small late s h =
    absurd (omega (arith, late, h.1, (ranks text digits rest rank step e lacking d r low small s h).0, (ranks text digits rest rank step e lacking d r low small s h).1))

pub share_there : (text digits rest : List ℕ) (rank first step : ℕ) → text ≡ digits ++ 47 ∷ rest → digits ≡ decimal rank → rest ≡ decimal step
    → first + 1 ≡ rank → text ≡ decimal (first + 1) ++ 47 ∷ decimal step
share_there text digits rest rank first step e d r n =
    e ∙ ap (λ l. l ++ 47 ∷ rest) (d ∙ ap decimal (sym n)) ∙ ap (λ l. decimal (first + 1) ++ 47 ∷ l) r
