-- Lists of each n-th cut.
use Rattle.std.proofs.Common.{◌≡◌, ℕ, add-one, ◌+◌, ◌*◌, List, [], ◌∷◌, ◌++◌, length, subst, arith}
use Rattle.std.proofs.Math.Nat.{mul-suc}
use Rattle.jcard_outcomes.specs.declared.standing.Cut.{Cut}
use Rattle.jcard_tear.specs.Sweep.{AreCuts, IsToldCut}
use Rattle.jcard_tear.specs.declared.cuts.Baseline.{Baseline}
use Rattle.jcard_sweeps.specs.declared.command.Command.{Command}

-- one cut more
pub cuts_more : (words : List ℕ) (c : Command) (b : Baseline) (k n : ℕ) (cuts : List Cut) (cut : Cut) → AreCuts words c b k n cuts
    → IsToldCut words c b (k + n * length cuts) cut → AreCuts words c b k n (cuts ++ cut ∷ [])
unfolding AreCuts
cuts_more words c b k n [] cut a t =
    let here : k + n * 0 ≡ k = omega arith in
    (subst (λ m. IsToldCut words c b m cut) here t, tt)
cuts_more words c b k n (x ∷ xs) cut a t =
    let next : k + n * length (x ∷ xs) ≡ (k + n) + n * length xs = omega (arith, mul-suc n (length xs)) in
    (a.0, cuts_more words c b (k + n) n xs cut a.1 (subst (λ m. IsToldCut words c b m cut) next t))

-- no cut yet
pub cuts_none : (words : List ℕ) (c : Command) (b : Baseline) (k n : ℕ) → AreCuts words c b k n []
unfolding AreCuts
cuts_none words c b k n = tt

-- the next number
pub number_more : (k n i number next : ℕ) → number ≡ k + n * i → next ≡ number + n → next ≡ k + n * (i + 1)
number_more k n i number next e f = rw add-one (omega (arith, mul-suc n i, e, f))
