use Rattle.std.proofs.Common.{◌≡◌, ◌∙◌, ℕ, List, length, refl, sym, ap, subst, inl, inr, arith}
use Rattle.std.proofs.lemmas.Bool.{cases_lt, iff_false}
use Rattle.jc_numbers.specs.Numbers.{number_of_bytes}
use Rattle.jc_rsa.specs.KeyPair.{IsTaken, candidate}
use Rattle.jc_rsa.proofs.key_pair.find_prime.Goals as goal

pub candidates-init : goal.candidates-init
candidates-init c = record { long = refl; others = λ k low high. absurd (omega (arith, low, high)) }

pub candidates-preserved : goal.candidates-preserved
candidates-preserved c =
    let seed = c.args.seed.now in
    let e : ℕ = number_of_bytes c.args.exponent.now in
    let size : ℕ = length c.args.to.now in
    let i = c.candidates.i in
    let inv = c.candidates.invariant in
    let is : c.put_candidate.new.to ≡ candidate seed size i = c.put_candidate.ensures ∙ ap (λ (n : ℕ). candidate seed n i) inv.long in
    let P : List ℕ → Type 0 = λ x. IsTaken e (number_of_bytes x) in
    record {
      long = c.put_candidate.auto.to ∙ inv.long;
      others = λ k low high taken.
          elim (cases_lt k i) [
            | inl less ↦ inv.others k low less taken
            | inr up ↦
                let here : k ≡ i = omega arith in
                iff_false c.is_taken.ensures c.if-is_taken.false (subst P (ap (candidate seed size) here ∙ sym is) taken)
          ];
    }

pub returns-then-is_taken-clause-found : goal.returns-then-is_taken-clause-found
returns-then-is_taken-clause-found c =
    let seed = c.args.seed.now in
    let e : ℕ = number_of_bytes c.args.exponent.now in
    let size : ℕ = length c.args.to.now in
    let i = c.candidates.i in
    let inv = c.candidates.invariant in
    let is : c.put_candidate.new.to ≡ candidate seed size i = c.put_candidate.ensures ∙ ap (λ (n : ℕ). candidate seed n i) inv.long in
    let P : List ℕ → Type 0 = λ x. IsTaken e (number_of_bytes x) in
    record {
      low = omega arith;
      within = omega arith;
      taken = subst P is (c.is_taken.ensures.0 c.if-is_taken.true);
      before = inv.others;
    }
