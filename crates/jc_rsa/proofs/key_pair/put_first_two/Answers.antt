use Rattle.std.proofs.Common.{◌∙◌, ℕ, ◌+◌, length, ap, subst, sym}
use Rattle.std.proofs.lemmas.Bool.{iff_false}
use Rattle.jc_numbers.specs.Inverses.{HasInverse}
use Rattle.jc_numbers.specs.Numbers.{number_of_bytes}
use Rattle.jc_rsa.specs.KeyPair.{HasNoneTaken, IsFirstTaken, candidate}
use Rattle.jc_rsa.proofs.Candidates.{no_first, no_second, primes_apart}
use Rattle.jc_rsa.proofs.key_pair.put_first_two.Goals as goal

pub returns-in_default-clause-none : goal.returns-in_default-clause-none
returns-in_default-clause-none c = λ false. no_first c.args.seed.now (number_of_bytes c.args.exponent.now) (length c.args.first.now) c.in_default.ensures.found

pub returns-in_default-find_prime-clause-none : goal.returns-in_default-find_prime-clause-none
returns-in_default-find_prime-clause-none c = λ false.
    let seed = c.args.seed.now in
    let e : ℕ = number_of_bytes c.args.exponent.now in
    let none = subst (λ size. HasNoneTaken seed e size (c.in-Some.number + 1)) c.requires.same c.in_default-find_prime.ensures.found in
    no_second seed e (length c.args.first.now) c.in-Some.number c.in-Some.ensures.found none

pub returns-then-not-put_coefficient-clause-none : goal.returns-then-not-put_coefficient-clause-none
returns-then-not-put_coefficient-clause-none c = λ false p q are.
    let seed = c.args.seed.now in
    let e : ℕ = number_of_bytes c.args.exponent.now in
    let size : ℕ = length c.args.first.now in
    let second = subst (λ n. IsFirstTaken seed e n (c.in-Some.number + 1) c.in-Some-find_prime._next) c.requires.same c.in-Some-find_prime.ensures.found in
    let second_is = c.in-Some-find_prime.ensures.written ∙ ap (λ n. candidate seed n c.in-Some-find_prime._next) c.requires.same in
    let apart = primes_apart seed e size c.in-Some.number c.in-Some-find_prime._next c.in-Some.ensures.found second p q are in
    let there = subst (λ x. HasInverse (number_of_bytes x) (number_of_bytes c.find_prime-2.new.to)) (sym c.in-Some.ensures.written)
    (subst (λ x. HasInverse (number_of_bytes (candidate seed size c.in-Some.number)) (number_of_bytes x)) (sym second_is) apart) in
    iff_false c.put_coefficient.ensures.told c.if-not-put_coefficient.true there

pub returns-clause-primes : goal.returns-clause-primes
returns-clause-primes c = λ true.
    let seed = c.args.seed.now in
    let e : ℕ = number_of_bytes c.args.exponent.now in
    record {
      first = c.in-Some.number;
      second = c.in-Some-find_prime._next;
      first_taken = c.in-Some.ensures.found;
      second_taken = subst (λ n. IsFirstTaken seed e n (c.in-Some.number + 1) c.in-Some-find_prime._next) c.requires.same c.in-Some-find_prime.ensures.found;
      p_is = c.in-Some.ensures.written;
      q_is = c.in-Some-find_prime.ensures.written ∙ ap (λ n. candidate seed n c.in-Some-find_prime._next) c.requires.same;
      apart = c.put_coefficient.ensures.told.0 c.if-not-put_coefficient.false;
    }
