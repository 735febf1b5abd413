use Rattle.std.proofs.Common.{◌≡◌, ◌+◌, ◌∙◌, ℕ, Some, length, sym, ap, subst, arith}
use Rattle.std.proofs.Math.Facts.{Fits-lt-pow}
use Rattle.jc_numbers.specs.Numbers.{number_of_bytes}
use Rattle.jc_rsa.specs.KeyPair.{ArePrimesOf, HasRooms, IsKeyPair, Parts}
use Rattle.jc_rsa.proofs.Candidates.{first_is_taken, second_is_taken, whole_inverse}
use Rattle.jc_public_keys.specs.RsaKeys.{rsa_pair_of}
use Rattle.jc_public_keys.proofs.RsaPairsFound.{AreBytes, joined, none_made, pair_found, parts_joined, parts_small, primes_made}
use Rattle.jc_public_keys.proofs.rsa_keys.put_rsa_pair.Goals as goal

pub returns-then-is_err-clause-pair : goal.returns-then-is_err-clause-pair
returns-then-is_err-clause-pair c =
    let p = c.split_at_mut-p.result.0.now in
    let q = c.split_at_mut-q.result.0.now in
    none_made c.args.seed.now c.args.exponent.now p q c.find_primes.new.p c.find_primes.new.q c.find_primes.result c.find_primes.ensures
    (sym c.if-is_err.ensures.value) ∙ ap (rsa_pair_of c.args.seed.now c.args.exponent.now) c.split_at_mut-p.ensures.front_len

pub returns-clause-pair : goal.returns-clause-pair
returns-clause-pair c =
    let seed = c.args.seed.now in
    let e : ℕ = number_of_bytes c.args.exponent.now in
    let size : ℕ = c.args.size in
    let p = c.find_primes.new.p in
    let q = c.find_primes.new.q in
    let new : Parts = record {
      p = p;
      q = q;
      dp = c.put_crt_exponent.new.to;
      dq = c.put_crt_exponent-2.new.to;
      q_inverse = c.put_coefficient.new.to;
      modulus = c.put_modulus.new.to;
      private_exponent = c.put_private_exponent.new.to;
    } in
    let made = primes_made seed e c.split_at_mut-p.result.0.now c.split_at_mut-q.result.0.now p q c.find_primes.result c.find_primes.ensures
    (sym c.if-is_err.ensures.value) in
    let size_is : length c.split_at_mut-p.result.0.now ≡ size = c.split_at_mut-p.ensures.front_len in
    let primes = subst (λ (n : ℕ). ArePrimesOf seed e n p q) size_is made.1 in
    let first = first_is_taken seed e size p q primes in
    let second = second_is_taken seed e size p q primes in
    let is : IsKeyPair e new = record {
      dp = c.put_crt_exponent.ensures.inverse (c.put_crt_exponent.ensures.told.1 first.1);
      dq = c.put_crt_exponent-2.ensures.inverse (c.put_crt_exponent-2.ensures.told.1 second.1);
      q_inverse = c.put_coefficient.ensures.inverse (c.put_coefficient.ensures.told.1 primes.apart);
      modulus = c.put_modulus.ensures;
      private_exponent = c.put_private_exponent.ensures.inverse
          (c.put_private_exponent.ensures.told.1 (whole_inverse e (number_of_bytes p) (number_of_bytes q) first second));
    } in
    let p_long : length p ≡ size = c.find_primes.auto.p ∙ size_is in
    let q_long : length q ≡ size = c.find_primes.auto.q ∙ c.split_at_mut-q.ensures.front_len in
    let dp_long : length new.dp ≡ size = c.put_crt_exponent.auto.to ∙ c.split_at_mut-dp.ensures.front_len in
    let dq_long : length new.dq ≡ size = c.put_crt_exponent-2.auto.to ∙ c.split_at_mut-dq.ensures.front_len in
    let inverse_long : length new.q_inverse ≡ size = c.put_coefficient.auto.to ∙ c.split_at_mut-q_inverse.ensures.front_len in
    let long : HasRooms new = record {
      some = omega (arith, p_long, c.requires.some);
      few = omega (arith, p_long, c.requires.few);
      q = q_long ∙ sym p_long;
      dp = dp_long ∙ sym p_long;
      dq = dq_long ∙ sym p_long;
      q_inverse = inverse_long ∙ sym p_long;
      modulus = omega (arith, c.put_modulus.auto.to, c.split_at_mut-modulus.ensures.front_len, p_long);
      private_exponent = omega arith;
    } in
    let parts = parts_joined size new long p_long in
    let small : AreBytes new = subst AreBytes parts (parts_small size (joined new) (λ i. Fits-lt-pow (c.type_inv.to i))) in
    ap Some parts ∙ pair_found seed c.args.exponent.now size new long small made.0 primes is
