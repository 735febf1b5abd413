use Rattle.std.proofs.Common.{rules, ◌≡◌, ◌∙◌, ◌+◌, ℕ, Bool, true, false, length, sym, ap, arith}
use Rattle.std.specs.Prelude.{nat_le, ◌&&◌}
use Rattle.std.specs.Str.{bytes_eq}
use Rattle.std.proofs.lemmas.Bool.Decides.{nat_tests}
use Rattle.jc_public_keys.specs.RsaRecovery.{is_recovery_encoding, recovery_encoding}
use Rattle.jc_public_keys.proofs.rsa_recovery.is_recovery_encoding.Goals as goal

pub returns-then-encoding-digest : goal.returns-then-encoding-digest
unfolding is_recovery_encoding
returns-then-encoding-digest c =
    let long : ℕ = length c.args.digest.now + 2 in
    let n : ℕ = length c.args.encoding.now in
    let short : nat_le long n ≡ false = grind (arith, nat_tests, c.if-encoding-digest.true) in
    sym (ap (λ (b : Bool). b && bytes_eq c.args.encoding.now (recovery_encoding c.args.first.now c.args.digest.now n)) short)

pub returns : goal.returns
unfolding is_recovery_encoding
returns c =
    let long : ℕ = length c.args.digest.now + 2 in
    let n : ℕ = length c.args.encoding.now in
    let fits : nat_le long n ≡ true = grind (arith, nat_tests, c.if-encoding-digest.false) in
    let size : length c.put_recovery_encoding.new.to ≡ n = search rules in
    let expected : c.put_recovery_encoding.new.to ≡ recovery_encoding c.args.first.now c.args.digest.now n =
    c.put_recovery_encoding.ensures ∙ ap (recovery_encoding c.args.first.now c.args.digest.now) (sym c.put_recovery_encoding.auto.to ∙ size) in
    c.eq.ensures ∙ ap (bytes_eq c.args.encoding.now) expected
    ∙ sym (ap (λ (b : Bool). b && bytes_eq c.args.encoding.now (recovery_encoding c.args.first.now c.args.digest.now n)) fits)
