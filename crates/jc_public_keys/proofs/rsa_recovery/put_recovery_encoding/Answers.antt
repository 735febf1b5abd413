use Rattle.std.proofs.Common.{◌≡◌, ◌∙◌, ℕ, Bool, List, length, take, ap}
use Rattle.std.specs.Prelude.{nat_lt}
use Rattle.std.proofs.lemmas.List.{take_min}
use Rattle.jc_rsa.specs.Iso9796.{representative}
use Rattle.jc_rsa.specs.declared.iso_9796.Trailer.TheVariants.{Implicit}
use Rattle.jc_public_keys.specs.RsaRecovery.{recovery_encoding}
use Rattle.jc_public_keys.proofs.rsa_recovery.put_recovery_encoding.Goals as goal

pub returns : goal.returns
unfolding recovery_encoding
returns c =
    let first = c.args.first.now in
    let digest = c.args.digest.now in
    let n : ℕ = length c.args.to.now in
    let most = c.capacity-most.result in
    let recoverable : take c.min.result first ≡ take most first = ap (λ (k : ℕ). take k first) c.min.ensures ∙ take_min most first in
    c.encode.ensures ∙ ap (λ (xs : List ℕ). representative (nat_lt most (length first)) xs digest Implicit n) recoverable
    ∙ ap (λ (k : ℕ). representative (nat_lt k (length first)) (take k first) digest Implicit n) c.capacity-most.ensures
