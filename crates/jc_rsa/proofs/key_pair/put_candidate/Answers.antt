use Rattle.std.proofs.Common.{◌≡◌, ◌≤◌, ◌∙◌, ◌-◌, ◌++◌, ℕ, List, length, sym, ap, arith}
use Rattle.std.proofs.lemmas.List.{take_all}
use Rattle.std.specs.Int.{to_be_bytes, w32}
use Rattle.jc_digests.specs.declared.kept.HashAlgorithm.TheVariants.{Sha256}
use Rattle.jc_rsa.specs.KeyPair.{candidate, with_bits}
use Rattle.jc_rsa.specs.Mgf1.{mgf1}
use Rattle.jc_rsa.proofs.key_pair.put_candidate.Goals as goal

pub returns : goal.returns
unfolding candidate
returns c =
    let seed = c.args.seed.now in
    let size : ℕ = length c.args.to.now in
    let numbered = c.put-last.new.to in
    let long : length numbered ≤ c.put-last.result = omega arith in
    let all : numbered ≡ seed ++ to_be_bytes w32 c.args.number =
    sym (take_all c.put-last.result numbered long) ∙ c.put-last.ensures.written
    ∙ (λ j. c.put-end.ensures.written j ++ c.to_be_bytes.ensures j) in
    let mask : c.put_mask.new.to ≡ mgf1 Sha256 (seed ++ to_be_bytes w32 c.args.number) size =
    c.put_mask.ensures ∙ ap (λ (xs : List ℕ). mgf1 Sha256 xs size) all in
    let same : length c.put_mask.new.to ≡ size = c.put_mask.auto.to in
    (λ j. with_bits (same j - 1) 0x01 (with_bits 0 0xc0 (mask j)))
