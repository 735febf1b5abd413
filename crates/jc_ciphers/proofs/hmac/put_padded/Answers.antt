use Rattle.std.proofs.Common.{◌≡◌, ◌∙◌, ◌+◌, ◌-◌, ◌++◌, ℕ, length, replicate, take, sym, ap, arith}
use Rattle.jc_ciphers.proofs.hmac.put_padded.Goals as goal

pub returns : goal.returns
returns c =
    let bytes = c.args.bytes.now in
    let none : 0 + length bytes ≡ length bytes = omega arith in
    let first = ap (λ (n : ℕ). take n c.put.new.to) (sym none) ∙ c.put.ensures in
    c.clear_from.ensures ∙ (λ j. first j ++ replicate (c.put.auto.to j - length bytes) 0)
