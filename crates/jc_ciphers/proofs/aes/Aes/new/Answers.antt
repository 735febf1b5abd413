use Rattle.std.proofs.Common.{◌≡◌, ◌∙◌, ◌+◌, ◌-◌, ◌*◌, ◌/◌, ℕ, List, take, length, sym, ap, arith}
use Rattle.jc_ciphers.specs.Aes.{schedule}
use Rattle.jc_ciphers.proofs.aes.Aes.new.Goals as goal

pub returns : goal.returns
returns c =
    let key = c.args.key.now in
    let all : 4 * (length key / 4 + 6 - 6) ≡ length key = omega arith in
    ap (λ (n : ℕ). take n c.put_key.new.bytes) all ∙ c.put_key.ensures

pub invariant_of-result : goal.invariant_of-result
invariant_of-result c =
    let key = c.args.key.now in
    let all : 4 * (length key / 4 + 6 - 6) ≡ length key = omega arith in
    let kept = ap (λ (n : ℕ). take n c.put_key.new.bytes) all ∙ c.put_key.ensures in
    record {
      some = omega arith;
      fits = omega arith;
      sized = ap (λ (k : List ℕ). length k / 4 + 6) kept;
      scheduled = c.expanded-words.ensures ∙ ap (λ (k : List ℕ). schedule k (4 * (length key / 4 + 6 + 1))) (sym kept);
    }
