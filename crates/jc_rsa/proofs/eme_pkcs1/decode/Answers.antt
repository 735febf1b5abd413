use Rattle.std.proofs.Common.{◌≤◌, ◌+◌, ℕ, List, subst, sym, arith}
use Rattle.std.proofs.lemmas.List.{take_rest}
use Rattle.jc_rsa.specs.EmePkcs1.{IsEncryptionBlock}
use Rattle.jc_rsa.proofs.Blocks.{block_has_zero}
use Rattle.jc_rsa.proofs.OneMessage.{begins, encryption_block-parts, encryption_block_of, padding_long}
use Rattle.jc_rsa.proofs.eme_pkcs1.decode.Goals as goal
use Rattle.jc_rsa.proofs.eme_pkcs1.decode.Goals.{then-encoding-lt-LEAST_OVERHEAD-via-then-encoding-lt-LEAST_OVERHEAD, then-encoding-lt-LEAST_OVERHEAD-via-else-encoding-lt-LEAST_OVERHEAD+then-encoding-ne0, then-encoding-lt-LEAST_OVERHEAD-via-else-encoding-lt-LEAST_OVERHEAD+else-encoding-ne0+then-encoding-ne2}

pub returns-then-encoding-lt-LEAST_OVERHEAD : goal.returns-then-encoding-lt-LEAST_OVERHEAD
returns-then-encoding-lt-LEAST_OVERHEAD c = λ m is.
    let start = begins m c.args.encoding.now is in
    elim c.then-encoding-lt-LEAST_OVERHEAD.branch [
      | then-encoding-lt-LEAST_OVERHEAD-via-then-encoding-lt-LEAST_OVERHEAD w ↦ omega (arith, start.long)
      | then-encoding-lt-LEAST_OVERHEAD-via-else-encoding-lt-LEAST_OVERHEAD+then-encoding-ne0 w ↦ omega (arith, start.zero)
      | then-encoding-lt-LEAST_OVERHEAD-via-else-encoding-lt-LEAST_OVERHEAD+else-encoding-ne0+then-encoding-ne2 w ↦ omega (arith, start.two)
    ]

pub returns-in_default : goal.returns-in_default
returns-in_default c = λ m is.
    block_has_zero 2 is.padding m c.args.encoding.now is.nonzero (encryption_block-parts m c.args.encoding.now is) c.in_default.ensures

pub returns-then-end-lt-LEAST_OVERHEAD : goal.returns-then-end-lt-LEAST_OVERHEAD
returns-then-end-lt-LEAST_OVERHEAD c = λ m is. omega (arith, padding_long m c.args.encoding.now c.in-Some.end is c.in-Some.ensures)

pub returns : goal.returns
returns c =
    let em = c.args.encoding.now in
    let end = c.in-Some.end in
    let P : List ℕ → Type 0 = λ m. IsEncryptionBlock m em in
    let many : 10 ≤ end = omega arith in
    subst P (sym (take_rest em (end + 1))) (encryption_block_of em end c.in-Some.ensures c.if-encoding-ne0.false c.if-encoding-ne2.false many)
