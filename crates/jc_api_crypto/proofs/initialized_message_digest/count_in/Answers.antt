use Rattle.std.proofs.Common.{◌≡◌, ◌∙◌, ◌+◌, ◌*◌, Some, suc, length, refl, sym, ap, arith}
use Rattle.jc_api_crypto.specs.InitializedMessageDigest.{first_number}
use Rattle.jc_api_crypto.proofs.Counts.{counted, not_counted}
use Rattle.jc_api_crypto.proofs.initialized_message_digest.count_in.Goals as goal

pub bytes-init : goal.bytes-init
unfolding first_number
bytes-init c = refl

pub bytes-preserved : goal.bytes-preserved
unfolding first_number
bytes-preserved c =
    let next : suc c.bytes.i ≡ c.bytes.i + 1 = omega arith in
    (λ j. c.bytes.invariant j * 256 + c.from.ensures j) ∙ ap (first_number c.args.bytes.now) next

pub returns-then-count : goal.returns-then-count
returns-then-count c =
    let held : c.bytes.count ≡ first_number c.args.bytes.now c.bytes.i = c.bytes.invariant in
    sym (not_counted c.args.bytes.now c.bytes.i c.bytes-test.true (omega (arith, held, c.if-count.true)))

pub returns : goal.returns
returns c =
    let bytes = c.args.bytes.now in
    let all : c.bytes.i ≡ length bytes = omega arith in
    let held : c.bytes.count ≡ first_number bytes (length bytes) = c.bytes.invariant ∙ ap (first_number bytes) all in
    ap Some held ∙ sym (counted bytes (omega (arith, held)))
