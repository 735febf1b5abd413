use Rattle.std.proofs.Common.{subst, sym, arith}
use Rattle.std.proofs.Math.Facts.{Fits-lt-pow}
use Rattle.std.proofs.lemmas.Bool.Decides.{same_from_decides}
use Rattle.jc_numbers.specs.Numbers.{number_of_bytes}
use Rattle.jc_curves.specs.Der.{IsSignatureEncoding}
use Rattle.jc_public_keys.specs.Ecdsa.{verified_on}
use Rattle.jc_public_keys.proofs.SignaturesFound.{large, no_numbers, not_below, verifies}
use Rattle.jc_public_keys.proofs.ecdsa.is_signature_on.Goals as goal
use Rattle.jc_public_keys.proofs.ecdsa.is_signature_on.Goals.{then-r-most-via-then-r-most, then-r-most-via-else-r-most+then-s-most}

pub returns-in_default : goal.returns-in_default
returns-in_default c = no_numbers c.args.curve.now c.requires.field c.requires.order c.args.public.now c.args.digest.now c.args.signature.now c.in_default.ensures

pub returns-then-r-most : goal.returns-then-r-most
returns-then-r-most c =
    let curve = c.args.curve.now in
    let signature = c.args.signature.now in
    let r = number_of_bytes c.significant-r.result.now in
    let s = number_of_bytes c.significant-s.result.now in
    let most = c.order_length-most.ensures.length in
    let encodes : IsSignatureEncoding r s signature =
    subst (λ n. IsSignatureEncoding r n signature) (sym c.significant-s.ensures.number)
    (subst (λ n. IsSignatureEncoding n (number_of_bytes c.in-Some.numbers.s.now) signature) (sym c.significant-r.ensures.number) c.in-Some.ensures) in
    not_below curve c.requires.field c.requires.order c.args.public.now c.args.digest.now signature r s (λ i. Fits-lt-pow (c.type_inv.signature i)) encodes
    (λ below. elim c.then-r-most.branch [
      | then-r-most-via-then-r-most w ↦
          let long = w.if-r-most.true in
          large curve c.requires.bits c.significant-r.result.now (c.significant-r.ensures.first (omega (arith, long))) (omega (arith, long, most)) below.0
      | then-r-most-via-else-r-most+then-s-most w ↦
          let long = w.if-s-most.true in
          large curve c.requires.bits c.significant-s.result.now (c.significant-s.ensures.first (omega (arith, long))) (omega (arith, long, most)) below.1
    ])

pub returns : goal.returns
returns c =
    let curve = c.args.curve.now in
    let signature = c.args.signature.now in
    let r = number_of_bytes c.significant-r.result.now in
    let s = number_of_bytes c.significant-s.result.now in
    let encodes : IsSignatureEncoding r s signature =
    subst (λ n. IsSignatureEncoding r n signature) (sym c.significant-s.ensures.number)
    (subst (λ n. IsSignatureEncoding n (number_of_bytes c.in-Some.numbers.s.now) signature) (sym c.significant-r.ensures.number) c.in-Some.ensures) in
    same_from_decides c.verify.result (verified_on c.args.public.now c.args.digest.now signature curve) c.verify.ensures
    (verifies curve c.requires.field c.requires.order c.args.public.now c.args.digest.now signature r s (λ i. Fits-lt-pow (c.type_inv.signature i)) encodes)
