use Rattle.std.proofs.Common.{◌≡◌, ◌+◌, ◌-◌, ◌∙◌, true, false, ℕ, drop, length, take, ap, sym, arith}
use Rattle.jc_rsa.specs.Iso9796.{representative}
use Rattle.jc_rsa.proofs.Headings.{stands_at}
use Rattle.jc_rsa.proofs.iso_9796.decode.Goals as goal

pub returns-then-end-start : goal.returns-then-end-start
returns-then-end-start c = λ more m h is.
    let em = c.args.encoding.now in
    let size = c.args.digest_size in
    let ends = ap (λ (k : ℕ). length em - (size + k)) c.size.ensures in
    let says = c.says_more-more.ensures in
    let begins = c.heading_end-start.ensures.heading in
    let end = length em - (size + c.size.result) in
    let at = stands_at c.args.trailer size more m h em c.says_more-more.result c.heading_end-start.result end is says begins ends in
    omega (arith, at.order, c.if-end-start.true)

pub returns-then-start-gt1 : goal.returns-then-start-gt1
returns-then-start-gt1 c = λ more m h is.
    let em = c.args.encoding.now in
    let size = c.args.digest_size in
    let ends = ap (λ (k : ℕ). length em - (size + k)) c.size.ensures in
    let says = c.says_more-more.ensures in
    let begins = c.heading_end-start.ensures.heading in
    let end = length em - (size + c.size.result) in
    let at = stands_at c.args.trailer size more m h em c.says_more-more.result c.heading_end-start.result end is says begins ends in
    let one = at.whole (sym at.more_is ∙ c.if-more.true) in
    omega (arith, one, c.if-start-gt1.true)

pub returns-else-has_parts : goal.returns-else-has_parts
returns-else-has_parts c = λ more m h is.
    let em = c.args.encoding.now in
    let size = c.args.digest_size in
    let end = length em - (size + c.size.result) in
    let ends = ap (λ (k : ℕ). length em - (size + k)) c.size.ensures in
    let at = stands_at c.args.trailer size more m h em c.says_more-more.result c.heading_end-start.result end is c.says_more-more.ensures
    c.heading_end-start.ensures.heading ends in
    let span : end + size - end ≡ size = omega arith in
    let digest = ap (λ (k : ℕ). take k (drop end em)) span ∙ at.digest in
    let yes : c.has_parts.result ≡ true =
    c.has_parts.ensures.1 (is.is ∙ (λ j. representative (sym at.more_is j) (sym at.message j) (sym digest j) c.args.trailer (length em))) in
    let no : c.has_parts.result ≡ false = c.if-has_parts.false in
    cc (yes, no)
