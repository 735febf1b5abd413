use Rattle.std.proofs.Common.{◌≤◌, ◌+◌, ◌-◌, ◌∙◌, ◌∷◌, ◌++◌, [], ℕ, List, replicate, ap, sym, arith}
use Rattle.jc_rsa.specs.Iso9796.{heading}
use Rattle.jc_rsa.proofs.Headings.{heading-more, heading-one}
use Rattle.jc_rsa.proofs.iso_9796.put_heading.Goals as goal

pub returns-then-count-eq1-clause-written : goal.returns-then-count-eq1-clause-written
returns-then-count-eq1-clause-written c =
    c.put.ensures.written ∙ ap (λ (x : ℕ). (x + 0x0a) ∷ []) c.header-first.ensures.value ∙ sym (heading-one c.args.more)
    ∙ ap (heading c.args.more) (sym c.if-count-eq1.true)

pub returns-clause-written : goal.returns-clause-written
returns-clause-written c =
    let filling : List ℕ = replicate (c.args.count - 2) 0xbb in
    let many : 2 ≤ c.args.count = omega (arith, c.requires.some) in
    c.put-2.ensures.written
    ∙ ap (λ (xs : List ℕ). xs ++ 0xba ∷ []) (
    c.put_repeated-end.ensures.written
    ∙ ap (λ (xs : List ℕ). xs ++ filling) (c.put-start.ensures.written ∙ ap (λ (x : ℕ). (x + 0x0b) ∷ []) c.header-first.ensures.value)
    )
    ∙ sym (heading-more c.args.more c.args.count many)
