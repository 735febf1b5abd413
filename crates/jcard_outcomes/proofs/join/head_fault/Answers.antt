use Rattle.std.proofs.Common.{arith, ◌≡◌, ◌∙◌, ◌-◌, ◌++◌, ap, refl, sym}
use Rattle.jcard_outcomes.specs.Part.{line_text}
use Rattle.jcard_outcomes.proofs.LineOrder.{line_read}
use Rattle.jcard_outcomes.proofs.join.head_fault.Goals as goal

pub returns-then-number-parts : goal.returns-then-number-parts
returns-then-number-parts c = (refl, (λ i told rest e begins. absurd (omega (arith, e, c.if-number-parts.true))))

pub returns-in-Ok-Some : goal.returns-in-Ok-Some
returns-in-Ok-Some c =
    let head = rw c.in-Ok-Some.field-0-is at c.in-Ok-Some.ensures in (
      omega arith,
      c.in-Ok-Some.field-0-0.0.now,
      c.in-Ok-Some.field-0-0.1.now,
      head.0 ∙ sym (line_read (c.args.number - c.args.parts) c.in-Ok-Some.field-0-0.0.now c.in-Ok-Some.field-0-0.1.now),
    )

pub returns-in-Ok-None : goal.returns-in-Ok-None
returns-in-Ok-None c =
    let none = rw c.in-Ok-None.field-0-is at c.in-Ok-None.ensures in (
      refl,
      (λ i told rest e begins.
          let same : i ≡ c.args.number - c.args.parts = omega (arith, e) in
          none told rest (begins ∙ ap (λ m. line_text m told ++ rest) same ∙ line_read (c.args.number - c.args.parts) told rest)),
    )
