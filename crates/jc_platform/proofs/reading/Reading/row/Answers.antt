use Rattle.std.proofs.Common.{◌≡◌, ◌∷◌, [], ℕ, List, Bor, sym, ◌∙◌}
use Rattle.jc_platform.specs.Reading.{above_of}
use Rattle.jc_platform.specs.Rows.{parts_at}
use Rattle.jc_platform.proofs.Lines.{more_words}
use Rattle.jc_platform.proofs.reading.Reading.row.Goals as goal

pub returns-then-is_some : goal.returns-then-is_some
returns-then-is_some c =
    let z = c.in-Some-split_once-2.fourth.now in
    sym (more_words (above_of c.args.self.now) c.args.line.now c.in-Some.keyword.now c.in-Some.rest.now c.in-Some-split_once.second.now
    c.in-Some-split_once.rest.now c.in-Some-split_once-2.third.now z (parts_at 32 z ≡ z ∷ []) (λ (p : Bor (List ℕ) × Bor (List ℕ)). p.0.now)
    (λ (p : Bor (List ℕ) × Bor (List ℕ)). p.1.now) c.split_once-4.result c.in-Some.ensures.parts c.in-Some-split_once.ensures.parts c.in-Some-split_once-2.ensures.parts
    c.split_once-4.ensures.parts (sym c.is_some.ensures ∙ c.if-is_some.true))
