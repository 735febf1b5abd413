use Rattle.std.proofs.Common.{◌≢◌, List, ℕ, [], ◌∷◌, length, rules, refl}
use Rattle.jcard_attack.specs.Judgement.{IsLastAnswer}
use Rattle.jcard_sweeps.specs.LastLine.{IsLastLine}
use Rattle.jcard_attack.proofs.judgement.last_answer.Goals as goal

last_of : (answer answers last : List ℕ) → length answers ≢ 0 → IsLastLine answers last → IsLastAnswer answer answers last
last_of answer [] last some is = absurd (some refl)
last_of answer (x ∷ xs) last some is = is

pub returns : goal.returns
returns c =
    let some : length c.args.answers.now ≢ 0 = search rules in
    last_of c.args.answer.now c.args.answers.now c.last_line.result.now some c.last_line.ensures
