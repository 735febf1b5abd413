use Rattle.std.proofs.Common.{◌∙◌, ℕ, List, subst, sym}
use Rattle.std.proofs.lemmas.Option.{IfSome_then}
use Rattle.jcard_script.specs.Begun.{AnswersGlitched}
use Rattle.jcard_attack.proofs.KeptFaults.{has_struck}
use Rattle.jcard_attack.proofs.kept_card.struck_copy.Goals as goal

pub returns : goal.returns
returns c = IfSome_then c.after.result c.after.ensures (λ next answers words a for.
    let glitch = c.in_ok-glitch in
    let spelt = subst (λ (l : List ℕ). AnswersGlitched c.args.kept.now.begun glitch.glitch.now l c.after.new.response next) c.as_slice.ensures.value answers in
    has_struck words a c.args.kept.now c.args.fault c.in-Ok.line.items glitch.glitch.now glitch.field-0-0.now c.after.new.response next for c.in-Ok.ensures
    (sym c.deref.ensures.value ∙ glitch.ensures.cases.0) spelt)
