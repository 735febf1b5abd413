use Rattle.std.proofs.Common.{◌≡◌, ◌∙◌, ◌-◌, List, ℕ, true, ap, arith, drop, length, length-drop, nat_eq, subst, sym, take}
use Rattle.std.proofs.lemmas.List.{take_all}
use Rattle.std.specs.Prelude.{codes}
use Rattle.std.specs.List.{starts_with}
use Rattle.jcard_script.specs.Line.{IsAsked}
use Rattle.jcard_script.specs.Script.{Form, glitch_form_of}
use Rattle.jcard_script.proofs.Words.{glitch_first, glitch_kept, none_bad, stop_first}
use Rattle.jcard_script.proofs.word.Word.asked.Goals as goal

pub returns-then-starts_with : goal.returns-then-starts_with
returns-then-starts_with c = λ line w.
    let head : c.as_slice-head.result.now ≡ take 39 line = c.as_slice-head.ensures.value ∙ w.0 in
    let starts = subst (λ (h : List ℕ). starts_with nat_eq h (codes "glitch ") ≡ true) head (sym c.starts_with.ensures.value ∙ c.if-starts_with.true) in
    let told : List ℕ = c.as_slice-head.result.now in
    let whole : take (length told - 7) (drop 7 told) ≡ drop 7 told = take_all (length told - 7) (drop 7 told) (omega (arith, length-drop 7 told)) in
    let kept = ap glitch_form_of whole ∙ (glitch_kept line told head ∙ sym (glitch_first line starts)) in
    subst (λ (f : Form). IsAsked c.glitch_asked.result f) kept c.glitch_asked.ensures

pub returns-in-None : goal.returns-in-None
returns-in-None c = λ line w.
    let head : c.as_slice-head.result.now ≡ take 39 line = c.as_slice-head.ensures.value ∙ w.0 in
    let starts = subst (λ (h : List ℕ). starts_with nat_eq h (codes "stop ") ≡ true) head (sym c.starts_with-2.ensures.value ∙ c.if-not-starts_with.false) in
    stop_first line starts ∙ none_bad (drop 5 line) (sym w.1 ∙ c.in-None.is)
