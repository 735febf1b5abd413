use Rattle.std.proofs.Common.{◌≡◌, ◌∙◌, ℕ, List, length, ap, subst, sym}
use Rattle.jc_commit.specs.Image.{recovered_of}
use Rattle.jc_commit.specs.Migration.{migrated}
use Rattle.jcard_sweeps.specs.Runs.{Runs}
use Rattle.jcard_sweeps.specs.LastLine.{IsLastLine}
use Rattle.jcard_attack.specs.Aftermaths.{IsProbed, attacked_script}
use Rattle.jcard_attack.proofs.aftermaths.aftermath.Goals as goal

pub returns : goal.returns
returns c =
    let attacked = c.args.attacked in
    let words : List ℕ = c.args.words.now in
    let ran = c.in_ok-ran.ensures.ran in
    let text : List ℕ = c.in_ok-ran.ran.text.items in
    let answers : List ℕ = c.in_ok-answers.answers.items in
    let runs = subst (λ (s : List ℕ). Runs attacked.instructions words s text ran.0) (c.deref.ensures.value ∙ c.in_ok-script.ensures) ran.1 in
    let line = subst (λ (l : List ℕ). IsLastLine c.deref-2.result.now l) (sym c.in_ok-answer.ensures.items) c.last_line.ensures in
    let answer = subst (λ (t : List ℕ). IsLastLine t c.in_ok-answer.answer.items) c.deref-2.ensures.value line in
    let heap = c.in_ok-words.ensures.heap ∙ ap (λ (w : List ℕ). migrated 3 (recovered_of w)) ran.2 in
    let long : c.len.result ≡ length text = c.len.ensures ∙ c.in_ok-ran.ran.text.ok.0 in
    let probed = subst (λ (n : ℕ). IsProbed words attacked (attacked_script attacked c.args.fault) n answers) long
    (subst (λ (s : List ℕ). IsProbed words attacked s c.len.result answers) c.in_ok-script.ensures c.in_ok-answers.ensures) in
    (text, ran.0, runs, answer, (heap, probed))
