use Rattle.std.proofs.Common.{rules, ◌≡◌, ◌∙◌, ◌++◌, ◌+◌, ◌≤◌, List, ℕ, codes, min, drop, length, ap, arith, subst, sym}
use Rattle.std.proofs.lemmas.List.{drop_min}
use Rattle.jcard_sweeps.specs.Runs.{IsRunFault, Runs}
use Rattle.jcard_sweeps.specs.declared.runs.RunFault.TheVariants.{Script}
use Rattle.jcard_attack.specs.Aftermaths.{in_probe, lines_counted}
use Rattle.jcard_attack.proofs.AttackFaults.{probe_unfinished}
use Rattle.jcard_attack.proofs.aftermaths.probed.Goals as goal

-- past the end of a list nothing more is dropped
drop_bounded : (n s : ℕ) (xs : List ℕ) → min s (length xs) ≡ min n (length xs) → drop s xs ≡ drop n xs
drop_bounded n s xs e = sym (drop_min s xs) ∙ ap (λ k. drop k xs) e ∙ drop_min n xs

pub returns-in-Ok : goal.returns-in-Ok
returns-in-Ok c =
    let ran = c.in-Ok.ensures.ran in
    let script = c.deref-2.ensures.value ∙ c.in_ok-extend_from_slice-2.ensures.items ∙ ap (λ l. l ++ c.args.attacked.probe.now) c.in_ok-extend_from_slice.ensures.items in
    let runs = subst (λ s. Runs c.args.attacked.instructions c.args.words.now s c.in-Ok.ran.text.items ran.0) script ran.1 in
    let text : List ℕ = c.in-Ok.ran.text.items in
    let short : length text ≤ 18446744073709551615 = search (rules, arith) in
    let same : min c.saturating_add.result (length text) ≡ min (c.args.len + 13) (length text) = omega (arith, c.saturating_add.ensures, short) in
    let answers = c.in_ok-from_slice-in-Ok.ensures.items ∙ c.text_from-answers.ensures ∙ ap (λ l. drop c.saturating_add.result l) c.deref-in-Ok.ensures.value
    ∙ drop_bounded (c.args.len + 13) c.saturating_add.result text same in
    (text, ran.0, runs, answers)

pub returns : goal.returns
returns c =
    let script = c.deref-2.ensures.value ∙ c.in_ok-extend_from_slice-2.ensures.items ∙ ap (λ l. l ++ c.args.attacked.probe.now) c.in_ok-extend_from_slice.ensures.items in
    let is = rw c.in-Err-Script.field-0-is at c.in-Err-Script.ensures.ran in
    let counted : c.line_count-lines.result ≡ lines_counted (c.args.script.items ++ codes "glitch none\n") =
    c.line_count-lines.ensures ∙ ap lines_counted (c.deref.ensures.value ∙ c.in_ok-extend_from_slice.ensures.items) in
    probe_unfinished c.args.words.now c.args.attacked c.args.script.items c.in-Err-Script.fault c.in_probe.result c.requires.script
    (subst (λ s. IsRunFault c.args.attacked.instructions c.args.words.now s (Script c.in-Err-Script.fault)) script is)
    (c.in_probe.ensures ∙ ap (in_probe c.line_count-lines.result) c.in-Err-Script.fault-is ∙ ap (λ n. in_probe n c.in-Err-Script.fault) counted)
