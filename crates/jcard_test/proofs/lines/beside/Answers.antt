use Rattle.std.proofs.Common.{◌∙◌, ◌++◌, ◌∷◌, ℕ, List, [], ap}
use Rattle.jcard_test.proofs.Paths.{beside_slash}
use Rattle.jcard_test.proofs.lines.beside.Goals as goal

pub returns-in-Some : goal.returns-in-Some
returns-in-Some c = beside_slash c.args.path.now _ _ c.args.name.now _ c.in-Some.ensures.cases
    (c.in_ok-push_str-3.ensures.bytes ∙ ap (λ (t : List ℕ). t ++ c.args.name.now) (c.in_ok-push_str-2.ensures.bytes
    ∙ ap (λ (t : List ℕ). t ++ 47 ∷ []) (c.in_ok-push_str.ensures.bytes ∙ ap (λ (t : List ℕ). t ++ c.in-Some.folder.now) c.new-beside.ensures.bytes)))
