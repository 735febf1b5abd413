use Rattle.std.proofs.Common.{ℕ, List, ap, subst, ◌∙◌}
use Rattle.jc_cap.specs.Views.{package_contents}
use Rattle.jc_linker.specs.Answers.{Answers}
use Rattle.jc_linker.specs.Linking.{link_result}
use Rattle.jc_linker.specs.Outlines.{components_of}
use Rattle.jc_linker.specs.Values.{PackageValue}
use Rattle.jc_packages.specs.LinkerView.{info_of_component}
use Rattle.jc_packages.proofs.linking.link_to.Goals as goal

pub returns : goal.returns
returns c =
    subst (λ (methods : List ℕ). Answers (λ (q : PackageValue). q) c.link.result
    (link_result c.args.linked.now (components_of methods (package_contents c.args.contents.now))))
    (c.info_in.ensures ∙ ap (info_of_component 7) c.bytes.ensures) c.link.ensures.answer
