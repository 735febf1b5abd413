use Rattle.std.proofs.Common.{◌++◌, List, ℕ}
use Rattle.std.specs.Prelude.{codes}
use Rattle.jcard_dump.specs.Image.{cells_in}
use Rattle.jcard_dump.specs.Objects.{header_text, rest_text}
use Rattle.jcard_dump.proofs.Chains.{push_behind}
use Rattle.jcard_dump.proofs.objects.push_object.Goals as goal

pub returns : goal.returns
returns g c =
    let i = c.args.image.now in
    let o = c.args.object in
    let header : List ℕ = header_text i o in
    let rest : List ℕ = rest_text i o o.facts.event (cells_in i.words o) in
    push_behind c.args.text.now.items c.push_header.new.text.items c.extend_from_slice.new.self.items header (rest ++ codes "\n") c.in_ok-push_header.ensures
    (push_behind c.push_header.new.text.items c.push_rest.new.text.items c.extend_from_slice.new.self.items rest (codes "\n")
    c.in_ok-push_rest.ensures c.in_ok-extend_from_slice.ensures.items)
