use Rattle.std.proofs.Common.{◌≡◌, ◌∙◌, ap, sym, get_or}
use Rattle.std.proofs.lemmas.Bool.{eq-eqb, eqb-true}
use Rattle.jc_heap.specs.Heap.{heap_of, area_end}
use Rattle.jc_heap.proofs.AreaEnds.{area_read}
use Rattle.jc_image.proofs.areas.ends_at.Goals as goal

pub returns : goal.returns
returns g c =
    let end : area_end (heap_of c.args.journal.now.plain) c.args.event ≡ c.read.result = area_read c.args.journal.now.plain c.args.event c.requires.laid
    ∙ sym (c.read.ensures ∙ ap (λ a. get_or c.args.journal.now.plain a 0) c.area_word.ensures) in (
      (λ t. end ∙ eqb-true c.read.result c.args.place t),
      λ f. eq-eqb c.read.result c.args.place (sym end ∙ f),
    )
