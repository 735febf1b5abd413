use Rattle.std.proofs.Common.{◌∙◌, length, sym, ap, arith}
use Rattle.std.specs.Prelude.{slice_index}
use Rattle.std.proofs.lemmas.Bool.{eqb-true, eq-eqb}
use Rattle.jc_heap.proofs.Views.{readable}
use Rattle.jc_heap.proofs.Reading.{Spot, spot_at}
use Rattle.jc_heap.proofs.FirstWords.{instance_word, word_instance}
use Rattle.jc_heap.proofs.lookup.is_persistent_instance.Goals as goal

pub read-requires : goal.read-requires
read-requires g c =
    let s : Spot c.args.journal.now c.address.result = spot_at c.args.journal.now c.args.object c.address.result c.requires.laid c.requires.small
    c.requires.there c.address.ensures in
    readable (length c.args.journal.now.plain) c.address.result (omega (arith, s.high)) s.low

pub returns : goal.returns
returns g c =
    let is = c.read.ensures ∙ ap (slice_index c.args.journal.now.plain) c.address.ensures in (
      λ one. word_instance c.args.journal.now.plain c.args.object c.requires.laid c.requires.there (sym is ∙ eqb-true c.read.result 1 one),
      λ both. eq-eqb c.read.result 1 (is ∙ instance_word c.args.journal.now.plain c.args.object c.requires.laid c.requires.there c.requires.small both.0 both.1),
    )
