use Rattle.std.proofs.Common.{◌≡◌, ◌∙◌, ◌++◌, List, ℕ, Option, ap}
use Rattle.std.proofs.lemmas.Result.{on_ok_weaker}
use Rattle.jc_heap.specs.Object.{Item}
use Rattle.jc_objects.specs.Changes.{change_by, cell_text, word_text}
use Rattle.jc_objects.specs.Holders.{holder_in}
use Rattle.jc_objects.specs.declared.holders.Holder.{Holder}
use Rattle.jc_objects.proofs.HeapBounds.{all_stand, formed_bounds}
use Rattle.jc_objects.proofs.changes.push_change.Goals as goal

pub holder_of-requires : goal.holder_of-requires
holder_of-requires c = formed_bounds c.args.objects.now.recovered.plain c.requires.formed

pub returns-in-Some : goal.returns-in-Some
returns-in-Some c =
    let o = c.args.objects.now in
    let found = c.in-Some.ensures ∙ ap (λ (l : List (ℕ × Item)). holder_in l c.args.address) (all_stand o.recovered.plain c.requires.formed) in
    on_ok_weaker c.push_cell.result (λ (e : c.push_cell.new.text.items ≡ c.args.text.now.items ++ cell_text o c.in-Some.found c.args.old c.args.new). e
    ∙ ap (λ (h : Option Holder). c.args.text.now.items ++ change_by o h c.args.address c.args.old c.args.new) found) c.push_cell.ensures

pub returns-in-None : goal.returns-in-None
returns-in-None c =
    let o = c.args.objects.now in
    let none = c.in-None.ensures ∙ ap (λ (l : List (ℕ × Item)). holder_in l c.args.address) (all_stand o.recovered.plain c.requires.formed) in
    on_ok_weaker c.push_bare_word.result (λ (e : c.push_bare_word.new.text.items ≡ c.args.text.now.items ++ word_text c.args.address c.args.old c.args.new). e
    ∙ ap (λ (h : Option Holder). c.args.text.now.items ++ change_by o h c.args.address c.args.old c.args.new) none) c.push_bare_word.ensures
