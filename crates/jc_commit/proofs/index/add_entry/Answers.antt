use Rattle.std.proofs.Common.{◌≡◌, ◌+◌, slice_index, sym, ap, subst, ◌∙◌}
use Rattle.jc_commit.specs.Image.{address_at}
use Rattle.jc_commit.specs.EntryIndex.{IsIndexOf, IsGapFor, StandsAt}
use Rattle.jc_commit.proofs.Indexes.{index_more, none_stands}
use Rattle.jc_commit.proofs.index.add_entry.Goals as goal

pub unreachable-requires : goal.unreachable-requires
unreachable-requires g c =
    let w = g.S.WordStore.words c.args.store.now in
    none_stands c.args.log w _ c.args.n c.read-address.result _ c.requires.stands.index c.requires.distinct
    (c.read-address.ensures ∙ ap (slice_index w) c.address_word-slot.ensures)
    (subst (λ xs. StandsAt c.args.log w xs c.read-address.result c.in-Ok.field-0) c.as_slice.ensures.value c.in-Ok.ensures)

pub returns : goal.returns
returns g c =
    let l = c.args.log in
    let w = g.S.WordStore.words c.args.store.now in
    let n = c.args.n in
    let is : c.read-address.result ≡ address_at l w n = c.read-address.ensures ∙ ap (slice_index w) c.address_word-slot.ensures in
    subst (IsIndexOf l w (n + 1)) (sym c.insert_at.ensures) (index_more l w _ n c.in-Err.place c.requires.stands.index
    (subst (λ xs. IsGapFor l w xs (address_at l w n) c.in-Err.place) c.as_slice.ensures.value (subst (λ a. IsGapFor l w c.as_slice.result.now a c.in-Err.place) is c.in-Err.ensures)))
