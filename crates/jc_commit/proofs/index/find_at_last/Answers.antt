use Rattle.std.proofs.Common.{◌-◌, ◌<◌, ℕ, length, slice_index, sym, ap, subst, ◌∙◌, arith}
use Rattle.jc_commit.proofs.Indexes.{gap_in_none, gap_last}
use Rattle.jc_commit.proofs.index.find_at_last.Goals as goal

pub returns-then-count-eq0 : goal.returns-then-count-eq0
returns-then-count-eq0 g c = gap_in_none c.args.log (g.S.WordStore.words c.args.store.now) c.args.numbers.now c.args.address c.if-count-eq0.true

pub read-last-requires : goal.read-last-requires
read-last-requires g c =
    let counted = c.requires.index.counted (length c.args.numbers.now - 1) (omega (arith, c.if-count-eq0.false)) in
    omega (arith, counted, c.requires.few, c.requires.size, c.address_word.ensures)

pub returns-then-last-address : goal.returns-then-last-address
returns-then-last-address g c =
    let w = g.S.WordStore.words c.args.store.now in
    gap_last c.args.log w c.args.numbers.now c.args.n c.args.address c.requires.index c.if-count-eq0.false
    (subst (λ (x : ℕ). x < c.args.address) (c.read-last.ensures ∙ ap (slice_index w) c.address_word.ensures) c.if-last-address.true)

pub returns-then-last-address-2 : goal.returns-then-last-address-2
returns-then-last-address-2 g c = record {
  within = omega (arith, c.if-count-eq0.false);
  names = sym (c.read-last.ensures ∙ ap (slice_index (g.S.WordStore.words c.args.store.now)) c.address_word.ensures) ∙ c.if-last-address-2.true;
}
