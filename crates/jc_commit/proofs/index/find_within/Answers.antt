use Rattle.std.proofs.Common.{◌<◌, ◌+◌, ◌-◌, ◌/◌, ℕ, slice_index, sym, ap, subst, ◌∙◌, arith}
use Rattle.jc_commit.proofs.Indexes.{lower_to, higher_from}
use Rattle.jc_commit.proofs.index.find_within.Goals as goal

pub read-there-requires : goal.read-there-requires
read-there-requires g c =
    let counted = c.requires.index.counted (c.loop-low.low + (c.loop-low.high - c.loop-low.low) / 2) (omega (arith, c.loop-low.invariant.within, c.loop-low-test.true)) in
    omega (arith, counted, c.requires.few, c.requires.size, c.address_word.ensures)

pub returns-then-there-address : goal.returns-then-there-address
returns-then-there-address g c = record {
  within = omega (arith, c.loop-low.invariant.within, c.loop-low-test.true);
  names = sym (c.read-there.ensures ∙ ap (slice_index (g.S.WordStore.words c.args.store.now)) c.address_word.ensures) ∙ c.if-there-address.true;
}

pub loop-low-preserved-then-there-address-2 : goal.loop-low-preserved-then-there-address-2
loop-low-preserved-then-there-address-2 g c =
    let w = g.S.WordStore.words c.args.store.now in
    let is = c.read-there.ensures ∙ ap (slice_index w) c.address_word.ensures in
    let old = c.loop-low.invariant in
    record {
      order = omega (arith, c.loop-low-test.true);
      within = old.within;
      lower = λ k before. lower_to c.args.log w c.args.numbers.now c.args.n c.args.address _ c.requires.index (omega (arith, old.within, c.loop-low-test.true))
          (subst (λ (x : ℕ). x < c.args.address) is c.if-there-address-2.true) k (omega (arith, before));
      higher = old.higher;
    }

pub loop-low-preserved : goal.loop-low-preserved
loop-low-preserved g c =
    let w = g.S.WordStore.words c.args.store.now in
    let is = c.read-there.ensures ∙ ap (slice_index w) c.address_word.ensures in
    let old = c.loop-low.invariant in
    record {
      order = omega (arith, c.loop-low-test.true);
      within = omega (arith, old.within, c.loop-low-test.true);
      lower = old.lower;
      higher = higher_from c.args.log w c.args.numbers.now c.args.n c.args.address _ c.requires.index
          (subst (λ (x : ℕ). c.args.address < x) is (omega (arith, c.if-there-address.false, c.if-there-address-2.false)));
    }
