use Rattle.std.proofs.Common.{◌<◌, ℕ, length, slice_index, sym, ap, subst, ◌∙◌, arith}
use Rattle.std.proofs.lemmas.Bool.{eqb-false}
use Rattle.jc_commit.proofs.Indexes.{gap_first}
use Rattle.jc_commit.proofs.index.find_at_first.Goals as goal

pub returns-then-address-first : goal.returns-then-address-first
returns-then-address-first g c =
    let w = g.S.WordStore.words c.args.store.now in
    gap_first c.args.log w c.args.numbers.now c.args.n c.args.address c.requires.index
    (subst (λ (x : ℕ). c.args.address < x) (c.read-first.ensures ∙ ap (slice_index w) c.address_word.ensures) c.if-address-first.true)

pub returns-then-first-address : goal.returns-then-first-address
returns-then-first-address g c = record {
  within = omega (arith, eqb-false (length c.args.numbers.now) 0 (sym c.is_empty.ensures ∙ c.if-is_empty.false));
  names = sym (c.read-first.ensures ∙ ap (slice_index (g.S.WordStore.words c.args.store.now)) c.address_word.ensures) ∙ c.if-first-address.true;
}
