use Rattle.std.proofs.Common.{◌+◌, ℕ, List, refl, sym, subst, ◌∙◌}
use Rattle.jc_commit.specs.EntryIndex.{named_by}
use Rattle.jc_commit.specs.Writing.{ArePut}
use Rattle.jc_commit.proofs.EntryKeeping.{needing_one}
use Rattle.jc_commit.proofs.keep.put_change.Goals as goal

pub returns-clause-put : goal.returns-clause-put
returns-clause-put g c =
    let w = g.S.WordStore.words c.args.store.now in
    let v = g.S.WordStore.words c.put_entry.new.store in
    let one = needing_one (named_by c.args.log w c.args.n) c.args.born c.args.change (sym c.is_taken_back.ensures ∙ c.if-is_taken_back.false) in
    subst (λ (xs : List (ℕ × ℕ)). ArePut c.args.log c.args.k xs w v (c.args.k + 1)) (sym one) (record { next = refl; words = c.in_ok-put_entry.ensures.words })
