use Rattle.std.proofs.Common.{◌≡◌, ◌≤◌, length, filter, not, take}
use Rattle.jc_commit.specs.Keep.{is_taken_back}
use Rattle.jc_commit.specs.EntryIndex.{named_by}
use Rattle.jc_commit.proofs.keep.count_new.Given as goal

abbrev pub invariant-loop-address : goal.invariant-loop-address
invariant-loop-address g l = record {
  few : l.needed ≤ l.address-index;
  count : l.needed ≡ length (filter (λ a. not (is_taken_back (named_by l.log (g.S.WordStore.words l.store) l.n) l.born a)) (take l.address-index l.addresses));
}
