use Rattle.std.proofs.Common.{ℕ, Result, MatchResult, subst}
use Rattle.jc_commit.specs.EntryIndex.{StandsAt, IsGapFor}
use Rattle.jc_commit.proofs.Indexes.{taken_named, not_taken_named}
use Rattle.jc_commit.proofs.Views.{above_all}
use Rattle.jc_commit.proofs.word.place_at_last.Goals as goal

pub returns-in-Some-Ok : goal.returns-in-Some-Ok
returns-in-Some-Ok g c =
    let l = c.args.log in
    let w = g.S.WordStore.words c.args.store.now in
    let numbers = c.args.numbers.now in
    let a = c.args.address in
    taken_named l w numbers c.args.n c.args.born a c.in-Some-Ok.field-0-0 c.requires.index
    (subst (λ (r : Result ℕ ℕ). MatchResult r (StandsAt l w numbers a) (IsGapFor l w numbers a)) c.in-Some-Ok.field-0-is c.in-Some-Ok.ensures)

pub returns-in-Some-Err : goal.returns-in-Some-Err
returns-in-Some-Err g c =
    let l = c.args.log in
    let w = g.S.WordStore.words c.args.store.now in
    let numbers = c.args.numbers.now in
    let a = c.args.address in
    let gap = subst (λ (r : Result ℕ ℕ). MatchResult r (StandsAt l w numbers a) (IsGapFor l w numbers a)) c.in-Some-Err.field-0-is c.in-Some-Err.ensures in (
      not_taken_named l w numbers c.args.n c.args.born a c.in-Some-Err.place c.requires.index gap (above_all c.args.born a c.if-born-address.false),
      gap,
    )
