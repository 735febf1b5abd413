use Rattle.std.proofs.Common.{refl, arith}
use Rattle.jc_commit.proofs.WordRuns.{viewed_length, run_word}
use Rattle.jc_commit.proofs.changes.WordRunWordChanges.change.Goals as goal

pub overflow_cast-result : goal.overflow_cast-result
overflow_cast-result c =
    let long = viewed_length c.self.inside.first c.self.inside.words.now c.args.self.now c.self.view_is in
    omega (arith, long, c.requires, c.self.invariant.1)

pub overflow_add-result : goal.overflow_add-result
overflow_add-result c =
    let long = viewed_length c.self.inside.first c.self.inside.words.now c.args.self.now c.self.view_is in
    omega (arith, long, c.requires, c.self.invariant.1)

pub bounds-words-k : goal.bounds-words-k
bounds-words-k c =
    let long = viewed_length c.self.inside.first c.self.inside.words.now c.args.self.now c.self.view_is in
    omega (arith, long, c.requires)

pub offset_bounds-words-k : goal.offset_bounds-words-k
offset_bounds-words-k c =
    let long = viewed_length c.self.inside.first c.self.inside.words.now c.args.self.now c.self.view_is in
    omega (arith, long, c.requires, c.self.invariant.1)

pub returns : goal.returns
returns c = run_word c.self.inside.first c.self.inside.words.now c.args.self.now c.args.k _ c.self.view_is c.requires refl
