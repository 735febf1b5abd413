use Rattle.std.proofs.Common.{◌≡◌, ◌≢◌, ◌∙◌, ◌<◌, ◌≤◌, ℕ, arith, below_more, get_or-set_other, get_or-set_same, length}
use Rattle.jc_linker.specs.Classes.{extends}
use Rattle.jc_linker.proofs.Extending.{extends_told}
use Rattle.jc_linker.proofs.scope.Scope.extends_deep.Goals as goal

pub loop-word-preserved : goal.loop-word-preserved
loop-word-preserved c =
    let long = c.loop-word-test.array_long in
    let low : c.loop-word.word < 8704 = omega (arith, c.requires, c.loop-word-test.true) in
    let here : c.extends_by.result ≡ extends c.args.self.now c.loop-word.word c.args.of = c.extends_by.ensures
    ∙ extends_told c.args.self.now c.loop-word.table c.loop-word.word c.args.of low c.loop-word.invariant in
    below_more _ _
    (λ k h. let ne : k ≢ c.loop-word.word = omega arith in rw get_or-set_other (c.loop-word.invariant k h))
    (let lt : c.loop-word.word < length c.loop-word.table = omega (arith, low, long) in rw get_or-set_same here)

pub returns : goal.returns
returns c = c.extends_by-2.ensures
    ∙ extends_told c.args.self.now c.loop-word.table c.args.interface c.args.of c.requires
    (λ k less. c.loop-word.invariant k (omega (arith, less, c.loop-word-test.false)))
