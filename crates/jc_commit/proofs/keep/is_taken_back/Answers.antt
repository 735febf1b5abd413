use Rattle.std.specs.Prelude.{◌||◌, Bool, true, false}
use Rattle.std.proofs.Common.{◌≡◌, refl, sym, ◌∙◌}
use Rattle.jc_commit.proofs.Views.{above_all, within_all}
use Rattle.jc_commit.proofs.keep.is_taken_back.Goals as goal

or_false : (a b : Bool) → b ≡ false → a ≡ (a || b)
or_false true b is = refl
or_false false b is = sym is

or_true : (a b : Bool) → b ≡ true → true ≡ (a || b)
or_true true b is = refl
or_true false b is = sym is

pub returns-then-born-address : goal.returns-then-born-address
returns-then-born-address g c = or_true _ _ (within_all c.args.born c.args.address c.if-born-address.true)

pub returns : goal.returns
returns g c = c.is_named.ensures ∙ or_false _ _ (above_all c.args.born c.args.address c.if-born-address.false)
