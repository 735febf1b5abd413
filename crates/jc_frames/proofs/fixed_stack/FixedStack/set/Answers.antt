use Rattle.std.proofs.Common.{◌<◌, ◌∙◌, ap, set, length, length-take, arith}
use Rattle.std.proofs.Math.Seq.{take-set-lt}
use Rattle.jc_frames.proofs.fixed_stack.FixedStack.set.Goals as goal

pub returns : goal.returns
returns g c =
    let count = c.self.inside.count in
    let places = c.self.inside.places in
    let there : c.args.place < count = omega (arith, c.requires, ap (λ v. length v.items) c.self.view_is, length-take count places) in
    take-set-lt count places c.args.place c.args.value there ∙ ap (λ v. set v.items c.args.place c.args.value) c.self.view_is
