use Rattle.std.proofs.Common.{rules, arith, sym, ◌∙◌, ap, ◌++◌, ◌≡◌, ◌+◌, length, length-append}
use Rattle.jc_frames.proofs.Orders.{copied_in, depth_is_zero_or_near}
use Rattle.jc_frames.proofs.frames.Frames.copy.Goals as goal

pub returns : goal.returns
returns c =
    let top = c.in_ok-top.top.items in
    let middle = c.in_ok-middle.middle.items in
    let rest = c.pop_many-2.new.self.current.stack in
    let parts : top ++ (middle ++ rest) ≡ c.args.self.now.current.stack = ap (λ l. top ++ l) c.in_ok-middle.ensures.taken.1 ∙ c.in_ok-top.ensures.taken.1 in
    let limit : c.pop_many-2.new.self.current.limit ≡ c.args.self.now.current.limit = search rules in
    let long : length c.args.self.now.current.stack ≡ length top + (length middle + length rest) =
    omega (arith, ap length (sym parts), length-append top (middle ++ rest), length-append middle rest) in
    copied_in c.args.count c.args.depth c.args.self.now _ top middle rest
    (search rules) parts c.in_ok-top.ensures.taken.0 (search rules) (depth_is_zero_or_near _ _ c.requires) (omega (arith, c.in_ok-top.ensures.taken.0))
