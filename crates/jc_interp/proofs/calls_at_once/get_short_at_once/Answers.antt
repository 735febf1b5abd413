-- What is known at once comes on the stack in place of the arguments.
use Rattle.std.proofs.Common.{◌≡◌, ◌∙◌, ℕ, ℤ, ◌∷◌, ◌<◌, FitsSigned, arith, ap, drop, length, length-drop, of_z, subst, sym, to_z, w16}
use Rattle.std.proofs.lemmas.Int.{to_z-of_z}
use Rattle.jc_linker.specs.Values.{Packages}
use Rattle.jc_frames.specs.declared.cell.Cell.TheVariants.{Short}
use Rattle.jc_frames.specs.Frames.{with_stack}
use Rattle.jc_world.specs.Instructions.{continue_with}
use Rattle.jc_interp.proofs.CallsAtOnce.{got_at_once, two_there}
use Rattle.jc_interp.proofs.calls_at_once.get_short_at_once.Goals as goal

pub returns : goal.returns
returns g c =
    let s = c.args.frames.now in
    let args = c.in-Some.arguments.now in
    let v = c.in-Some-short_at_once.value in
    let fits : FitsSigned w16 v = search in
    let below = drop 2 s.current.stack in
    let here = sym c.in-Some.ensures in
    let room : length below < s.current.limit = omega (arith, length-drop 2 s.current.stack, two_there s.current.stack args here, c.room.ensures) in
    let taken = subst (λ f. c.push.new.self ≡ with_stack f (Short (to_z w16 (of_z w16 v)) ∷ f.current.stack)) c.discard.ensures c.push.ensures in
    let left = subst (λ (x : ℤ). c.push.new.self ≡ with_stack s (Short x ∷ below)) (to_z-of_z w16 v fits) taken in
    λ (p : Packages) (place : ℕ). (
      got_at_once place args v p s c.args.memory.now here (c.in-Some-short_at_once.ensures p) room ∙ ap (λ t. continue_with t) (sym left),
      ap (λ f. f.current.origin) left,
    )
