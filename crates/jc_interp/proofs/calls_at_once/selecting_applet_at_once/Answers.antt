-- Whether it is selecting comes on the stack in place of the receiver.
use Rattle.std.proofs.Common.{◌≡◌, ◌∙◌, ℕ, ◌∷◌, ◌<◌, Some, ap, drop, length, subst, sym}
use Rattle.jc_frames.specs.Calls.{arguments_on}
use Rattle.jc_frames.specs.Frames.{with_stack}
use Rattle.jc_world.specs.Instructions.{continue_with}
use Rattle.jc_platform.specs.declared.names.PlatformMethod.TheVariants.{Applets}
use Rattle.jc_platform.specs.declared.names.AppletsMethod.TheVariants.{AppletSelectingApplet}
use Rattle.jc_world.specs.Answers.{bool_value}
use Rattle.jc_interp.proofs.CallsAtOnce.{one_of_selecting, returned, room_left, selecting}
use Rattle.jc_interp.proofs.calls_at_once.selecting_applet_at_once.Goals as goal

pub push-requires : goal.push-requires
push-requires g c =
    let s = c.args.frames.now in
    let cells = c.in-Some.ensures.cells ∙ one_of_selecting in
    let here = subst (λ (n : ℕ). arguments_on n s.current.stack ≡ Some c.in-Some._arguments.now) cells c.in-Some.ensures.arguments in
    let left = c.discard.ensures ∙ ap (λ (n : ℕ). with_stack s (drop n s.current.stack)) cells in
    subst (λ f. length f.current.stack < f.current.limit) (sym left)
    (room_left s.current.stack c.in-Some._arguments.now c.room.result s.current.limit here c.room.ensures)

pub returns : goal.returns
returns g c =
    let s = c.args.frames.now in
    let p = c.args.linked.now in
    let m = c.args.memory.now in
    let args = c.in-Some._arguments.now in
    let cell = c.in-ReturnValue.selecting in
    let cells = c.in-Some.ensures.cells ∙ one_of_selecting in
    let here = subst (λ (n : ℕ). arguments_on n s.current.stack ≡ Some args) cells c.in-Some.ensures.arguments in
    let room = room_left s.current.stack args c.room.result s.current.limit here c.room.ensures in
    let taken = c.discard.ensures ∙ ap (λ (n : ℕ). with_stack s (drop n s.current.stack)) cells in
    let left = c.push.ensures ∙ ap (λ f. with_stack f (cell ∷ f.current.stack)) taken in
    λ index place is. (
      returned index place c.args.entry.now (Applets AppletSelectingApplet) args cell p s m is c.in-Some.ensures.chosen one_of_selecting here (selecting args cell p m (sym (ap (λ r. bool_value r.selecting) c.registers.ensures) ∙ sym c.boolean.ensures ∙ c.in-ReturnValue.is)) room
          ∙ ap (λ t. continue_with t) (sym left),
      ap (λ f. f.current.origin) left,
    )
