-- What was not done at once left the frames as they were.
use Rattle.std.proofs.Common.{◌∙◌, ap, sym}
use Rattle.jc_frames.specs.declared.instr.InvokeOp.TheVariants.{Virtual}
use Rattle.jc_linker.specs.Lookups.{target_at}
use Rattle.jc_interp.specs.Calling.{invoke_instruction}
use Rattle.jc_interp.proofs.CallsAtOnce.{left_alone}
use Rattle.jc_interp.proofs.calling.call_virtual_native.Goals as goal

pub invoke_set_outgoing_and_send-requires-clause-entry : goal.invoke_set_outgoing_and_send-requires-clause-entry
invoke_set_outgoing_and_send-requires-clause-entry g c =
    let program = invoke_instruction (Virtual c.args.index) c.args.place c.args.linked.now c.args.frames.now c.args.memory.now in
    let stays = left_alone c.virtual_at_once.result program c.args.frames.now c.virtual_at_once.new.frames c.if-virtual_at_once.false
    (c.virtual_at_once.ensures c.args.index c.args.place c.requires.entry) in
    c.requires.entry ∙ ap (λ f. target_at c.args.linked.now f.current.origin.package_number c.args.index) (sym stays)

pub invoke_of_platform-requires-clause-entry : goal.invoke_of_platform-requires-clause-entry
invoke_of_platform-requires-clause-entry g c =
    let program = invoke_instruction (Virtual c.args.index) c.args.place c.args.linked.now c.args.frames.now c.args.memory.now in
    let stays = left_alone c.virtual_at_once.result program c.args.frames.now c.virtual_at_once.new.frames c.if-virtual_at_once.false
    (c.virtual_at_once.ensures c.args.index c.args.place c.requires.entry) in
    c.requires.entry ∙ ap (λ f. target_at c.args.linked.now f.current.origin.package_number c.args.index) (sym stays)
