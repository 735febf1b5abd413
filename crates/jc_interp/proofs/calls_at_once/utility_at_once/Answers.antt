use Rattle.std.proofs.Common.{subst, sym}
use Rattle.jc_linker.specs.declared.target.Method.TheVariants.{Native}
use Rattle.jc_platform.specs.declared.names.PlatformMethod.TheVariants.{Utilities}
use Rattle.jc_instructions.specs.AtOnce.{IsDoneAtOnce}
use Rattle.jc_interp.specs.Calling.{static_invoke}
use Rattle.jc_interp.proofs.calls_at_once.utility_at_once.Goals as goal

pub returns-in-UtilGetShort : goal.returns-in-UtilGetShort
returns-in-UtilGetShort g c = subst (λ method. IsDoneAtOnce c.get_short_at_once.result
    (static_invoke (Native (Utilities method)) c.args.place c.args.linked.now c.args.frames.now c.args.memory.now) c.args.frames.now c.get_short_at_once.new.frames)
    (sym c.in-UtilGetShort.is) (c.get_short_at_once.ensures c.args.linked.now c.args.place)
