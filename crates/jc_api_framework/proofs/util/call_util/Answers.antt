use Rattle.std.proofs.Common.{subst, sym}
use Rattle.jc_memory.specs.Programs.{Executes}
use Rattle.jc_world.specs.NativeCalls.{after_call}
use Rattle.jc_api_framework.specs.Util.{util_answer, util_call}
use Rattle.jc_api_framework.proofs.util.call_util.Goals as goal

pub returns-in-UtilMakeShort : goal.returns-in-UtilMakeShort
unfolding util_call util_answer
returns-in-UtilMakeShort g c =
    let m = c.args.memory.now in
    subst (λ x. Executes (util_call x c.args.args.now c.args.linked.now m) m (after_call c.util_make_short.result m)) (sym c.in-UtilMakeShort.is)
    (c.util_make_short.ensures c.args.linked.now)
