use Rattle.std.proofs.Common.{List, ℕ, subst}
use Rattle.std.proofs.lemmas.List.{take-replicate}
use Rattle.jc_memory.specs.Programs.{Executes}
use Rattle.jc_world.specs.Answers.{returns_short}
use Rattle.jc_world.specs.NativeCalls.{after_call}
use Rattle.jc_api.specs.Forms.{put_then}
use Rattle.jc_api_framework.specs.Util.{end_of}
use Rattle.jc_api_framework.proofs.util.filling.fill_most.Goals as goal

pub returns : goal.returns
returns g c =
    let m = c.args.memory.now in
    subst (λ (words : List ℕ). Executes (put_then c.args.lasting words m c.args.to (returns_short (end_of c.args.to))) m
    (after_call c.store.result c.store.new.memory)) (take-replicate c.args.to.count g.row.MOST c.args.value c.requires.few) c.store.ensures
