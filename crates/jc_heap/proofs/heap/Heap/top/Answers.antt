use Rattle.std.proofs.Common.{sym, ◌∙◌}
use Rattle.jc_heap.proofs.Changing.{up_is}
use Rattle.jc_heap.proofs.Views.{view_top, has_end}
use Rattle.jc_heap.proofs.heap.Heap.top.Goals as goal

pub returns-clause-top : goal.returns-clause-top
returns-clause-top g c = c.read.ensures ∙ sym (view_top c.self.inside.journal c.args.self.now c.self.inside.size c.self.view_is
    (c.self.invariant.now (up_is c.self.inside.journal c.args.self.now c.self.inside.size c.self.view_is c.requires)))

pub returns-clause-end : goal.returns-clause-end
returns-clause-end g c = has_end c.self.inside.journal c.args.self.now c.self.inside.size c.self.view_is
    (c.self.invariant.now (up_is c.self.inside.journal c.args.self.now c.self.inside.size c.self.view_is c.requires))
