use Rattle.std.proofs.Common.{◌≡◌, Some, sym}
use Rattle.jc_linker.proofs.AtOnce.{implemented_at_once}
use Rattle.jc_linker.proofs.linked.Linked.own_implementation.Goals as goal

pub returns-in-Found : goal.returns-in-Found
returns-in-Found c = implemented_at_once c.args.self.now c.args.class c.args.interface c.args.token c.in_ok-loaded.loaded.now (sym c.in_ok-loaded.ensures)
    c.in-Found.own (sym c.in-Found.ensures)
