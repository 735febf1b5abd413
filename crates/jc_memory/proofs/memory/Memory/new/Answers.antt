use Rattle.std.proofs.Common.{◌∙◌, ◌<◌, subst}
use Rattle.jc_memory.proofs.Usable.{at_rest}
use Rattle.jc_memory.proofs.memory.Memory.new.Goals as goal

pub invariant_of-result : goal.invariant_of-result
invariant_of-result g c = (
  record {
    heap = λ up. at_rest c.args.heap c.requires.whole c.top.ensures.end (subst (λ n. 0 < n) c.top.ensures.top c.top.ensures.some)
        (c.is_open.ensures.settled c.requires.up (c.is_open.ensures.open ∙ c.requires.rests));
    ram = c.requires.sizes;
    sizes = λ up. c.requires.fits;
  },
  λ up. (c.requires.marked up, c.of-images.ensures),
)
