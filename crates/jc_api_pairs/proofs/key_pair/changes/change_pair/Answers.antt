use Rattle.std.proofs.Common.{◌∙◌, ap, sym}
use Rattle.jc_world.specs.Objects.{check_or_fault}
use Rattle.jc_api_pairs.proofs.PairPasses.{two_are}
use Rattle.jc_api_pairs.proofs.PairPlaces.{checked, persistent_elements}
use Rattle.jc_api_pairs.proofs.key_pair.changes.change_pair.Goals as goal

pub set_keys-requires-clause-public : goal.set_keys-requires-clause-public
set_keys-requires-clause-public g c =
    persistent_elements c.args.memory.now c.in_ok-first.first c.args.public.now.bytes.now
    (record { there = c.in_ok-first.ensures.there; all = c.in_ok-first.ensures.all })
    (c.are_two-two.ensures.cells (checked c.are_two-two.result (sym c.in_ok-check.ensures.checked)))

pub set_keys-requires-clause-private : goal.set_keys-requires-clause-private
set_keys-requires-clause-private g c = record { there = c.in_ok-second.ensures.there; all = c.in_ok-second.ensures.all }

pub set_keys-requires-clause-two : goal.set_keys-requires-clause-two
set_keys-requires-clause-two g c =
    (two_are c.args.memory.now c.in_ok-first.first.array c.in_ok-second.second.array
    (ap check_or_fault (sym c.are_two-two.ensures.two) ∙ sym c.in_ok-check.ensures.checked)).0
