use Rattle.std.proofs.Common.{◌≡◌, ℕ, ◌<◌, length, map}
use Rattle.std.specs.List.{range_with_len}
use Rattle.jc_packages.specs.Sound.{HasOwnAid, aid_of_entry}
use Rattle.jc_packages.proofs.entries.are_distinct.Given as goal

-- the AIDs so far are kept, and each is its applet's own
abbrev pub invariant-loop-b : goal.invariant-loop-b
invariant-loop-b g l = (map (λ aid. aid.items) l.before.items ≡ map (aid_of_entry l.marked.now) (range_with_len 0 l.b)) × (length l.before.items ≡ l.b)
    × ((j : ℕ) → j < l.b → HasOwnAid l.marked.now j)
