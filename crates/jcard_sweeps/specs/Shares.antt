-- The part of a list that one of several runs has.
use Rattle.std.specs.Prelude.{ℕ, ◌+◌, ◌*◌, ◌/◌, ◌%◌, ◌==◌, if◌then◌else◌, List, drop, length, take}
use Rattle.jcard_outcomes.specs.declared.part.Share.{Share}

-- of n items, each of as many parts has this many, but for the last ones
abbrev pub share_size : ℕ → ℕ → ℕ
share_size n parts = if n % parts == 0 then n / parts else n / parts + 1

-- the items in a part of them
abbrev pub share_in : {A : Type 0} → Share → List A → List A
share_in share all = take (share_size (length all) share.step) (drop (share.first * share_size (length all) share.step) all)
