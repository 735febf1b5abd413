-- Owners as numbers.
use Rattle.std.specs.Prelude.{ℕ, ◌+◌, ◌%◌, ◌==◌, nat_lt, if◌then◌else◌}
use Rattle.jc_transient.specs.declared.owner.Owner.{Owner}
use Rattle.jc_transient.specs.declared.owner.Owner.TheVariants.{Runtime, Applet, Package}

-- an owner as an object header has it
abbrev pub owner_number : Owner → ℕ
owner_number Runtime = 0
owner_number (Applet a) = a.0
owner_number (Package p) = 256 + p.0

-- the owner that an object header names
abbrev pub owner_of : ℕ → Owner
owner_of n = if n == 0 then Runtime else (if nat_lt n 256 then Applet (record { 0 = n }) else Package (record { 0 = n % 256 }))
