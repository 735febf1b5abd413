-- The numbers of the faults.
use Rattle.std.specs.Prelude.{ℕ}
use Rattle.jc_cap.specs.declared.fault.CapFault.{CapFault}
use Rattle.jc_cap.specs.declared.fault.CapFault.TheVariants.{Truncated, Trailing, BadMagic, BadVersion, UsesInt, Remote, SizesDisagree, Missing}
use Rattle.jc_cap.specs.declared.fault.CapFault.TheVariants.{Repeated, BadOffset, NoMemory}

abbrev pub number : CapFault → ℕ
number Truncated = 1
number Trailing = 2
number BadMagic = 3
number BadVersion = 4
number UsesInt = 5
number Remote = 6
number SizesDisagree = 7
number (Missing tag) = 8
number (Repeated tag) = 9
number BadOffset = 10
number NoMemory = 11
