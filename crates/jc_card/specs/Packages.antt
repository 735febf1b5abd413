-- The packages of a card, which copies of it may share.
use Rattle.jc_linker.specs.Values.{Packages}
use Rattle.jc_card.specs.declared.packages.Held.{Held}
use Rattle.jc_card.specs.declared.packages.Held.TheVariants.{Own, Shared}

-- the packages that are held so
abbrev pub held_packages : Held → Packages
held_packages (Own linked) = linked
held_packages (Shared linked) = linked.value
