-- A walk from a class upwards.
use Rattle.std.specs.Prelude.{ℕ, Option, Some}
use Rattle.jc_linker.specs.Classes.{superclass_in}
use Rattle.jc_linker.specs.Values.{Packages}
use Rattle.jc_linker.specs.declared.lineage.Next.{Next}
use Rattle.jc_linker.specs.declared.lineage.Next.TheVariants.{Class, Above}

-- the class that comes next: this one, or the superclass of this one
abbrev pub next_class : Packages → Next → Option ℕ
next_class p (Class c) = Some c
next_class p (Above c) = superclass_in p c
