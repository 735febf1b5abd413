-- The code of packages.
use Rattle.std.specs.Prelude.{ℕ, List, take}
use Rattle.jc_linker.specs.Values.{Packages}
use Rattle.jc_linker.specs.Lookups.{code_at}

-- the bytes of a package's Method component, in which places are counted: its size is a number of two bytes
unfoldable pub method_component_of : Packages → ℕ → List ℕ
method_component_of p number = take 65535 (code_at p number 0)
