-- The code that runs.
use Rattle.std.specs.Prelude.{◌≡◌, ◌==◌, false, List, ℕ}
use Rattle.jc_linker.specs.Values.{Packages}
use Rattle.jc_frames.specs.Frames.{Frames}
use Rattle.jc_instructions.specs.MethodComponent.{method_component_of}

-- this is the code of the package that runs, if one does
abbrev pub IsRunningCode : List ℕ → Packages → Frames → Type 0
IsRunningCode code p s = (s.current.origin.package_number == 0) ≡ false → code ≡ method_component_of p s.current.origin.package_number
