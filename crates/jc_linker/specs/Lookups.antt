-- What packages hold, by number, index and offset.
use Rattle.std.specs.Prelude.{ℕ, ◌+◌, List, [], ◌∷◌, Option, Some, None, slice_get, drop, find, nat_lt, position, if◌then◌else◌}
use Rattle.std.specs.Option.{option_map, option_and_then, option_or}
use Rattle.std.specs.Str.{bytes_eq}
use Rattle.jc_platform.specs.Platform.{package_by_aid}
use Rattle.jc_platform.specs.Tokens.{number_in}
use Rattle.jc_linker.specs.declared.target.Target.{Target}
use Rattle.jc_linker.specs.Classes.{package_in}
use Rattle.jc_linker.specs.Values.{AppletEntry, PackageValue, Packages}

-- what an entry of a package's constant pool resolves to
abbrev pub target_of : Option PackageValue → ℕ → Option Target
target_of None index = None
target_of (Some q) index = slice_get q.targets index

unfoldable pub target_at : Packages → ℕ → ℕ → Option Target
target_at p number index = target_of (package_in p number) index

-- the bytes of a package's Method component from an offset on
abbrev pub methods_of : Option PackageValue → List ℕ
methods_of None = []
methods_of (Some q) = q.methods

unfoldable pub code_at : Packages → ℕ → ℕ → List ℕ
code_at p number offset = drop offset (methods_of (package_in p number))

-- the AID of a package
abbrev pub aid_of : Option PackageValue → List ℕ
aid_of None = []
aid_of (Some q) = q.name.aid

unfoldable pub aid_at : Packages → ℕ → List ℕ
aid_at p number = aid_of (package_in p number)

-- the size of a package's static image in bytes, and how many references it begins with
abbrev pub statics_of : Option PackageValue → ℕ × ℕ
statics_of None = (0, 0)
statics_of (Some q) = (q.image_size, q.image_references)

unfoldable pub statics_at : Packages → ℕ → ℕ × ℕ
statics_at p number = statics_of (package_in p number)

-- where the install method of the first applet with this AID stands
abbrev pub applet_of : Option PackageValue → List ℕ → Option AppletEntry
applet_of None aid = None
applet_of (Some q) aid = find (λ a. bytes_eq a.aid aid) q.applets

unfoldable pub entry_at : Packages → ℕ → List ℕ → Option ℕ
entry_at p number aid = option_map (λ a. a.install_offset) (applet_of (package_in p number) aid)

-- the entry of a package's Applet component with this number, of which the first is 0
unfoldable pub applet_entry : Packages → ℕ → ℕ → Option AppletEntry
applet_entry p number entry = option_and_then (λ q. slice_get q.applets entry) (package_in p number)

-- an Applet component has 256 entries at most
abbrev pub if_entry : ℕ → Option ℕ
if_entry entry = if nat_lt entry 256 then Some entry else None

-- the number of the first entry with this AID
unfoldable pub entry_with_aid : Packages → ℕ → List ℕ → Option ℕ
entry_with_aid p number aid = option_and_then if_entry (option_and_then (λ q. position (λ a. bytes_eq a.aid aid) q.applets) (package_in p number))

-- the number of the package with this AID, one of the platform or the first that was loaded
unfoldable pub package_with_aid : Packages → List ℕ → Option ℕ
package_with_aid p aid = option_or (option_map (number_in p.platform) (package_by_aid p.platform aid))
    (option_map (λ i. i + 1) (position (λ q. bytes_eq q.name.aid aid) p.loaded))
