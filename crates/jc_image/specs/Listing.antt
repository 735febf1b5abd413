-- An applet as an image lists it.
use Rattle.std.specs.Prelude.{ℕ, List, ◌+◌, ◌-◌, ◌/◌, ◌%◌, ◌==◌, ◌&&◌, nat_lt, nat_le, map, length, slice_index, Option, Some, None, Result, Ok, Err}
use Rattle.std.specs.Prelude.{if◌then◌else◌}
use Rattle.std.specs.List.{range_with_len}
use Rattle.jc_words.specs.Layout.{addresses_start, most_packages, most_applets, registry_start}
use Rattle.jc_heap.specs.Object.{header_size}
use Rattle.jc_heap.specs.RegistryLayout.{entry_start, entry_package}
use Rattle.jc_cap.specs.Tags.{header_tag}
use Rattle.jc_cap.specs.declared.fault.CapFault.{CapFault}
use Rattle.jc_cap.specs.Packages.{NamedPackage}
use Rattle.jc_cap.specs.Reading.{value_of_whole}
use Rattle.jc_cap.specs.Header.{HeaderValue, header_at}

-- its AID, and the number of its package
pub record NamedApplet : Type 0 where
  pub aid : List ℕ
  pub package_number : ℕ

-- ---- what the words of an image say of its packages and applets, as they stand

-- a byte of words from a place on, two a word, the high one first
abbrev pub byte_in : List ℕ → ℕ → ℕ → ℕ
byte_in w at i = if i % 2 == 0 then slice_index w (at + i / 2) / 256 else slice_index w (at + i / 2) % 256

abbrev pub bytes_in : List ℕ → ℕ → ℕ → List ℕ
bytes_in w at count = map (byte_in w at) (range_with_len 0 count)

-- the name that the info of a Header component holds
abbrev pub name_of : Result HeaderValue CapFault → Option NamedPackage
name_of (Ok h) = Some h.this_package
name_of (Err fault) = None

abbrev pub name_in : List ℕ → Option NamedPackage
name_in info = name_of (value_of_whole (header_at info))

-- where a record's first component has its tag, the number of its bytes, and these
abbrev pub first_tag : ℕ
first_tag = 1

abbrev pub first_size : ℕ
first_size = 2

abbrev pub first_bytes : ℕ
first_bytes = 3

-- how many bytes the info of a Header component has at most: magic, format, flags, the package's version and AID, and its name
abbrev pub most_header : ℕ
most_header = 282

-- the name of the package whose record begins there: its first component is a whole Header
unfoldable pub package_name_at : List ℕ → ℕ → Option NamedPackage
package_name_at w at =
    if nat_le (length w) (at + first_size) then None else
    if slice_index w (at + first_tag) == header_tag && nat_le (slice_index w (at + first_size)) most_header then (
    if nat_lt (length w) (at + first_bytes + (slice_index w (at + first_size) + 1) / 2) then None else
    name_in (bytes_in w (at + first_bytes) (slice_index w (at + first_size))))
    else None

-- the name of the package with a number, from 1 on
unfoldable pub package_at : List ℕ → ℕ → Option NamedPackage
package_at w n = if nat_lt 0 n && nat_le n most_packages then package_name_at w (slice_index w (addresses_start + (n - 1))) else None

-- the first word of a persistent instance
abbrev pub persistent_instance : ℕ
persistent_instance = 1

-- the word of an object's header with the number of its cells
abbrev pub length_word : ℕ
length_word = 3

-- how many cells an AID object has, and how many bytes an AID has
abbrev pub aid_cells : ℕ
aid_cells = 9

abbrev pub least_aid : ℕ
least_aid = 5

abbrev pub most_aid : ℕ
most_aid = 16

-- the applet of a package whose AID object stands there: a persistent instance of nine cells, of which the first holds the
-- AID's length, 5 to 16
unfoldable pub applet_in : List ℕ → ℕ → ℕ → Option NamedApplet
applet_in w at p =
    if nat_le (length w) (at + 12) then None else
    if slice_index w at == persistent_instance && (slice_index w (at + length_word) == aid_cells
    && (nat_le least_aid (slice_index w (at + header_size)) && nat_le (slice_index w (at + header_size)) most_aid)) then
    Some (record { aid = bytes_in w (at + 5) (slice_index w (at + header_size)); package_number = p })
    else None

-- the applet with a number, from 1 on
unfoldable pub applet_at : List ℕ → ℕ → Option NamedApplet
applet_at w n =
    if nat_lt 0 n && nat_le n most_applets then
    applet_in w (slice_index w (registry_start + entry_start (n - 1))) (slice_index w (registry_start + entry_start (n - 1) + entry_package))
    else None
