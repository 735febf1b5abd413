-- The words of an image with the tries that its OwnerPINs have left.
use Rattle.std.specs.Prelude.{ℕ, ◌≡◌, ◌+◌, ◌<◌, ◌&&◌, nat_lt, Bool, true, All, Contains, List, [], ◌∷◌, ◌++◌, Some, if◌then◌else◌}
use Rattle.jc_commit.specs.Image.{recovered_of}
use Rattle.jc_heap.specs.Heap.{HeapState, IsObject, facts, heap_of}
use Rattle.jc_heap.specs.Object.{header_size}
use Rattle.jc_environment.specs.Pins.{counter_cell}
use Rattle.jc_platform.specs.Tokens.{Tokens}
use Rattle.jc_platform.specs.declared.names.PlatformClass.TheVariants.{OwnerPin}
use Rattle.jc_linker.specs.Values.{Packages}
use Rattle.jc_packages.specs.Objects.{is_persistent_instance}
use Rattle.jc_linker.specs.Classes.{is_a}
use Rattle.jc_packages.specs.Reading.{packages_of}
use Rattle.jc_objects.specs.ImageObjects.{IsImage}

-- the object at this address is an OwnerPIN: a persistent instance of that class, or of one below it
abbrev pub is_pin : Packages → HeapState → ℕ → Bool
is_pin p h r = is_persistent_instance (facts h r) && is_a p (facts h r).class OwnerPin

-- an OwnerPIN stands at this address
abbrev pub IsPin : Packages → HeapState → ℕ → Type 0
IsPin p h r = (0 < r) × IsObject h r × (is_pin p h r ≡ true)

-- the address of the word with the tries that the one at an address has left
abbrev pub try_word : ℕ → ℕ
try_word r = r + (header_size + counter_cell)

-- these are the words with the tries left of all OwnerPINs of a heap whose packages these are. An address is one of 16 bits
pub record AreTryWords (p : Packages) (h : HeapState) (found : List ℕ) : Type 0 where
  pub all : (r : ℕ) → IsPin p h r → try_word r < 65536 → Contains found (try_word r)
  pub only : All (λ a. (r : ℕ) × IsPin p h r × (a ≡ try_word r)) found

-- the packages of an image of these words link, once it is recovered, and these are the words with the tries left of its OwnerPINs
abbrev pub AreTriesIn : List ℕ → List ℕ → Type 0
AreTriesIn words found = (t : Tokens) × (p : Packages) × IsImage words t × (packages_of t (heap_of (recovered_of words)) ≡ Some p)
    × AreTryWords p (heap_of (recovered_of words)) found

-- words that were found, and the one of the object at an address, if it is an OwnerPIN
unfoldable pub noted : Packages → HeapState → ℕ → List ℕ → List ℕ
noted p h r found = if is_pin p h r && nat_lt (try_word r) 65536 then found ++ try_word r ∷ [] else found
