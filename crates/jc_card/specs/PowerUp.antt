-- Powering up: why words don't, and what a refusal leaves.
pub mod Outcome
pub mod Reset
use Rattle.std.specs.Prelude.{ℕ, ◌≡◌, ◌≢◌, List, slice_index, Some}
use Rattle.jc_words.specs.Image.{HasSize, IsVersion}
use Rattle.jc_words.specs.declared.image.ImageFault.{ImageFault}
use Rattle.jc_words.specs.declared.image.ImageFault.TheVariants.{BadMagic as NoMagic, BadVersion as OtherVersion, BadSize as NoSize}
use Rattle.jc_words.specs.Layout.{magic_address, version_address, magic}
use Rattle.jc_commit.specs.Image.{IsGoodLog, plain_of, recovered_of, count_of}
use Rattle.jc_commit.specs.Migration.{migrated, StillOpens}
use Rattle.jc_heap.specs.Image.{IsWellFormed}
use Rattle.jc_heap.specs.Heap.{HeapState, heap_of}
use Rattle.jc_heap.specs.WholeHeap.{IsConsistent}
use Rattle.jc_platform.specs.Tokens.{Tokens}
use Rattle.jc_linker.specs.Values.{Packages}
use Rattle.jc_packages.specs.Reading.{packages_of}
use Rattle.jc_packages.specs.Tables.{HasTable}
use Rattle.jc_packages.specs.Sound.{IsSound}
use Rattle.jc_card.specs.Fixed.{BeginsWithFixed, last_fixed}
use Rattle.jc_card.specs.declared.power_up.PowerFault.{PowerFault}
use Rattle.jc_card.specs.declared.power_up.PowerFault.TheVariants.{BadMagic, BadVersion, BadSize, BadLog, BadTable, BadPackage, NoMemory, StoreDown}

-- the first words' fault as a fault of powering up
abbrev pub fault_of : ImageFault → PowerFault
fault_of NoMagic = BadMagic
fault_of OtherVersion = BadVersion
fault_of NoSize = BadSize

-- the first words are those of an image
pub record HasHead (w : List ℕ) : Type 0 where
  pub magic : slice_index w magic_address ≡ magic
  pub version : IsVersion (slice_index w version_address)
  pub size : HasSize w

-- its packages link, each against those before it, and what stands after the objects of the runtime environment fits them
abbrev pub HasPackages : Tokens → HeapState → Type 0
HasPackages t h = (p : Packages) × (packages_of t h ≡ Some p) × IsSound p h (last_fixed t h)

-- a whole heap that begins with the objects of the runtime environment, and that fits its packages
abbrev pub HasHeap : Tokens → List ℕ → Type 0
HasHeap t w = IsWellFormed w × IsConsistent (heap_of w) × BeginsWithFixed t (heap_of w) × HasPackages t (heap_of w)

-- why recovered words don't power up: their table first, then their heap; or memory was refused
abbrev pub RecoveredWordsFail : PowerFault → List ℕ → Type 0
RecoveredWordsFail BadMagic w = ⊥
RecoveredWordsFail BadVersion w = ⊥
RecoveredWordsFail BadSize w = ⊥
RecoveredWordsFail BadLog w = ⊥
RecoveredWordsFail BadTable w = (t : Tokens) → HasTable w t → ⊥
RecoveredWordsFail BadPackage w = (t : Tokens) × HasTable w t × (HasHeap t w → ⊥)
RecoveredWordsFail NoMemory w = Unit {0}
RecoveredWordsFail StoreDown w = ⊥

-- the words are these recovered ones, the log is good, and no entry counts
pub record IsRecovered (to new : List ℕ) : Type 0 where
  pub good : IsGoodLog new
  pub plain : plain_of new ≡ to
  pub recovered : recovered_of new ≡ to
  pub closed : count_of new ≡ 0

-- why the packages of a heap are not linked, or it does not fit them
abbrev pub FailsToLink : PowerFault → Tokens → HeapState → Type 0
FailsToLink BadPackage t h = HasPackages t h → ⊥
FailsToLink NoMemory t h = Unit {0}
FailsToLink _ t h = ⊥

-- why words don't power up, each cause before the next
abbrev pub PowerUpRefuses : PowerFault → List ℕ → Type 0
PowerUpRefuses BadMagic w = slice_index w magic_address ≢ magic
PowerUpRefuses BadVersion w = (slice_index w magic_address ≡ magic) × (IsVersion (slice_index w version_address) → ⊥)
PowerUpRefuses BadSize w = (slice_index w magic_address ≡ magic) × IsVersion (slice_index w version_address) × (HasSize w → ⊥)
PowerUpRefuses BadLog w = HasHead w × (IsGoodLog w → ⊥)
PowerUpRefuses BadTable w = HasHead w × IsGoodLog w × RecoveredWordsFail BadTable (recovered_of w)
PowerUpRefuses BadPackage w = HasHead w × IsGoodLog w × RecoveredWordsFail BadPackage (recovered_of w)
PowerUpRefuses NoMemory w = HasHead w × IsGoodLog w
PowerUpRefuses StoreDown w = HasHead w × IsGoodLog w

-- what a refusal leaves of the words: a fault that is found after the recovery is also found after a migration
abbrev pub RefusalLeaves : PowerFault → List ℕ → List ℕ → Type 0
RefusalLeaves BadMagic old new = new ≡ old
RefusalLeaves BadVersion old new = new ≡ old
RefusalLeaves BadSize old new = new ≡ old
RefusalLeaves BadLog old new = new ≡ old
RefusalLeaves BadTable old new = IsRecovered (migrated 3 (recovered_of old)) new
RefusalLeaves BadPackage old new = IsRecovered (migrated 3 (recovered_of old)) new
RefusalLeaves NoMemory old new = IsRecovered (migrated 3 (recovered_of old)) new
RefusalLeaves StoreDown old new = StillOpens old new
