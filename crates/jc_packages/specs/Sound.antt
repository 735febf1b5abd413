-- A heap that fits the packages that are linked of it.
use Rattle.std.specs.Prelude.{ℕ, ◌≡◌, ◌<◌, ◌+◌, ◌==◌, ◌&&◌, nat_lt, nat_le, Bool, true, List, drop, length, slice_index, Some}
use Rattle.jc_heap.specs.RegistryLayout.{entry_start, entry_aid, entry_package, entry_instance}
use Rattle.jc_platform.specs.declared.names.PlatformClass.TheVariants.{Aid, Applet}
use Rattle.jc_platform.specs.NamePlaces.{class_word}
use Rattle.jc_heap.specs.declared.object.Facts.{Facts}
use Rattle.jc_heap.specs.Component.{record_of, words_for}
use Rattle.jc_heap.specs.Heap.{HeapState, facts, cells, IsObject}
use Rattle.jc_heap.specs.Packed.{bytes_of_packed}
use Rattle.jc_heap.specs.Statics.{statics_of}
use Rattle.jc_linker.specs.Lookups.{statics_at}
use Rattle.jc_linker.specs.Values.{Packages}
use Rattle.jc_packages.specs.Objects.{IsSoundObject, is_instance, is_persistent_instance, is_reference, is_object_address}
use Rattle.jc_linker.specs.Classes.{is_a}

-- a record ends with its static image of this many bytes, whose first words are this many references
pub record HoldsStatics (h : HeapState) (words : List ℕ) (s : ℕ × ℕ) : Type 0 where
  pub begin : ℕ
  pub image : statics_of words ≡ Some begin
  pub end : begin + words_for s.0 ≡ length words
  pub references : (i : ℕ) → i < s.1 → is_reference h (slice_index words (begin + i)) ≡ true

-- the record of the package at a place of the registry, the first at 0
abbrev pub package_record_at : HeapState → ℕ → List ℕ
package_record_at h k = record_of h (slice_index h.packages k)

-- a word of the registry's entry at a place, the first at 0: its AID object, the number of its package, its instance
abbrev pub entry_word : HeapState → ℕ → ℕ → ℕ
entry_word h a j = slice_index h.applets (entry_start a + j)

-- a persistent instance of AID, with an AID of 5 to 16 bytes
abbrev pub holds_aid : Packages → Facts → List ℕ → Bool
holds_aid p f held = is_persistent_instance f && (f.class == class_word p.platform Aid && (nat_le 5 (slice_index held 0) && nat_le (slice_index held 0) 16))

-- an AID object, a package, and an instance of a class below Applet
pub record IsRegistered (p : Packages) (h : HeapState) (a : ℕ) : Type 0 where
  pub aid : (is_object_address h (entry_word h a entry_aid) && holds_aid p (facts h (entry_word h a entry_aid)) (cells h (entry_word h a entry_aid))) ≡ true
  pub number : (nat_lt 0 (entry_word h a entry_package) && nat_le (entry_word h a entry_package) (length h.packages)) ≡ true
  pub instance : (is_object_address h (entry_word h a entry_instance) && (is_instance (facts h (entry_word h a entry_instance)).kind && is_a p
      (facts h (entry_word h a entry_instance)).class Applet)) ≡ true

-- the AID of a registry's entry: after the length its bytes stand two a cell, the first of two high
abbrev pub aid_in : List ℕ → List ℕ
aid_in held = bytes_of_packed (slice_index held 0) (drop 1 held)

abbrev pub aid_of_entry : HeapState → ℕ → List ℕ
aid_of_entry h a = aid_in (cells h (entry_word h a entry_aid))

-- no applet before this one has its AID
abbrev pub HasOwnAid : HeapState → ℕ → Type 0
HasOwnAid h b = (a : ℕ) → a < b → aid_of_entry h a ≡ aid_of_entry h b → ⊥

-- each object after the last one of the runtime environment's own, each static image and each applet's entry fits the packages,
-- and no two applets have one AID
pub record IsSound (p : Packages) (h : HeapState) (own : ℕ) : Type 0 where
  pub objects : (r : ℕ) → own < r → IsObject h r → IsSoundObject p h r
  pub statics : (k : ℕ) → k < length h.packages → HoldsStatics h (package_record_at h k) (statics_at p (k + 1))
  pub applets : (a : ℕ) → a < h.counts.1 → IsRegistered p h a
  pub distinct : (b : ℕ) → b < h.counts.1 → HasOwnAid h b
